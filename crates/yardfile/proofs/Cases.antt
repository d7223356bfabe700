-- The answers of the reader, one law for each way out of the code.
use mathlib.Core.Logic.{◌⊎◌, inl, inr}
use mathlib.Core.Path.{◌≡◌, refl, sym, ◌∙◌}
use mathlib.Core.List.{List}
use mathlib.Core.Bool.{Bool, true, false, ◌&&◌, cond, and-false}
use Prim.Native.Nat.{ℕ, ◌+◌, ◌*◌, ◌<◌, ◌≤◌}
use native.Mathlib.Omega.{arith}
use native.Mathlib.Decide.{dec_lt, ℕ_discrete}
use lib.Dec.{leb, eqb}
use lib.ListN.{length}
use borrow.Author.Tests.{le-leb, lt-leb, eq-eqb, ne_eqb, leb-true, eqb-true}
use Rattle.lists.proofs.Every.{both}
use Rattle.file_words.specs.Words.{byte, block_size}
use Rattle.file_words.proofs.Sizes.{block_one}
use Rattle.yardfile.specs.declared.Item.{Item}
use Rattle.yardfile.specs.declared.Kind.{Kind}
use Rattle.yardfile.specs.declared.Kind.TheVariants.{AddBlock, RemoveBlock, MoveBlock, AddRun, RemoveRun, MoveRun, SetCharge}
use Rattle.refusals.specs.declared.Refusal.{Refusal}
use Rattle.refusals.specs.declared.Refusal.TheVariants.{NoYardFile, BrokenRecord, CornerOffTheYard}
use Rattle.std.proofs.Common.{Some, None, Result, Ok, Err}
use Rattle.yardfile.specs.File.{kind_byte, kind_of, kind_at, head_right, plain_words, body_size, kind_right, record_whole, corners_right, item_at, read_at}

-- what a right header says, piece by piece
pub record Head (f : List ℕ) : Type 0 where
  pub low : 5 ≤ length f
  pub high : length f ≤ 8192
  pub first : byte f 0 ≡ 89
  pub second : byte f 1 ≡ 82
  pub third : byte f 2 ≡ 68
  pub one : 1 ≤ byte f 3
  pub two : byte f 3 ≤ 2
  pub last : byte f 4 ≡ 0

pieces : (a b c d e g h i : Bool) → a && b && c && d && e && g && h && i ≡ true
    → (a ≡ true) × (b ≡ true) × (c ≡ true) × (d ≡ true) × (e ≡ true) × (g ≡ true) × (h ≡ true) × (i ≡ true)
pieces a b c d e g h i p =
    let p₁ = both (a && b && c && d && e && g && h) i p in
    let p₂ = both (a && b && c && d && e && g) h p₁.0 in
    let p₃ = both (a && b && c && d && e) g p₂.0 in
    let p₄ = both (a && b && c && d) e p₃.0 in
    let p₅ = both (a && b && c) d p₄.0 in
    let p₆ = both (a && b) c p₅.0 in
    let p₇ = both a b p₆.0 in
    (p₇.0, p₇.1, p₆.1, p₅.1, p₄.1, p₃.1, p₂.1, p₁.1)

pub head_pieces : (f : List ℕ) → head_right f ≡ true → Head f
unfolding head_right
head_pieces f h =
    let p = pieces (leb 5 (length f)) (leb (length f) 8192) (eqb (byte f 0) 89) (eqb (byte f 1) 82) (eqb (byte f 2) 68) (leb 1 (byte f 3)) (leb (byte f 3) 2) (eqb (byte f 4) 0) h in
    record {
      low = leb-true 5 _ p.0;
      high = leb-true _ 8192 p.1;
      first = eqb-true _ 89 p.2;
      second = eqb-true _ 82 p.3;
      third = eqb-true _ 68 p.4;
      one = leb-true 1 _ p.5;
      two = leb-true _ 2 p.6;
      last = eqb-true _ 0 p.7;
    }

pub head_small : (f : List ℕ) → head_right f ≡ true → length f ≤ 8192
head_small f h = (head_pieces f h).high

-- the fields of a record that adds no block, by its kind
module _ (k : ℕ) where
  pub plain_three : k ≡ 3 → 2 ≡ plain_words k
  unfolding plain_words
  plain_three e = rw e

  pub plain_four : k ≡ 4 → 4 ≡ plain_words k
  unfolding plain_words
  plain_four e = rw e

  pub plain_six : k ≡ 6 → 4 ≡ plain_words k
  unfolding plain_words
  plain_six e = rw e

  pub plain_seven : k ≡ 7 → 1 ≡ plain_words k
  unfolding plain_words
  plain_seven e = rw e

module _ (f : List ℕ) (at : ℕ) where
  pub body_block : byte f at ≡ 1 → block_size (byte f 3) (byte f (at + 2)) ≡ body_size f at
  unfolding body_size
  body_block k = rw k

  pub body_sized : (b v c : ℕ) → byte f at ≡ 1 → v ≡ byte f 3 → c ≡ byte f (at + 2) → b ≡ block_size v c → b ≡ body_size f at
  body_sized b v c k p q e = e ∙ (rw (p, q) (body_block k))

  pub body_plain : (byte f at ≡ 1 → ⊥) → 2 * plain_words (byte f at) ≡ body_size f at
  unfolding body_size
  body_plain k = rw (ne_eqb (byte f at) 1 k)

  pub body_fields : (n : ℕ) → (byte f at ≡ 1 → ⊥) → n ≡ plain_words (byte f at) → 2 * n ≡ body_size f at
  body_fields n k e = rw e (body_plain k)

  pub whole_other : (byte f at < 1) ⊎ ((1 ≤ byte f at) × (7 < byte f at)) → false ≡ record_whole f at
  unfolding record_whole
  whole_other (inl h) = rw (lt-leb 1 (byte f at) h)
  whole_other (inr h) = rw (lt-leb (byte f at) 7 h.1, and-false (leb 1 (byte f at)))

  -- the count byte of a block is one of the bytes that its size counts
  pub whole_last : (n : ℕ) → 1 ≤ byte f at → byte f at ≤ 7 → n ≡ body_size f at → leb (at + 2 + n) (length f) ≡ record_whole f at
  unfolding record_whole
  whole_last n low high e = rw (e, le-leb 1 (byte f at) low, le-leb (byte f at) 7 high) (go (ℕ_discrete (byte f at) 1) (dec_lt (length f) (at + 2 + body_size f at)))
    where
      go : Dec (byte f at ≡ 1) → Dec (length f < at + 2 + body_size f at)
          → leb (at + 2 + body_size f at) (length f) ≡ leb (at + 2) (length f) && (cond (eqb (byte f at) 1) (leb (at + 3) (length f)) true) && leb (at + 2 + body_size f at) (length f)
      go k (yes l) = rw (lt-leb (at + 2 + body_size f at) (length f) l, and-false (leb (at + 2) (length f) && cond (eqb (byte f at) 1) (leb (at + 3) (length f)) true))
      go (no k) (no l) = rw (ne_eqb (byte f at) 1 k, le-leb (at + 2) (length f) (omega arith))
      go (yes k) (no l) = rw (eq-eqb (byte f at) 1 k, le-leb (at + 2) (length f) (omega arith), le-leb (at + 3) (length f) (omega (arith, body_block k, block_one (byte f 3) (byte f (at + 2)))))

  pub whole_kind : record_whole f at ≡ true → (1 ≤ byte f at) × (byte f at ≤ 7)
  unfolding record_whole
  whole_kind h =
      let third : Bool = cond (eqb (byte f at) 1) (leb (at + 3) (length f)) true in
      let h₁ = both (kind_right (byte f at) && leb (at + 2) (length f) && third) (leb (at + 2 + body_size f at) (length f)) h in
      let h₂ = both (kind_right (byte f at) && leb (at + 2) (length f)) third h₁.0 in
      let h₃ = both (kind_right (byte f at)) (leb (at + 2) (length f)) h₂.0 in
      let h₄ = both (leb 1 (byte f at)) (leb (byte f at) 7) h₃.0 in
      (leb-true 1 _ h₄.0, leb-true _ 7 h₄.1)

  pub whole_true : 1 ≤ byte f at → byte f at ≤ 7 → at + 2 + body_size f at ≤ length f → record_whole f at ≡ true
  whole_true l h e = sym (whole_last (body_size f at) l h refl) ∙ le-leb (at + 2 + body_size f at) (length f) e

  pub whole_fits : record_whole f at ≡ true → at + 2 + body_size f at ≤ length f
  unfolding record_whole
  whole_fits h =
      leb-true _ _ (both (kind_right (byte f at) && leb (at + 2) (length f) && (cond (eqb (byte f at) 1) (leb (at + 3) (length f)) true)) (leb (at + 2 + body_size f at) (length f)) h).1

  pub read_no_head : (t : Bool) → t ≡ head_right f → t ≡ false → Err NoYardFile ≡ read_at f at
  unfolding read_at
  read_no_head t e h = rw (sym e ∙ h)

  module _ (t : Bool) (e : t ≡ head_right f) (right : t ≡ true) where
    head : head_right f ≡ true
    head = sym e ∙ right

    pub read_before : at < 5 → Err BrokenRecord ≡ read_at f at
    unfolding read_at
    read_before h = rw (head, lt-leb 5 at h)

    module _ (low : 5 ≤ at) where
      pub read_past : length f < at → Err BrokenRecord ≡ read_at f at
      unfolding read_at
      read_past h = rw (head, le-leb 5 at low, lt-leb at (length f) h)

      module _ (high : at ≤ length f) where
        pub read_end : at ≡ length f → Ok None ≡ read_at f at
        unfolding read_at
        read_end h = rw (head, le-leb 5 at low, le-leb at (length f) high, eq-eqb at (length f) h)

        module _ (short : at ≡ length f → ⊥) where
          pub read_cut : (w : Bool) → w ≡ record_whole f at → w ≡ false → Err BrokenRecord ≡ read_at f at
          unfolding read_at
          read_cut w g h = rw (head, le-leb 5 at low, le-leb at (length f) high, ne_eqb at (length f) short, sym g ∙ h)

          module _ (w : Bool) (g : w ≡ record_whole f at) (whole : w ≡ true) where
            pub read_outside : (t : Bool) → t ≡ corners_right f at → t ≡ false → Err CornerOffTheYard ≡ read_at f at
            unfolding read_at
            read_outside t p h = rw (head, le-leb 5 at low, le-leb at (length f) high, ne_eqb at (length f) short, sym g ∙ whole, sym p ∙ h)

            pub read_found : (t : Bool) (i : Item) → t ≡ corners_right f at → t ≡ true → i ≡ item_at f at → Ok (Some i) ≡ read_at f at
            unfolding read_at
            read_found t i p h b = rw (head, le-leb 5 at low, le-leb at (length f) high, ne_eqb at (length f) short, sym g ∙ whole, sym p ∙ h, b)

-- what the record's bytes ask of the file
pub file_size : (f : List ℕ) (t : Bool) → t ≡ head_right f → t ≡ true → length f ≤ 8192
file_size f t e h = head_small f (sym e ∙ h)

pub whole_inside : (f : List ℕ) (at : ℕ) (w : Bool) → w ≡ record_whole f at → w ≡ true → at + 2 + body_size f at ≤ length f
whole_inside f at w e h = whole_fits f at (sym e ∙ h)

pub item_made : (f : List ℕ) (at n : ℕ) (k : Kind) → n ≡ body_size f at → k ≡ kind_of (byte f at)
    → ◌≡◌ {A = Item} (record { kind = k; number = byte f (at + 1); fields = at + 2; next = at + 2 + n }) (item_at f at)
item_made f at n k e h = rw (e, h)

-- a kind's byte is decoded to it, and a byte from 1 to 7 is that of its kind
pub kind_byte_back : (k : Kind) → kind_of (kind_byte k) ≡ k
unfolding kind_of
kind_byte_back AddBlock = refl
kind_byte_back RemoveBlock = refl
kind_byte_back MoveBlock = refl
kind_byte_back AddRun = refl
kind_byte_back RemoveRun = refl
kind_byte_back MoveRun = refl
kind_byte_back SetCharge = refl

pub kind_of_back : (b : ℕ) → 1 ≤ b → b ≤ 7 → kind_byte (kind_of b) ≡ b
unfolding kind_of
kind_of_back b l h =
    elim (ℕ_discrete b 1) [
      | yes e ↦ rw e
      | no a ↦ elim (ℕ_discrete b 2) [
        | yes e ↦ rw e
        | no c ↦ elim (ℕ_discrete b 3) [
          | yes e ↦ rw e
          | no d ↦ elim (ℕ_discrete b 4) [
            | yes e ↦ rw e
            | no g ↦ elim (ℕ_discrete b 5) [
              | yes e ↦ rw e
              | no i ↦ elim (ℕ_discrete b 6) [
                | yes e ↦ rw e
                | no j ↦ rw (ne_eqb b 1 a, ne_eqb b 2 c, ne_eqb b 3 d, ne_eqb b 4 g, ne_eqb b 5 i, ne_eqb b 6 j) (omega arith)
              ]
            ]
          ]
        ]
      ]
    ]

-- the kind of a whole record is known
pub kind_known : (f : List ℕ) (at : ℕ) (w : Bool) → w ≡ record_whole f at → w ≡ true → kind_at (byte f at) ≡ Ok (kind_of (byte f at))
unfolding kind_at
kind_known f at w e h = let k = whole_kind f at (sym e ∙ h) in rw (le-leb 1 (byte f at) k.0, le-leb (byte f at) 7 k.1)

pub kind_got : (f : List ℕ) (at : ℕ) (w : Bool) (k : Kind) (r : Result Kind Refusal) → w ≡ record_whole f at → w ≡ true → r ≡ kind_at (byte f at) → r ≡ Ok k → k ≡ kind_of (byte f at)
kind_got f at w k r e h q s = let z : ◌≡◌ {A = Result Kind Refusal} (Ok k) (Ok (kind_of (byte f at))) = sym s ∙ (q ∙ kind_known f at w e h) in cc

pub kind_not_refused : (f : List ℕ) (at : ℕ) (w : Bool) (x : Refusal) (r : Result Kind Refusal) → w ≡ record_whole f at → w ≡ true → r ≡ kind_at (byte f at) → r ≡ Err x → ⊥
kind_not_refused f at w x r e h q s = let z : ◌≡◌ {A = Result Kind Refusal} (Err x) (Ok (kind_of (byte f at))) = sym s ∙ (q ∙ kind_known f at w e h) in cc
