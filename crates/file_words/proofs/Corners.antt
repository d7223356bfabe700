-- The words of a block's corners, read one by one, and whether they lie inside.
use mathlib.Core.Path.{◌≡◌, refl, sym, ap, ◌∙◌}
use mathlib.Core.List.{List, [], ◌∷◌, ◌++◌, append-nil}
use mathlib.Core.Bool.{Bool, true, false}
use Prim.Native.Nat.{ℕ, zero, suc, ◌+◌, ◌*◌, ◌-◌, ◌%◌, ◌<◌, ◌≤◌}
use native.Mathlib.Omega.{arith}
use native.Mathlib.Numerals.{add-one}
use native.Mathlib.Decide.{dec_lt, ℕ_discrete}
use lib.Dec.{leb, eqb}
use lib.IntN.{ℤ}
use mir.Syntax.{w8, w16}
use mir.Val.{to_z, of_z}
use Rattle.std.proofs.Common.{length-append, length-drop}
use Rattle.std.proofs.lemmas.List.{take-append-le, nil_from_length}
use borrow.Author.Tests.{eqb-true}
use borrow.Rule.Slice.PartMut.{put_mid}
use Rattle.std.proofs.lemmas.Slice.{take-put_mid}
use Rattle.std.proofs.lemmas.Int.{of_z-to_z}
use lib.ListN.{length, get_or, set, take, drop, length-set}
use lib.Seq.{take_all, get_or-set_same, get_or-set_other, ext_get_or, get_or-take, length-take-le, take-suc-set, append_snoc}
use borrow.Author.Tests.{lt-ltb, le-ltb, le-leb, lt-leb, eq-eqb, ne_eqb}
use Rattle.lists.proofs.Every.{every_yes, every_no}
use Rattle.file_words.specs.Words.{byte, block_size, field, fields_from, stepped, step_words, corner_words, inside}
use Rattle.file_words.proofs.Sizes.{block_full, block_short}

pub fields_length : (f : List ℕ) (at n : ℕ) → length (fields_from f at n) ≡ n
unfolding fields_from
fields_length f at zero = refl
fields_length f at (suc n) = ap suc (fields_length f (at + 2) n)

pub fields_at : (f : List ℕ) (at n k : ℕ) → k < n → get_or (fields_from f at n) k 0 ≡ field f (at + 2 * k)
unfolding fields_from
fields_at f at zero k h = absurd (omega arith)
fields_at f at (suc n) zero h = let e : at + 2 * 0 ≡ at = omega arith in rw e
fields_at f at (suc n) (suc k) h = let e : at + 2 + 2 * k ≡ at + 2 * suc k = omega arith in rw (← e) (fields_at f (at + 2) n k (omega arith))

-- the first i of n words are the fields from a position on
pub record WordsTo (f : List ℕ) (at n : ℕ) (words : List ℕ) (i : ℕ) : Type 0 where
  pub sized : length words ≡ n
  pub past : (k : ℕ) → k < i → get_or words k 0 ≡ field f (at + 2 * k)

pub words_none : (f : List ℕ) (at n : ℕ) (words : List ℕ) → length words ≡ n → WordsTo f at n words 0
words_none f at n words e = record { sized = e; past = λ k h. absurd (omega arith) }

pub words_next : (f : List ℕ) (at n : ℕ) (words : List ℕ) (i v : ℕ) → i < n → v ≡ field f (at + 2 * i) → WordsTo f at n words i → WordsTo f at n (set words i v) (i + 1)
words_next f at n words i v h e w =
    record {
      sized = length-set words i v ∙ w.sized;
      past = λ k l.
          elim (dec_lt k i) [
            | yes b ↦ get_or-set_other words i k v 0 (omega arith) ∙ w.past k b
            | no b ↦
                let q : k ≡ i = omega arith in
                rw q (get_or-set_same words i v 0 (omega (arith, w.sized)) ∙ e)
          ];
    }

pub words_all : (f : List ℕ) (at n : ℕ) (words : List ℕ) (i : ℕ) → n ≤ i → WordsTo f at n words i → words ≡ fields_from f at n
words_all f at n words i l w =
    ext_get_or 0 words (fields_from f at n) (w.sized ∙ sym (fields_length f at n))
    λ k b. let c : k < n = omega (arith, w.sized) in w.past k (omega arith) ∙ sym (fields_at f at n k c)

-- a step in 16 bits
pub step_up : (a s : ℕ) → s < 128 → (a + s) % 65536 ≡ stepped a s
unfolding stepped
step_up a s h = rw (lt-ltb s 128 h)

pub step_down : (a s : ℕ) → 128 ≤ s → (a + (65280 + s)) % 65536 ≡ stepped a s
unfolding stepped
step_down a s h = rw (le-ltb s 128 h)

-- a byte in two's complement, widened to 16 bits
widened_low : (s : ℕ) → s < 128 → of_z w16 (to_z w8 s) ≡ s
widened_low s h = rw (lt-ltb s 128 h)

widened_high : (s : ℕ) → 128 ≤ s → s < 256 → of_z w16 (to_z w8 s) ≡ 65280 + s
widened_high s l h = let e : 65536 - suc (256 - suc s) ≡ 65280 + s = omega arith in rw (le-ltb s 128 l) e

pub stepped_by : (a s r : ℕ) (y z : ℤ) → s < 256 → y ≡ to_z w8 s → z ≡ to_z w8 (of_z w8 y) → r ≡ (a + of_z w16 (to_z w16 (of_z w16 z))) % 65536 → r ≡ stepped a s
stepped_by a s r y z h ey ez er =
    er ∙ rw (ez, ey, of_z-to_z w8 s h) (elim (dec_lt s 128) [
      | yes l ↦ rw (widened_low s l, of_z-to_z w16 s (omega arith)) (step_up a s l)
      | no l ↦ rw (widened_high s (omega arith) h, of_z-to_z w16 (65280 + s) (omega arith)) (step_down a s (omega arith))
    ])

pub step_words_length : (f : List ℕ) (at n a b : ℕ) → length (step_words f at n a b) ≡ n
unfolding step_words
step_words_length f at zero a b = refl
step_words_length f at (suc n) a b = ap suc (step_words_length f (at + 1) n b (stepped a (byte f at)))

step_words_next : (f : List ℕ) (at n a b : ℕ) → step_words f at (suc n) a b ≡ stepped a (byte f at) ∷ step_words f (at + 1) n b (stepped a (byte f at))
unfolding step_words
step_words_next f at n a b = refl

step_words_none : (f : List ℕ) (at a b : ℕ) → step_words f at 0 a b ≡ []
unfolding step_words
step_words_none f at a b = refl

-- the first i words stand, and the steps that are left give the others
pub record StepsTo (f : List ℕ) (at n : ℕ) (whole words : List ℕ) (i : ℕ) : Type 0 where
  pub sized : length words ≡ n
  pub low : 2 ≤ i
  pub high : i ≤ n
  pub rest : take i words ++ step_words f (at + (i - 2)) (n - i) (get_or words (i - 2) 0) (get_or words (i - 1) 0) ≡ whole

module _ (f : List ℕ) (at n : ℕ) where
  pub steps_none : (words : List ℕ) → length words ≡ n → 2 ≤ n
      → StepsTo f at n (take 2 words ++ step_words f at (n - 2) (get_or words 0 0) (get_or words 1 0)) words 2
  steps_none words e h =
      let z : at + (2 - 2) ≡ at = omega arith in
      record { sized = e; low = omega arith; high = h; rest = rw z }

  module _ (whole words : List ℕ) (i : ℕ) (s : StepsTo f at n whole words i) where
    pub steps_next : (v : ℕ) → i < n → v ≡ stepped (get_or words (i - 2) 0) (byte f (at + (i - 2))) → StepsTo f at n whole (set words i v) (i + 1)
    steps_next v h e =
        let e₁ : n - i ≡ suc (n - (i + 1)) = omega arith in
        let e₂ : at + (i + 1 - 2) ≡ at + (i - 2) + 1 = omega (arith, s.low) in
        let e₃ : i + 1 - 2 ≡ i - 1 = omega arith in
        let e₄ : i + 1 - 1 ≡ i = omega arith in
        let fits : i < length words = omega (arith, s.sized) in
        let more = rw (e₁, step_words_next f (at + (i - 2)) (n - (i + 1)) (get_or words (i - 2) 0) (get_or words (i - 1) 0), ← e) at s.rest in
        record {
          sized = length-set words i v ∙ s.sized;
          low = omega (arith, s.low);
          high = omega arith;
          rest = rw (e₂, e₄, e₃, get_or-set_same words i v 0 fits, get_or-set_other words i (i - 1) v 0 (omega (arith, s.low)), add-one i, take-suc-set words i v fits, append_snoc (take i words) v) (rw (add-one i) at more);
        }

    pub steps_all : n ≤ i → words ≡ whole
    steps_all h =
        let z : n - i ≡ 0 = omega arith in
        sym (take_all i words (omega (arith, s.sized))) ∙ (sym (append-nil (take i words)) ∙ rw (z, step_words_none f (at + (i - 2)) (get_or words (i - 2) 0) (get_or words (i - 1) 0)) at s.rest)

-- the three forms that corners have
pub words_full : (f : List ℕ) (at : ℕ) → byte f 3 ≡ 1 → corner_words f at ≡ fields_from f (at + 1) (2 * byte f at)
unfolding corner_words
words_full f at v = rw (eq-eqb (byte f 3) 1 v)

pub words_empty : (f : List ℕ) (at : ℕ) → (byte f 3 ≡ 1 → ⊥) → byte f at ≡ 0 → corner_words f at ≡ []
unfolding corner_words
words_empty f at v c = rw (ne_eqb (byte f 3) 1 v, c)

pub words_short : (f : List ℕ) (at : ℕ) → (byte f 3 ≡ 1 → ⊥) → (byte f at ≡ 0 → ⊥)
    → corner_words f at ≡ field f (at + 1) ∷ field f (at + 3) ∷ step_words f (at + 5) (2 * byte f at - 2) (field f (at + 1)) (field f (at + 3))
unfolding corner_words
words_short f at v c = rw (ne_eqb (byte f 3) 1 v, ne_eqb (byte f at) 0 c)

-- the words of the corners, for each way through the code
module _ (f : List ℕ) (at v b : ℕ) (e : v ≡ byte f 3) (p : b ≡ byte f at) where
  pub corners_full : v ≡ 1 → fields_from f (at + 1) (2 * b) ≡ corner_words f at
  corners_full k = rw p (sym (words_full f at (sym e ∙ k)))

  pub room_full : v ≡ 1 → at + block_size (byte f 3) (byte f at) ≤ length f → at + 1 + 2 * (2 * b) ≤ length f
  room_full k h = let h₂ = rw (sym e ∙ k) at h in omega (arith, block_full (byte f at))

  module _ (k : v ≡ 1 → ⊥) where
    other : byte f 3 ≡ 1 → ⊥
    other h = k (e ∙ h)

    pub corners_none : 2 * b ≡ 0 → [] ≡ corner_words f at
    corners_none h = sym (words_empty f at other (omega arith))

    module _ (h : 2 * b ≡ 0 → ⊥) where
      some : byte f at ≡ 0 → ⊥
      some z = h (omega arith)

      pub corners_short : (first : List ℕ) → take 2 first ≡ fields_from f (at + 1) 2
          → take 2 first ++ step_words f (at + 5) (2 * b - 2) (get_or first 0 0) (get_or first 1 0) ≡ corner_words f at
      unfolding fields_from
      corners_short first q =
          let e₃ : at + 1 + 2 ≡ at + 3 = omega arith in
          let a₀ : get_or first 0 0 ≡ field f (at + 1) = sym (get_or-take 2 first 0 0 (omega arith)) ∙ rw q in
          let a₁ : get_or first 1 0 ≡ field f (at + 3) = sym (get_or-take 2 first 1 0 (omega arith)) ∙ (rw q (rw e₃)) in
          rw (q, a₀, a₁, p, e₃) (sym (words_short f at other some))

      module _ (room : at + block_size (byte f 3) (byte f at) ≤ length f) where
        pub room_first : at + 1 + 2 * 2 ≤ length f
        room_first = omega (arith, block_short (byte f 3) (byte f at) other some)

        pub room_short : at + 5 + 2 * b ≤ length f + 2
        room_short = omega (arith, block_short (byte f 3) (byte f at) other some)

-- whether each word is inside, by the first that is not
module _ (ws : List ℕ) where
  pub inside_no : (k : ℕ) → k < length ws → 32767 < get_or ws k 0 → false ≡ inside ws
  unfolding inside
  inside_no k l h = sym (every_no (λ w. leb w 32767) ws k 0 l (lt-leb (get_or ws k 0) 32767 h))

  pub inside_yes : (n : ℕ) → length ws ≤ n → ((k : ℕ) → k < n → get_or ws k 0 ≤ 32767) → true ≡ inside ws
  unfolding inside
  inside_yes n e h = sym (every_yes (λ w. leb w 32767) ws 0 (λ k l. le-leb (get_or ws k 0) 32767 (h k (omega arith))))

-- the part of the room that a block's words take
pub room_part : (b : ℕ) (room : List ℕ) → length room ≡ 510 → b < 256 → length (take (2 * b) room) ≡ 2 * b
room_part b room e h = length-take-le (2 * b) room (omega arith)

pub room_count : (n b : ℕ) (room : List ℕ) → length room ≡ 510 → n < 256 → n ≡ b → length (take (2 * n) room) ≡ 2 * b
room_count n b room l h e = room_part n room l h ∙ omega (arith, e)

pub room_some : (b : ℕ) (part : List ℕ) (t : Bool) → length part ≡ 2 * b → t ≡ eqb (length part) 0 → t ≡ false → 2 * b ≡ 0 → ⊥
room_some b part t s e h z = let q : true ≡ false = sym (eq-eqb (length part) 0 (s ∙ z)) ∙ (sym e ∙ h) in cc

pub room_none : (b : ℕ) (part ws : List ℕ) (t : Bool) → length part ≡ 2 * b → t ≡ eqb (length part) 0 → t ≡ true → (2 * b ≡ 0 → [] ≡ ws) → part ≡ ws
room_none b part ws t s e h w =
    let z : length part ≡ 0 = eqb-true (length part) 0 (sym e ∙ h) in
    nil_from_length part z ∙ w (sym s ∙ z)

pub two : (b : ℕ) (part : List ℕ) → length part ≡ 2 * b → (2 * b ≡ 0 → ⊥) → length (take 2 part) ≡ 2
two b part s h = length-take-le 2 part (omega arith)

module _ (f : List ℕ) (at b : ℕ) (part got : List ℕ) (s : length part ≡ 2 * b) (h : 2 * b ≡ 0 → ⊥) (e : got ≡ fields_from f at (length (take 2 part))) where
  got_two : length got ≡ 2
  got_two = ap length e ∙ (fields_length f at _ ∙ two b part s h)

  pub first_two : take 2 (got ++ drop 2 part) ≡ fields_from f at 2
  first_two = rw (take-append-le 2 got (drop 2 part) (omega (arith, got_two)), take_all 2 got (omega (arith, got_two))) (e ∙ rw (two b part s h))

  pub first_size : length (got ++ drop 2 part) ≡ 2 * b
  first_size = let l = got_two in rw (length-append got (drop 2 part), length-drop 2 part, l, s) (omega arith)

pub corners_length : (f : List ℕ) (at : ℕ) → length (corner_words f at) ≡ 2 * byte f at
unfolding corner_words
corners_length f at = go (ℕ_discrete (byte f 3) 1) (ℕ_discrete (byte f at) 0)
  where
    go : Dec (byte f 3 ≡ 1) → Dec (byte f at ≡ 0) → length (corner_words f at) ≡ 2 * byte f at
    go (yes e) d = rw (eq-eqb (byte f 3) 1 e) (fields_length f (at + 1) (2 * byte f at))
    go (no e) (yes h) = rw (ne_eqb (byte f 3) 1 e, h)
    go (no e) (no h) =
        rw (ne_eqb (byte f 3) 1 e, ne_eqb (byte f at) 0 h, step_words_length f (at + 5) (2 * byte f at - 2) (field f (at + 1)) (field f (at + 3)))
        (omega arith)

pub corners_count : (f : List ℕ) (at b : ℕ) (ws : List ℕ) → b ≡ byte f at → take (2 * byte f at) ws ≡ corner_words f at → 2 * b ≡ length (take (2 * b) ws)
corners_count f at b ws e q = rw e (sym (ap length q ∙ corners_length f at))

pub corners_back : (f : List ℕ) (at k : ℕ) (room part : List ℕ) → part ≡ corner_words f at → take (2 * byte f at) (put_mid 0 k room part) ≡ corner_words f at
corners_back f at k room part h = take-put_mid 0 k room part (2 * byte f at) (omega (arith, ap length h, corners_length f at)) (omega arith) ∙ h
