-- The records of a file, written and read back in either version.
use mathlib.Core.Path.{◌≡◌, refl, sym, ap, ◌∙◌}
use mathlib.Core.List.{List, [], ◌∷◌, ◌++◌, map}
use mathlib.Core.Bool.{Bool, true, false, ◌&&◌, ◌||◌, cond}
use Prim.Native.Nat.{ℕ, zero, suc, ◌+◌, ◌<◌, ◌≤◌}
use native.Mathlib.Omega.{arith}
use native.Mathlib.Decide.{dec_lt}
use lib.Dec.{leb, eqb}
use lib.ListN.{length, drop, length-drop, drop_of_length-le}
use borrow.Author.Tests.{lt-ltb, le-ltb}
use Rattle.file_words.specs.Words.{byte}
use Rattle.yardfile.specs.File.{head_right, record_whole}
use Rattle.lists.specs.Lists.{all}
use Rattle.lists.proofs.Every.{both}
use Rattle.file_records.specs.Records.{Rec, next_at, positions_from, positions, rec_at, rec_bytes, bytes_of}
use Rattle.file_records.specs.Conversions.{steps_right, places_right, converted, answer}
use Rattle.file_records.specs.inner.Asked.{asked, everyone}
use Rattle.file_records.proofs.Words.{Bytes}
use Rattle.file_records.proofs.Recs.{rec_print, Good, rec_good, record_near, rec_parse}

-- the records from a position on, n at the most, and a question to each of them
abbrev pub recs_from : List ℕ → ℕ → ℕ → List Rec
recs_from f n at = map (rec_at f) (positions_from f n at)

abbrev pub every : (List ℕ → ℕ → Bool) → List ℕ → ℕ → ℕ → Bool
every q f n at = all (q f) (positions_from f n at)

pub asked_whole : (f : List ℕ) (at : ℕ) → asked 10 f at ≡ record_whole f at
unfolding asked
asked_whole f at = refl

pub asked_near : (f : List ℕ) (at : ℕ) → asked 21 f at ≡ steps_right (rec_at f at)
unfolding asked
asked_near f at = refl

pub asked_inside : (f : List ℕ) (at : ℕ) → asked 22 f at ≡ places_right (rec_at f at)
unfolding asked
asked_inside f at = refl

pub always : (b : Bool) → cond b true true ≡ true
always true = refl
always false = refl

-- the questions of the answer are these
asked_all : (p q : ℕ → Bool) → ((k : ℕ) → p k ≡ q k) → (ks : List ℕ) → all p ks ≡ all q ks
unfolding all
asked_all p q h [] = refl
asked_all p q h (k ∷ ks) = rw (h k, asked_all p q h ks)

records_all : (p : Rec → Bool) (f ks : List ℕ) → all p (map (rec_at f) ks) ≡ all (λ (at : ℕ). p (rec_at f at)) ks
unfolding all
records_all p f [] = refl
records_all p f (k ∷ ks) = rw (records_all p f ks)

pub answer_is : (v w : ℕ) (f : List ℕ)
    → answer v w f ≡ cond (head_right f && eqb (byte f 3) v) (cond (everyone 10 f) (cond (eqb w 1 || everyone 21 f) (cond (everyone 22 f) (cond (leb (length (converted w f)) 8192) 0 9) 22) 21) 10) 9
unfolding answer
answer_is v w f =
    rw (
      asked_all (asked 10 f) (record_whole f) (asked_whole f) (positions f),
      asked_all (asked 21 f) (λ (at : ℕ). steps_right (rec_at f at)) (asked_near f) (positions f),
      asked_all (asked 22 f) (λ (at : ℕ). places_right (rec_at f at)) (asked_inside f) (positions f),
      records_all steps_right f (positions f),
      records_all places_right f (positions f),
    )

-- one record more, or the end
module _ (f : List ℕ) where
  positions_next : (n at : ℕ) → at < length f → positions_from f (suc n) at ≡ at ∷ positions_from f n (next_at f at)
  unfolding positions_from
  positions_next n at h = rw (lt-ltb at (length f) h)

  positions_end : (n at : ℕ) → length f ≤ at → positions_from f n at ≡ []
  unfolding positions_from
  positions_end zero at h = refl
  positions_end (suc n) at h = rw (le-ltb at (length f) h)

  positions_none : (at : ℕ) → positions_from f 0 at ≡ []
  unfolding positions_from
  positions_none at = refl

  module _ (q : List ℕ → ℕ → Bool) where
    pub every_next : (n at : ℕ) → at < length f → every q f (suc n) at ≡ q f at && every q f n (next_at f at)
    unfolding all
    every_next n at h = rw (positions_next n at h)

    every_none : (at : ℕ) → every q f 0 at ≡ true
    unfolding all
    every_none at = rw (positions_none at)

    pub every_end : (n at : ℕ) → length f ≤ at → every q f n at ≡ true
    unfolding all
    every_end n at h = rw (positions_end n at h)

  pub recs_next : (n at : ℕ) → at < length f → recs_from f (suc n) at ≡ rec_at f at ∷ recs_from f n (next_at f at)
  recs_next n at h = rw (positions_next n at h)

  recs_none : (at : ℕ) → recs_from f 0 at ≡ []
  recs_none at = rw (positions_none at)

  pub recs_end : (n at : ℕ) → length f ≤ at → recs_from f n at ≡ []
  recs_end n at h = rw (positions_end n at h)

pub bytes_none : (v : ℕ) → bytes_of v [] ≡ []
unfolding bytes_of
bytes_none v = refl

pub bytes_more : (v : ℕ) (r : Rec) (rs : List Rec) → bytes_of v (r ∷ rs) ≡ rec_bytes v r ++ bytes_of v rs
unfolding bytes_of
bytes_more v r rs = refl

pub every_pieces : (q : List ℕ → ℕ → Bool) (f : List ℕ) (n at : ℕ) → at < length f → every q f (suc n) at ≡ true → (q f at ≡ true) × (every q f n (next_at f at) ≡ true)
every_pieces q f n at h e = both (q f at) (every q f n (next_at f at)) (sym (every_next f q n at h) ∙ e)

every_made : (q : List ℕ → ℕ → Bool) (f : List ℕ) (n at : ℕ) → at < length f → q f at ≡ true → every q f n (next_at f at) ≡ true → every q f (suc n) at ≡ true
every_made q f n at h a b = every_next f q n at h ∙ rw (a, b)

-- a file whose records are whole is its records, written out
module _ (f : List ℕ) (bs : Bytes f) where
  print_end : (n at : ℕ) → length f ≤ at → drop at f ≡ bytes_of (byte f 3) (recs_from f n at)
  print_end n at h = rw (recs_end f n at h, bytes_none (byte f 3)) (drop_of_length-le f h)

  pub files_print : (n at : ℕ) → length f ≤ at + n → every (asked 10) f n at ≡ true → drop at f ≡ bytes_of (byte f 3) (recs_from f n at)
  files_print zero at h e = print_end 0 at (omega arith)
  files_print (suc n) at h e =
      elim (dec_lt at (length f)) [
        | yes l ↦
            let p = every_pieces (asked 10) f n at l e in
            rw (recs_next f n at l, bytes_more (byte f 3) (rec_at f at) (recs_from f n (next_at f at)))
            (rec_print f bs at (sym (asked_whole f at) ∙ p.0) ∙ ap (λ (t : List ℕ). rec_bytes (byte f 3) (rec_at f at) ++ t) (files_print n (next_at f at) (omega arith) p.1))
        | no l ↦ print_end (suc n) at (omega arith)
      ]

  pub all_near : (byte f 3 ≡ 1 → ⊥) → (n at : ℕ) → every (asked 22) f n at ≡ true → every (asked 21) f n at ≡ true
  all_near v zero at e = every_none f (asked 21) at
  all_near v (suc n) at e =
      elim (dec_lt at (length f)) [
        | yes l ↦
            let p = every_pieces (asked 22) f n at l e in
            every_made (asked 21) f n at l (asked_near f at ∙ record_near f bs at v (sym (asked_inside f at) ∙ p.0)) (all_near v n (next_at f at) p.1)
        | no l ↦ every_end f (asked 21) (suc n) at (omega arith)
      ]

pub data All : List Rec → Type 0 where
  none : All []
  more : {r : Rec} {rs : List Rec} → Good r → All rs → All (r ∷ rs)

pub recs_good : (f : List ℕ) (n at : ℕ) → every (asked 10) f n at ≡ true → every (asked 21) f n at ≡ true → every (asked 22) f n at ≡ true → All (recs_from f n at)
recs_good f zero at w c i = rw (recs_none f at) none
recs_good f (suc n) at w c i =
    elim (dec_lt at (length f)) [
      | yes l ↦
          let p = every_pieces (asked 10) f n at l w in
          let q = every_pieces (asked 21) f n at l c in
          let r = every_pieces (asked 22) f n at l i in
          rw (recs_next f n at l)
          (more (rec_good f at (sym (asked_whole f at) ∙ p.0) (sym (asked_near f at) ∙ q.0) (sym (asked_inside f at) ∙ r.0)) (recs_good f n (next_at f at) p.1 q.1 r.1))
      | no l ↦ rw (recs_end f (suc n) at (omega arith)) none
    ]

pub record FileParsed (f : List ℕ) (n at : ℕ) (rs : List Rec) : Type 0 where
  pub recs : recs_from f n at ≡ rs
  pub whole : every (asked 10) f n at ≡ true
  pub close : every (asked 21) f n at ≡ true
  pub within : every (asked 22) f n at ≡ true

pub files_parse : (f : List ℕ) (n at : ℕ) (rs : List Rec) → All rs → length f ≤ at + n → drop at f ≡ bytes_of (byte f 3) rs → FileParsed f n at rs
files_parse f n at [] none h e =
    let z : length f ≤ at = omega (arith, sym (length-drop at f) ∙ ap length (e ∙ bytes_none (byte f 3))) in
    record { recs = recs_end f n at z; whole = every_end f (asked 10) n at z; close = every_end f (asked 21) n at z; within = every_end f (asked 22) n at z }
files_parse f zero at (r ∷ rs) (more g gs) h e =
    let p = rec_parse f at r g (bytes_of (byte f 3) rs) (e ∙ bytes_more (byte f 3) r rs) in
    absurd (omega (arith, p.fits))
files_parse f (suc n) at (r ∷ rs) (more g gs) h e =
    let p = rec_parse f at r g (bytes_of (byte f 3) rs) (e ∙ bytes_more (byte f 3) r rs) in
    let l : at < length f = omega (arith, p.fits) in
    let i = files_parse f n (next_at f at) rs gs (omega arith) p.after in
    record {
      recs = recs_next f n at l ∙ rw (p.same, i.recs);
      whole = every_made (asked 10) f n at l (asked_whole f at ∙ p.whole) i.whole;
      close = every_made (asked 21) f n at l (asked_near f at ∙ p.close) i.close;
      within = every_made (asked 22) f n at l (asked_inside f at ∙ p.within) i.within;
    }
