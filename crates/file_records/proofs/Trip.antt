-- There and back gives the same bytes, from either version, and both files hold the same records; and what reading them finds.
use mathlib.Core.Path.{◌≡◌, refl, sym, ap, ◌∙◌}
use mathlib.Core.List.{List, ◌∷◌}
use mathlib.Core.Bool.{Bool, true, false, ◌&&◌, ◌||◌, cond}
use Prim.Native.Nat.{ℕ, ◌+◌, ◌<◌, ◌≤◌}
use native.Mathlib.Omega.{arith}
use native.Mathlib.Decide.{ℕ_discrete}
use lib.Dec.{leb, eqb}
use lib.ListN.{length, drop}
use borrow.Author.Tests.{le-leb, eq-eqb, leb-true, eqb-true, ne_eqb}
use Rattle.std.proofs.Common.{Some, None, Ok}
use Rattle.file_words.specs.Words.{byte, corner_words, inside}
use Rattle.yardfile.specs.File.{head_right, record_whole, corners_right, item_at, read_at}
use Rattle.lists.proofs.Every.{both}
use Rattle.yardfile.proofs.Cases.{head_pieces}
use Rattle.file_records.specs.Records.{Rec, rec_at, records, file_of}
use Rattle.file_records.specs.Conversions.{places_right, converted, answer}
use Rattle.file_records.specs.inner.Asked.{everyone}
use Rattle.file_records.proofs.Words.{Bytes, drop_one, drop_two}
use Rattle.file_records.proofs.Recs.{words_block, inside_words}
use Rattle.file_records.proofs.Walks.{converted_is}
use Rattle.file_records.proofs.Files.{always, answer_is, files_print, all_near, All, recs_good, FileParsed, files_parse}

-- an answer of 0 has passed every question
passed : (a b c d e : Bool) → ◌≡◌ {A = ℕ} (cond a (cond b (cond c (cond d (cond e 0 9) 22) 21) 10) 9) 0
    → (a ≡ true) × (b ≡ true) × (c ≡ true) × (d ≡ true) × (e ≡ true)
passed true true true true true h = (refl, refl, refl, refl, refl)
passed true true true true false h = absurd (omega arith)
passed true true true false e h = absurd (omega arith)
passed true true false d e h = absurd (omega arith)
passed true false c d e h = absurd (omega arith)
passed false b c d e h = absurd (omega arith)

either : (a b : Bool) → a || b ≡ true → (a ≡ false) → b ≡ true
either true b h e = let z : false ≡ true = sym e in cc
either false b h e = h

right_true : (a b : Bool) → b ≡ true → a || b ≡ true
right_true true b h = refl
right_true false b h = h

pub record Accepted (v w : ℕ) (f : List ℕ) : Type 0 where
  pub head : head_right f ≡ true
  pub version : byte f 3 ≡ v
  pub whole : everyone 10 f ≡ true
  pub close : (w ≡ 1 → ⊥) → everyone 21 f ≡ true
  pub within : everyone 22 f ≡ true
  pub short : length (converted w f) ≤ 8192

pub accepted : (v w : ℕ) (f : List ℕ) → answer v w f ≡ 0 → Accepted v w f
accepted v w f h =
    let p = passed (head_right f && eqb (byte f 3) v) (everyone 10 f) (eqb w 1 || everyone 21 f) (everyone 22 f) (leb (length (converted w f)) 8192) (sym (answer_is v w f) ∙ h) in
    let q = both (head_right f) (eqb (byte f 3) v) p.0 in
    record {
      head = q.0;
      version = eqb-true (byte f 3) v q.1;
      whole = p.1;
      close = λ k. either (eqb w 1) (everyone 21 f) p.2 (ne_eqb w 1 k);
      within = p.3;
      short = leb-true (length (converted w f)) 8192 p.4;
    }

head_made : (w : ℕ) (rs : List Rec) → 1 ≤ w → w ≤ 2 → length (file_of w rs) ≤ 8192 → head_right (file_of w rs) ≡ true
unfolding head_right
head_made w rs l h s = rw (le-leb 5 (length (file_of w rs)) (omega arith), le-leb (length (file_of w rs)) 8192 s, le-leb 1 w l, le-leb w 2 h)

-- what is read is what was written: of records that both versions can write
pub records_parsed : (w : ℕ) (rs : List Rec) → All rs → records (file_of w rs) ≡ rs
records_parsed w rs g = (files_parse (file_of w rs) (length (file_of w rs)) 5 rs g (omega arith) refl).recs

-- and a right file is its records, written in its version
pub records_printed : (f : List ℕ) → Bytes f → head_right f ≡ true → everyone 10 f ≡ true → f ≡ file_of (byte f 3) (records f)
records_printed f bs h w =
    let p = head_pieces f h in
    let d = drop_two f 0 (omega (arith, p.low)) in
    let e = drop_two f 2 (omega (arith, p.low)) in
    let g = drop_one f 4 (omega (arith, p.low)) in
    let all_of : f ≡ byte f 0 ∷ byte f 1 ∷ byte f 2 ∷ byte f 3 ∷ byte f 4 ∷ drop 5 f = rw (← g, ← e) d in
    all_of ∙ rw (p.first, p.second, p.third, p.last, files_print f bs (length f) 5 (omega arith) w)

module _ (v w : ℕ) (other : v ≡ w → ⊥) (low : 1 ≤ w) (high : w ≤ 2) (f : List ℕ) (bs : Bytes f) (ok : answer v w f ≡ 0) where
  good : All (records f)
  good = go (ℕ_discrete w 1)
    where
      a : Accepted v w f
      a = accepted v w f ok

      go : Dec (w ≡ 1) → All (records f)
      go (yes e) = recs_good f (length f) 5 a.whole (all_near f bs (λ k. other (sym a.version ∙ (k ∙ sym e))) (length f) 5 a.within) a.within
      go (no e) = recs_good f (length f) 5 a.whole (a.close e) a.within

  read_back : FileParsed (file_of w (records f)) (length (file_of w (records f))) 5 (records f)
  read_back = files_parse (file_of w (records f)) (length (file_of w (records f))) 5 (records f) good (omega arith) refl

  -- the records of the result are those of the file
  pub same_records : records (converted w f) ≡ records f
  same_records = rw (converted_is w f) read_back.recs

  pub back_again : converted v (converted w f) ≡ f
  back_again =
      let a = accepted v w f ok in
      converted_is v (converted w f) ∙ rw (same_records) (sym (rw a.version at (records_printed f bs a.head a.whole)))

  pub back_accepted : answer w v (converted w f) ≡ 0
  back_accepted =
      let a = accepted v w f ok in
      let s : length (converted v (converted w f)) ≤ 8192 = rw back_again (head_pieces f a.head).high in
      let c = converted_is w f in
      let h : head_right (converted w f) ≡ true = rw c (head_made w (records f) low high (rw c at a.short)) in
      let k : eqb (byte (converted w f) 3) w ≡ true = rw c (eq-eqb w w refl) in
      let e₁ : everyone 10 (converted w f) ≡ true = rw c read_back.whole in
      let e₂ : everyone 21 (converted w f) ≡ true = rw c read_back.close in
      let e₃ : everyone 22 (converted w f) ≡ true = rw c read_back.within in
      answer_is w v (converted w f) ∙ rw (h, k, e₁, right_true (eqb v 1) (everyone 21 (converted w f)) e₂, e₃, le-leb (length (converted v (converted w f))) 8192 s)

-- the request's two sentences
pub shorten_lengthen : (f : List ℕ) → Bytes f → answer 1 2 f ≡ 0 → (answer 2 1 (converted 2 f) ≡ 0) × (converted 1 (converted 2 f) ≡ f)
shorten_lengthen f bs ok = (back_accepted 1 2 (λ e. omega arith) (omega arith) (omega arith) f bs ok, back_again 1 2 (λ e. omega arith) (omega arith) (omega arith) f bs ok)

pub lengthen_shorten : (f : List ℕ) → Bytes f → answer 2 1 f ≡ 0 → (answer 1 2 (converted 1 f) ≡ 0) × (converted 2 (converted 1 f) ≡ f)
lengthen_shorten f bs ok = (back_accepted 2 1 (λ e. omega arith) (omega arith) (omega arith) f bs ok, back_again 2 1 (λ e. omega arith) (omega arith) (omega arith) f bs ok)

-- what reading finds at the end and at a record
pub read_end : (f : List ℕ) (at : ℕ) → head_right f ≡ true → 5 ≤ at → at ≡ length f → read_at f at ≡ Ok None
unfolding read_at
read_end f at h l e = rw (h, le-leb 5 at l, le-leb at (length f) (omega arith), eq-eqb at (length f) e)

right_inside : (f : List ℕ) (at : ℕ) → places_right (rec_at f at) ≡ true → corners_right f at ≡ true
unfolding corners_right
right_inside f at h = go (ℕ_discrete (byte f at) 1)
  where
    go : Dec (byte f at ≡ 1) → corners_right f at ≡ true
    go (yes k) =
        let i : inside (corner_words f (at + 2)) ≡ true = sym (ap inside (words_block f at k)) ∙ (sym (inside_words f at k) ∙ h) in
        rw (eq-eqb (byte f at) 1 k, i) (always (eqb (byte f 3) 2))
    go (no k) = rw (ne_eqb (byte f at) 1 k)

pub read_found : (f : List ℕ) (at : ℕ) → head_right f ≡ true → 5 ≤ at → at < length f → record_whole f at ≡ true → places_right (rec_at f at) ≡ true → read_at f at ≡ Ok (Some (item_at f at))
unfolding read_at
read_found f at h l s w i = rw (h, le-leb 5 at l, le-leb at (length f) (omega arith), ne_eqb at (length f) (λ e. omega arith), w, right_inside f at i)
