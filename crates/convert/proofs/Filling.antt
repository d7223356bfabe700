-- The whole result, record by record, and zeros to the end of the buffer.
use mathlib.Core.Path.{◌≡◌, refl, sym, ap, ◌∙◌}
use mathlib.Core.List.{List, [], ◌∷◌, ◌++◌, append-nil}
use mathlib.Core.Bool.{true}
use Prim.Native.Nat.{ℕ, ◌+◌, ◌-◌, ◌<◌, ◌≤◌}
use native.Mathlib.Omega.{arith}
use lib.ListN.{length, take, drop, replicate, length-append, length-drop, drop_of_length-le}
use lib.Seq.{length-take-le}
use borrow.Rule.Slice.PartMut.{put_mid}
use Rattle.yardfile.specs.File.{body_size}
use Rattle.yardfile.proofs.Cases.{whole_fits}
use Rattle.file_records.specs.Records.{next_at, rec_at, rec_bytes, bytes_of}
use Rattle.file_records.specs.Conversions.{converted}
use Rattle.file_records.specs.inner.Asked.{everyone, size_in}
use Rattle.file_records.proofs.Recs.{rec_size}
use Rattle.file_records.proofs.Files.{recs_from, recs_end, bytes_none, bytes_more}
use Rattle.file_records.proofs.Walks.{converted_is, Left, left_none, left_next, recs_step, whole_here}
use Rattle.file_writing.specs.inner.Written.{Written}
use Rattle.file_writing.proofs.Writing.{Writing, writing_call, writing_end}

-- the whole result
pub record Filling (f : List ℕ) (v : ℕ) (old out : List ℕ) (at to : ℕ) : Type 0 where
  pub fuel : ℕ
  pub left : Left f at fuel
  pub writing : Writing old out to (bytes_of v (recs_from f fuel at)) (converted v f)

pub head_fits : (f : List ℕ) (v n : ℕ) → length (converted v f) ≤ n → 5 ≤ n
head_fits f v n h = omega (arith, ap length (converted_is v f))

pub filling_none : (f : List ℕ) (v : ℕ) (old out : List ℕ) → 5 ≤ length f → everyone 10 f ≡ true → length (converted v f) ≤ length old → length out ≡ length old
    → take 5 out ≡ 89 ∷ 82 ∷ 68 ∷ v ∷ 0 ∷ [] → Filling f v out out 5 5
filling_none f v old out h w s l e =
    let n = ap length (converted_is v f) in
    record { fuel = length f; left = left_none f h w; writing = record { sized = refl; fits = omega arith; so = rw e (sym (converted_is v f)) } }

module _ (f : List ℕ) (v : ℕ) (old out : List ℕ) (at to : ℕ) (g : Filling f v old out at to) where
  pub filling_read : length f ≤ at → take to out ≡ converted v f
  filling_read h =
      writing_end old out to (bytes_of v (recs_from f g.fuel at)) (converted v f) (ap (bytes_of v) (recs_end f g.fuel at h) ∙ bytes_none v) g.writing

  pub filling_size : length f ≤ at → to ≡ length (converted v f)
  filling_size h = sym (length-take-le to out (omega (arith, g.writing.fits))) ∙ ap length (filling_read h)

  pub filling_same : (first : List ℕ) → length old ≡ length first → length out ≡ length first
  filling_same first h = g.writing.sized ∙ h

  pub filling_fits : at < length f → next_at f at ≤ length f
  filling_fits l = whole_fits f at (whole_here f at g.fuel l g.left.enough g.left.whole)

  module _ (l : at < length f) where
    onward : Writing old out to (rec_bytes v (rec_at f at) ++ bytes_of v (recs_from f (g.fuel - 1) (next_at f at))) (converted v f)
    onward = rw (ap (bytes_of v) (recs_step f at g.fuel l g.left.enough) ∙ bytes_more v (rec_at f at) (recs_from f (g.fuel - 1) (next_at f at))) at g.writing

    pub filling_room : to + size_in v f at ≤ length out
    filling_room = omega (arith, onward.fits, length-append (rec_bytes v (rec_at f at)) (bytes_of v (recs_from f (g.fuel - 1) (next_at f at))), rec_size v f at)

    pub filling_next : (new : List ℕ) (next b : ℕ) → length new ≡ length out → Written (rec_bytes v (rec_at f at)) out new to next → b ≡ body_size f at
        → Filling f v old new (at + 2 + b) next
    filling_next new next b s w h =
        rw h
        (record {
          fuel = g.fuel - 1;
          left = left_next f at g.fuel l g.left.enough g.left.low g.left.whole;
          writing = writing_call old out to (bytes_of v (recs_from f (g.fuel - 1) (next_at f at))) (converted v f) (rec_bytes v (rec_at f at)) new next s w onward;
        })

-- zeros to the end
pub cleared : (t part : List ℕ) (from : ℕ) → from ≤ length t → part ≡ replicate (length (take (length t - from) (drop from t))) 0
    → put_mid from (length t - from) t part ≡ take from t ++ replicate (length t - from) 0
cleared t part from h p =
    let e : length (take (length t - from) (drop from t)) ≡ length t - from = length-take-le (length t - from) (drop from t) (rw (length-drop from t) (omega arith)) in
    let none : drop (length t - from) (drop from t) ≡ [] = drop_of_length-le (drop from t) {i = length t - from} (rw (length-drop from t) (omega arith)) in
    rw (p, e, none, append-nil {A = ℕ} (replicate (length t - from) 0))
