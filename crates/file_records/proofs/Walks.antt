-- From record to record through a file whose records are whole.
use mathlib.Core.Path.{◌≡◌, refl, sym, ap, ◌∙◌}
use mathlib.Core.List.{List, ◌∷◌}
use mathlib.Core.Bool.{Bool, true, ◌&&◌}
use Prim.Native.Nat.{ℕ, suc, ◌+◌, ◌-◌, ◌<◌, ◌≤◌}
use native.Mathlib.Omega.{arith}
use lib.ListN.{length}
use Rattle.yardfile.specs.File.{record_whole}
use Rattle.yardfile.proofs.Cases.{whole_fits}
use Rattle.file_records.specs.Records.{next_at, rec_at, records, file_of}
use Rattle.file_records.specs.Conversions.{converted}
use Rattle.file_records.specs.inner.Asked.{asked, everyone}
use Rattle.file_records.proofs.Files.{recs_from, every, every_next, every_pieces, recs_next, asked_whole}

pub converted_is : (w : ℕ) (f : List ℕ) → converted w f ≡ file_of w (records f)
unfolding converted
converted_is w f = refl

-- what is left of a walk over whole records
pub record Left (f : List ℕ) (at n : ℕ) : Type 0 where
  pub enough : length f ≤ at + n
  pub low : 5 ≤ at
  pub high : at ≤ length f
  pub whole : every (asked 10) f n at ≡ true

pub left_none : (f : List ℕ) → 5 ≤ length f → everyone 10 f ≡ true → Left f 5 (length f)
left_none f h w = record { enough = omega arith; low = omega arith; high = h; whole = w }

module _ (f : List ℕ) (at n : ℕ) (l : at < length f) (s : length f ≤ at + n) where
  one_more : n ≡ suc (n - 1)
  one_more = omega arith

  pub every_step : (q : List ℕ → ℕ → Bool) → every q f n at ≡ q f at && every q f (n - 1) (next_at f at)
  every_step q = ap (λ (m : ℕ). every q f m at) one_more ∙ every_next f q (n - 1) at l

  pub recs_step : recs_from f n at ≡ rec_at f at ∷ recs_from f (n - 1) (next_at f at)
  recs_step = ap (λ (m : ℕ). recs_from f m at) one_more ∙ recs_next f (n - 1) at l

  pub whole_here : every (asked 10) f n at ≡ true → record_whole f at ≡ true
  whole_here w = sym (asked_whole f at) ∙ (every_pieces (asked 10) f (n - 1) at l (rw one_more at w)).0

  pub left_next : 5 ≤ at → every (asked 10) f n at ≡ true → Left f (next_at f at) (n - 1)
  left_next low w =
      record {
        enough = omega arith;
        low = omega arith;
        high = whole_fits f at (whole_here w);
        whole = (every_pieces (asked 10) f (n - 1) at l (rw one_more at w)).1;
      }
