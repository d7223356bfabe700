-- The numbers that a replay can end with.
use mathlib.Core.Path.{◌≡◌, refl, ap}
use mathlib.Core.Bool.{Bool, true, false, ◌&&◌, cond}
use mathlib.Core.List.{List}
use mathlib.Core.Logic.{◌⊎◌, inl, inr}
use Prim.Native.Nat.{ℕ}
use native.Mathlib.Omega.{arith}
use lib.Dec.{leb, eqb}
use lib.ListN.{length}
use Rattle.book.specs.Book.{Edit}
use Rattle.yardfile.specs.declared.Item.{Item}
use Rattle.std.proofs.Common.{Option, Some, None, Result, Ok, Err}
use Rattle.refusals.specs.declared.Refusal.{Refusal}
use Rattle.refusals.specs.declared.Refusal.TheVariants.{NoYardFile, BrokenRecord, CornerOffTheYard}
use Rattle.refusals.specs.Numbers.{number_of}
use Rattle.yardfile.specs.File.{head_right, record_whole, corners_right, item_at, read_at}
use Rattle.replay.specs.Replay.{Reads, at_end, at_stop, onward}

refused_number : (h b e w t : Bool) (i : Item) (r : Refusal)
    → ◌≡◌ {A = Result (Option Item) Refusal} (cond h (cond b (cond e (Ok None) (cond w (cond t (Ok (Some i)) (Err CornerOffTheYard)) (Err BrokenRecord))) (Err BrokenRecord)) (Err NoYardFile)) (Err r)
    → (r ≡ NoYardFile) ⊎ ((r ≡ BrokenRecord) ⊎ (r ≡ CornerOffTheYard))
refused_number false b e w t i r q = inl cc
refused_number true false e w t i r q = inr (inl cc)
refused_number true true true w t i r q = let z : ◌≡◌ {A = ℕ} 0 1 = cc in absurd (omega arith)
refused_number true true false false t i r q = inr (inl cc)
refused_number true true false true false i r q = inr (inr cc)
refused_number true true false true true i r q = let z : ◌≡◌ {A = ℕ} 0 1 = cc in absurd (omega arith)

pub read_refuses : (f : List ℕ) (at : ℕ) (r : Refusal) → read_at f at ≡ Err r → (number_of r ≡ 9) ⊎ ((number_of r ≡ 10) ⊎ (number_of r ≡ 22))
unfolding read_at
read_refuses f at r q = go (refused_number (head_right f) (leb 5 at && leb at (length f)) (eqb at (length f)) (record_whole f at) (corners_right f at) (item_at f at) r q)
  where
    go : (r ≡ NoYardFile) ⊎ ((r ≡ BrokenRecord) ⊎ (r ≡ CornerOffTheYard)) → (number_of r ≡ 9) ⊎ ((number_of r ≡ 10) ⊎ (number_of r ≡ 22))
    go (inl e) = inl (ap number_of e)
    go (inr (inl e)) = inr (inl (ap number_of e))
    go (inr (inr e)) = inr (inr (ap number_of e))

-- 0 at the end, 9, 10 or 22 at a stop
pub reads_number : {f : List ℕ} {at n stop : ℕ} {es : List Edit} → Reads f at es n stop → (n ≡ 0) ⊎ ((n ≡ 9) ⊎ ((n ≡ 10) ⊎ (n ≡ 22)))
reads_number (at_end e) = inl refl
reads_number (at_stop e) = inr (read_refuses _ _ _ e)
reads_number (onward e q) = reads_number q

not_one : (n : ℕ) → (n ≡ 0) ⊎ ((n ≡ 9) ⊎ ((n ≡ 10) ⊎ (n ≡ 22))) → n ≡ 1 → ⊥
not_one n (inl a) e = omega arith
not_one n (inr (inl a)) e = omega arith
not_one n (inr (inr (inl a))) e = omega arith
not_one n (inr (inr (inr a))) e = omega arith

-- so a 1 says that the words for the answers were too few
pub reads_not_one : {f : List ℕ} {at n stop : ℕ} {es : List Edit} → Reads f at es n stop → n ≡ 1 → ⊥
reads_not_one r = not_one _ (reads_number r)
