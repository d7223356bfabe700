-- Some word of a few is past a limit.
use mathlib.Core.Path.{◌≡◌, refl, subst}
use mathlib.Core.Bool.{Bool}
use mathlib.Core.List.{List}
use Prim.Native.Nat.{ℕ, ◌+◌, ◌*◌, ◌-◌, ◌<◌, ◌≤◌}
use native.Mathlib.Decide.{dec_lt}
use native.Mathlib.Omega.{arith}
use Rattle.lists.specs.inner.Tells.{Tells}
use Rattle.lists.proofs.Telling.{tells_as}
use Rattle.coordinates.specs.declared.Limit.{Limit}
use Rattle.coordinates.specs.inner.Scans.{WordPast, SomePast}

pub some_at : {ws : List ℕ} {m i : ℕ} {limit : Limit} (k x : ℕ) → k < m → x ≡ 2 * k + i → WordPast ws limit x → SomePast ws m i limit
some_at {ws} {limit} k x h e a = record { at = k; within = h; past = subst (WordPast ws limit) e a }

-- the corners of a record with four or more: the first four or the last four
pub any_told : (ws : List ℕ) (limit : Limit) (m i : ℕ) {t : Bool} → 4 ≤ m → m ≤ 8 → (SomePast ws 4 i limit → ⊥)
    → Tells (SomePast ws 4 (2 * (m - 4) + i) limit) t → Tells (SomePast ws m i limit) t
any_told ws limit m i o n f =
    tells_as (λ s. some_at (s.at + (m - 4)) (2 * s.at + (2 * (m - 4) + i)) (omega (arith, s.within)) (omega arith) s.past) (λ s. each s.at s.within s.past)
  where
    each : (k : ℕ) → k < m → WordPast ws limit (2 * k + i) → SomePast ws 4 (2 * (m - 4) + i) limit
    each k l a =
        elim (dec_lt k 4) [
          | yes r ↦ absurd (f (some_at k (2 * k + i) r refl a))
          | no r ↦ some_at (k - (m - 4)) (2 * k + i) (omega arith) (omega arith) a
        ]
