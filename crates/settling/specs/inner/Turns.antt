-- What settling one mark makes of the list of three parts, its keys and its sums.
use Rattle.std.specs.Prelude.{◌≡◌, List, ℕ, ◌+◌, ◌-◌, ◌≤◌, ◌<◌, set}
use Rattle.geometry.specs.Words.{word}
use Rattle.tables.specs.Tables.{Records, first_end, second_end}
use Rattle.search.specs.Network.{graph}
use Rattle.search.specs.inner.LowerBound.{lower_bound}
use Rattle.search.specs.inner.Keys.{weight, Open}
use Rattle.search.specs.inner.Parts.{Here, Parted, Lowered, Passed}

-- the second end of run m is settled, with the key 0; r of the n that wait are not reached
abbrev pub EndSettled : Records → (ℕ → ℕ → Type 0) → ℕ → List ℕ → List ℕ → List ℕ → List ℕ → List ℕ → List ℕ → List ℕ → ℕ → ℕ → Type 0
EndSettled R Clear m waiting spot key waiting' spot' key' sums' r n =
    Passed (lower_bound R (first_end m)) (λ v. weight (graph R Clear) v (second_end m) + 0) (λ v. (graph R Clear).Edge v (second_end m)) waiting spot (set key (second_end m) 0) waiting' spot' key' sums' r n

-- the mark at a place of the list may be settled: it is reached, and is a corner
pub record Due (waiting key : List ℕ) (u n at : ℕ) : Type 0 where
  pub from : u ≤ at
  pub before : at < n
  pub corner : word waiting at < 192
  pub small : word key (word waiting at) ≤ 4294967293

-- the mark at a place of the list, where n were waiting, is settled, and r of those that wait are not reached
pub record Turned (R : Records) (Clear : ℕ → ℕ → Type 0) (m : ℕ) (waiting spot key waiting' spot' key' sums' : List ℕ) (at n r : ℕ) : Type 0 where
  pub parted : Parted (lower_bound R (first_end m)) waiting' spot' key' sums' r (n - 1)
  pub was_open : (v : ℕ) → Open waiting' (n - 1) v → Open waiting n v
  pub still_open : (v : ℕ) → (v ≡ word waiting at → ⊥) → Open waiting n v → Open waiting' (n - 1) v
  pub here : (v : ℕ) → Here waiting spot v → Here waiting' spot' v
  pub keys : Lowered key key' (λ v. Open waiting' (n - 1) v × (graph R Clear).Edge v (word waiting at)) (λ v. weight (graph R Clear) v (word waiting at) + word key (word waiting at))
