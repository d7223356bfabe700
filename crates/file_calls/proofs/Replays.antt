-- The answers of the exported replay.
use mathlib.Core.Path.{◌≡◌}
use mathlib.Core.List.{List, [], ◌∷◌}
use Prim.Native.Nat.{ℕ, ◌≤◌}
use native.Mathlib.Omega.{arith}
use lib.ListN.{length}
use Rattle.tables.specs.Tables.{Tables}
use Rattle.replay.specs.Replay.{Replayed, too_short, whole}
use Rattle.replay.proofs.Numbers.{reads_not_one}
use Rattle.replay.proofs.Drawn.{replayed_whole}
use Rattle.file_calls.specs.Replaying.{ReplayedInto, wrong_lengths, the_replay}

pub no_end : (f old end : List ℕ) (T : Tables) → (length end ≡ 2 → ⊥) → ReplayedInto f T old end 1 old end T
no_end f old end T h = wrong_lengths (λ l. h l.1)

pub no_room : (f old ws end : List ℕ) (T T' : Tables) (count number at : ℕ) → Replayed f T old ws count number at T' → number ≡ 1
    → ReplayedInto f T old end 1 ws end T'
no_room f old _ end T _ _ _ _ (too_short s) e = wrong_lengths (λ l. let h = l.0 in omega arith)
no_room f old ws end T T' count number at (whole l p) e = absurd (reads_not_one p.reads e)

pub replay_ends : (f old ws end new : List ℕ) (T T' : Tables) (count number at : ℕ) → length end ≡ 2 → 4096 ≤ length old
    → Replayed f T old ws count number at T' → new ≡ count ∷ at ∷ [] → ReplayedInto f T old end number ws new T'
replay_ends f old ws end new T T' count number at l r p e = rw e (the_replay r l (replayed_whole r p))
