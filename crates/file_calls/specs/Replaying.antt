-- What the exported replay answers and leaves: the outcome of the replay under it as a number and two lent words. Rule 31.
use Rattle.std.specs.Prelude.{◌≡◌, List, [], ◌∷◌, ℕ, ◌≤◌, length}
use Rattle.tables.specs.Tables.{Tables}
use Rattle.replay.specs.Replay.{EditsCalled}

-- replaying file f over tables T, with lists lent for the answers and for the end: the number of the stop, and as the end's words how many edits
-- were called and the position there; 1 where a list has another length than it must, and everything is kept
pub data ReplayedInto (f : List ℕ) (T : Tables) (oldAnswers oldEnd : List ℕ) : ℕ → List ℕ → List ℕ → Tables → Type 0 where
  wrong_lengths : ((4096 ≤ length oldAnswers) × (length oldEnd ≡ 2) → ⊥) → ReplayedInto f T oldAnswers oldEnd 1 oldAnswers oldEnd T
  the_replay : {answers : List ℕ} {count number at : ℕ} {T' : Tables} → 4096 ≤ length oldAnswers → length oldEnd ≡ 2
      → EditsCalled f T oldAnswers answers count number at T' → ReplayedInto f T oldAnswers oldEnd number answers (count ∷ at ∷ []) T'
