-- Laws of the search for overlapping blocks, of each of its answers.
use mathlib.Core.Bool.{Bool}
use mathlib.Core.List.{List}
use Prim.Native.Nat.{ℕ, ◌<◌, ◌≤◌}
use Rattle.std.specs.Prelude.{Option, Some, None}
use Rattle.lists.specs.inner.Tells.{Tells}
use Rattle.geometry.specs.Words.{Point, block_words, corners}
use Rattle.geometry.specs.Obstruction.{Hidden}
use Rattle.geometry.specs.Overlap.{Overlaps}
use Rattle.geometry.specs.inner.Overlapping.{FirstOverlapping}
use Rattle.geometry.proofs.Searching.{part, part_is, passed_over}

pub part_overlaps : (t : List ℕ) (n : ℕ) (a b : Point) {c : Bool} → Tells (Overlaps (corners (part t n)) a b) c → Tells (Overlaps (corners (block_words t n)) a b) c
part_overlaps t n a b h = rw (part_is t n) at h

-- how far the search got
abbrev pub reached : ℕ → Option ℕ → ℕ
reached to None = to
reached to (Some n) = n

-- none of the blocks that it passed hides the segment
pub none_passed : (blocks : List ℕ) (a b : Point) (from to : ℕ) (n : Option ℕ) → FirstOverlapping blocks from to a b n → (k : ℕ) → from ≤ k → k < reached to n → Hidden blocks k a b → ⊥
none_passed blocks a b from to (Some n) f = passed_over blocks a b from n f.passed
none_passed blocks a b from to None f = passed_over blocks a b from to f
