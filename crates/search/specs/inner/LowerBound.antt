-- The lower bound of the search: how far each mark is from the first end at least. No root is needed.
use Rattle.std.specs.Prelude.{ℕ, ◌+◌, ◌*◌, ◌/◌, max, min}
use Rattle.geometry.specs.Words.{Point}
use Rattle.lengths.specs.Length.{gap}
use Rattle.tables.specs.Tables.{Records, place_of}

-- 256 × the longest projection of a straight on five directions, or a little less, by its larger and its smaller difference
unfoldable pub projection : ℕ → ℕ → ℕ
projection hi lo = max (max (max (256 * hi) (250 * hi + 55 * lo)) (236 * hi + 99 * lo)) (max (213 * hi + 142 * lo) (181 * hi + 181 * lo))

-- a whole number that the straight from p to q is at least as long as
unfoldable pub at_least : Point → Point → ℕ
unfolding projection
at_least p q =
    projection (max (gap p.east q.east) (gap p.north q.north)) (min (gap p.east q.east) (gap p.north q.north)) / 256

unfoldable pub lower_bound : Records → ℕ → ℕ → ℕ
unfolding at_least
lower_bound R start v = at_least (place_of R start) (place_of R v)
