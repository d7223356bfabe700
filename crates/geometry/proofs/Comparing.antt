-- The four conditions that the code asks for, and that they are the overlap of the rectangles.
use mathlib.Core.Path.{◌≡◌, refl, ap}
use mathlib.Core.List.{List, [], ◌∷◌}
use Prim.Native.Nat.{ℕ, ◌+◌, ◌*◌, ◌<◌, min, max}
use native.Mathlib.Omega.{arith}
use lib.ListN.{length}
use Rattle.coordinates.proofs.Scanning.{some_at}
use Rattle.geometry.specs.Words.{Point, word, corners}
use Rattle.geometry.specs.Obstruction.{corner_at}
use Rattle.geometry.specs.Overlap.{Abreast, Overlaps}
use Rattle.geometry.specs.inner.Overlapping.{Across}
use Rattle.geometry.proofs.Corners.{places_length, corner_is}
use Rattle.geometry.proofs.Extremes.{least_at, greatest_at, least_found, greatest_found, least_two, greatest_two}

-- along a coordinate, whose words stand from word i on
module _ (ws : List ℕ) (a b : Point) (c : Point → ℕ) (i : ℕ) (reads : (k : ℕ) → k < word ws 0 → c (corner_at (corners ws) k) ≡ word ws (2 * k + i)) where
  counted : length (corners ws) ≡ word ws 0
  counted = places_length ws 1 (word ws 0)

  -- the two conditions that the code asks for are the overlap along the coordinate
  across_abreast : Across ws i (c a) (c b) → Abreast c (corners ws) (a ∷ b ∷ [])
  across_abreast h =
      let r = h.0 in
      let s = h.1 in (
        omega (arith, s.past, reads s.at s.within, least_at c (corners ws) s.at (omega (arith, s.within, counted)), greatest_two c a b),
        omega (arith, r.past, reads r.at r.within, greatest_at c (corners ws) r.at (omega (arith, r.within, counted)), least_two c a b),
      )

  abreast_across : Abreast c (corners ws) (a ∷ b ∷ []) → Across ws i (c a) (c b)
  abreast_across o =
      let r = greatest_found c (corners ws) (min (c a) (c b)) (omega (arith, o.1, least_two c a b)) in
      let k : r.0 < word ws 0 = omega (arith, r.1, counted) in
      let z = greatest_found c (corners ws) _ o.1 in
      let s = least_found c (corners ws) (max (c a) (c b)) (omega (arith, z.1)) (omega (arith, o.0, greatest_two c a b)) in
      let l : s.0 < word ws 0 = omega (arith, s.1, counted) in
      (some_at r.0 _ k refl (omega (arith, r.2, reads r.0 k)), some_at s.0 _ l refl (omega (arith, s.2, reads s.0 l)))

module _ (ws : List ℕ) (a b : Point) where
  abbrev east : Point → ℕ
  east p = p.east

  abbrev north : Point → ℕ
  north p = p.north

  east_read : (k : ℕ) → k < word ws 0 → east (corner_at (corners ws) k) ≡ word ws (2 * k + 1)
  east_read k h = ap east (corner_is ws k h)

  north_read : (k : ℕ) → k < word ws 0 → north (corner_at (corners ws) k) ≡ word ws (2 * k + 2)
  north_read k h = ap north (corner_is ws k h)

  pub overlaps_of : Across ws 1 a.east b.east → Across ws 2 a.north b.north → Overlaps (corners ws) a b
  unfolding Overlaps
  overlaps_of e n = (across_abreast ws a b east 1 east_read e, across_abreast ws a b north 2 north_read n)

  pub of_overlaps : Overlaps (corners ws) a b → Across ws 1 a.east b.east × Across ws 2 a.north b.north
  unfolding Overlaps
  of_overlaps o = (abreast_across ws a b east 1 east_read o.0, abreast_across ws a b north 2 north_read o.1)
