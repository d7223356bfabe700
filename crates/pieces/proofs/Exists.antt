-- Every piece along places of a yard has its floats, and every row of such points its list.
use mathlib.Core.Path.{◌≡◌, refl}
use mathlib.Core.List.{List, [], ◌∷◌}
use Prim.Native.Nat.{ℕ, zero, suc, ◌+◌, ◌*◌, ◌<◌}
use native.Mathlib.Omega.{arith}
use lib.Ieee.{Float}
use lib.ListN.{length, get_or}
use Rattle.geometry.specs.Words.{Point}
use Rattle.geometry.specs.inner.Bounds.{InRange}
use Rattle.curves.specs.Curve.{bend_at, whole, At}
use Rattle.curves.proofs.Exists.{HasSpot, bend_spot_exists, whole_spot_exists}
use Rattle.pieces.specs.declared.DrawnPiece.{DrawnPiece}
use Rattle.pieces.specs.declared.DrawnPiece.TheVariants.{Straight, Bend}
use Rattle.std.specs.Prelude.{Option, None, Some}
use Rattle.pieces.specs.Pieces.{Shape, nothing, straight, bend, pieces_from, pieces}
use Rattle.pieces.specs.Showing.{Shows, shows_nothing, shows_straight, shows_bend, spot_in, Row, origin, bend_points}

abbrev AllIn : List Point → Type 0
AllIn [] = Unit
AllIn (p ∷ ps) = InRange p × AllIn ps

-- the points of a piece have their floats
abbrev pub Held : Shape → Type 0
Held nothing = Unit
Held (straight a b) = HasSpot a × HasSpot b
Held (bend a p c) = InRange a × InRange p × InRange c

held_from : (s : Point) (ps : List Point) → HasSpot s → AllIn ps → (k : ℕ) → Held (get_or (pieces_from s ps) k nothing)
unfolding pieces_from
held_from s [] h g k = tt
held_from s (a ∷ []) h g k = tt
held_from s (a ∷ b ∷ []) h g zero = (h, whole_spot_exists b g.1.0)
held_from s (a ∷ b ∷ []) h g (suc k) = tt
held_from s (a ∷ p ∷ c ∷ ps) h g zero = (h, bend_spot_exists a p c 0 (omega arith) g.0 g.1.0 g.1.1.0)
held_from s (a ∷ p ∷ c ∷ ps) h g (suc zero) = (g.0, g.1.0, g.1.1.0)
held_from s (a ∷ p ∷ c ∷ ps) h g (suc (suc k)) =
    held_from (bend_at a p c 8) (p ∷ c ∷ ps) (bend_spot_exists a p c 8 (omega arith) g.0 g.1.0 g.1.1.0) g.1 k

pub all_in : (ps : List Point) (d : Point) → ((i : ℕ) → i < length ps → InRange (get_or ps i d)) → AllIn ps
all_in [] d h = tt
all_in (p ∷ ps) d h = (h 0 (omega arith), all_in ps d (λ i l. h (suc i) (omega arith)))

pub piece_held : (ps : List Point) → AllIn ps → (k : ℕ) → Held (get_or (pieces ps) k nothing)
unfolding pieces
piece_held [] g k = tt
piece_held (a ∷ ps) g k = held_from (whole a) (a ∷ ps) (whole_spot_exists a g.0) g k

pub shows_exists : (p : Shape) → Held p → (r : Option DrawnPiece) × Shows p r
shows_exists nothing h = (None, shows_nothing)
shows_exists (straight a b) h = (Some (Straight h.0.0 h.1.0), shows_straight h.0.1 h.1.1)
shows_exists (bend a p c) h =
    let s = bend_spot_exists a p c 0 (omega arith) h.0 h.1 h.2 in
    let q = whole_spot_exists p h.1 in
    let t = bend_spot_exists a p c 8 (omega arith) h.0 h.1 h.2 in
    (Some (Bend s.0 q.0 t.0), shows_bend s.1 q.1 t.1)

-- ---- rows of spots
pub row_exists : (f : ℕ → Point) (n : ℕ) → ((j : ℕ) → j < n → HasSpot (f j)) → (xs : List Float) × Row f n xs
row_exists f zero h = ([], record { sized = refl; each = λ j l. absurd (omega arith) })
row_exists f (suc n) h = let r = row_exists (λ j. f (suc j)) n (λ j l. h (suc j) (omega arith)) in more (h 0 (omega arith)) r.0 r.1
  where
    more : HasSpot (f 0) → (xs : List Float) → Row (λ j. f (suc j)) n xs → (ys : List Float) × Row f (suc n) ys
    more s xs r = (s.0.east ∷ s.0.north ∷ xs, record { sized = omega (arith, r.sized); each = each })
      where
        each : (j : ℕ) → j < suc n → At (f j) (spot_in (s.0.east ∷ s.0.north ∷ xs) j)
        each zero l = s.1
        each (suc j) l =
            let n : 2 * suc j + 1 ≡ suc (suc (2 * j + 1)) = omega arith in
            let e : 2 * suc j ≡ suc (suc (2 * j)) = omega arith in
            rw (n, e) (r.each j (omega arith))

pub origin_exists : HasSpot origin
unfolding whole
origin_exists = whole_spot_exists origin (record { east = omega arith; north = omega arith })

pub bend_points_exist : (p : Shape) → Held p → (xs : List Float) × Row (bend_points p) 9 xs
bend_points_exist nothing h = row_exists _ 9 (λ j l. origin_exists)
bend_points_exist (straight a b) h = row_exists _ 9 (λ j l. origin_exists)
bend_points_exist (bend a p c) h = row_exists _ 9 (λ j l. bend_spot_exists a p c j (omega arith) h.0 h.1 h.2)
