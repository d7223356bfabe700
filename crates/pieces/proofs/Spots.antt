-- Where the straights and bends at a route's marks begin and end.
use mathlib.Core.Path.{◌≡◌}
use mathlib.Core.List.{List}
use Prim.Native.Nat.{ℕ, ◌+◌}
use borrow.Author.Tests.{eq-eqb, ne_eqb}
use Rattle.geometry.specs.Words.{Point, word}
use Rattle.tables.specs.Tables.{Records, place_of}
use Rattle.curves.specs.declared.Spot.{Spot}
use Rattle.curves.specs.Curve.{whole, At}
use Rattle.pieces.specs.inner.Steps.{mark_place, turn_at, leaving, reaching}

module _ (R : Records) (ws : List ℕ) (i : ℕ) where
  pub mark_is : (x : Point) → x ≡ place_of R (word ws (3 + i)) → x ≡ mark_place R ws i
  unfolding mark_place
  mark_is x e = e

  pub whole_mark : (p : Point) (s : Spot) → p ≡ mark_place R ws i → At (whole p) s → At (whole (mark_place R ws i)) s
  whole_mark p s e x = rw e at x

  pub leave_first : (p : Point) (s : Spot) → i ≡ 0 → p ≡ mark_place R ws i → At (whole p) s → At (leaving R ws i) s
  unfolding leaving
  leave_first p s z e x = rw (eq-eqb i 0 z) (whole_mark p s e x)

  pub leave_later : (s : Spot) → (i ≡ 0 → ⊥) → At (turn_at R ws i 8) s → At (leaving R ws i) s
  unfolding leaving
  leave_later s z x = rw (ne_eqb i 0 z) x

  pub reach_last : (p : Point) (s : Spot) → i + 1 ≡ word ws 2 → p ≡ mark_place R ws i → At (whole p) s → At (reaching R ws i) s
  unfolding reaching
  reach_last p s z e x = rw (eq-eqb (i + 1) (word ws 2) z) (whole_mark p s e x)

  pub reach_inner : (s : Spot) → (i + 1 ≡ word ws 2 → ⊥) → At (turn_at R ws i 0) s → At (reaching R ws i) s
  unfolding reaching
  reach_inner s z x = rw (ne_eqb (i + 1) (word ws 2) z) x
