-- What the calls that fill lists leave.
use mathlib.Core.Path.{◌≡◌, refl, sym, ap, ◌∙◌}
use mathlib.Core.Bool.{true, false, ◌&&◌, and-false}
use mathlib.Core.List.{List, [], ◌∷◌}
use Prim.Native.Nat.{ℕ, zero, suc, ◌*◌, ◌<◌}
use native.Mathlib.Omega.{arith}
use lib.Dec.{eqb}
use lib.Ieee.{Float}
use lib.ListN.{length}
use borrow.Author.Tests.{eq-eqb, ne_eqb}
use Rattle.geometry.specs.Words.{Point}
use Rattle.tables.specs.Tables.{Tables, records, route_words}
use Rattle.curves.specs.declared.Spot.{Spot}
use Rattle.pieces.specs.declared.DrawnPiece.{DrawnPiece}
use Rattle.pieces.specs.declared.DrawnPiece.TheVariants.{Straight, Bend}
use Rattle.curves.specs.Curve.{At}
use Rattle.pieces.specs.Pieces.{Shape, nothing, straight, bend, piece_at}
use Rattle.pieces.specs.Showing.{Shows, shows_nothing, shows_straight, shows_bend, origin, spot_in, Row}
use Rattle.pieces.specs.inner.Steps.{Put}
use Rattle.drawn_routes.specs.Calls.{Asked, Pieced}
use Rattle.std.specs.Prelude.{Option, None, Some, Ok}
use Rattle.drawn_routes.specs.Lists.{piece_points, kind_of, Filled, PieceFilled}
use Rattle.drawn_routes.specs.inner.Spots.{Three}
use Rattle.drawn_routes.proofs.Asking.{asked_own, asked_lists}

pub three_put : (xs ys zs ws : List Float) (a b c : Spot) → length xs ≡ 6 → Put xs 0 a ys → Put ys 1 b zs → Put zs 2 c ws → Three a b c ws
three_put xs ys zs ws a b c e p q r =
    record {
      sized = r.sized ∙ q.sized ∙ p.sized ∙ e;
      first = r.kept 0 (λ z. omega arith) ∙ q.kept 0 (λ z. omega arith) ∙ p.here;
      second = r.kept 1 (λ z. omega arith) ∙ q.here;
      third = r.here;
    }

three_row : (f : ℕ → Point) (a b c : Spot) (xs : List Float) → Three a b c xs → At (f 0) a → At (f 1) b → At (f 2) c → Row f 3 xs
three_row f a b c xs t x y z = record { sized = t.sized; each = each }
  where
    each : (j : ℕ) → j < 3 → At (f j) (spot_in xs j)
    each zero h = rw t.first x
    each (suc zero) h = rw t.second y
    each (suc (suc zero)) h = rw t.third z
    each (suc (suc (suc j))) h = absurd (omega arith)

module _ (n : ℕ) (kind : Shape → ℕ) (row : Shape → ℕ → Point) (T : Tables) (m k : ℕ) (w : List ℕ) (xs : List Float) where
  abbrev Done : ℕ → List ℕ → List Float → Type 0
  Done r w' xs' = Filled n kind row T m k w xs r w' xs'

  abbrev shape : Shape
  shape = piece_at (records T) (route_words T.routes m) k

  wrong : eqb (length w) 1 && eqb (length xs) (2 * n) ≡ false → Done 1 w xs
  wrong e = record { asked = asked_lists _ T m e; refused = λ z. (refl, refl); done = λ z. absurd (omega arith) }

  pub into_kind : (length w ≡ 1 → ⊥) → Done 1 w xs
  into_kind h = wrong (rw (ne_eqb (length w) 1 h))

  pub into_points : (length xs ≡ 2 * n → ⊥) → Done 1 w xs
  into_points h = wrong (rw (ne_eqb (length xs) (2 * n) h) (and-false (eqb (length w) 1)))

  module _ (ew : length w ≡ 1) (ex : length xs ≡ 2 * n) where
    both : eqb (length w) 1 && eqb (length xs) (2 * n) ≡ true
    both = rw (eq-eqb (length w) 1 ew, eq-eqb (length xs) (2 * n) ex)

    into_no : (v : ℕ) → Asked true T m v → (v ≡ 0 → ⊥) → Done v w xs
    into_no v a z = record { asked = asked_own _ T m v both a; refused = λ h. (refl, refl); done = λ h. absurd (z h) }

    into_done : (v : ℕ) (w' : List ℕ) (xs' : List Float) → Asked true T m v → v ≡ 0 → w' ≡ kind shape ∷ [] → Row (row shape) n xs' → Done 0 w' xs'
    into_done v w' xs' a z e r = record { asked = asked_own _ T m 0 both (rw z at a); refused = λ h. absurd (h refl); done = λ h. (e, r) }

none_row : (p : Shape) (o : Spot) (xs : List Float) → Shows p None → Three o o o xs → At origin o → (kind_of p ≡ 0) × Row (piece_points p) 3 xs
none_row p o xs shows_nothing t z = (refl, three_row (piece_points nothing) o o o xs t z z z)

straight_row : (p : Shape) (s t o : Spot) (xs : List Float) → Shows p (Some (Straight s t)) → Three s t o xs → At origin o → (kind_of p ≡ 1) × Row (piece_points p) 3 xs
straight_row p s t o xs (shows_straight {a} {b} x y) h z = (refl, three_row (piece_points (straight a b)) s t o xs h x y z)

bend_row : (p : Shape) (s q t : Spot) (xs : List Float) → Shows p (Some (Bend s q t)) → Three s q t xs → (kind_of p ≡ 2) × Row (piece_points p) 3 xs
bend_row p s q t xs (shows_bend {a = a} {p = b} {c = c} x y z) h = (refl, three_row (piece_points (bend a b c)) s q t xs h x y z)

none_of : (d : Option DrawnPiece) → ((x : DrawnPiece) → d ≡ Some x → ⊥) → d ≡ None
none_of None n = refl
none_of (Some x) n = absurd (n x refl)

module _ (T : Tables) (m k : ℕ) (w : List ℕ) (xs : List Float) (ew : length w ≡ 1) where
  abbrev piece : Shape
  piece = piece_at (records T) (route_words T.routes m) k

  module _ (ex : length xs ≡ 6) where
    filled : (d : Option DrawnPiece) → Pieced T m k (Ok d) → (w' : List ℕ) (xs' : List Float) (n : ℕ) → w' ≡ n ∷ [] → (kind_of piece ≡ n) × Row (piece_points piece) 3 xs' → PieceFilled T m k w xs 0 w' xs'
    filled d h w' xs' n e r = into_done 3 kind_of piece_points T m k w xs ew ex 0 w' xs' h.asked refl (e ∙ ap (λ (i : ℕ). i ∷ []) (sym r.0)) r.1

    pub piece_none : {d : Option DrawnPiece} {o : Spot} {w' : List ℕ} {xs' : List Float} → Pieced T m k (Ok d) → ((x : DrawnPiece) → d ≡ Some x → ⊥) → w' ≡ 0 ∷ [] → Three o o o xs' → At origin o → PieceFilled T m k w xs 0 w' xs'
    piece_none {d} {o} {w'} {xs'} h n f t z = filled d h w' xs' 0 f (none_row piece o xs' (rw (none_of d n) at h.drawn) t z)

    pub piece_straight : {d : DrawnPiece} {s t o : Spot} {w' : List ℕ} {xs' : List Float} → Pieced T m k (Ok (Some d)) → d ≡ Straight s t → w' ≡ 1 ∷ [] → Three s t o xs' → At origin o → PieceFilled T m k w xs 0 w' xs'
    piece_straight {d} {s} {t} {o} {w'} {xs'} h e f r z = filled (Some d) h w' xs' 1 f (straight_row piece s t o xs' (rw e at h.drawn) r z)

    pub piece_bend : {d : DrawnPiece} {s q t : Spot} {w' : List ℕ} {xs' : List Float} → Pieced T m k (Ok (Some d)) → d ≡ Bend s q t → w' ≡ 2 ∷ [] → Three s q t xs' → PieceFilled T m k w xs 0 w' xs'
    piece_bend {d} {s} {q} {t} {w'} {xs'} h e f r = filled (Some d) h w' xs' 2 f (bend_row piece s q t xs' (rw e at h.drawn) r)
