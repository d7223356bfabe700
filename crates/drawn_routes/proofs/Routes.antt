-- A right route record can be drawn, and what `piece` answers of it.
use mathlib.Core.Path.{◌≡◌, refl}
use mathlib.Core.Bool.{Bool, true}
use mathlib.Core.List.{List}
use Prim.Native.Nat.{ℕ, zero, suc, ◌+◌, ◌*◌, ◌-◌, ◌<◌, ◌≤◌}
use native.Mathlib.Omega.{arith}
use borrow.Author.Tests.{eq-eqb, ne_eqb}
use lib.Ieee.{Float}
use lib.ListN.{length, get_or, take, drop, get_or-append}
use Rattle.geometry.specs.Words.{word}
use Rattle.paths.specs.Path.{Chain, last, more}
use Rattle.tables.specs.Tables.{Records, Tables, tables, stored, second_end}
use Rattle.routing.specs.Routes.{RouteIs, no_run, found, no_way}
use Rattle.routing.proofs.Written.{lent_part}
use Rattle.routing.proofs.Fits.{route_short, record_length}
use Rattle.search.specs.Network.{graph}
use Rattle.search.proofs.Network.{corner_below}
use Rattle.pieces.specs.declared.DrawnPiece.{DrawnPiece}
use Rattle.pieces.specs.Pieces.{piece_at}
use Rattle.pieces.specs.Showing.{Shows, Bent}
use Rattle.pieces.specs.inner.Steps.{Drawable}
use Rattle.drawn_routes.specs.Calls.{Asked, Pieced, Curved}
use Rattle.std.specs.Prelude.{Option, Ok, Err}
use Rattle.refusals.specs.declared.Refusal.TheVariants.{WrongLengths}
use Rattle.drawn_routes.proofs.Asking.{accepted, asked_own, asked_lists}

chain_below : (R : Records) (Clear : ℕ → ℕ → Type 0) (end : ℕ) {v : ℕ} {us : List ℕ} → Chain (graph R Clear) end v us → v < 240 → end < 240
    → (i : ℕ) → i < length us → get_or us i 0 < 240
chain_below R Clear end (last e) a b zero h = a
chain_below R Clear end (last e) a b (suc zero) h = b
chain_below R Clear end (last e) a b (suc (suc i)) h = absurd (omega arith)
chain_below R Clear end (more n e ch) a b zero h = a
chain_below R Clear end (more {u = u} n e ch) a b (suc i) h = chain_below R Clear end ch (omega (arith, corner_below R.blocks u n)) b i (omega arith)

module _ (R : Records) (Clear : ℕ → ℕ → Type 0) (m : ℕ) (l : m < 24) (eb : length R.blocks ≡ 408) (er : length R.runs ≡ 121) where
  counted : {ws : List ℕ} → RouteIs R Clear m ws → word ws 2 ≤ 194
  counted (no_run e) = omega arith
  counted (found e us r) = route_short R Clear m us r
  counted (no_way e n) = omega arith

  marked : {ws : List ℕ} → RouteIs R Clear m ws → (i : ℕ) → i < word ws 2 → word ws (3 + i) < 240
  marked (no_run e) i h = absurd (omega arith)
  marked (no_way e n) i h = absurd (omega arith)
  marked (found e us r) i h =
      let q : 3 + i ≡ suc (suc (suc i)) = omega arith in
      rw (q, get_or-append us _ 0 i h) (chain_below R Clear (second_end m) r.chain (omega arith) (omega arith) i h)

  pub drawable : {ws : List ℕ} → RouteIs R Clear m ws → Drawable R ws
  drawable r = record { blocks = eb; runs = er; sized = record_length R Clear m r; count = counted r; marks = marked r }

pub curved_lists : (T : Tables) (m k : ℕ) (xs : List Float) → (length xs ≡ 18 → ⊥) → Curved T m k xs (Err WrongLengths) xs
curved_lists T m k xs n = record { asked = asked_lists _ T m (ne_eqb _ _ n); refused = λ z. refl; done = tt }

module _ (b r p s t : List ℕ) (m : ℕ) where
  module _ (a : Asked true (tables b r p s t) m 0) where
    pub part_end : 197 * m + 197 ≤ length s
    part_end = let g = accepted true _ m 0 a refl in omega (arith, g.below, g.sized.routes)

    pub part_drawable : Drawable (stored b r) (take (197 * m + 197 - 197 * m) (drop (197 * m) s))
    part_drawable =
        let g = accepted true _ m 0 a refl in
        rw (lent_part s m) (drawable (stored b r) _ m g.below g.sized.blocks g.sized.runs (g.right.routes m g.below))

    pub piece_drawn : (k : ℕ) (d : Option DrawnPiece) → Shows (piece_at (stored b r) (take (197 * m + 197 - 197 * m) (drop (197 * m) s)) k) d → Pieced (tables b r p s t) m k (Ok d)
    piece_drawn k d x = record { asked = a; drawn = rw (lent_part s m) at x }

    pub curved_done : (k : ℕ) (d : Bool) (xs ys : List Float) → length xs ≡ 18 → Bent (piece_at (stored b r) (take (197 * m + 197 - 197 * m) (drop (197 * m) s)) k) d ys
        → Curved (tables b r p s t) m k xs (Ok d) ys
    curved_done k d xs ys e x = record { asked = asked_own _ _ m 0 (eq-eqb _ _ e) a; refused = λ n. absurd (n refl); done = rw (lent_part s m) at x }
