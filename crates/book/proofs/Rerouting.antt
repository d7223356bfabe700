-- Over right pair bytes the routes by the bytes are the routes by the places.
use mathlib.Core.Path.{◌≡◌, sym, ◌∙◌}
use mathlib.Core.List.{List}
use mathlib.Core.Bool.{true≢false, and_comm}
use Prim.Native.Nat.{ℕ, ◌<◌}
use native.Mathlib.Omega.{arith}
use native.Mathlib.Decide.{dec_lt}
use borrow.Author.Tests.{lt-ltb, le-ltb}
use Rattle.tables.specs.Tables.{Records, pair_byte, present}
use Rattle.visibility.specs.Visibility.{ByPlaces, PairIs, absent, clear, seam, hidden, PairsRight}
use Rattle.visibility.proofs.Straights.{clear_sym}
use Rattle.search.specs.Network.{ByBytes}
use Rattle.routing.specs.Routes.{RouteIs}
use Rattle.routing.proofs.Maps.{route_as}

module _ (R : Records) (pairs : List ℕ) (right : PairsRight R pairs) where
  clear_of : (i j b : ℕ) → PairIs R i j b → b ≡ 254 → ByPlaces R i j
  clear_of i j b (absent e o) q = absurd (omega arith)
  clear_of i j b (clear e c o) q = (e, c)
  clear_of i j b (seam e c o) q = absurd (omega arith)
  clear_of i j b (hidden e l h m) q = absurd (omega arith)

  byte_of : (i j b : ℕ) → PairIs R i j b → ByPlaces R i j → b ≡ 254
  byte_of i j b (absent e o) q = absurd (true≢false (sym q.0 ∙ e))
  byte_of i j b (clear e c o) q = o
  byte_of i j b (seam e c o) q = absurd (q.1.unshared c.shared)
  byte_of i j b (hidden e l h m) q = absurd (q.1.seen b l h)

  swap : (i j : ℕ) → ByPlaces R i j → ByPlaces R j i
  swap i j c = (and_comm (present R j) (present R i) ∙ c.0, clear_sym c.1)

  by_places : (v u : ℕ) → v < 240 → u < 240 → (v ≡ u → ⊥) → ByBytes pairs v u → ByPlaces R v u
  unfolding pair_byte
  by_places v u bv bu d e = go (dec_lt v u)
    where
      go : Dec (v < u) → ByPlaces R v u
      go (yes l) = clear_of v u _ (right.each v u l bu) (rw (lt-ltb v u l) at e)
      go (no l) = swap u v (clear_of u v _ (right.each u v (omega arith) bv) (rw (le-ltb v u (omega arith)) at e))

  by_bytes : (v u : ℕ) → v < 240 → u < 240 → (v ≡ u → ⊥) → ByPlaces R v u → ByBytes pairs v u
  unfolding pair_byte
  by_bytes v u bv bu d e = go (dec_lt v u)
    where
      go : Dec (v < u) → pair_byte pairs v u ≡ 254
      go (yes l) = rw (lt-ltb v u l) (byte_of v u _ (right.each v u l bu) e)
      go (no l) = rw (le-ltb v u (omega arith)) (byte_of u v _ (right.each u v (omega arith) bv) (swap v u e))

  pub route_right : (m : ℕ) (ws : List ℕ) → m < 24 → RouteIs R (ByBytes pairs) m ws → RouteIs R (ByPlaces R) m ws
  route_right m ws l = route_as R (ByBytes pairs) (ByPlaces R) by_places by_bytes m l

  pub route_bytes : (m : ℕ) (ws : List ℕ) → m < 24 → RouteIs R (ByPlaces R) m ws → RouteIs R (ByBytes pairs) m ws
  route_bytes m ws l = route_as R (ByPlaces R) (ByBytes pairs) by_bytes by_places m l
