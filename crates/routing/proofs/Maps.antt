-- Where two notions of a clear straight agree between marks, they give the same routes.
use mathlib.Core.Path.{◌≡◌}
use mathlib.Core.List.{List}
use Prim.Native.Nat.{ℕ, ◌<◌}
use native.Mathlib.Omega.{arith}
use Rattle.paths.specs.Path.{Chain}
use Rattle.paths.proofs.Maps.{chain_map}
use Rattle.tables.specs.Tables.{Records, first_end, second_end}
use Rattle.search.specs.Network.{graph}
use Rattle.search.proofs.Network.{corner_below}
use Rattle.routing.specs.Routes.{RouteIs, no_run, found, no_way}

-- between different marks, each clear straight of C is one of D
abbrev Within : (ℕ → ℕ → Type 0) → (ℕ → ℕ → Type 0) → Type 0
Within C D = (v u : ℕ) → v < 240 → u < 240 → (v ≡ u → ⊥) → C v u → D v u

chain_as : (R : Records) (C D : ℕ → ℕ → Type 0) → Within C D → (m : ℕ) → m < 24 → (us : List ℕ)
    → Chain (graph R C) (second_end m) (first_end m) us → Chain (graph R D) (second_end m) (first_end m) us
chain_as R C D f m l us =
    chain_map (graph R C) (graph R D) (second_end m) (λ v. v < 240) (omega arith) (λ u i. (i, omega (arith, corner_below R.blocks u i)))
    (λ v u a b e. (e.0, f v u a b e.0 e.1)) (omega arith)

pub route_as : (R : Records) (C D : ℕ → ℕ → Type 0) → Within C D → Within D C → (m : ℕ) → m < 24 → {ws : List ℕ} → RouteIs R C m ws → RouteIs R D m ws
route_as R C D f g m l (no_run e) = no_run e
route_as R C D f g m l (found e us r) = found e us (record { chain = chain_as R C D f m l us r.chain; best = λ vs c. r.best vs (chain_as R D C g m l vs c) })
route_as R C D f g m l (no_way e n) = no_way e (λ vs c. n vs (chain_as R D C g m l vs c))
