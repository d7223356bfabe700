-- The contract of a quote can be met over any lists; by `quoted_unique` in one way only.
use mathlib.Core.Path.{◌≡◌, refl, sym}
use mathlib.Core.Logic.{inr}
use mathlib.Core.List.{List}
use Prim.Native.Nat.{ℕ}
use native.Mathlib.Decide.{ℕ_discrete}
use native.Mathlib.Omega.{arith}
use Rattle.tables.specs.Tables.{Records}
use Rattle.visibility.specs.Visibility.{ByPlaces}
use Rattle.visibility.proofs.Exists.{places_dec}
use Rattle.routing.proofs.Fits.{route_exists}
use Rattle.counter.specs.Quote.{quote_answer, RouteQuoted}
use Rattle.counter.proofs.Asking.{accepted}

pub quoted_exists : (R : Records) (m : ℕ) (route : List ℕ) → (route' : List ℕ) × RouteQuoted R m route (quote_answer R m route) route'
quoted_exists R m route = go (ℕ_discrete (quote_answer R m route) 0)
  where
    go : Dec (quote_answer R m route ≡ 0) → (route' : List ℕ) × RouteQuoted R m route (quote_answer R m route) route'
    go (no z) = (route, record { answer = refl; refused = λ n. refl; done = λ q. absurd (z q) })
    go (yes z) =
        let a = accepted R.blocks R.runs m route (sym z) in
        let w = route_exists R (ByPlaces R) (places_dec R) m (inr (omega (arith, a.present, a.sound.fit.runs.flags m a.number))) in
        (w.0, record { answer = refl; refused = λ n. absurd (n z); done = λ q. w.1 })
