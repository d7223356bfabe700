-- What the check of the route records answers.
use mathlib.Core.Path.{◌≡◌, ap}
use mathlib.Core.Bool.{Bool, true, false, not}
use mathlib.Core.List.{List}
use Prim.Native.Nat.{ℕ, ◌+◌, ◌-◌, ◌*◌, ◌<◌, ◌≤◌}
use native.Mathlib.Omega.{arith}
use lib.ListN.{take, drop}
use Rattle.lists.specs.inner.Tells.{Tells}
use Rattle.lists.proofs.Telling.{tells_yes, tells_no, tells_as, told, denied}
use Rattle.tables.specs.Tables.{Records, route_words}
use Rattle.search.specs.Network.{ByBytes}
use Rattle.routing.specs.Routes.{RouteIs, Routed}
use Rattle.routing.proofs.Unique.{route_unique}
use Rattle.routing.proofs.Written.{Upto, upto_more, upto_all}

-- a record is right exactly where it is the one due
pub route_told : (R : Records) (Clear : ℕ → ℕ → Type 0) (m : ℕ) (ws due : List ℕ) (t : Bool) → RouteIs R Clear m due → Tells (ws ≡ due) t → Tells (RouteIs R Clear m ws) t
route_told R Clear m ws due t r a = tells_as (λ e. rw e r) (λ h. route_unique R Clear m h r) a

module _ (R : Records) (pairs routes : List ℕ) (m : ℕ) where
  lent : take (197 * m + 197 - 197 * m) (drop (197 * m) routes) ≡ route_words routes m
  lent = let e : 197 * m + 197 - 197 * m ≡ 197 = omega arith in ap (λ (k : ℕ). take k (drop (197 * m) routes)) e

  module _ (t : Bool) (a : Tells (RouteIs R (ByBytes pairs) m (take (197 * m + 197 - 197 * m) (drop (197 * m) routes))) t) where
    pub right_next : not t ≡ false → Upto R pairs routes m → Upto R pairs routes (m + 1)
    right_next e u = upto_more R pairs routes m u (rw lent at (told a e))

    pub routes_no : m < 24 → not t ≡ true → Tells (Routed R pairs routes) false
    routes_no l e = tells_no (λ d. denied a e (rw lent (d.each m l)))

  pub routes_yes : 24 ≤ m → Upto R pairs routes m → Tells (Routed R pairs routes) true
  routes_yes l u = tells_yes (upto_all R pairs routes m l u)
