-- What a search answers is the price of the route: no walk is needed.
use mathlib.Core.Path.{◌≡◌, refl}
use mathlib.Core.Logic.{inl, inr}
use mathlib.Core.Bool.{Bool, true, false}
use mathlib.Core.List.{List, ◌∷◌}
use Prim.Native.Nat.{ℕ, ◌*◌, ◌/◌, ◌≤◌, ◌<◌}
use native.Mathlib.Omega.{arith}
use lib.ListN.{replicate}
use Rattle.lists.specs.inner.Tells.{Tells}
use Rattle.paths.specs.Path.{Graph, total, NoWorse, cheaper, shorter, earlier, IsRoute, NoChain}
use Rattle.paths.proofs.Labels.{◌≼◌, lower, tied, label_of, least}
use Rattle.geometry.specs.Words.{word}
use Rattle.tables.specs.Tables.{Records, first_end, second_end}
use Rattle.tables.specs.inner.Fit.{Fit}
use Rattle.visibility.specs.Visibility.{ByPlaces}
use Rattle.visibility.proofs.Exists.{places_dec}
use Rattle.mark_rows.specs.inner.Adjacent.{Rows}
use Rattle.search.specs.Network.{graph}
use Rattle.search.specs.inner.Keys.{Keyed, Searched}
use Rattle.row_search.specs.inner.Rows.{ByRows}
use Rattle.search.proofs.Network.{Sized, sized}
use Rattle.row_search.proofs.Told.{told_searched}
use Rattle.routing.specs.Routes.{found_words, RouteIs, no_run, found, no_way}
use Rattle.routing.proofs.Walks.{Final, L, settled}
use Rattle.routing.proofs.Fits.{route_exists}
use Rattle.clear_rows.proofs.Mirroring.{places_turned}
use Rattle.run_prices.specs.Prices.{Priced}

-- the first end's key has the route's cost
module _ {G : Graph} {start end : ℕ} {key us : List ℕ} (z : Sized G start end) (k : Keyed G start end key) (r : IsRoute G start end us) where
  at_most : total G.cost us ≤ word key start / 256
  at_most =
      let t = k.attained start z.start_below z.apart (inl refl) in
      omega (arith, t.exact, t.few, dear (r.best t.by t.chain))
    where
      dear : {vs : List ℕ} → NoWorse G.cost us vs → total G.cost us ≤ total G.cost vs
      dear (cheaper l) = omega arith
      dear (shorter e l) = omega arith
      dear (earlier e n l) = omega arith

  at_least_lem : word key start / 256 ≤ total G.cost us
  at_least_lem = go (least G start end (Final G start end key z k) (L G start end key z k) (settled G start end key z k) r.chain)
    where
      go : L G start end key z k start ≼ label_of G.cost us → word key start / 256 ≤ total G.cost us
      go (lower l) = omega arith
      go (tied e l) = omega arith

  pub key_total : total G.cost us ≡ word key start / 256
  key_total = omega (arith, at_most, at_least_lem)

module _ (R : Records) (m : ℕ) where
  pub priced_absent : word R.runs (5 * m) ≡ 0 → Priced R (ByPlaces R) m 0 0
  priced_absent e = record { words = replicate 197 0; route = no_run e; state_is = refl; price_is = refl }

  module _ (f : Fit R) (l : m < 24) (there : word R.runs (5 * m) ≡ 0 → ⊥) where
    flag : word R.runs (5 * m) ≡ 1
    flag = omega (arith, f.runs.flags m l, there)

    pub priced_shut : NoChain (graph R (ByPlaces R)) (first_end m) (second_end m) → Priced R (ByPlaces R) m 2 0
    priced_shut n = record { words = 2 ∷ replicate 196 0; route = no_way flag n; state_is = refl; price_is = refl }

    pub priced_found : (key : List ℕ) → Keyed (graph R (ByPlaces R)) (first_end m) (second_end m) key → Priced R (ByPlaces R) m 1 (word key (first_end m) / 256)
    priced_found key k = go (route_exists R (ByPlaces R) (places_dec R) m (inr flag)).1
      where
        z : Sized (graph R (ByPlaces R)) (first_end m) (second_end m)
        z = sized R (ByPlaces R) m f l

        go : {ws : List ℕ} → RouteIs R (ByPlaces R) m ws → Priced R (ByPlaces R) m 1 (word key (first_end m) / 256)
        go (no_run e) = absurd (there e)
        go (found e us r) = record { words = found_words R us; route = found e us r; state_is = refl; price_is = omega (arith, key_total z k r) }
        go (no_way e n) = let t = k.attained (first_end m) z.start_below z.apart (inl refl) in absurd (n t.by t.chain)

-- a search over the rows of clear straights is one over the places
pub searched_places : (R : Records) (m : ℕ) → m < 24 → (rows : List ℕ) {key : List ℕ} {facing a : Bool} → Rows R.blocks (ByPlaces R) rows 720 → Tells (ByPlaces R (first_end m) (second_end m)) facing
    → Searched (graph R (ByRows rows facing)) (first_end m) (second_end m) key a → Searched (graph R (ByPlaces R)) (first_end m) (second_end m) key a
searched_places R m l rows {facing = facing} r t = told_searched R (ByPlaces R) m l rows facing r (places_turned R) t.yes' (seen facing t)
  where
    seen : (f : Bool) → Tells (ByPlaces R (first_end m) (second_end m)) f → ByPlaces R (first_end m) (second_end m) → f ≡ true
    seen true t c = refl
    seen false t c = absurd (t.no' refl c)
