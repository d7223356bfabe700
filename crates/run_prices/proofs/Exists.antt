-- The prices of a route table, and that right flags have some.
use mathlib.Core.Path.{◌≡◌, refl, sym, ap, ◌∙◌}
use mathlib.Core.Logic.{◌⊎◌}
use mathlib.Core.Bool.{cond}
use mathlib.Core.List.{List}
use Prim.Native.Nat.{ℕ, ◌+◌, ◌*◌, ◌-◌, ◌<◌}
use native.Mathlib.Omega.{arith}
use borrow.Author.Tests.{lt-ltb, le-ltb}
use lib.Dec.{ltb}
use Rattle.lists.specs.Lists.{up_to}
use Rattle.lists.proofs.Values.{up_to_length, up_to_at}
use Rattle.geometry.specs.Words.{word}
use Rattle.tables.specs.Tables.{Records, route_words}
use Rattle.tables.proofs.Joined.{RecordTable, records_exist}
use Rattle.tables.proofs.Splices.{part_word}
use Rattle.visibility.specs.Visibility.{ByPlaces}
use Rattle.visibility.proofs.Exists.{places_dec}
use Rattle.routing.specs.Routes.{RouteIs}
use Rattle.routing.proofs.Fits.{route_exists}
use Rattle.run_prices.specs.Prices.{Priced, Prices}

-- the states and lengths of a route table, as a quote has them
abbrev pub prices_of : List ℕ → List ℕ
prices_of routes = up_to 48 (λ i. cond (ltb i 24) (word routes (197 * i)) (word routes (197 * (i - 24) + 1)))

module _ (routes : List ℕ) (m : ℕ) (l : m < 24) where
  pub state_at : word (prices_of routes) m ≡ word routes (197 * m)
  state_at = up_to_at _ 48 0 m (omega arith) ∙ rw (lt-ltb m 24 l) refl

  pub price_at : word (prices_of routes) (24 + m) ≡ word routes (197 * m + 1)
  price_at = let e : 24 + m - 24 ≡ m = omega arith in up_to_at _ 48 0 (24 + m) (omega arith) ∙ rw (le-ltb (24 + m) 24 (omega arith), e) refl

  first_word : word (route_words routes m) 0 ≡ word routes (197 * m)
  first_word = let e : 197 * m + 0 ≡ 197 * m = omega arith in part_word routes (197 * m) 197 0 (omega arith) ∙ ap (word routes) e

  pub priced_at : {R : Records} → RouteIs R (ByPlaces R) m (route_words routes m) → Priced R (ByPlaces R) m (word (prices_of routes) m) (word (prices_of routes) (24 + m))
  priced_at r =
      record {
        words = route_words routes m;
        route = r;
        state_is = state_at ∙ sym first_word;
        price_is = price_at ∙ sym (part_word routes (197 * m) 197 1 (omega arith));
      }

-- a route table with the records' routes has their prices
pub prices_of_lem : (R : Records) (routes : List ℕ) → ((m : ℕ) → m < 24 → RouteIs R (ByPlaces R) m (route_words routes m)) → Prices R (ByPlaces R) (prices_of routes)
prices_of_lem R routes f = record { sized = up_to_length _ 48; each = λ m l. priced_at routes m l (f m l) }

pub prices_exist : (R : Records) → ((m : ℕ) → m < 24 → (word R.runs (5 * m) ≡ 0) ⊎ (word R.runs (5 * m) ≡ 1)) → (quote : List ℕ) × Prices R (ByPlaces R) quote
prices_exist R flag = (prices_of t.words, prices_of_lem R t.words t.each)
  where
    t : RecordTable 197 (RouteIs R (ByPlaces R)) 24
    t = records_exist 197 _ 24 (λ m l. route_exists R (ByPlaces R) (places_dec R) m (flag m l))
