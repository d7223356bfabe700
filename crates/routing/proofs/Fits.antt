-- A route fits its record, and there is a record for every run.
use mathlib.Core.Path.{◌≡◌, refl}
use mathlib.Core.Logic.{◌⊎◌, inl, inr}
use mathlib.Core.Bool.{true, Bool-discrete}
use mathlib.Core.List.{List, ◌∷◌}
use Prim.Native.Nat.{ℕ, ◌*◌, ◌<◌, ◌≤◌}
use native.Mathlib.Decide.{ℕ_discrete}
use native.Mathlib.Omega.{arith}
use lib.ListN.{length, replicate, length-append, length-replicate}
use Rattle.paths.specs.Path.{IsRoute, NoChain}
use Rattle.paths.proofs.Best.{route_search}
use Rattle.paths.proofs.Short as short
use Rattle.geometry.specs.Words.{word}
use Rattle.tables.specs.Tables.{Records, is_corner, first_end, second_end, pair_byte}
use Rattle.tables.proofs.Joined.{RecordTable, records_exist}
use Rattle.search.specs.Network.{ByBytes, graph}
use Rattle.search.proofs.Network.{corner_below}
use Rattle.routing.specs.Routes.{found_words, RouteIs, no_run, found, no_way, Routed}

-- at most 194 marks
pub route_short : (R : Records) (Clear : ℕ → ℕ → Type 0) (m : ℕ) (us : List ℕ) → IsRoute (graph R Clear) (first_end m) (second_end m) us → length us ≤ 194
route_short R Clear m us r = short.route_short (graph R Clear) (second_end m) 192 (corner_below R.blocks) (omega arith) (first_end m) us r

-- each record has 197 words
pub record_length : (R : Records) (Clear : ℕ → ℕ → Type 0) (m : ℕ) {ws : List ℕ} → RouteIs R Clear m ws → length ws ≡ 197
record_length R Clear m (no_run e) = refl
record_length R Clear m (found e us r) = simp (length-append, length-replicate) (omega (arith, route_short R Clear m us r))
record_length R Clear m (no_way e n) = refl

both_dec : {A B : Type 0} → Dec A → Dec B → Dec (A × B)
both_dec (yes a) (yes b) = yes (a, b)
both_dec (yes a) (no b) = no (λ h. b h.1)
both_dec (no a) d = no (λ h. a h.0)

not_dec : {A : Type 0} → Dec A → Dec (A → ⊥)
not_dec (yes a) = no (λ h. h a)
not_dec (no a) = yes a

module _ (R : Records) (Clear : ℕ → ℕ → Type 0) (clear-dec : (v u : ℕ) → Dec (Clear v u)) where
  abbrev pub Route : ℕ → Type 0
  Route m = (ws : List ℕ) × RouteIs R Clear m ws × (length ws ≡ 197)

  pub route_exists : (m : ℕ) → (word R.runs (5 * m) ≡ 0) ⊎ (word R.runs (5 * m) ≡ 1) → Route m
  route_exists m (inl e) = (replicate 197 0, no_run e, refl)
  route_exists m (inr e) =
      go
      (route_search (graph R Clear) (second_end m) 192 (λ u. Bool-discrete (is_corner R.blocks u) true)
      (λ v u. both_dec (not_dec (ℕ_discrete v u)) (clear-dec v u)) (corner_below R.blocks) (omega arith) (first_end m))
    where
      go : ((us : List ℕ) × IsRoute (graph R Clear) (first_end m) (second_end m) us) ⊎ NoChain (graph R Clear) (first_end m) (second_end m) → Route m
      go (inl r) = (found_words R r.0, found e r.0 r.1, record_length R Clear m (found e r.0 r.1))
      go (inr n) = (2 ∷ replicate 196 0, no_way e n, refl)

-- so has every pair table its routes
pub routed_exists : (R : Records) (pairs : List ℕ) → ((m : ℕ) → m < 24 → (word R.runs (5 * m) ≡ 0) ⊎ (word R.runs (5 * m) ≡ 1))
    → (routes : List ℕ) × Routed R pairs routes
routed_exists R pairs flag = (t.words, record { sized = t.sized; each = t.each })
  where
    t : RecordTable 197 (RouteIs R (ByBytes pairs)) 24
    t = records_exist 197 _ 24 (λ m l. route_exists R (ByBytes pairs) (λ v u. ℕ_discrete (pair_byte pairs v u) 254) m (flag m l))
