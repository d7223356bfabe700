-- Sums along a path: its changes, its length and its key, 65,536 × cost + changes.
use mathlib.Core.Path.{◌≡◌, refl}
use mathlib.Core.List.{List, [], ◌∷◌}
use Prim.Native.Nat.{ℕ, ◌+◌, ◌*◌, ◌≤◌}
use native.Mathlib.Omega.{arith}
use native.Mathlib.Decide.{ℕ_discrete}
use lib.ListN.{length}
use borrow.Author.Tests.{eq-eqb, ne_eqb}
use Rattle.paths.specs.Path.{total}
use Rattle.nets.specs.inner.Keys.{weight, key_from}
use Rattle.nets.specs.Net.{Net, Path, arrive, onward, unmoved, turn, changes_from, changes, cost}

pub turn_first : (b : ℕ) → turn unmoved b ≡ 0
unfolding turn
turn_first b = refl

pub turn_same : (a : ℕ) → turn a a ≡ 0
unfolding turn
turn_same a = go (ℕ_discrete a 2)
  where
    go : Dec (a ≡ 2) → turn a a ≡ 0
    go (yes e) = rw (eq-eqb a 2 e)
    go (no e) = rw (ne_eqb a 2 e, eq-eqb a a refl)

pub turn_other : (a b : ℕ) → (a ≡ unmoved → ⊥) → (a ≡ b → ⊥) → turn a b ≡ 1
unfolding turn
turn_other a b m n = rw (ne_eqb a 2 m, ne_eqb a b n)

pub turn_small : (a b : ℕ) → turn a b ≤ 1
turn_small a b = go (ℕ_discrete a 2) (ℕ_discrete a b)
  where
    go : Dec (a ≡ 2) → Dec (a ≡ b) → turn a b ≤ 1
    go (yes e) d = rw (e, turn_first b) (omega arith)
    go (no e) (yes q) = rw (q, turn_same b) (omega arith)
    go (no e) (no q) = omega (arith, turn_other a b e q)

-- a step between can only add changes
pub turn_between : (a b c : ℕ) → b ≤ 1 → turn a c ≤ turn a b + turn b c
turn_between a b c l = go (ℕ_discrete a 2) (ℕ_discrete a b) (ℕ_discrete b c)
  where
    go : Dec (a ≡ 2) → Dec (a ≡ b) → Dec (b ≡ c) → turn a c ≤ turn a b + turn b c
    go (yes e) d f = rw (e, turn_first c) (omega arith)
    go (no e) (yes q) f = rw q (omega arith)
    go (no e) (no q) (yes r) = rw r (omega arith)
    go (no e) (no q) (no r) = omega (arith, turn_small a c, turn_other a b e q)

pub key_is : (G : Net) (a : ℕ) (us : List ℕ) → key_from G a us ≡ 65536 * (total G.len us + 25 * changes_from G a us) + changes_from G a us
unfolding key_from weight changes_from
key_is G a [] = refl
key_is G a (v ∷ []) = refl
key_is G a (v ∷ u ∷ us) = omega (arith, key_is G (G.axis v u) (u ∷ us))

pub key_cost : (G : Net) (us : List ℕ) → key_from G unmoved us ≡ 65536 * cost G us + changes G us
unfolding cost changes
key_cost G us = key_is G unmoved us

-- fewer changes than crossings
pub changes_few : (G : Net) (a : ℕ) (us : List ℕ) → changes_from G a us ≤ length us
unfolding changes_from
changes_few G a [] = omega arith
changes_few G a (v ∷ []) = omega arith
changes_few G a (v ∷ u ∷ us) = omega (arith, changes_few G (G.axis v u) (u ∷ us), turn_small a (G.axis v u))

module _ (G : Net) (end : ℕ) where
  pub changes_more : (a v : ℕ) {u : ℕ} {us : List ℕ} → Path G end u us → changes_from G a (v ∷ us) ≡ turn a (G.axis v u) + changes_from G (G.axis v u) us
  unfolding changes_from
  changes_more a v (arrive s) = refl
  changes_more a v (onward s p) = refl

  pub length_more : (v : ℕ) {u : ℕ} {us : List ℕ} → Path G end u us → total G.len (v ∷ us) ≡ G.len v u + total G.len us
  length_more v (arrive s) = refl
  length_more v (onward s p) = refl

  pub key_more : (a v : ℕ) {u : ℕ} {us : List ℕ} → Path G end u us → key_from G a (v ∷ us) ≡ weight G a v u + key_from G (G.axis v u) us
  unfolding key_from
  key_more a v (arrive s) = refl
  key_more a v (onward s p) = refl
