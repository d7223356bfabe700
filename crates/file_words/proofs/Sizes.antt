-- Bytes past the end, the size of a block's count and corners, and displacements, for each way out of the code.
use mathlib.Core.Path.{◌≡◌, refl, sym}
use mathlib.Core.List.{List}
use Prim.Native.Nat.{ℕ, suc, ◌+◌, ◌*◌, ◌-◌, ◌<◌, ◌≤◌}
use native.Mathlib.Omega.{arith}
use native.Mathlib.Decide.{dec_lt, ℕ_discrete}
use lib.IntN.{ℤ}
use lib.ListN.{length, get_or-eq_default}
use mir.Syntax.{w16}
use mir.Val.{to_z, of_z}
use Rattle.std.proofs.lemmas.Int.{of_z-to_z}
use borrow.Author.Tests.{lt-ltb, le-ltb, eq-eqb, ne_eqb}
use Rattle.file_words.specs.Words.{byte, block_size, displacement}

pub past_end : (f : List ℕ) (at : ℕ) → length f ≤ at → 0 ≡ byte f at
past_end f at h = sym (get_or-eq_default f 0 h)

pub block_full : (c : ℕ) → block_size 1 c ≡ 1 + 4 * c
unfolding block_size
block_full c = refl

pub block_empty : (v : ℕ) → block_size v 0 ≡ 1
unfolding block_size
block_empty v = go (ℕ_discrete v 1)
  where
    go : Dec (v ≡ 1) → block_size v 0 ≡ 1
    go (yes e) = rw (eq-eqb v 1 e)
    go (no e) = rw (ne_eqb v 1 e)

pub block_short : (v c : ℕ) → (v ≡ 1 → ⊥) → (c ≡ 0 → ⊥) → block_size v c ≡ 3 + 2 * c
unfolding block_size
block_short v c e h = rw (ne_eqb v 1 e, ne_eqb c 0 h)

module _ (v c : ℕ) where
  pub sized_full : v ≡ 1 → 1 + 4 * c ≡ block_size v c
  sized_full e = rw e (sym (block_full c))

  pub sized_empty : (v ≡ 1 → ⊥) → c ≡ 0 → 1 ≡ block_size v c
  sized_empty e h = rw h (sym (block_empty v))

  pub sized_short : (v ≡ 1 → ⊥) → (c ≡ 0 → ⊥) → 3 + 2 * c ≡ block_size v c
  sized_short e h = sym (block_short v c e h)

-- the count byte is one of them
pub block_one : (v c : ℕ) → 1 ≤ block_size v c
block_one v c = go (ℕ_discrete v 1) (ℕ_discrete c 0)
  where
    go : Dec (v ≡ 1) → Dec (c ≡ 0) → 1 ≤ block_size v c
    go (yes e) d = rw e (omega (arith, block_full c))
    go (no e) (yes h) = rw h (omega (arith, block_empty v))
    go (no e) (no h) = omega (arith, block_short v c e h)

pub low_value : (v : ℕ) → v < 32768 → to_z w16 v ≡ displacement v
unfolding displacement
low_value v h = rw (lt-ltb v 32768 h)

high_value : (v : ℕ) → 32768 ≤ v → v < 65536 → to_z w16 v ≡ displacement v
unfolding displacement
high_value v low high = let e : 65536 - suc v ≡ 65535 - v = omega arith in rw (le-ltb v 32768 low, lt-ltb v 65536 high, e)

pub displaced : (v : ℕ) (z : ℤ) → v < 65536 → z ≡ to_z w16 v → to_z w16 (of_z w16 z) ≡ displacement v
displaced v z h e =
    rw (e, of_z-to_z w16 v h) (elim (dec_lt v 32768) [ yes l ↦ low_value v l | no l ↦ high_value v (omega arith) h ])
