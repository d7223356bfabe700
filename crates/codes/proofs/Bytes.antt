-- Where a run of set bits starts and ends in a byte: tried for every byte.
use mathlib.Core.Path.{◌≡◌, refl}
use mathlib.Core.Bool.{Bool, true, false, ◌&&◌, ◌||◌}
use Prim.Native.Nat.{ℕ, ◌+◌, ◌*◌, ◌-◌, ◌/◌, ◌%◌, ◌<◌}
use native.Mathlib.Omega.{arith}
use borrow.Author.Tests.{ltb-true, eqb-true, ne_eqb}
use lib.Bits.{bit_and, bit_or}
use lib.Count.{count_trailing_zeros}
use lib.Dec.{ltb, eqb}
use Rattle.lists.specs.Lists.{all_below}
use Rattle.lists.proofs.Below.{all_at}
use Rattle.bits.specs.inner.Bits.{bit}
use Rattle.codes.specs.inner.Codes.{Starts, Ends}

-- the set bits with a clear bit below; with a clear bit above
abbrev pub starting : ℕ → ℕ
starting c = bit_and c (255 - bit_or ((c * 2) % 256) (c / 128))

abbrev pub ending : ℕ → ℕ
ending c = bit_and c (255 - bit_or (c / 2) ((c * 128) % 256))

abbrev start_of : ℕ → ℕ
start_of c = count_trailing_zeros 8 (starting c)

abbrev end_of : ℕ → ℕ
end_of c = (count_trailing_zeros 8 (ending c) + 1) % 8

-- bit r is x, and the bit before, cyclically, is y; or c has no two different bits
unfoldable changes : ℕ → ℕ → ℕ → ℕ → Bool
changes c r x y = eqb c 0 || eqb c 255 || (ltb r 8 && eqb (bit r c) x && eqb (bit ((r + 7) % 8) c) y)

starts_all : all_below 256 (λ c. changes c (start_of c) 1 0) ≡ true
unfolding all_below changes count_trailing_zeros bit
starts_all = refl

ends_all : all_below 256 (λ c. changes c (end_of c) 0 1) ≡ true
unfolding all_below changes count_trailing_zeros bit
ends_all = refl

and_both : (a b : Bool) → a && b ≡ true → (a ≡ true) × (b ≡ true)
and_both true b e = (refl, e)
and_both false b e = (e, let z : ◌≡◌ {A = ℕ} 0 1 = cc in absurd (omega arith))

module _ (c r x y : ℕ) (e : changes c r x y ≡ true) (lo : 0 < c) (hi : c < 255) where
  changed : (r < 8) × (bit r c ≡ x) × (bit ((r + 7) % 8) c ≡ y)
  unfolding changes
  changed =
      let t : ltb r 8 && eqb (bit r c) x && eqb (bit ((r + 7) % 8) c) y ≡ true = rw (ne_eqb c 0 (λ e. omega arith), ne_eqb c 255 (λ e. omega arith)) at e in
      let u = and_both (ltb r 8 && eqb (bit r c) x) (eqb (bit ((r + 7) % 8) c) y) t in
      let v = and_both (ltb r 8) (eqb (bit r c) x) u.0 in
      (ltb-true r 8 v.0, eqb-true (bit r c) x v.1, eqb-true (bit ((r + 7) % 8) c) y u.1)

module _ (c : ℕ) (lo : 0 < c) (hi : c < 255) where
  pub starts_at : Starts c (start_of c)
  starts_at =
      let h = changed c (start_of c) 1 0 (all_at (λ c. changes c (start_of c) 1 0) 256 c starts_all (omega arith)) lo hi in
      record { below = h.0; set = h.1; clear = h.2 }

  pub ends_at : Ends c (end_of c)
  ends_at =
      let h = changed c (end_of c) 0 1 (all_at (λ c. changes c (end_of c) 0 1) 256 c ends_all (omega arith)) lo hi in
      record { below = h.0; clear = h.1; set = h.2 }
