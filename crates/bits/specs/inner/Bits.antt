-- The bits of a word, lowest first.
use Rattle.std.specs.Prelude.{◌≡◌, ℕ, zero, suc, ◌/◌, ◌%◌, ◌<◌}

unfoldable pub bit : ℕ → ℕ → ℕ
bit zero n = n % 2
bit (suc i) n = bit i (n / 2)

-- r is the lowest set bit of c
pub record Lowest (c r : ℕ) : Type 0 where
  pub within : r < 64
  pub set : bit r c ≡ 1
  pub least : (i : ℕ) → i < r → bit i c ≡ 0

-- r is c without its lowest set bit z
pub record WithoutLowest (c r : ℕ) : Type 0 where
  pub fewer : r < c
  pub here : (z : ℕ) → Lowest c z → bit z r ≡ 0
  pub rest : (z i : ℕ) → Lowest c z → (i ≡ z → ⊥) → bit i r ≡ bit i c

-- r is c with bit b set
pub record With (c b r : ℕ) : Type 0 where
  pub here : bit b r ≡ 1
  pub rest : (i : ℕ) → (i ≡ b → ⊥) → bit i r ≡ bit i c

-- r is c with bit b clear
pub record Without (c b r : ℕ) : Type 0 where
  pub here : bit b r ≡ 0
  pub rest : (i : ℕ) → (i ≡ b → ⊥) → bit i r ≡ bit i c

-- r is c with bit n set where b is not 0: no other bit is lost
pub record Packed (c n b r : ℕ) : Type 0 where
  pub here : bit n r ≡ 0 → b ≡ 0
  pub kept : (m : ℕ) → bit m r ≡ 0 → bit m c ≡ 0
