-- Bytes of a yard file as fields and corners, versions 1 and 2. Rules 29 and 45.
use Rattle.std.specs.Prelude.{List, [], ◌∷◌, Bool, cond, ℕ, zero, suc, ◌+◌, ◌*◌, ◌-◌, ◌%◌, leb, ltb, eqb, ℤ, pos, ◌-ℤ◌, get_or}
use Rattle.lists.specs.Lists.{all}

-- the byte at a position, 0 past the end
abbrev pub byte : List ℕ → ℕ → ℕ
byte f i = get_or f i 0

-- a field: 16 bits, low byte first
abbrev pub field : List ℕ → ℕ → ℕ
field f at = byte f at + 256 * byte f (at + 1)

-- n fields from a position on
unfoldable pub fields_from : List ℕ → ℕ → ℕ → List ℕ
fields_from f at zero = []
fields_from f at (suc n) = field f at ∷ fields_from f (at + 2) n

-- a displacement: two's complement
unfoldable pub displacement : ℕ → ℤ
displacement v = cond (ltb v 32768) (pos v) (pos v -ℤ pos 65536)

-- how many bytes a block's count and corners take: one for the count and four for each corner; in version 2 four for the first corner, two for each later one
unfoldable pub block_size : ℕ → ℕ → ℕ
block_size version count = cond (eqb version 1) (1 + 4 * count) (cond (eqb count 0) 1 (3 + 2 * count))

-- the coordinate that is a signed byte away from another, in 16 bits: where it would be below 0 it is above 32,767
unfoldable pub stepped : ℕ → ℕ → ℕ
stepped a s = (a + cond (ltb s 128) s (65280 + s)) % 65536

-- n words by signed bytes from a position on, each counted from the word two before it, which is the same coordinate of the corner before
unfoldable pub step_words : List ℕ → ℕ → ℕ → ℕ → ℕ → List ℕ
step_words f at zero a b = []
step_words f at (suc n) a b = stepped a (byte f at) ∷ step_words f (at + 1) n b (stepped a (byte f at))

-- the words of the corners whose count stands at a position: all in full, or in version 2 the first corner in full and the later ones by steps
unfoldable pub corner_words : List ℕ → ℕ → List ℕ
corner_words f at =
    cond (eqb (byte f 3) 1) (fields_from f (at + 1) (2 * byte f at))
    (cond (eqb (byte f at) 0) []
    (field f (at + 1) ∷ field f (at + 3) ∷ step_words f (at + 5) (2 * byte f at - 2) (field f (at + 1)) (field f (at + 3))))

-- each word is from 0 to 32,767
unfoldable pub inside : List ℕ → Bool
inside ws = all (λ (w : ℕ). leb w 32767) ws
