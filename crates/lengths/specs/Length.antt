-- The length of a segment, rounded up to a whole centimetre. Rule 11.
use Rattle.std.specs.Prelude.{cond, ℕ, zero, suc, ◌+◌, ◌*◌, ◌-◌, ◌≤◌, leb}
use Rattle.geometry.specs.Words.{Point}

-- w is the smallest whole number whose square is at least n
pub record RootUp (n w : ℕ) : Type 0 where
  pub enough : n ≤ w * w
  pub least : (v : ℕ) → n ≤ v * v → w ≤ v

-- that number: `root_is` of proofs/Roots.antt says that it is `RootUp`
unfoldable pub root_up : ℕ → ℕ
root_up zero = zero
root_up (suc n) = cond (leb (suc n) (root_up n * root_up n)) (root_up n) (suc (root_up n))

-- the difference of two numbers, either way round
abbrev pub gap : ℕ → ℕ → ℕ
gap a b = (a - b) + (b - a)

-- the sum of the squared differences
abbrev pub squared : Point → Point → ℕ
squared p q = gap p.east q.east * gap p.east q.east + gap p.north q.north * gap p.north q.north

-- the length of a straight
unfoldable pub length_of : Point → Point → ℕ
length_of p q = root_up (squared p q)
