-- The triangular index of the pair table: the byte of marks i < j stands at `tri j + i`, with `tri j` the number of pairs below row j.
-- `tri` is shut, so that `omega` takes `tri j` as an unknown; these laws are what it knows of it.
use mathlib.Core.Path.{◌≡◌, refl, sym, ap, ◌∙◌, subst}
use mathlib.Core.List.{List}
use Prim.Native.Nat.{ℕ, zero, suc, ◌+◌, ◌-◌, ◌*◌, ◌<◌, ◌≤◌}
use native.Mathlib.Nat.{suc-mul, mul-suc, zero-mul}
use native.Mathlib.Decide.{dec_lt}
use native.Mathlib.Numerals.{add-one}
use native.Mathlib.Omega.{arith}
use lib.ListN.{length, get_or}
use lib.Seq.{ext_get_or}
use Rattle.geometry.specs.Words.{word}
use Rattle.tables.specs.Tables.{pair_index}

unfoldable pub tri : ℕ → ℕ
tri zero = 0
tri (suc j) = tri j + j

pub tri_zero : tri 0 ≡ 0
unfolding tri
tri_zero = refl

pub tri_suc : (j : ℕ) → tri (suc j) ≡ tri j + j
unfolding tri
tri_suc j = refl

-- the next row begins where a row ends
pub tri_next : (j : ℕ) → tri (j + 1) ≡ tri j + j
tri_next j = rw (add-one, tri_suc)

pub tri_240 : tri 240 ≡ 28680
unfolding tri
tri_240 = refl

twice_suc : (j : ℕ) → 2 * tri (suc j) ≡ suc j * j
twice_suc zero = omega (arith, tri_suc 0, tri_zero)
twice_suc (suc j) = omega (arith, twice_suc j, tri_suc (suc j), suc-mul (suc j) (suc j), mul-suc (suc j) j)

pub tri_twice : (j : ℕ) → 2 * tri j ≡ j * (j - 1)
tri_twice zero = omega (arith, tri_zero, zero-mul (0 - 1))
tri_twice (suc j) = twice_suc j ∙ ap (λ (k : ℕ). suc j * k) (omega arith)

pub pair_tri : (i j : ℕ) → pair_index i j ≡ tri j + i
pair_tri i j = omega (arith, tri_twice j)

-- a row ends where a later one begins, or before
pub tri_below : (j k : ℕ) → j < k → tri j + j ≤ tri k
tri_below j zero h = omega arith
tri_below j (suc k) h =
    elim (dec_lt j k) [
      | yes l ↦ omega (arith, tri_below j k l, tri_suc k)
      | no l ↦ let e : j ≡ k = omega arith in omega (arith, ap tri e, tri_suc k)
    ]

pub tri_in : (i j : ℕ) → i < j → j < 240 → tri j + i < 28680
tri_in i j h l = omega (arith, tri_below j 240 l, tri_240)

pub pair_in : (i j : ℕ) → i < j → j < 240 → pair_index i j < 28680
pair_in i j h l = omega (arith, pair_tri i j, tri_in i j h l)

-- two pairs at one place are one pair
pub tri_row : (i j k l : ℕ) → i < j → k < l → tri j + i ≡ tri l + k → j ≡ l
tri_row i j k l h g e =
    elim (dec_lt j l) [
      | yes a ↦ omega (arith, tri_below j l a)
      | no a ↦ elim (dec_lt l j) [ yes b ↦ omega (arith, tri_below l j b) | no b ↦ omega arith ]
    ]

pub tri_col : (i j k l : ℕ) → i < j → k < l → tri j + i ≡ tri l + k → i ≡ k
tri_col i j k l h g e = omega (arith, ap tri (tri_row i j k l h g e))

pub pair_row : (i j k l : ℕ) → i < j → k < l → pair_index i j ≡ pair_index k l → j ≡ l
pair_row i j k l h g e = tri_row i j k l h g (sym (pair_tri i j) ∙ e ∙ pair_tri k l)

pub pair_col : (i j k l : ℕ) → i < j → k < l → pair_index i j ≡ pair_index k l → i ≡ k
pair_col i j k l h g e = tri_col i j k l h g (sym (pair_tri i j) ∙ e ∙ pair_tri k l)

-- every place before row top is that of two marks
pub record PairAt (top at : ℕ) : Type 0 where
  pub low : ℕ
  pub high : ℕ
  pub below : low < high
  pub row : high < top
  pub place : at ≡ tri high + low

pub tri_find : (top at : ℕ) → at < tri top → PairAt top at
tri_find zero at h = absurd (omega (arith, tri_zero))
tri_find (suc n) at h =
    elim (dec_lt at (tri n)) [
      | yes l ↦ let q = tri_find n at l in record { low = q.low; high = q.high; below = q.below; row = omega (arith, q.row); place = q.place }
      | no l ↦ record { low = at - tri n; high = n; below = omega (arith, tri_suc n); row = omega arith; place = omega arith }
    ]

pub pair_find : (at : ℕ) → at < 28680 → PairAt 240 at
pair_find at h = tri_find 240 at (omega (arith, tri_240))

-- tables of pairs with the same byte for each two marks are the same
pub pairs_ext : (s t : List ℕ) → length s ≡ 28680 → length t ≡ 28680
    → ((i j : ℕ) → i < j → j < 240 → word s (pair_index i j) ≡ word t (pair_index i j)) → s ≡ t
pairs_ext s t a b h = ext_get_or 0 s t (a ∙ sym b) each
  where
    each : (k : ℕ) → k < length s → get_or s k 0 ≡ get_or t k 0
    each k l =
        let q = pair_find k (omega arith) in
        let e : pair_index q.low q.high ≡ k = pair_tri q.low q.high ∙ sym q.place in
        subst (λ (x : ℕ). word s x ≡ word t x) e (h q.low q.high q.below q.row)
