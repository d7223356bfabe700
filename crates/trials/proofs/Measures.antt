-- What a straight is charged as a test of two squares, so that no root is computed.
use mathlib.Core.Path.{◌≡◌, refl, sym, ◌∙◌}
use mathlib.Core.Logic.{⊎_elim}
use mathlib.Core.Bool.{Bool, true, false, ◌&&◌, ◌||◌, not, cond, or-true}
use Prim.Native.Nat.{ℕ, zero, suc, ◌*◌, ◌-◌, ◌<◌, ◌≤◌}
use native.Mathlib.Decide.{dec_lt, ℕ_discrete}
use native.Mathlib.Omega.{arith}
use lib.Dec.{ltb, eqb}
use borrow.Author.Tests.{ltb-true, ltb-false, lt-ltb, le-ltb, eqb-true, eq-eqb, ne_eqb, not-true}
use Rattle.lists.proofs.Every.{both, or_cases}
use Rattle.lengths.specs.Length.{root_up}
use Rattle.lengths.specs.Charge.{charge}
use Rattle.lengths.proofs.Charges.{charge_plain, dearer_free, dearer_figure, dearer_length}

-- a straight whose squared length is n is charged more than a number under the figure f
unfoldable dearer : ℕ → ℕ → ℕ → Bool
dearer f n most = cond (eqb n 0) false (cond (ltb most f) true (ltb (most * most) n))

-- at least w; just w
unfoldable pub at_least : ℕ → ℕ → ℕ → Bool
unfolding dearer
at_least f n w = eqb w 0 || dearer f n (w - 1)

unfoldable pub measures : ℕ → ℕ → ℕ → Bool
unfolding dearer at_least
measures f n w = not (dearer f n w) && at_least f n w

module _ (f n : ℕ) where
  dearer_is : (most : ℕ) → dearer f n most ≡ ltb most (charge f (root_up n))
  unfolding dearer
  dearer_is most = go (ℕ_discrete n 0) (dec_lt most f)
    where
      go : Dec (n ≡ 0) → Dec (most < f) → cond (eqb n 0) false (cond (ltb most f) true (ltb (most * most) n)) ≡ ltb most (charge f (root_up n))
      go (yes z) d = rw (eq-eqb n 0 z) (dearer_free f n most z)
      go (no z) (yes l) = rw (ne_eqb n 0 z, lt-ltb most f l) (dearer_figure f n most z l)
      go (no z) (no l) = rw (ne_eqb n 0 z, le-ltb most f (omega arith)) (dearer_length f n most (omega arith))

  pub at_least_lem : (w : ℕ) → at_least f n w ≡ true → w ≤ charge f (root_up n)
  unfolding at_least
  at_least_lem w h = ⊎_elim (λ e. omega (arith, eqb-true w 0 e)) (λ e. omega (arith, ltb-true (w - 1) _ (sym (dearer_is (w - 1)) ∙ e))) (or_cases (eqb w 0) _ h)

  pub measured : (w : ℕ) → measures f n w ≡ true → charge f (root_up n) ≡ w
  unfolding measures
  measured w h =
      let p = both (not (dearer f n w)) _ h in
      omega (arith, at_least_lem w p.1, ltb-false w _ (sym (dearer_is w) ∙ not-true _ p.0))

  pub measures_of : (w : ℕ) → charge f (root_up n) ≡ w → measures f n w ≡ true
  unfolding measures at_least
  measures_of w e = rw (dearer_is w, le-ltb w (charge f (root_up n)) (omega arith)) (least w e)
    where
      least : (w : ℕ) → charge f (root_up n) ≡ w → eqb w 0 || dearer f n (w - 1) ≡ true
      least zero e = refl
      least (suc w) e = rw (dearer_is (suc w - 1), lt-ltb (suc w - 1) (charge f (root_up n)) (omega arith)) (or-true (eqb (suc w) 0))

-- under the figure 0 it is the length
pub length_measured : (n w : ℕ) → measures 0 n w ≡ true → root_up n ≡ w
length_measured n w h = sym (charge_plain (root_up n)) ∙ measured 0 n w h
