-- Obstruction as a test that is computed, for segments and polygons that are written out.
use mathlib.Core.Path.{◌≡◌, refl, sym, ◌∙◌, subst}
use mathlib.Core.Bool.{Bool, true, false, ◌&&◌, ◌||◌, not, and-eq-true_iff, true≢false}
use mathlib.Core.List.{List}
use Prim.Native.Nat.{ℕ, ◌<◌}
use lib.Dec.{T}
use lib.IntN.{ℤ, pos, ◌*ℤ◌}
use lib.ListN.{length}
use lib.Signed.{lt_z, ◌<ℤ◌, ◌≤ℤ◌, lt_z_yes, lt_z_no, clash_ℤ}
use Rattle.geometry.specs.Words.{Point}
use Rattle.geometry.specs.Obstruction.{side_turn, Obstructs}
use Rattle.lists.specs.Lists.{all_below}
use Rattle.lists.proofs.Below.{all_at, all_yes}
use Rattle.geometry.proofs.Sides.{Crossed}
use Rattle.geometry.proofs.Obstructing.{obstructs_iff}

-- one of the two turns is above 0; and what two sides leave between them
abbrev open_side : ℤ → ℤ → Bool
open_side x y = lt_z (pos 0) x || lt_z (pos 0) y

abbrev open_pair : ℤ → ℤ → ℤ → ℤ → Bool
open_pair xi yi xj yj = lt_z (pos 0) xi || lt_z (pos 0) yj || lt_z (xi *ℤ yj) (xj *ℤ yi)

unfoldable pub obstructed : List Point → Point → Point → Bool
obstructed ps a b =
    all_below (length ps) (λ k. open_side (side_turn ps a k) (side_turn ps b k))
    && all_below (length ps) (λ i. all_below (length ps) (λ j. open_pair (side_turn ps a i) (side_turn ps b i) (side_turn ps a j) (side_turn ps b j)))

holds : (x y : ℤ) → lt_z x y ≡ true → x <ℤ y
holds x y e = lt_z_yes (subst T (sym e) tt)

fails : (x y : ℤ) → lt_z x y ≡ false → y ≤ℤ x
fails x y e = lt_z_no (subst (λ (b : Bool). T (not b)) (sym e) tt)

proved : (x y : ℤ) → x <ℤ y → lt_z x y ≡ true
proved x y h = go (lt_z x y) refl
  where
    go : (t : Bool) → lt_z x y ≡ t → lt_z x y ≡ true
    go true e = e
    go false e = clash_ℤ h (fails x y e)

pub or_else : (a b : Bool) → a || b ≡ true → (a ≡ true → ⊥) → b ≡ true
or_else true b h f = absurd (f refl)
or_else false b h f = h

or_yes : (a b : Bool) → (a ≡ false → b ≡ true) → a || b ≡ true
or_yes true b f = refl
or_yes false b f = f refl

module _ (ps : List Point) (a b : Point) where
  crossed : obstructed ps a b ≡ true → Crossed (length ps) (side_turn ps a) (side_turn ps b)
  unfolding obstructed
  crossed h =
      let p = (and-eq-true_iff (all_below (length ps) (λ k. open_side (side_turn ps a k) (side_turn ps b k))) _).0 h in
      record {
        each = λ k l x₀ y₀. clash_ℤ
            (holds (pos 0) (side_turn ps b k) (or_else (lt_z (pos 0) (side_turn ps a k)) _ (all_at _ (length ps) k p.0 l) (λ e. clash_ℤ (holds (pos 0) _ e) x₀)))
            y₀;
        pairs = λ i j k l x₀ y₀. holds _ _
            (or_else (lt_z (pos 0) (side_turn ps a i) || lt_z (pos 0) (side_turn ps b j)) _ (all_at _ (length ps) j (all_at _ (length ps) i p.1 k) l)
            (λ e. clash_ℤ (holds (pos 0) (side_turn ps b j) (or_else (lt_z (pos 0) (side_turn ps a i)) _ e (λ q. clash_ℤ (holds (pos 0) _ q) x₀))) y₀));
      }

  uncrossed : Crossed (length ps) (side_turn ps a) (side_turn ps b) → obstructed ps a b ≡ true
  unfolding obstructed
  uncrossed c =
      (and-eq-true_iff (all_below (length ps) (λ k. open_side (side_turn ps a k) (side_turn ps b k))) _).1 (
        all_yes _ (length ps) (λ k l. one k l),
        all_yes _ (length ps) (λ i k. all_yes _ (length ps) (λ j l. two i j k l)),
      )
    where
      decided : (x y : ℤ) (t : Bool) → lt_z x y ≡ t → (y ≤ℤ x → ⊥) → lt_z x y ≡ true
      decided x y true e f = e
      decided x y false e f = absurd (f (fails x y e))

      one : (k : ℕ) → k < length ps → open_side (side_turn ps a k) (side_turn ps b k) ≡ true
      one k l = or_yes (lt_z (pos 0) (side_turn ps a k)) _ (λ e. decided (pos 0) (side_turn ps b k) _ refl (λ y₀. c.each k l (fails (pos 0) _ e) y₀))

      two : (i j : ℕ) → i < length ps → j < length ps → open_pair (side_turn ps a i) (side_turn ps b i) (side_turn ps a j) (side_turn ps b j) ≡ true
      two i j k l =
          or_yes (lt_z (pos 0) (side_turn ps a i) || lt_z (pos 0) (side_turn ps b j)) _
          (λ e. let n = neither (lt_z (pos 0) (side_turn ps a i)) (lt_z (pos 0) (side_turn ps b j)) e in
          proved _ _ (c.pairs i j k l (fails (pos 0) _ n.0) (fails (pos 0) _ n.1)))
        where
          neither : (x y : Bool) → x || y ≡ false → (x ≡ false) × (y ≡ false)
          neither true y e = absurd (true≢false e)
          neither false y e = (refl, e)

  -- hidden, and clear
  pub seen_hidden : obstructed ps a b ≡ true → Obstructs ps a b
  seen_hidden h = (obstructs_iff ps a b).1 (crossed h)

  pub seen_clear : obstructed ps a b ≡ false → Obstructs ps a b → ⊥
  seen_clear h o = true≢false (sym (uncrossed ((obstructs_iff ps a b).0 o)) ∙ h)
