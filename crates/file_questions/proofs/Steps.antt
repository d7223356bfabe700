-- Each step near, one by one.
use mathlib.Core.Path.{◌≡◌, refl, sym, ◌∙◌}
use mathlib.Core.List.{List, [], ◌∷◌}
use mathlib.Core.Bool.{Bool, true, false, ◌&&◌}
use Prim.Native.Nat.{ℕ, ◌+◌, ◌-◌, ◌<◌, ◌≤◌}
use native.Mathlib.Omega.{arith}
use native.Mathlib.Numerals.{add-one}
use lib.ListN.{length, get_or, drop, drop_of_length-le}
use lib.Seq.{drop-cons}
use Rattle.file_records.specs.Conversions.{step_near, near_from, near}

pub record NearTo (ws : List ℕ) (i : ℕ) : Type 0 where
  pub low : 2 ≤ i
  pub so : near ws ≡ near_from (get_or ws (i - 2) 0) (get_or ws (i - 1) 0) (drop i ws)

pub near_start : (ws : List ℕ) → NearTo ws 2
unfolding near near_from
near_start [] = record { low = omega arith; so = refl }
near_start (a ∷ []) = record { low = omega arith; so = refl }
near_start (a ∷ b ∷ ws) = record { low = omega arith; so = refl }

module _ (ws : List ℕ) (i : ℕ) (w : NearTo ws i) where
  near_drop : i < length ws → near_from (get_or ws (i - 2) 0) (get_or ws (i - 1) 0) (drop i ws) ≡ step_near (get_or ws (i - 2) 0) (get_or ws i 0) && near_from (get_or ws (i - 1) 0) (get_or ws i 0) (drop (i + 1) ws)
  unfolding near_from
  near_drop h = rw (add-one i, drop-cons ws i 0 h)

  module _ (t : Bool) (h : i < length ws) (e : t ≡ step_near (get_or ws (i - 2) 0) (get_or ws i 0)) where
    pub near_no : t ≡ false → false ≡ near ws
    near_no f = sym (w.so ∙ (near_drop h ∙ rw (sym e ∙ f)))

    pub near_next : t ≡ true → NearTo ws (i + 1)
    near_next y =
        let e₃ : i + 1 - 2 ≡ i - 1 = omega arith in
        let e₄ : i + 1 - 1 ≡ i = omega arith in
        record { low = omega (arith, w.low); so = rw (e₃, e₄) (w.so ∙ (near_drop h ∙ rw (sym e ∙ y))) }

  pub near_end : length ws ≤ i → true ≡ near ws
  unfolding near_from
  near_end h = sym (w.so ∙ rw (drop_of_length-le ws h))
