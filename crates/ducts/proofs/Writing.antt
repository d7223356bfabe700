-- The words of a path, written crossing by crossing.
use mathlib.Core.Path.{◌≡◌, refl, sym, ap, ◌∙◌}
use mathlib.Core.List.{List, [], ◌∷◌, ◌++◌}
use Prim.Native.Nat.{ℕ, suc, ◌+◌, ◌*◌, ◌-◌, ◌/◌, ◌%◌, ◌≤◌, ◌<◌}
use native.Mathlib.Omega.{arith}
use native.Mathlib.Numerals.{add-one}
use Rattle.crossings.specs.declared.Direction.{Direction}
use Rattle.crossings.specs.declared.Direction.TheVariants.{West}
use Rattle.crossings.specs.inner.Directions.{code}
use Rattle.std.specs.Prelude.{map}
use lib.ListN.{length, take, set, get_or, get_or-map, length-set, length-take, length-replicate}
use lib.Seq.{take-suc, take_all}
use Rattle.geometry.specs.Words.{word}
use Rattle.lists.specs.inner.Filled.{filled}
use Rattle.walks.specs.inner.Paths.{moved_by, visits}
use Rattle.ducts.specs.inner.Written.{spot_words}
use Rattle.ducts.proofs.Visits.{visits_first, path_length, next_at_lem}

-- a step of the trail
pub move_is : (trail : List Direction) (i v r : ℕ) → r ≡ moved_by (code (get_or trail i West)) v → r ≡ moved_by (word (map code trail) i) v
move_is trail i v r e = e ∙ ap (λ (d : ℕ). moved_by d v) (sym (get_or-map code trail i West))

filled_length : (n : ℕ) → length (filled {A = ℕ} n 0) ≡ n
unfolding filled
filled_length n = length-replicate n 0

pub cleared_length : (list : List ℕ) → list ≡ filled 8712 0 → length list ≡ 8712
cleared_length list e = ap length e ∙ filled_length 8712

pub spots_length : (xs ys us : List ℕ) → length (spot_words xs ys us) ≡ 2 * length us
unfolding spot_words
spots_length xs ys [] = refl
spots_length xs ys (v ∷ vs) = omega (arith, spots_length xs ys vs)

spots_snoc : (xs ys us : List ℕ) (v : ℕ) → spot_words xs ys (us ++ (v ∷ [])) ≡ spot_words xs ys us ++ (word xs (v / 66) ∷ word ys (v % 66) ∷ [])
unfolding spot_words
spots_snoc xs ys [] v = refl
spots_snoc xs ys (u ∷ us) v = ap (λ (l : List ℕ). word xs (u / 66) ∷ word ys (u % 66) ∷ l) (spots_snoc xs ys us v)

put_two : (ws : List ℕ) (m x y : ℕ) → set (set (ws ++ filled (suc (suc m)) 0) (length ws) x) (suc (length ws)) y ≡ (ws ++ (x ∷ y ∷ [])) ++ filled m 0
unfolding filled
put_two [] m x y = refl
put_two (w ∷ ws) m x y = ap (λ (l : List ℕ). w ∷ l) (put_two ws m x y)

-- k of n crossings are written, the last of them v
pub record Written (xs ys us : List ℕ) (n : ℕ) (list : List ℕ) (v k : ℕ) : Type 0 where
  pub some : 1 ≤ k
  pub within : k ≤ n
  pub at : v ≡ word us (k - 1)
  pub sized : length list ≡ 8712
  pub is : list ≡ spot_words xs ys (take k us) ++ filled (8712 - 2 * k) 0

module _ (xs ys trail : List ℕ) (n start : ℕ) (long : length trail ≡ 4356) (one : 1 ≤ n) (most : n ≤ 4356) where
  abbrev us : List ℕ
  us = visits start (take (n - 1) trail)

  many : length us ≡ n
  many = path_length trail n start long one most

  put_next : (list : List ℕ) (k : ℕ) → k < n → list ≡ spot_words xs ys (take k us) ++ filled (8712 - 2 * k) 0
      → set (set list (2 * k) (word xs (word us k / 66))) (2 * k + 1) (word ys (word us k % 66)) ≡ spot_words xs ys (take (k + 1) us) ++ filled (8712 - 2 * (k + 1)) 0
  put_next list k l e =
      let m = 8712 - 2 * (k + 1) in
      let x = word xs (word us k / 66) in
      let y = word ys (word us k % 66) in
      let t : take (k + 1) us ≡ take k us ++ (word us k ∷ []) = ap (λ (i : ℕ). take i us) (add-one k) ∙ take-suc us k 0 (omega (arith, many)) in
      let z : 8712 - 2 * k ≡ suc (suc m) = omega arith in
      let s : length (take k us) ≡ k = simp length-take (omega (arith, many)) in
      let w : 2 * k ≡ length (spot_words xs ys (take k us)) = omega (arith, spots_length xs ys (take k us)) in
      let w' : 2 * k + 1 ≡ suc (length (spot_words xs ys (take k us))) = omega arith in
      rw (e, z, w', w, t, spots_snoc xs ys (take k us) (word us k)) (put_two (spot_words xs ys (take k us)) m x y)

  pub written_first : (list list' : List ℕ) → list ≡ filled 8712 0 → list' ≡ set (set list (2 * 0) (word xs (start / 66))) (2 * 0 + 1) (word ys (start % 66)) → Written xs ys us n list' start 1
  unfolding spot_words
  written_first list list' e f =
      let q = visits_first start (take (n - 1) trail) in
      record {
        some = omega arith;
        within = omega arith;
        at = sym q;
        sized = ap length f ∙ simp length-set (cleared_length list e);
        is = f ∙ ap (λ (s : ℕ). set (set list (2 * 0) (word xs (s / 66))) (2 * 0 + 1) (word ys (s % 66))) (sym q) ∙ put_next list 0 (omega arith) e;
      }

  pub written_next : (list : List ℕ) (v k r : ℕ) (list' : List ℕ) → Written xs ys us n list v k → k < n → r ≡ moved_by (word trail (k - 1)) v
      → list' ≡ set (set list (2 * k) (word xs (r / 66))) (2 * k + 1) (word ys (r % 66)) → Written xs ys us n list' r (k + 1)
  written_next list v k r list' w l e f =
      let q = next_at_lem trail n start long one most v k r l w.some w.at e in
      let z : k ≡ k + 1 - 1 = omega arith in
      record {
        some = omega arith;
        within = omega arith;
        at = q ∙ ap (word us) z;
        sized = ap length f ∙ simp length-set w.sized;
        is = f ∙ ap (λ (s : ℕ). set (set list (2 * k) (word xs (s / 66))) (2 * k + 1) (word ys (s % 66))) q ∙ put_next list k l w.is;
      }

  pub written_all : (list : List ℕ) (v k : ℕ) → Written xs ys us n list v k → n ≤ k → list ≡ spot_words xs ys us ++ filled (8712 - 2 * n) 0
  written_all list v k w l =
      let q : k ≡ n = omega (arith, w.within) in
      w.is ∙ ap (λ (l : List ℕ). spot_words xs ys l ++ filled (8712 - 2 * k) 0) (take_all k us (omega (arith, many)))
      ∙ ap (λ (i : ℕ). spot_words xs ys us ++ filled (8712 - 2 * i) 0) q

  -- every crossing of the path is below 4,356
  module _ (small : (i : ℕ) → i < n → word us i < 4356) where
    pub first_below : start < 4356
    first_below = omega (arith, small 0 (omega arith), visits_first start (take (n - 1) trail))

    pub last_below : (list : List ℕ) (v k : ℕ) → Written xs ys us n list v k → v < 4356
    last_below list v k w = omega (arith, w.at, small (k - 1) (omega (arith, w.some, w.within)))

    pub next_below : (list : List ℕ) (v k r : ℕ) → Written xs ys us n list v k → k < n → r ≡ moved_by (word trail (k - 1)) v → r < 4356
    next_below list v k r w l e = omega (arith, next_at_lem trail n start long one most v k r l w.some w.at e, small k l)

pub three : (q : List ℕ) (a b c : ℕ) → length q ≡ 3 → set (set (set q 0 a) 1 b) 2 c ≡ a ∷ b ∷ c ∷ []
three [] a b c e = absurd (omega arith)
three (x ∷ []) a b c e = absurd (omega arith)
three (x ∷ y ∷ []) a b c e = absurd (omega arith)
three (x ∷ y ∷ z ∷ []) a b c e = refl
three (x ∷ y ∷ z ∷ w ∷ ws) a b c e = absurd (omega arith)
