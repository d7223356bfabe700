-- What each return and each turn of the search's small functions shows.
use mathlib.Core.Path.{◌≡◌, refl, sym, ap, ◌∙◌, subst}
use mathlib.Core.Logic.{inl, inr}
use mathlib.Core.Bool.{Bool, true, false}
use mathlib.Core.List.{List}
use Prim.Native.Nat.{ℕ, zero, suc, ◌+◌, ◌*◌, ◌-◌, ◌/◌, ◌<◌, ◌≤◌, min}
use native.Mathlib.Decide.{ℕ_discrete, dec_lt}
use native.Mathlib.Omega.{arith}
use lib.Dec.{ltb}
use borrow.Author.Tests.{ltb-true, ltb-false}
use lib.ListN.{length, set, replicate, length-set, length-replicate}
use lib.Seq.{get_or-set_same, get_or-set_other}
use Rattle.geometry.specs.Words.{Point, point, word, place_at}
use Rattle.lengths.specs.Length.{root_up, squared, length_of}
use Rattle.lengths.specs.Charge.{charge}
use Rattle.tables.specs.Tables.{Records, figure_of, is_corner, place_of}
use Rattle.tables.proofs.Splices.{word_replicate}
use Rattle.search.specs.Network.{cost}
use Rattle.search.specs.inner.Keys.{Filled, Open}
use Rattle.search.specs.inner.Parts.{Places, Corners, Bend, Ranked}
use Rattle.search.proofs.Network.{corner_below}

-- the places of marks, listed one by one
pub places_none : (R : Records) (places : List ℕ) → length places ≡ 480 → Places R places 0
places_none R places l = record { sized = l; each = λ v h. absurd (omega arith) }

pub places_next : (R : Records) (places : List ℕ) (i e n : ℕ) → i < 240 → Places R places i → point e n ≡ place_of R i → Places R (set (set places (2 * i) e) (2 * i + 1) n) (i + 1)
places_next R places i e n l p h = record { sized = length-set (set places (2 * i) e) (2 * i + 1) n ∙ length-set places (2 * i) e ∙ p.sized; each = λ v b. each v b (dec_lt v i) }
  where
    new : List ℕ
    new = set (set places (2 * i) e) (2 * i + 1) n

    kept : (k : ℕ) → k < 2 * i → word new k ≡ word places k
    kept k b = get_or-set_other (set places (2 * i) e) (2 * i + 1) k n 0 (omega arith) ∙ get_or-set_other places (2 * i) k e 0 (omega arith)

    here : place_at new (2 * i) ≡ point e n
    here =
        let a : word new (2 * i) ≡ e = get_or-set_other (set places (2 * i) e) (2 * i + 1) (2 * i) n 0 (omega arith) ∙ get_or-set_same places (2 * i) e 0 (omega (arith, p.sized)) in
        let b : word new (2 * i + 1) ≡ n = get_or-set_same (set places (2 * i) e) (2 * i + 1) n 0 (omega (arith, p.sized, length-set places (2 * i) e)) in
        rw (a, b)

    each : (v : ℕ) → v < i + 1 → Dec (v < i) → place_at new (2 * v) ≡ place_of R v
    each v b (yes g) = let a = kept (2 * v) (omega arith) in let c = kept (2 * v + 1) (omega arith) in rw (a, c) (p.each v g)
    each v b (no g) = let q : i ≡ v = omega arith in subst (λ (k : ℕ). place_at new (2 * k) ≡ place_of R k) q (here ∙ h)

-- the keys before the search
pub filled_all : (n x : ℕ) → Filled (replicate n x) n x
filled_all n x = record { sized = length-replicate n x; each = λ i l. word_replicate n i x l }

-- what a straight costs, by the figure and its square
pub cost_is : (R : Records) (v s : ℕ) (p q : Point) (f n : ℕ) → p ≡ place_of R v → q ≡ place_of R s → f ≡ figure_of R.runs → n ≡ squared p q
    → cost R v s ≡ charge f (root_up n)
unfolding cost length_of
cost_is R v s p q f n a b g e = rw (g, e, a, b)

-- the same of two places
charge_is : (f n : ℕ) (p q : Point) → n ≡ squared p q → charge f (length_of p q) ≡ charge f (root_up n)
unfolding length_of
charge_is f n p q e = rw e

-- a way that is not too dear has a key below the old
pub below_old : (ks old x : ℕ) (t : Bool) → ks + 2 ≤ old → t ≡ ltb ((old - ks - 2) / 256) x → t ≡ false → 256 * x + 1 + ks < old
below_old ks old x t l d h = let g = ltb-false ((old - ks - 2) / 256) x (sym d ∙ h) in omega arith

-- the lesser of the old key and that of the way from p by a settled mark at q
module _ (f : ℕ) (p q : Point) (ks old : ℕ) where
  pub lesser_near : old < ks + 2 → old ≡ min old (256 * charge f (length_of p q) + 1 + ks)
  lesser_near l = omega arith

  module _ (n : ℕ) (t : Bool) (l : ks + 2 ≤ old) (s : n ≡ squared p q) (d : t ≡ ltb ((old - ks - 2) / 256) (charge f (root_up n))) where
    pub lesser_dear : t ≡ true → old ≡ min old (256 * charge f (length_of p q) + 1 + ks)
    lesser_dear h = let g = ltb-true ((old - ks - 2) / 256) (charge f (root_up n)) (sym d ∙ h) in omega (arith, charge_is f n p q s)

    pub lesser_new : t ≡ false → 256 * charge f (root_up n) + 1 + ks ≡ min old (256 * charge f (length_of p q) + 1 + ks)
    lesser_new h = let g = below_old ks old (charge f (root_up n)) t l d h in omega (arith, charge_is f n p q s)

pub open_dec : (waiting : List ℕ) (n v : ℕ) → Dec (Open waiting n v)
open_dec waiting zero v = no (λ o. omega (arith, o.within))
open_dec waiting (suc n) v = go (open_dec waiting n v) (ℕ_discrete (word waiting n) v)
  where
    go : Dec (Open waiting n v) → Dec (word waiting n ≡ v) → Dec (Open waiting (suc n) v)
    go (yes o) d = yes (record { place = o.place; within = omega (arith, o.within); is = o.is })
    go (no o) (yes e) = yes (record { place = n; within = omega arith; is = e })
    go (no o) (no e) = no (λ x. last x (dec_lt x.place n))
      where
        last : (x : Open waiting (suc n) v) → Dec (x.place < n) → ⊥
        last x (yes l) = o (record { place = x.place; within = l; is = x.is })
        last x (no l) = let q : n ≡ x.place = omega (arith, x.within) in e (ap (word waiting) q ∙ x.is)

-- a list stays as it was below the place that is written
pub set_below : (waiting : List ℕ) (n j x : ℕ) → j < n → word (set waiting n x) j ≡ word waiting j
set_below waiting n j x l = get_or-set_other waiting n j x 0 (omega arith)

-- what holds of the first n of a list, and of the mark written behind them
each_listed : (P : ℕ → ℕ → Type 0) (waiting : List ℕ) (n x : ℕ) → n < length waiting → P x n → ((j : ℕ) → j < n → P (word waiting j) j) → (j : ℕ) → j < n + 1 → P (word (set waiting n x) j) j
each_listed P waiting n x l new old j h = go (dec_lt j n)
  where
    go : Dec (j < n) → P (word (set waiting n x) j) j
    go (yes b) = subst (λ (y : ℕ). P y j) (sym (set_below waiting n j x b)) (old j b)
    go (no b) =
        let q : n ≡ j = omega arith in
        subst (λ (y : ℕ). P (word (set waiting n x) y) y) q (subst (λ (y : ℕ). P y n) (sym (get_or-set_same waiting n x 0 l)) new)

module _ {blocks waiting spot : List ℕ} {n i : ℕ} (k : Corners blocks waiting spot i n) where
  pub corners_listed : i < 192 → is_corner blocks i ≡ true → Corners blocks (set waiting n i) (set spot i n) (i + 1) (n + 1)
  corners_listed l e =
      record {
        sized = length-set waiting n i ∙ k.sized;
        spots = length-set spot i n ∙ k.spots;
        few = omega (arith, k.few);
        all = λ v h c. all v h c (dec_lt v i);
        only = λ j h. each (λ x y. is_corner blocks x ≡ true) e (λ y b. k.only y b) j h;
        below = λ j h. each (λ x y. x < i + 1) (omega arith) (λ y b. omega (arith, k.below y b)) j h;
        inverse = λ j h. each (λ x y. word (set spot i n) x ≡ y) here_spot (λ y b. get_or-set_other spot i (word waiting y) n 0 (omega (arith, k.below y b)) ∙ k.inverse y b) j h;
      }
    where
      here : word (set waiting n i) n ≡ i
      here = get_or-set_same waiting n i 0 (omega (arith, k.sized, k.few))

      here_spot : word (set spot i n) i ≡ n
      here_spot = get_or-set_same spot i n 0 (omega (arith, k.spots))

      each : (P : ℕ → ℕ → Type 0) → P i n → ((j : ℕ) → j < n → P (word waiting j) j) → (j : ℕ) → j < n + 1 → P (word (set waiting n i) j) j
      each P = each_listed P waiting n i (omega (arith, k.sized, k.few))

      all : (v : ℕ) → v < i + 1 → is_corner blocks v ≡ true → Dec (v < i) → Open (set waiting n i) (n + 1) v
      all v h c (yes b) =
          let o = k.all v b c in
          record { place = o.place; within = omega (arith, o.within); is = set_below waiting n o.place i o.within ∙ o.is }
      all v h c (no b) = let q : i ≡ v = omega arith in record { place = n; within = omega arith; is = here ∙ q }

  pub corners_passed : is_corner blocks i ≡ false → Corners blocks waiting spot (i + 1) n
  corners_passed e =
      record {
        sized = k.sized;
        spots = k.spots;
        few = omega (arith, k.few);
        all = λ v h c.
            elim (dec_lt v i) [
              | yes b ↦ k.all v b c
              | no b ↦
                  let q : v ≡ i = omega arith in
                  let w : true ≡ false = sym c ∙ ap (is_corner blocks) q ∙ e in
                  let z : ◌≡◌ {A = ℕ} 0 1 = cc in absurd (omega arith)
            ];
        only = k.only;
        below = λ j h. omega (arith, k.below j h);
        inverse = k.inverse;
      }

pub corners_none : (blocks waiting spot : List ℕ) → length waiting ≡ 194 → length spot ≡ 240 → Corners blocks waiting spot 0 0
corners_none blocks waiting spot l h =
    record {
      sized = l;
      spots = h;
      few = omega arith;
      all = λ v h. absurd (omega arith);
      only = λ j h. absurd (omega arith);
      below = λ j h. absurd (omega arith);
      inverse = λ j h. absurd (omega arith);
    }

-- the corners with the first end behind them
pub corners_ranked : (blocks waiting spot : List ℕ) (n first : ℕ) → 192 ≤ first → first < 240 → Corners blocks waiting spot 192 n
    → Ranked blocks first (set waiting n first) (set spot first n) (n + 1)
corners_ranked blocks waiting spot n first lo hi k =
    record {
      sized = length-set waiting n first ∙ k.sized;
      spots = length-set spot first n ∙ k.spots;
      few = omega (arith, k.few);
      all = all;
      only = λ j h. each (λ x y. Bend blocks first x) (inl refl) (λ y b. inr (k.only y b)) j h;
      inverse = λ j h. each (λ x y. word (set spot first n) x ≡ y) here_spot (λ y b. get_or-set_other spot first (word waiting y) n 0 (omega (arith, k.below y b)) ∙ k.inverse y b) j h;
    }
  where
    here : word (set waiting n first) n ≡ first
    here = get_or-set_same waiting n first 0 (omega (arith, k.sized, k.few))

    here_spot : word (set spot first n) first ≡ n
    here_spot = get_or-set_same spot first n 0 (omega (arith, k.spots))

    each : (P : ℕ → ℕ → Type 0) → P first n → ((j : ℕ) → j < n → P (word waiting j) j) → (j : ℕ) → j < n + 1 → P (word (set waiting n first) j) j
    each P = each_listed P waiting n first (omega (arith, k.sized, k.few))

    all : (v : ℕ) → Bend blocks first v → Open (set waiting n first) (n + 1) v
    all v (inl q) = record { place = n; within = omega arith; is = here ∙ sym q }
    all v (inr c) =
        let o = k.all v (corner_below blocks v c) c in
        record { place = o.place; within = omega (arith, o.within); is = set_below waiting n o.place first o.within ∙ o.is }
