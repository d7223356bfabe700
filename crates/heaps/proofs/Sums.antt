-- The least sum, found in one pass, and the choice between two marks.
use mathlib.Core.Path.{◌≡◌, refl, sym, ap}
use mathlib.Core.Bool.{true, false, true≢false}
use mathlib.Core.List.{List}
use Rattle.std.specs.Prelude.{Some, None}
use Prim.Native.Nat.{ℕ, ◌+◌, ◌≤◌, ◌<◌, min}
use native.Mathlib.Decide.{ℕ_discrete, dec_lt}
use native.Mathlib.Omega.{arith}
use lib.Dec.{ltb}
use borrow.Author.Tests.{ltb-false}
use Rattle.geometry.specs.Words.{word}
use Rattle.heaps.specs.inner.Sums.{unreached, whole, LeastOf, LeastIn, LeastFour, Has, LowTo, Sooner}

-- the best of the places from lo on and before j
pub record BestTo (f : ℕ → ℕ) (lo hi best low j : ℕ) : Type 0 where
  pub from : lo ≤ j
  pub within : j ≤ hi
  pub after : lo ≤ best
  pub most : best ≤ hi
  pub top : low ≤ unreached
  pub has : best < hi → (best < j) × (f best ≡ low) × (low < unreached)
  pub none : best ≡ hi → low ≡ unreached
  pub least : (i : ℕ) → lo ≤ i → i < j → low ≤ f i

module _ {f : ℕ → ℕ} {lo hi : ℕ} where
  pub best_none : lo ≤ hi → BestTo f lo hi hi unreached lo
  best_none l =
      record {
        from = omega arith;
        within = l;
        after = l;
        most = omega arith;
        top = omega arith;
        has = λ h. absurd (omega arith);
        none = λ e. refl;
        least = λ i a b. absurd (omega arith);
      }

  module _ {best low j : ℕ} (b : BestTo f lo hi best low j) (l : j < hi) where
    pub best_kept : low ≤ f j → BestTo f lo hi best low (j + 1)
    best_kept k =
        record {
          from = omega (arith, b.from);
          within = omega arith;
          after = b.after;
          most = b.most;
          top = b.top;
          has = λ h. let o = b.has h in (omega (arith, o.0), o.1, o.2);
          none = b.none;
          least = λ i a c. elim (dec_lt i j) [ yes g ↦ b.least i a g | no g ↦ let q : j ≡ i = omega arith in omega (arith, ap f q) ];
        }

    pub best_new : f j < low → BestTo f lo hi j (f j) (j + 1)
    best_new k =
        record {
          from = omega (arith, b.from);
          within = omega arith;
          after = b.from;
          most = omega arith;
          top = omega (arith, b.top);
          has = λ h. (omega arith, refl, omega (arith, b.top));
          none = λ e. absurd (omega arith);
          least = λ i a c.
              elim (dec_lt i j) [
                | yes g ↦ omega (arith, b.least i a g)
                | no g ↦ let q : j ≡ i = omega arith in omega (arith, ap f q)
              ];
        }

  pub best_least : {best low j : ℕ} → hi ≤ j → BestTo f lo hi best low j → LeastOf f lo hi best
  best_least l b =
      record {
        from = b.after;
        within = b.most;
        reached = λ h. let o = b.has h in omega (arith, o.1, o.2);
        least = λ h i a c. omega (arith, (b.has h).1, b.least i a (omega arith));
        none = λ e i a c. omega (arith, b.none e, b.least i a (omega arith));
      }

-- the least of four, and of four more
pub four_least : (f : ℕ → ℕ) (j a b r : ℕ) → a ≡ min (f j) (f (j + 1)) → b ≡ min (f (j + 2)) (f (j + 3)) → r ≡ min a b → LeastFour f j r
four_least f j a b r e g h = found (dec_lt (f j) (f (j + 1))) (dec_lt (f (j + 2)) (f (j + 3))) (dec_lt a b)
  where
    all : (k : ℕ) → j ≤ k → k < j + 4 → r ≤ f k
    all k l m =
        elim (ℕ_discrete k j) [
          | yes q ↦ omega (arith, ap f q, e, h)
          | no q ↦
              elim (ℕ_discrete k (j + 1)) [
                | yes q₁ ↦ omega (arith, ap f q₁, e, h)
                | no q₁ ↦
                    elim (ℕ_discrete k (j + 2)) [
                      | yes q₂ ↦ omega (arith, ap f q₂, g, h)
                      | no q₂ ↦ let q₃ : k ≡ j + 3 = omega arith in omega (arith, ap f q₃, g, h)
                    ]
              ]
        ]

    at : (k : ℕ) → j ≤ k → k < j + 4 → f k ≡ r → LeastFour f j r
    at k l m q = record { all = all; place = k; from = l; before = m; is = q }

    found : Dec (f j < f (j + 1)) → Dec (f (j + 2) < f (j + 3)) → Dec (a < b) → LeastFour f j r
    found (yes x) y (yes z) = at j (omega arith) (omega arith) (omega (arith, e, h))
    found (no x) y (yes z) = at (j + 1) (omega arith) (omega arith) (omega (arith, e, h))
    found x (yes y) (no z) = at (j + 2) (omega arith) (omega arith) (omega (arith, g, h))
    found x (no y) (no z) = at (j + 3) (omega arith) (omega arith) (omega (arith, g, h))

-- a place that was found
pub found_in : (f : ℕ → ℕ) (lo hi r : ℕ) → LeastIn f lo hi (Some r) → (r < hi) × LeastOf f lo hi r
unfolding LeastIn
found_in f lo hi r h = h

module _ {f : ℕ → ℕ} {lo hi : ℕ} where
  pub low_none : lo ≤ hi → LowTo f lo hi unreached lo lo
  low_none l = record { top = omega arith; after = omega arith; within = l; has = λ h. absurd (omega arith); least = λ i a b. absurd (omega arith) }

  module _ {low from j : ℕ} (x : LowTo f lo hi low from j) where
    pub low_kept : (k : ℕ) → ((i : ℕ) → j ≤ i → i < k → low ≤ f i) → LowTo f lo hi low from k
    low_kept k more =
        record {
          top = x.top;
          after = x.after;
          within = x.within;
          has = x.has;
          least = λ i a b. elim (dec_lt i j) [ yes g ↦ x.least i a g | no g ↦ more i (omega arith) b ];
        }

    pub low_new : (k new : ℕ) → lo ≤ j → j < hi → new < low → Has f j hi new → ((i : ℕ) → j ≤ i → i < k → new ≤ f i) → LowTo f lo hi new j k
    low_new k new l m h has more =
        record {
          top = omega (arith, x.top);
          after = l;
          within = omega arith;
          has = λ g. has;
          least = λ i a b. elim (dec_lt i j) [ yes g ↦ omega (arith, x.least i a g) | no g ↦ more i (omega arith) b ];
        }

    -- with four more, and with one more
    pub four_kept : {four : ℕ} → LeastFour f j four → low ≤ four → LowTo f lo hi low from (j + 4)
    four_kept q h = low_kept (j + 4) (λ i a b. omega (arith, q.all i a b))

    pub four_new : {four : ℕ} → LeastFour f j four → lo ≤ j → j + 4 ≤ hi → four < low → LowTo f lo hi four j (j + 4)
    four_new {four} q l m h = low_new (j + 4) four l (omega arith) h (record { place = q.place; after = q.from; before = omega (arith, q.before); is = q.is }) q.all

    one_is : (i : ℕ) → j ≤ i → i < j + 1 → f j ≡ f i
    one_is i a b = let q : j ≡ i = omega arith in ap f q

    pub one_kept : low ≤ f j → LowTo f lo hi low from (j + 1)
    one_kept h = low_kept (j + 1) (λ i a b. omega (arith, h, one_is i a b))

    pub one_new : lo ≤ j → j < hi → f j < low → LowTo f lo hi (f j) j (j + 1)
    one_new l m h = low_new (j + 1) (f j) l m h (record { place = j; after = omega arith; before = m; is = refl }) (λ i a b. omega (arith, one_is i a b))

  -- where the least stands
  module _ {low from : ℕ} (x : LowTo f lo hi low from hi) where
    pub least_here : (r : ℕ) → (low ≡ unreached → ⊥) → from ≤ r → r < hi → f r ≡ low → LeastIn f lo hi (Some r)
    unfolding LeastIn
    least_here r g a b e = (
      b,
      record {
        from = omega (arith, x.after);
        within = omega arith;
        reached = λ h. omega (arith, e, x.top, g);
        least = λ h j c d. omega (arith, e, x.least j c d);
        none = λ h. absurd (omega arith);
      },
    )

    pub least_none : low ≡ unreached → LeastIn f lo hi None
    unfolding LeastIn
    least_none e j c d = omega (arith, e, x.least j c d)

    pub least_found : (low ≡ unreached → ⊥) → ((k : ℕ) → from ≤ k → k < hi → f k ≡ low → ⊥) → LeastIn f lo hi None
    least_found g no_place = let h = x.has (omega (arith, x.top, g)) in absurd (no_place h.place h.after h.before h.is)

  -- where none is reached, the end stands for its place
  pub least_end : lo ≤ hi → LeastIn f lo hi None → LeastOf f lo hi hi
  unfolding LeastIn
  least_end l h = record { from = l; within = omega arith; reached = λ g. absurd (omega arith); least = λ g. absurd (omega arith); none = λ e. h }

-- what is to be done next
module _ {bounds key order : List ℕ} {i hoped j waiting : ℕ} where
  pub sooner_none : hoped ≤ i → Sooner bounds key order i hoped j waiting false
  sooner_none l = record { hope = λ e. absurd (true≢false (sym e)); none = λ e h. l; later = λ e h g. absurd (omega arith) }

  pub sooner_only : i < hoped → waiting ≤ j → Sooner bounds key order i hoped j waiting true
  sooner_only l h = record { hope = λ e. l; none = λ e. absurd (true≢false e); later = λ e. absurd (true≢false e) }

  pub sooner_less : i < hoped → j < waiting → Sooner bounds key order i hoped j waiting (ltb (whole bounds key (word order i)) (whole bounds key (word order j)))
  sooner_less l h =
      record {
        hope = λ e. l;
        none = λ e g. absurd (omega arith);
        later = λ e g k. ltb-false (whole bounds key (word order i)) (whole bounds key (word order j)) e;
      }
