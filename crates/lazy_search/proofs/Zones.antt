-- How marks go over from one part of the list to the next: the place of a mark and the last of its part are exchanged.
use mathlib.Core.Path.{◌≡◌, sym, ap, ◌∙◌}
use mathlib.Core.Logic.{◌⊎◌, inl, inr}
use mathlib.Core.List.{List}
use Prim.Native.Nat.{ℕ, ◌-◌, ◌≤◌, ◌<◌}
use native.Mathlib.Decide.{ℕ_discrete}
use native.Mathlib.Omega.{arith}
use Rattle.geometry.specs.Words.{word}
use Rattle.heaps.specs.inner.Marks.{Among, Once, Swapped}
use Rattle.heaps.proofs.Marks.{among, still_below, still_once}
use Rattle.lazy_search.specs.inner.Zones.{Zones}
use Rattle.lazy_search.proofs.Lazy.{Passes, Apart, Same}

-- two parts of the list have no mark in common
pub parts_apart : {o : List ℕ} {count : ℕ} (lo mid hi : ℕ) → Once o count → mid ≤ count → hi ≤ count → Apart (Among o lo mid) (Among o mid hi)
parts_apart lo mid hi once c d v a b =
    omega (arith, a.before, b.from, once a.place b.place (omega (arith, a.before)) (omega (arith, b.before)) (a.is ∙ sym b.is))

module _ {o o' : List ℕ} {count b mid : ℕ} (once : Once o count) (x : Swapped o o' b (mid - 1)) (h : b < mid) (c : mid ≤ count) where
  -- the mark at b goes over from the part before mid to that from mid on
  pub goes_over : (lo hi : ℕ) → lo ≤ b → mid ≤ hi → hi ≤ count → Passes (Among o lo mid) (Among o mid hi) (Among o' lo (mid - 1)) (Among o' (mid - 1) hi) (word o b)
  goes_over lo hi l m d =
      record {
        was = among o lo mid b l h;
        lost = lost;
        kept = kept;
        got = got;
        has = record { place = mid - 1; from = omega arith; before = omega arith; is = x.second };
        keeps = λ v a.
            record {
              place = a.place;
              from = omega (arith, a.from);
              before = a.before;
              is = x.others a.place (λ q. omega (arith, a.from)) (λ q. omega (arith, a.from)) ∙ a.is;
            };
      }
    where
      lost : (v : ℕ) → Among o' lo (mid - 1) v → Among o lo mid v × (v ≡ word o b → ⊥)
      lost v a =
          elim (ℕ_discrete a.place b) [
            | yes q ↦
                let e : word o (mid - 1) ≡ v = sym x.first ∙ ap (word o') (sym q) ∙ a.is in (
                  record { place = mid - 1; from = omega arith; before = omega arith; is = e },
                  λ r. omega (arith, a.before, once (mid - 1) b (omega arith) (omega arith) (e ∙ r)),
                )
            | no q ↦
                let e : word o a.place ≡ v = sym (x.others a.place q (λ r. omega (arith, a.before))) ∙ a.is in (
                  record { place = a.place; from = a.from; before = omega (arith, a.before); is = e },
                  λ r. q (once a.place b (omega (arith, a.before)) (omega arith) (e ∙ r)),
                )
          ]

      kept : (v : ℕ) → Among o lo mid v → (v ≡ word o b → ⊥) → Among o' lo (mid - 1) v
      kept v a g =
          elim (ℕ_discrete a.place b) [
            | yes q ↦ absurd (g (sym a.is ∙ ap (word o) q))
            | no q ↦
                elim (ℕ_discrete a.place (mid - 1)) [
                  | yes r ↦ record { place = b; from = l; before = omega arith; is = x.first ∙ ap (word o) (sym r) ∙ a.is }
                  | no r ↦ record { place = a.place; from = a.from; before = omega (arith, a.before); is = x.others a.place q r ∙ a.is }
                ]
          ]

      got : (v : ℕ) → Among o' (mid - 1) hi v → (v ≡ word o b) ⊎ Among o mid hi v
      got v a =
          elim (ℕ_discrete a.place (mid - 1)) [
            | yes q ↦ inl (sym a.is ∙ ap (word o') q ∙ x.second)
            | no q ↦
                inr
                (record {
                  place = a.place;
                  from = omega (arith, a.from);
                  before = a.before;
                  is = sym (x.others a.place (λ r. omega (arith, a.from)) q) ∙ a.is;
                })
          ]

  -- a part that has neither place keeps its marks
  pub part_same : (lo hi : ℕ) → ((k : ℕ) → lo ≤ k → k < hi → (k ≡ b → ⊥) × (k ≡ mid - 1 → ⊥)) → Same (Among o lo hi) (Among o' lo hi)
  part_same lo hi off =
      record {
        to = λ v a. record { place = a.place; from = a.from; before = a.before; is = stays a ∙ a.is };
        back = λ v a. record { place = a.place; from = a.from; before = a.before; is = sym (stays a) ∙ a.is };
      }
    where
      stays : {p : List ℕ} {v : ℕ} (a : Among p lo hi v) → word o' a.place ≡ word o a.place
      stays a = x.others a.place (off a.place a.from a.before).0 (off a.place a.from a.before).1

module _ {o o' : List ℕ} {hoped waiting count b : ℕ} (z : Zones o hoped waiting count) where
  pub zones_tried : b < hoped → Swapped o o' b (hoped - 1) → Zones o' (hoped - 1) waiting count
  zones_tried l x =
      record {
        sized = x.sized ∙ z.sized;
        start = omega (arith, z.start);
        rest = z.rest;
        few = z.few;
        marks = still_below z.once x l (omega (arith, z.start, z.rest)) z.marks;
        once = still_once z.once x l (omega (arith, z.start, z.rest));
      }

  pub zones_settled : hoped ≤ b → b < waiting → Swapped o o' b (waiting - 1) → Zones o' hoped (waiting - 1) count
  zones_settled h l x =
      record {
        sized = x.sized ∙ z.sized;
        start = omega arith;
        rest = omega (arith, z.rest);
        few = z.few;
        marks = still_below z.once x l (omega (arith, z.rest)) z.marks;
        once = still_once z.once x l (omega (arith, z.rest));
      }
