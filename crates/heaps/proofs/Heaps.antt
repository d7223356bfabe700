-- The heap of the marks hoped for: how a mark goes down in it, and that the least sum stands at its first place.
use mathlib.Core.Path.{◌≡◌, refl, sym, ap, ◌∙◌, subst}
use mathlib.Core.List.{List}
use Prim.Native.Nat.{ℕ, zero, suc, ◌+◌, ◌*◌, ◌-◌, ◌/◌, ◌≤◌, ◌<◌}
use native.Mathlib.Decide.{ℕ_discrete}
use native.Mathlib.Omega.{arith}
use Rattle.geometry.specs.Words.{word}
use Rattle.heaps.specs.inner.Sums.{whole}
use Rattle.heaps.specs.inner.Marks.{Among, Swapped}
use Rattle.heaps.specs.inner.Heaps.{Heap, Rearranged, LesserChild, Heapable}
use Rattle.heaps.proofs.Marks.{among, still_once}

pub rearranged_none : {o : List ℕ} {n : ℕ} → Rearranged o o n
rearranged_none = record { sized = refl; others = λ k l. refl; to = λ v a. a; back = λ v a. a; once = λ count l f. f }

pub rearranged_then : {o p q : List ℕ} {n : ℕ} → Rearranged o p n → Rearranged p q n → Rearranged o q n
rearranged_then a b =
    record {
      sized = b.sized ∙ a.sized;
      others = λ k l. b.others k l ∙ a.others k l;
      to = λ v x. b.to v (a.to v x);
      back = λ v x. a.back v (b.back v x);
      once = λ count l f. b.once count l (a.once count l f);
    }

module _ {o o' : List ℕ} {i j n : ℕ} (x : Swapped o o' i j) (a : i < j) (b : j < n) where
  pub rearranged_swap : Rearranged o o' n
  rearranged_swap =
      record {
        sized = x.sized;
        others = λ k l. x.others k (λ q. omega arith) (λ q. omega arith);
        to = to;
        back = back;
        once = λ count l f. let e : j ≡ j + 1 - 1 = omega arith in still_once f (subst (λ (k : ℕ). Swapped o o' i k) e x) (omega arith) (omega arith);
      }
    where
      to : (v : ℕ) → Among o 0 n v → Among o' 0 n v
      to v m =
          elim (ℕ_discrete m.place i) [
            | yes q ↦ record { place = j; from = omega arith; before = b; is = x.second ∙ ap (word o) (sym q) ∙ m.is }
            | no q ↦
                elim (ℕ_discrete m.place j) [
                  | yes r ↦ record { place = i; from = omega arith; before = omega arith; is = x.first ∙ ap (word o) (sym r) ∙ m.is }
                  | no r ↦ record { place = m.place; from = m.from; before = m.before; is = x.others m.place q r ∙ m.is }
                ]
          ]

      back : (v : ℕ) → Among o' 0 n v → Among o 0 n v
      back v m =
          elim (ℕ_discrete m.place i) [
            | yes q ↦ record { place = j; from = omega arith; before = b; is = sym x.first ∙ ap (word o') (sym q) ∙ m.is }
            | no q ↦
                elim (ℕ_discrete m.place j) [
                  | yes r ↦ record { place = i; from = omega arith; before = omega arith; is = sym x.second ∙ ap (word o') (sym r) ∙ m.is }
                  | no r ↦ record { place = m.place; from = m.from; before = m.before; is = sym (x.others m.place q r) ∙ m.is }
                ]
          ]

pub heapable_rearranged : {bounds key o o' : List ℕ} {n : ℕ} → Heapable bounds key o n → Rearranged o o' n → Heapable bounds key o' n
heapable_rearranged {bounds} {key} {o} {o'} {n} h x =
    record {
      sums =
          record {
            listed = omega (arith, x.sized, h.sums.listed);
            from = omega arith;
            keyed = h.sums.keyed;
            bounded = h.sums.bounded;
            marks = λ j a b. let m = x.back (word o' j) (among o' 0 n j a b) in omega (arith, m.is, h.sums.marks m.place m.from m.before);
            small = λ j a b.
                let m = x.back (word o' j) (among o' 0 n j a b) in
                omega (arith, ap (whole bounds key) m.is, h.sums.small m.place m.from m.before);
          };
      few = h.few;
    }

-- the sum of the mark at place i
abbrev sum : (bounds key order : List ℕ) → ℕ → ℕ
sum bounds key order i = whole bounds key (word order i)

-- the mark at `at` may be greater than its children; all else below the places from `from` on is a heap
pub record Sinking (bounds key order : List ℕ) (from at n : ℕ) : Type 0 where
  pub after : from ≤ at
  pub within : at ≤ n
  pub down : (i c : ℕ) → from ≤ i → (i ≡ at → ⊥) → 2 * i + 1 ≤ c → c ≤ 2 * i + 2 → c < n → whole bounds key (word order i) ≤ whole bounds key (word order c)
  pub past : (i c : ℕ) → from ≤ i → 2 * i + 1 ≤ at → at ≤ 2 * i + 2 → 2 * at + 1 ≤ c → c ≤ 2 * at + 2 → c < n → whole bounds key (word order i) ≤ whole bounds key (word order c)

pub heap_none : {bounds key o : List ℕ} (n : ℕ) → Heap bounds key o (n / 2) n
heap_none n = record { down = λ i c a b d l. absurd (omega arith) }

module _ {bounds key : List ℕ} {n : ℕ} where
  pub heap_from : {o : List ℕ} {f g : ℕ} → f ≤ g → Heap bounds key o f n → Heap bounds key o g n
  heap_from l h = record { down = λ i c a. h.down i c (omega arith) }

  pub sinking_first : {o : List ℕ} {i : ℕ} → i ≤ n → Heap bounds key o (i + 1) n → Sinking bounds key o i i n
  sinking_first w h =
      record {
        after = omega arith;
        within = w;
        down = λ i c a ne. h.down i c (omega arith);
        past = λ i c a b d. absurd (omega arith);
      }

  module _ {o : List ℕ} {from at : ℕ} (s : Sinking bounds key o from at n) where
    pub sunk_leaf : n ≤ 2 * at + 1 → Heap bounds key o from n
    sunk_leaf l = record { down = λ i c a b d e. s.down i c a (λ q. omega arith) b d e }

    module _ {to : ℕ} (k : LesserChild bounds key o at n to) where
      pub sunk_above : sum bounds key o at ≤ sum bounds key o to → Heap bounds key o from n
      sunk_above l =
          record {
            down = λ i c a b d e.
                elim (ℕ_discrete i at) [
                  | yes q ↦ omega (arith, ap (sum bounds key o) q, k.least c (omega arith) (omega arith) e)
                  | no q ↦ s.down i c a q b d e
                ];
          }

      pub sinking_next : {o' : List ℕ} → sum bounds key o to < sum bounds key o at → Swapped o o' at to → Sinking bounds key o' from to n
      sinking_next {o'} l x =
          record {
            after = omega (arith, s.after, k.from);
            within = omega (arith, k.within);
            down = down;
            past = λ i c a b d e f g.
                let q : i ≡ at = omega (arith, k.from, k.to) in
                omega (
                  arith,
                  ap (sum bounds key o') q,
                  now_first,
                  stays c (λ r. omega (arith, k.from)) (λ r. omega arith),
                  s.down to c (omega (arith, s.after, k.from)) (λ r. omega (arith, k.from)) e f g,
                );
          }
        where
          now_first : sum bounds key o' at ≡ sum bounds key o to
          now_first = ap (whole bounds key) x.first

          now_second : sum bounds key o' to ≡ sum bounds key o at
          now_second = ap (whole bounds key) x.second

          stays : (j : ℕ) → (j ≡ at → ⊥) → (j ≡ to → ⊥) → sum bounds key o' j ≡ sum bounds key o j
          stays j p q = ap (whole bounds key) (x.others j p q)

          down : (i c : ℕ) → from ≤ i → (i ≡ to → ⊥) → 2 * i + 1 ≤ c → c ≤ 2 * i + 2 → c < n → sum bounds key o' i ≤ sum bounds key o' c
          down i c a ne b d e = go (ℕ_discrete i at) (ℕ_discrete c to) (ℕ_discrete c at)
            where
              go : Dec (i ≡ at) → Dec (c ≡ to) → Dec (c ≡ at) → sum bounds key o' i ≤ sum bounds key o' c
              go (yes p) (yes q) r = omega (arith, ap (sum bounds key o') p, ap (sum bounds key o') q, now_first, now_second)
              go (yes p) (no q) r =
                  omega (arith, ap (sum bounds key o') p, now_first, stays c (λ g. omega arith) q, k.least c (omega arith) (omega arith) e)
              go (no p) (yes q) r = absurd (p (omega (arith, k.from, k.to)))
              go (no p) (no q) (yes r) =
                  omega (arith, ap (sum bounds key o') r, now_first, stays i p ne, s.past i to a (omega arith) (omega arith) k.from k.to k.within)
              go (no p) (no q) (no r) = omega (arith, stays i p ne, stays c r q, s.down i c a p b d e)

  -- the first place of a heap has the least sum
  pub heap_top : {o : List ℕ} → Heap bounds key o 0 n → (j : ℕ) → j < n → sum bounds key o 0 ≤ sum bounds key o j
  heap_top {o} h j l = go j j (omega arith) l
    where
      go : (most j : ℕ) → j ≤ most → j < n → sum bounds key o 0 ≤ sum bounds key o j
      go zero j a l = let q : j ≡ 0 = omega arith in omega (arith, ap (sum bounds key o) q)
      go (suc most) j a l =
          elim (ℕ_discrete j 0) [
            | yes q ↦ omega (arith, ap (sum bounds key o) q)
            | no q ↦ omega (arith, go most ((j - 1) / 2) (omega arith) (omega arith), h.down ((j - 1) / 2) j (omega arith) (omega arith) (omega arith) l)
          ]

-- a heap whose marks and keys stay from some place on
pub heap_kept : {bounds key key' o o' : List ℕ} {f n m : ℕ} → n ≤ m → ((j : ℕ) → f ≤ j → j < n → word o' j ≡ word o j)
    → ((j : ℕ) → f ≤ j → j < n → word key' (word o j) ≡ word key (word o j)) → Heap bounds key o f m → Heap bounds key' o' f n
heap_kept {bounds} {key} {key'} {o} {o'} {f} {n} w s k h =
    record { down = λ i c a b d e. omega (arith, same i a (omega arith), same c (omega arith) e, h.down i c a b d (omega arith)) }
  where
    same : (j : ℕ) → f ≤ j → j < n → whole bounds key' (word o' j) ≡ whole bounds key (word o j)
    same j a b = let e = s j a b in omega (arith, ap (word key') e, ap (word bounds) e, k j a b)

-- no greater than either child
two : (bounds key order : List ℕ) (i r : ℕ) → sum bounds key order r ≤ sum bounds key order (2 * i + 1) → sum bounds key order r ≤ sum bounds key order (2 * i + 1 + 1)
    → (c : ℕ) → 2 * i + 1 ≤ c → c ≤ 2 * i + 2 → sum bounds key order r ≤ sum bounds key order c
two bounds key order i r l h c a b =
    elim (ℕ_discrete c (2 * i + 1)) [
      | yes q ↦ omega (arith, ap (sum bounds key order) q)
      | no q ↦ let e : c ≡ 2 * i + 1 + 1 = omega arith in omega (arith, ap (sum bounds key order) e)
    ]

-- what choosing the lesser child shows
module _ {bounds key order : List ℕ} {i n : ℕ} where
  pub only_child : 2 * i + 1 < n → n ≤ 2 * i + 1 + 1 → LesserChild bounds key order i n (2 * i + 1)
  only_child l h =
      record {
        from = omega arith;
        to = omega arith;
        within = l;
        least = λ c a b d. let q : c ≡ 2 * i + 1 = omega arith in omega (arith, ap (sum bounds key order) q);
      }

  pub second_child : 2 * i + 1 + 1 < n → sum bounds key order (2 * i + 1 + 1) < sum bounds key order (2 * i + 1) → LesserChild bounds key order i n (2 * i + 1 + 1)
  second_child l h =
      record {
        from = omega arith;
        to = omega arith;
        within = l;
        least = λ c a b d. two bounds key order i (2 * i + 1 + 1) (omega arith) (omega arith) c a b;
      }

  pub first_child : 2 * i + 1 + 1 < n → sum bounds key order (2 * i + 1) ≤ sum bounds key order (2 * i + 1 + 1) → LesserChild bounds key order i n (2 * i + 1)
  first_child l h =
      record {
        from = omega arith;
        to = omega arith;
        within = omega arith;
        least = λ c a b d. two bounds key order i (2 * i + 1) (omega arith) h c a b;
      }
