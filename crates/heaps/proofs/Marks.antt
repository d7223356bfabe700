-- Two marks of a list exchanged.
use mathlib.Core.Path.{◌≡◌, refl, sym, ap, ◌∙◌}
use mathlib.Core.List.{List}
use Prim.Native.Nat.{ℕ, ◌-◌, ◌≤◌, ◌<◌}
use native.Mathlib.Decide.{ℕ_discrete}
use native.Mathlib.Omega.{arith}
use lib.ListN.{length, set, length-set}
use lib.Seq.{get_or-set_same, get_or-set_other}
use Rattle.geometry.specs.Words.{word}
use Rattle.heaps.specs.inner.Marks.{Among, Once, Swapped}

-- what the code of an exchange does
pub swapped : (o : List ℕ) (i j : ℕ) → i < length o → j < length o → Swapped o (set (set o i (word o j)) j (word o i)) i j
swapped o i j a b =
    record {
      sized = length-set (set o i (word o j)) j (word o i) ∙ length-set o i (word o j);
      first =
          elim (ℕ_discrete i j) [
            | yes q ↦ ap (word (set (set o i (word o j)) j (word o i))) q ∙ second ∙ ap (word o) q
            | no q ↦ get_or-set_other (set o i (word o j)) j i (word o i) 0 q ∙ get_or-set_same o i (word o j) 0 a
          ];
      second = second;
      others = λ k h g. get_or-set_other (set o i (word o j)) j k (word o i) 0 g ∙ get_or-set_other o i k (word o j) 0 h;
    }
  where
    second : word (set (set o i (word o j)) j (word o i)) j ≡ word o i
    second = get_or-set_same (set o i (word o j)) j (word o i) 0 (omega (arith, length-set o i (word o j)))

pub among : (o : List ℕ) (lo hi j : ℕ) → lo ≤ j → j < hi → Among o lo hi (word o j)
among o lo hi j a b = record { place = j; from = a; before = b; is = refl }

module _ {o o' : List ℕ} {count b mid : ℕ} (once : Once o count) (x : Swapped o o' b (mid - 1)) (h : b < mid) (c : mid ≤ count) where
  -- where the mark at place k came from
  source : (k : ℕ) → k < count → (at : ℕ) × (word o' k ≡ word o at) × (at < count) × (k ≡ b → at ≡ mid - 1) × (k ≡ mid - 1 → at ≡ b) × ((k ≡ b → ⊥) → (k ≡ mid - 1 → ⊥) → at ≡ k)
  source k l =
      elim (ℕ_discrete k b) [
        | yes q ↦ (mid - 1, ap (word o') q ∙ x.first, omega arith, λ r. refl, λ r. omega arith, λ g. absurd (g q))
        | no q ↦
            elim (ℕ_discrete k (mid - 1)) [
              | yes r ↦ (b, ap (word o') r ∙ x.second, omega arith, λ g. absurd (q g), λ g. refl, λ g f. absurd (f r))
              | no r ↦ (k, x.others k q r, l, λ g. absurd (q g), λ g. absurd (r g), λ g f. refl)
            ]
      ]

  pub still_below : ((k : ℕ) → k < count → word o k < 240) → (k : ℕ) → k < count → word o' k < 240
  still_below f k l = let s = source k l in omega (arith, s.1, f s.0 s.2)

  pub still_once : Once o' count
  still_once i j a c e = go (ℕ_discrete i b) (ℕ_discrete i (mid - 1)) (ℕ_discrete j b) (ℕ_discrete j (mid - 1))
    where
      same : (source i a).0 ≡ (source j c).0
      same = let s = source i a in let t = source j c in once s.0 t.0 s.2 t.2 (sym s.1 ∙ e ∙ t.1)

      go : Dec (i ≡ b) → Dec (i ≡ mid - 1) → Dec (j ≡ b) → Dec (j ≡ mid - 1) → i ≡ j
      go (yes p) d (yes r) f = omega arith
      go (yes p) d (no q) (yes r) = let s = source i a in let t = source j c in omega (arith, same, s.3 p, t.4 r)
      go (yes p) d (no q) (no r) = let s = source i a in let t = source j c in absurd (r (omega (arith, same, s.3 p, t.5 q r)))
      go (no g) (yes p) (yes r) f = let s = source i a in let t = source j c in omega (arith, same, s.4 p, t.3 r)
      go (no g) (yes p) (no q) (yes r) = omega arith
      go (no g) (yes p) (no q) (no r) = let s = source i a in let t = source j c in absurd (q (omega (arith, same, s.4 p, t.5 q r)))
      go (no g) (no p) (yes r) f = let s = source i a in let t = source j c in absurd (p (omega (arith, same, s.5 g p, t.3 r)))
      go (no g) (no p) (no q) (yes r) = let s = source i a in let t = source j c in absurd (g (omega (arith, same, s.5 g p, t.4 r)))
      go (no g) (no p) (no q) (no r) = let s = source i a in let t = source j c in omega (arith, same, s.5 g p, t.5 q r)
