-- What the small functions read off the lists of lines and the table of steps.
use mathlib.Core.Path.{◌≡◌}
use mathlib.Core.List.{List, [], ◌∷◌}
use Prim.Native.Nat.{ℕ, ◌+◌, ◌*◌, ◌-◌, ◌/◌, ◌%◌, ◌≤◌, ◌<◌}
use native.Mathlib.Omega.{arith}
use native.Mathlib.Decide.{ℕ_discrete, dec_lt}
use lib.ListN.{length, take, length-take}
use borrow.Author.Tests.{eq-eqb, ne_eqb, le-leb, lt-leb}
use Rattle.geometry.specs.Words.{Point, word}
use Rattle.lengths.specs.Length.{gap}
use Rattle.lines.specs.Lines.{index_of}
use Rattle.lines.proofs.Lists.{index_here, index_past}
use Rattle.crossings.specs.Grid.{axis_of, crossing_at}
use Rattle.crossings.specs.inner.Charts.{ruled, spot, span, west_of, south_of, north_of, east_of}

module _ (steps : List ℕ) (v : ℕ) where
  pub west_edge : v < 66 → 4356 ≡ west_of steps v
  unfolding west_of
  west_edge l = rw (lt-leb 66 v l)

  pub west_open : 66 ≤ v → word steps (v - 66) / 2 ≡ 1 → v - 66 ≡ west_of steps v
  unfolding west_of
  west_open l e = rw (le-leb 66 v l, eq-eqb (word steps (v - 66) / 2) 1 e)

  pub west_shut : 66 ≤ v → (word steps (v - 66) / 2 ≡ 1 → ⊥) → 4356 ≡ west_of steps v
  unfolding west_of
  west_shut l e = rw (le-leb 66 v l, ne_eqb (word steps (v - 66) / 2) 1 e)

  pub south_edge : v < 1 → 4356 ≡ south_of steps v
  unfolding south_of
  south_edge l = rw (lt-leb 1 v l)

  pub south_open : 1 ≤ v → word steps (v - 1) % 2 ≡ 1 → v - 1 ≡ south_of steps v
  unfolding south_of
  south_open l e = rw (le-leb 1 v l, eq-eqb (word steps (v - 1) % 2) 1 e)

  pub south_shut : 1 ≤ v → (word steps (v - 1) % 2 ≡ 1 → ⊥) → 4356 ≡ south_of steps v
  unfolding south_of
  south_shut l e = rw (le-leb 1 v l, ne_eqb (word steps (v - 1) % 2) 1 e)

  pub north_open : word steps v % 2 ≡ 1 → v + 1 ≡ north_of steps v
  unfolding north_of
  north_open e = rw (eq-eqb (word steps v % 2) 1 e)

  pub north_shut : (word steps v % 2 ≡ 1 → ⊥) → 4356 ≡ north_of steps v
  unfolding north_of
  north_shut e = rw (ne_eqb (word steps v % 2) 1 e)

  pub east_open : word steps v / 2 ≡ 1 → v + 66 ≡ east_of steps v
  unfolding east_of
  east_open e = rw (eq-eqb (word steps v / 2) 1 e)

  pub east_shut : (word steps v / 2 ≡ 1 → ⊥) → 4356 ≡ east_of steps v
  unfolding east_of
  east_shut e = rw (ne_eqb (word steps v / 2) 1 e)

  -- where each of the four leads somewhere
  pub west_found : west_of steps v < 4356 → (66 ≤ v) × (word steps (v - 66) / 2 ≡ 1)
  west_found h = go (dec_lt v 66) (ℕ_discrete (word steps (v - 66) / 2) 1)
    where
      go : Dec (v < 66) → Dec (word steps (v - 66) / 2 ≡ 1) → (66 ≤ v) × (word steps (v - 66) / 2 ≡ 1)
      go (yes a) d = absurd (omega (arith, west_edge a))
      go (no a) (no b) = absurd (omega (arith, west_shut (omega arith) b))
      go (no a) (yes b) = (omega arith, b)

  pub south_found : south_of steps v < 4356 → (1 ≤ v) × (word steps (v - 1) % 2 ≡ 1)
  south_found h = go (dec_lt v 1) (ℕ_discrete (word steps (v - 1) % 2) 1)
    where
      go : Dec (v < 1) → Dec (word steps (v - 1) % 2 ≡ 1) → (1 ≤ v) × (word steps (v - 1) % 2 ≡ 1)
      go (yes a) d = absurd (omega (arith, south_edge a))
      go (no a) (no b) = absurd (omega (arith, south_shut (omega arith) b))
      go (no a) (yes b) = (omega arith, b)

  pub north_found : north_of steps v < 4356 → word steps v % 2 ≡ 1
  north_found h = elim (ℕ_discrete (word steps v % 2) 1) [ yes b ↦ b | no b ↦ absurd (omega (arith, north_shut b)) ]

  pub east_found : east_of steps v < 4356 → word steps v / 2 ≡ 1
  east_found h = elim (ℕ_discrete (word steps v / 2) 1) [ yes b ↦ b | no b ↦ absurd (omega (arith, east_shut b)) ]

module _ (xs ys : List ℕ) (v u : ℕ) where
  pub span_is : (p q : Point) (x y : ℕ) → p ≡ spot xs ys v → q ≡ spot xs ys u → x ≡ gap p.east q.east → y ≡ gap p.north q.north → x + y ≡ span xs ys v u
  unfolding span
  span_is p q x y a b c d = rw (c, d, a, b)

module _ (v u : ℕ) where
  pub axis_same : v / 66 ≡ u / 66 → 0 ≡ axis_of v u
  unfolding axis_of
  axis_same e = rw (eq-eqb (v / 66) (u / 66) e)

  pub axis_other : (v / 66 ≡ u / 66 → ⊥) → 1 ≡ axis_of v u
  unfolding axis_of
  axis_other e = rw (ne_eqb (v / 66) (u / 66) e)

pub axis_flat : (v u : ℕ) → axis_of v u ≤ 1
axis_flat v u = elim (ℕ_discrete (v / 66) (u / 66)) [ yes e ↦ omega (arith, axis_same v u e) | no e ↦ omega (arith, axis_other v u e) ]

index_most : (x : ℕ) (l : List ℕ) → index_of x l ≤ length l
unfolding index_of
index_most x [] = omega arith
index_most x (y ∷ ys) = go (ℕ_discrete y x) (index_most x ys)
  where
    go : Dec (y ≡ x) → index_of x ys ≤ length ys → index_of x (y ∷ ys) ≤ length (y ∷ ys)
    go (yes q) h = omega (arith, index_here x y ys q)
    go (no q) h = omega (arith, index_past x y ys q)

pub index_small : (l : List ℕ) (n x r : ℕ) → r ≡ index_of x (take n l) → n ≤ 194 → r ≤ 194
index_small l n x r e h = let s : length (take n l) ≤ 194 = simp length-take (omega arith) in omega (arith, index_most x (take n l))

pub crossing_is : (xs : List ℕ) (nx : ℕ) (ys : List ℕ) (ny : ℕ) (p : Point) (i j : ℕ) → i ≡ index_of p.east (take nx xs) → j ≡ index_of p.north (take ny ys)
    → 66 * i + j ≡ crossing_at (ruled xs nx ys ny) p
unfolding crossing_at
crossing_is xs nx ys ny p i j a b = rw (a, b)
