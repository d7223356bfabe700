-- The table of steps, from the tests of straights.
use mathlib.Core.Path.{◌≡◌, refl, sym, ◌∙◌}
use mathlib.Core.Bool.{Bool, true, false}
use mir.Val.{bool_byte}
use mathlib.Core.List.{List}
use Prim.Native.Nat.{ℕ, ◌+◌, ◌*◌, ◌/◌, ◌%◌, ◌≤◌, ◌<◌}
use native.Mathlib.Omega.{arith}
use native.Mathlib.Decide.{ℕ_discrete}
use lib.ListN.{length, take, set, length-set, length-take}
use lib.Seq.{get_or-take, get_or-set_same, get_or-set_other}
use Rattle.lists.specs.inner.Tells.{Tells}
use Rattle.lists.proofs.Telling.{tells_as}
use Rattle.geometry.specs.Words.{Point, point, word}
use Rattle.geometry.specs.inner.Bounds.{InRange}
use Rattle.visibility.specs.Visibility.{Clear}
use Rattle.visibility.proofs.Straights.{clear_sym}
use Rattle.crossings.specs.Grid.{Grid, Crossing, place, Beside, west, south, north, east, Stepping}
use Rattle.crossings.specs.inner.Charts.{ruled, Ruled, spot, Told, Charted}

-- a test's answer as a bit
pub told_bit : {P : Type 0} {t : Bool} → Tells P t → Told P (bool_byte t)
told_bit {P} {t} h = go t h
  where
    go : (t : Bool) → Tells P t → Told P (bool_byte t)
    go true h = record { small = omega arith; yes'' = λ e. h.yes' refl; no'' = λ (e : ◌≡◌ {A = ℕ} 1 0). absurd (omega arith) }
    go false h = record { small = omega arith; yes'' = λ (e : ◌≡◌ {A = ℕ} 0 1). absurd (omega arith); no'' = λ e. h.no' refl }

-- what is true has the bit 1
pub bit : {P : Type 0} (b : ℕ) → Told P b → P → b ≡ 1
bit b t p = elim (ℕ_discrete b 1) [ yes e ↦ e | no e ↦ absurd (t.no'' (omega (arith, t.small)) p) ]

module _ (xs : List ℕ) (nx : ℕ) (ys : List ℕ) (ny : ℕ) (r : Ruled xs nx ys ny) where
  abbrev g : Grid
  g = ruled xs nx ys ny

  pub east_count : length (take nx xs) ≡ nx
  east_count = simp length-take (omega (arith, r.xs_few, r.xs_sized))

  pub north_count : length (take ny ys) ≡ ny
  north_count = simp length-take (omega (arith, r.ys_few, r.ys_sized))

  pub crossing : (v : ℕ) → v / 66 < nx → v % 66 < ny → Crossing g v
  crossing v a b = record { east = omega (arith, east_count); north = omega (arith, north_count) }

  pub crossing_east : (v : ℕ) → Crossing g v → v / 66 < nx
  crossing_east v c = omega (arith, c.east, east_count)

  pub crossing_north : (v : ℕ) → Crossing g v → v % 66 < ny
  crossing_north v c = omega (arith, c.north, north_count)

  pub in_grid : (v : ℕ) → Crossing g v → v < 4356
  in_grid v c = omega (arith, crossing_east v c, r.xs_few)

  pub place_is : (v : ℕ) → v / 66 < nx → v % 66 < ny → place g v ≡ spot xs ys v
  unfolding place spot
  place_is v a b =
      let p : word (take nx xs) (v / 66) ≡ word xs (v / 66) = get_or-take nx xs (v / 66) 0 a in
      let q : word (take ny ys) (v % 66) ≡ word ys (v % 66) = get_or-take ny ys (v % 66) 0 b in
      λ i. point (p i) (q i)

  pub place_of_crossing : (v : ℕ) → Crossing g v → place g v ≡ spot xs ys v
  place_of_crossing v c = place_is v (crossing_east v c) (crossing_north v c)

  pub spot_in_range : (v : ℕ) (p : Point) → v / 66 < nx → v % 66 < ny → p ≡ spot xs ys v → InRange p
  unfolding spot
  spot_in_range v p a b e = rw e (record { east = r.xs_near (v / 66) a; north = r.ys_near (v % 66) b })

  module _ (blocks : List ℕ) (v : ℕ) where
    abbrev S : ℕ → Type 0
    S u = Stepping blocks g v u

    module _ (p q : Point) (t : Bool) (u : ℕ) (a : v / 66 < nx) (b : v % 66 < ny) (c : u / 66 < nx) (d : u % 66 < ny) (h : Beside v u)
        (pe : p ≡ spot xs ys v) (qe : q ≡ spot xs ys u) (k : Tells (Clear blocks p q) t) where
      step_tells : Tells (S u) t
      step_tells =
          tells_as
          (λ w. record { from = crossing v a b; to = crossing u c d; beside = h; clear = rw (place_is v a b ∙ sym pe, place_is u c d ∙ sym qe) w })
          (λ s. rw (place_is v a b ∙ sym pe, place_is u c d ∙ sym qe) at s.clear)
          k

    up_row : v % 66 + 1 < ny → (v / 66 ≡ (v + 1) / 66) × ((v + 1) % 66 < ny)
    up_row h = let k = r.ys_few in (omega arith, omega arith)

    module _ (p q : Point) (t : Bool) (a : v / 66 < nx) (b : v % 66 + 1 < ny) (pe : p ≡ spot xs ys v) (qe : q ≡ spot xs ys (v + 1)) (k : Tells (Clear blocks p q) t) where
      pub north_tells : Tells (S (v + 1)) t
      north_tells = let f = up_row b in step_tells p q t (v + 1) a (omega arith) (omega (arith, f.0)) f.1 (north refl f.0) pe qe k

    module _ (p q : Point) (t : Bool) (a : v / 66 + 1 < nx) (b : v % 66 < ny) (pe : p ≡ spot xs ys v) (qe : q ≡ spot xs ys (v + 66)) (k : Tells (Clear blocks p q) t) where
      pub east_tells : Tells (S (v + 66)) t
      east_tells = step_tells p q t (v + 66) (omega arith) b (omega arith) (omega arith) (east refl) pe qe k

module _ (blocks : List ℕ) (g : Grid) where
  pub charted_next : (steps : List ℕ) (n a b : ℕ) → n < 4356 → Charted blocks g steps n → Told (Stepping blocks g n (n + 1)) a → Told (Stepping blocks g n (n + 66)) b
      → Charted blocks g (set steps n (a + 2 * b)) (n + 1)
  charted_next steps n a b l c p q =
      record {
        sized = length-set steps n (a + 2 * b) ∙ c.sized;
        north = λ v h. go_north v (omega arith) (ℕ_discrete v n);
        east = λ v h. go_east v (omega arith) (ℕ_discrete v n);
      }
    where
      bits : ((a + 2 * b) % 2 ≡ a) × ((a + 2 * b) / 2 ≡ b)
      bits = (omega (arith, p.small, q.small), omega (arith, p.small, q.small))

      new : List ℕ
      new = set steps n (a + 2 * b)

      here : word new n ≡ a + 2 * b
      here = get_or-set_same steps n (a + 2 * b) 0 (omega (arith, c.sized))

      go_north : (v : ℕ) → v ≤ n → Dec (v ≡ n) → Told (Stepping blocks g v (v + 1)) (word new v % 2)
      go_north v h (yes e) = rw (e, here, bits.0) p
      go_north v h (no e) = rw (get_or-set_other steps n v (a + 2 * b) 0 e) (c.north v (omega arith))

      go_east : (v : ℕ) → v ≤ n → Dec (v ≡ n) → Told (Stepping blocks g v (v + 66)) (word new v / 2)
      go_east v h (yes e) = rw (e, here, bits.1) q
      go_east v h (no e) = rw (get_or-set_other steps n v (a + 2 * b) 0 e) (c.east v (omega arith))

  beside_sym : {v u : ℕ} → Beside v u → Beside u v
  beside_sym (west e) = east (sym e)
  beside_sym (south e f) = north (sym e) (sym f)
  beside_sym (north e f) = south (sym e) (sym f)
  beside_sym (east e) = west (sym e)

  -- a step back is a step
  pub step_back : {v u : ℕ} → Stepping blocks g v u → Stepping blocks g u v
  step_back s = record { from = s.to; to = s.from; beside = beside_sym s.beside; clear = clear_sym s.clear }
