-- The pieces of a list of places by their numbers, and the marks of a route record by theirs.
use mathlib.Core.Path.{◌≡◌, refl, sym, ap, ◌∙◌}
use mathlib.Core.List.{List, [], ◌∷◌}
use Prim.Native.Nat.{ℕ, zero, suc, ◌+◌, ◌*◌, ◌-◌, ◌/◌, ◌%◌, ◌<◌, ◌≤◌}
use native.Mathlib.Decide.{ℕ_discrete, dec_lt}
use native.Mathlib.Omega.{arith}
use lib.Ieee.{Float}
use lib.ListN.{length, get_or, take, drop, length-map, length-take, length-drop, get_or-map}
use lib.Seq.{get_or-take, get_or-drop}
use borrow.Author.Tests.{eq-eqb, ne_eqb}
use mathlib.Core.Bool.{true, false}
use Rattle.std.specs.Prelude.{None, Some}
use Rattle.geometry.specs.Words.{Point, word}
use Rattle.tables.specs.Tables.{Records, place_of}
use Rattle.curves.specs.declared.Spot.{Spot}
use Rattle.pieces.specs.declared.DrawnPiece.TheVariants.{Straight, Bend}
use Rattle.curves.specs.Curve.{bend_at, whole, At}
use Rattle.pieces.specs.Pieces.{nothing, straight, bend, pieces_from, pieces, route_places, piece_at}
use Rattle.pieces.specs.Showing.{Shows, shows_nothing, shows_straight, shows_bend, origin, Row, Bent}
use Rattle.pieces.specs.inner.Steps.{OnBend, Drawable, mark_place, turn_at, leaving, reaching}

abbrev twice : ℕ → ℕ
twice zero = zero
twice (suc j) = suc (suc (twice j))

twice_is : (j : ℕ) → twice j ≡ 2 * j
twice_is zero = refl
twice_is (suc j) = let h = twice_is j in omega arith

-- over any list of places, d past its end
module _ (d : Point) where
  abbrev at : List Point → ℕ → Point
  at ps i = get_or ps i d

  abbrev turn : List Point → ℕ → ℕ → Point
  turn ps i t = bend_at (at ps i) (at ps (suc i)) (at ps (suc (suc i))) t

  abbrev leave : Point → List Point → ℕ → Point
  leave s ps zero = s
  leave s ps (suc i) = turn ps i 8

  leave_next : (s : Point) (a p c : Point) (ps : List Point) (j : ℕ) → leave (bend_at a p c 8) (p ∷ c ∷ ps) j ≡ leave s (a ∷ p ∷ c ∷ ps) (suc j)
  leave_next s a p c ps zero = refl
  leave_next s a p c ps (suc j) = refl

  bend_piece : (s : Point) (ps : List Point) (j : ℕ) → j + 2 < length ps → get_or (pieces_from s ps) (suc (twice j)) nothing ≡ bend (at ps j) (at ps (suc j)) (at ps (suc (suc j)))
  unfolding pieces_from
  bend_piece s [] j h = absurd (omega arith)
  bend_piece s (a ∷ []) j h = absurd (omega arith)
  bend_piece s (a ∷ b ∷ []) j h = absurd (omega arith)
  bend_piece s (a ∷ p ∷ c ∷ ps) zero h = refl
  bend_piece s (a ∷ p ∷ c ∷ ps) (suc j) h = bend_piece (bend_at a p c 8) (p ∷ c ∷ ps) j (omega arith)

  inner_piece : (s : Point) (ps : List Point) (j : ℕ) → j + 2 < length ps → get_or (pieces_from s ps) (twice j) nothing ≡ straight (leave s ps j) (turn ps j 0)
  unfolding pieces_from
  inner_piece s [] j h = absurd (omega arith)
  inner_piece s (a ∷ []) j h = absurd (omega arith)
  inner_piece s (a ∷ b ∷ []) j h = absurd (omega arith)
  inner_piece s (a ∷ p ∷ c ∷ ps) zero h = refl
  inner_piece s (a ∷ p ∷ c ∷ ps) (suc j) h =
      inner_piece (bend_at a p c 8) (p ∷ c ∷ ps) j (omega arith) ∙ ap (λ (x : Point). straight x (turn (p ∷ c ∷ ps) j 0)) (leave_next s a p c ps j)

  last_piece : (s : Point) (ps : List Point) (j : ℕ) → j + 2 ≡ length ps → get_or (pieces_from s ps) (twice j) nothing ≡ straight (leave s ps j) (whole (at ps (suc j)))
  unfolding pieces_from
  last_piece s [] j h = absurd (omega arith)
  last_piece s (a ∷ []) j h = absurd (omega arith)
  last_piece s (a ∷ b ∷ []) zero h = refl
  last_piece s (a ∷ b ∷ []) (suc j) h = absurd (omega arith)
  last_piece s (a ∷ p ∷ c ∷ ps) zero h = absurd (omega arith)
  last_piece s (a ∷ p ∷ c ∷ ps) (suc j) h =
      last_piece (bend_at a p c 8) (p ∷ c ∷ ps) j (omega arith) ∙ ap (λ (x : Point). straight x (whole (at (p ∷ c ∷ ps) (suc j)))) (leave_next s a p c ps j)

  past_last : (s : Point) (ps : List Point) (k : ℕ) → 2 * length ps ≤ k + 3 → get_or (pieces_from s ps) k nothing ≡ nothing
  unfolding pieces_from
  past_last s [] k h = refl
  past_last s (a ∷ []) k h = refl
  past_last s (a ∷ b ∷ []) zero h = absurd (omega arith)
  past_last s (a ∷ b ∷ []) (suc k) h = refl
  past_last s (a ∷ p ∷ c ∷ ps) zero h = absurd (omega arith)
  past_last s (a ∷ p ∷ c ∷ ps) (suc zero) h = absurd (omega arith)
  past_last s (a ∷ p ∷ c ∷ ps) (suc (suc k)) h = past_last (bend_at a p c 8) (p ∷ c ∷ ps) k (omega arith)

  from_first : (ps : List Point) → pieces ps ≡ pieces_from (whole (at ps 0)) ps
  unfolding pieces pieces_from
  from_first [] = refl
  from_first (a ∷ ps) = refl

module _ (R : Records) (ws : List ℕ) (g : Drawable R ws) where
  abbrev d : Point
  d = place_of R 0

  abbrev places : List Point
  places = route_places R ws

  abbrev n : ℕ
  n = word ws 2

  pub count_is : length places ≡ n
  count_is = length-map (take n (drop 3 ws)) (place_of R) ∙ simp (length-take, length-drop) (omega (arith, g.sized, g.count))

  pub place_is : (i : ℕ) → i < n → get_or places i d ≡ mark_place R ws i
  unfolding mark_place
  place_is i h = get_or-map (place_of R) (take n (drop 3 ws)) i 0 ∙ ap (place_of R) (rw (get_or-take, get_or-drop))

  turn_is : (i t : ℕ) → suc (suc i) < n → turn d places i t ≡ turn_at R ws (i + 1) t
  turn_is i t h =
      let e : i + 1 - 1 ≡ i = omega arith in
      let f : i + 1 ≡ suc i = omega arith in
      let q : suc i + 1 ≡ suc (suc i) = omega arith in
      rw (place_is i (omega arith), place_is (suc i) (omega arith), place_is (suc (suc i)) h, e, f, q)

  leave_is : (j : ℕ) → j + 1 < n → leave d (whole (get_or places 0 d)) places j ≡ leaving R ws j
  unfolding leaving
  leave_is zero h = ap whole (place_is 0 (omega arith))
  leave_is (suc i) h =
      let f : i + 1 ≡ suc i = omega arith in
      rw (ne_eqb (suc i) 0 (λ z. omega arith), turn_is i 8 (omega arith), f)

  abbrev start : Point
  start = whole (get_or places 0 d)

  straight_is : (j : ℕ) → j + 1 < n → get_or (pieces places) (twice j) nothing ≡ straight (leaving R ws j) (reaching R ws (j + 1))
  unfolding reaching
  straight_is j h = rw (from_first d places) (go (ℕ_discrete (j + 2) n))
    where
      go : Dec (j + 2 ≡ n) → get_or (pieces_from start places) (twice j) nothing ≡ straight (leaving R ws j) (reaching R ws (j + 1))
      go (yes e) =
          let q : j + 1 + 1 ≡ n = omega arith in
          let f : j + 1 ≡ suc j = omega arith in
          rw (eq-eqb _ _ q, last_piece d start places j (e ∙ sym count_is), leave_is j h, f, place_is (suc j) (omega arith))
      go (no e) =
          let q : j + 1 + 1 ≡ n → ⊥ = λ z. e (omega arith) in
          let l : j + 2 < length places = omega (arith, count_is) in
          rw (ne_eqb _ _ q, inner_piece d start places j l, leave_is j h, turn_is j 0 (omega arith))

  bend_is : (j : ℕ) → j + 2 < n → get_or (pieces places) (suc (twice j)) nothing ≡ bend (mark_place R ws j) (mark_place R ws (j + 1)) (mark_place R ws (j + 1 + 1))
  bend_is j h =
      let f : j + 1 ≡ suc j = omega arith in
      let q : suc j + 1 ≡ suc (suc j) = omega arith in
      let l : j + 2 < length places = omega (arith, count_is) in
      rw (from_first d places, f, q, bend_piece d start places j l, place_is j (omega arith), place_is (suc j) (omega arith), place_is (suc (suc j)) (omega arith))

  module _ (k : ℕ) where
    pub is_nothing : 2 * n ≤ k + 3 → piece_at R ws k ≡ nothing
    is_nothing h = rw (from_first d places) (past_last d start places k (omega (arith, count_is)))

    pub draws_nothing : 2 * n ≤ k + 3 → Shows (piece_at R ws k) None
    draws_nothing h = rw (is_nothing h) shows_nothing

    module _ (h : k + 3 < 2 * n) where
      pub is_straight : k % 2 ≡ 0 → piece_at R ws k ≡ straight (leaving R ws (k / 2)) (reaching R ws (k / 2 + 1))
      is_straight z =
          let e : k ≡ twice (k / 2) = omega (arith, twice_is (k / 2)) in
          ap (λ (i : ℕ). piece_at R ws i) e ∙ straight_is (k / 2) (omega arith)

      pub is_bend : (k % 2 ≡ 0 → ⊥) → piece_at R ws k ≡ bend (mark_place R ws (k / 2)) (mark_place R ws (k / 2 + 1)) (mark_place R ws (k / 2 + 1 + 1))
      is_bend z =
          let e : k ≡ suc (twice (k / 2)) = omega (arith, twice_is (k / 2)) in
          ap (λ (i : ℕ). piece_at R ws i) e ∙ bend_is (k / 2) (omega arith)

      pub draws_straight : (s t : Spot) → k % 2 ≡ 0 → At (leaving R ws (k / 2)) s → At (reaching R ws (k / 2 + 1)) t → Shows (piece_at R ws k) (Some (Straight s t))
      draws_straight s t z x y = rw (is_straight z) (shows_straight x y)

      pub draws_bend : (s q t : Spot) → (k % 2 ≡ 0 → ⊥) → At (turn_at R ws (k / 2 + 1) 0) s → At (whole (mark_place R ws (k / 2 + 1))) q
          → At (turn_at R ws (k / 2 + 1) 8) t → Shows (piece_at R ws k) (Some (Bend s q t))
      draws_bend s q t z x m y = let e : k / 2 + 1 - 1 ≡ k / 2 = omega arith in rw (is_bend z) (shows_bend (rw e at x) m (rw e at y))

    -- the nine points of piece k, where it is a bend
    pub bent_none : (xs : List Float) → (OnBend ws k → ⊥) → Row (λ t. origin) 9 xs → Bent (piece_at R ws k) false xs
    bent_none xs o r = go (dec_lt (k + 3) (2 * n)) (ℕ_discrete (k % 2) 0)
      where
        go : Dec (k + 3 < 2 * n) → Dec (k % 2 ≡ 0) → Bent (piece_at R ws k) false xs
        go (no h) z = rw (is_nothing (omega arith)) (record { answer = refl; row = r })
        go (yes h) (yes z) = rw (is_straight h z) (record { answer = refl; row = r })
        go (yes h) (no z) = absurd (o (record { before_last = h; odd = omega arith }))

    pub bent_bend : (xs : List Float) (a p c : Point) → OnBend ws k → a ≡ mark_place R ws (k / 2) → p ≡ mark_place R ws (k / 2 + 1) → c ≡ mark_place R ws (k / 2 + 2)
        → Row (bend_at a p c) 9 xs → Bent (piece_at R ws k) true xs
    bent_bend xs a p c o ea ep ec r =
        let e : k / 2 + 1 + 1 ≡ k / 2 + 2 = omega arith in
        let z : k % 2 ≡ 0 → ⊥ = λ z. omega (arith, o.odd) in
        rw (is_bend o.before_last z) (record { answer = refl; row = rw (ea, ep, ec, sym (ap (mark_place R ws) e)) at r })
