-- The contracts can be met over any tables and lists; by `Unique` in one way only.
use mathlib.Core.Path.{◌≡◌, refl}
use mathlib.Core.Bool.{Bool, true, false, ◌&&◌}
use mathlib.Core.Logic.{◌⊎◌, inl, inr}
use lib.Dec.{ltb}
use Rattle.std.specs.Prelude.{Option, Result, Ok, Err}
use Rattle.refusals.specs.declared.Refusal.{Refusal}
use Rattle.refusals.specs.declared.Refusal.TheVariants.{WrongLengths, WrongRecords, NoSuchNumber, Absent, OutOfDate}
use Rattle.refusals.specs.Numbers.{number_of as question, answer_of}
use Rattle.refusals.proofs.Numbers.{number_of_some}
use Rattle.book.specs.Drawing.{Right}
use mathlib.Core.List.{List, [], ◌∷◌}
use Prim.Native.Nat.{ℕ, zero, suc, ◌+◌, ◌*◌, ◌<◌}
use native.Mathlib.Decide.{ℕ_discrete}
use native.Mathlib.Omega.{arith}
use lib.Dec.{eqb}
use lib.Ieee.{Float}
use lib.ListN.{length}
use Rattle.geometry.specs.Words.{Point, word}
use Rattle.geometry.specs.inner.Bounds.{InRange}
use Rattle.tables.specs.Tables.{Records, Tables, records, route_words, place_of}
use Rattle.tables.proofs.Marks.{place_in_range}
use Rattle.records.specs.Questions.{records_right}
use Rattle.records.proofs.Fits.{records_fit}
use Rattle.book.specs.Questions.{ask, first_no, lengths_right, number_right}
use Rattle.book.specs.Edits.{fitness}
use Rattle.book.proofs.Questions.{first_yes}
use Rattle.book.proofs.Outcomes.{checked_exists}
use Rattle.curves.proofs.Exists.{HasSpot, bend_spot_exists, whole_spot_exists}
use Rattle.pieces.specs.declared.DrawnPiece.{DrawnPiece}
use Rattle.pieces.specs.Pieces.{Shape, nothing, straight, bend, route_places}
use Rattle.pieces.specs.Showing.{Row, bend_points, is_bend}
use Rattle.pieces.specs.inner.Steps.{Drawable, mark_place}
use Rattle.pieces.proofs.Pieces.{count_is, place_is}
use Rattle.pieces.proofs.Exists.{Held, all_in, piece_held, shows_exists, row_exists, origin_exists, bend_points_exist}
use Rattle.drawn_routes.specs.Calls.{early, Asked, stored_piece, Pieced, Curved}
use Rattle.drawn_routes.specs.Lists.{kind_of, bend_kind, piece_points, Filled, PieceFilled, BendFilled}
use Rattle.drawn_routes.proofs.Asking.{Accepted, accepted}
use Rattle.drawn_routes.proofs.Routes.{drawable}

both_asked : (a b : Bool) → a ≡ true → b ≡ true → first_no (ask 1 a ∷ ask 2 b ∷ []) ≡ 0
unfolding first_no
both_asked a b e f = rw (e, f)

-- a question that is answered no has a refusal
named_first : (a b c d e : Bool) → (first_no (ask 1 a ∷ ask 1 b ∷ ask 2 c ∷ ask 3 d ∷ ask 5 e ∷ []) ≡ 0) ⊎ ((x : Refusal) × (question x ≡ first_no (ask 1 a ∷ ask 1 b ∷ ask 2 c ∷ ask 3 d ∷ ask 5 e ∷ [])))
unfolding first_no
named_first false b c d e = inr (WrongLengths, refl)
named_first true false c d e = inr (WrongLengths, refl)
named_first true true false d e = inr (WrongRecords, refl)
named_first true true true false e = inr (NoSuchNumber, refl)
named_first true true true true false = inr (Absent, refl)
named_first true true true true true = inl refl

asked_exists : (own : Bool) (T : Tables) (m : ℕ) → (r : Result Unit Refusal) × Asked own T m (answer_of r)
unfolding early
asked_exists own T m = go (named_first own (lengths_right T) (records_right (records T)) (number_right m) (ltb 0 (word T.runs (5 * m))))
  where
    fit : early own T m ≡ 0 → fitness T ≡ 0
    fit e =
        let one = first_yes 0 (lengths_right T) _ (first_yes 0 own _ e).1 in
        let two = first_yes 1 (records_right (records T)) _ one.1 in
        both_asked (lengths_right T) (records_right (records T)) one.0 two.0

    side : early own T m ≡ 0 → {v : ℕ} → ((v ≡ 0) × Right T) ⊎ ((v ≡ 11) × (Right T → ⊥)) → (r : Result Unit Refusal) × Asked own T m (answer_of r)
    side e (inl h) = (Ok tt, record { refused = λ n. absurd (n e); right = λ z. inl (refl, h.1) })
    side e (inr h) = (Err OutOfDate, record { refused = λ n. absurd (n e); right = λ z. inr (refl, h.1) })

    go : (early own T m ≡ 0) ⊎ ((x : Refusal) × (question x ≡ early own T m)) → (r : Result Unit Refusal) × Asked own T m (answer_of r)
    go (inl e) = let c = checked_exists T in side e (c.1.fit (fit e))
    go (inr x) = (Err x.0, record { refused = λ n. x.1; right = λ z. absurd (omega (arith, number_of_some x.0, x.1)) })

module _ (T : Tables) (m k : ℕ) where
  abbrev shape : Shape
  shape = stored_piece T m k

  held : Accepted T m → Held shape
  unfolding mark_place
  held a =
      piece_held (route_places R ws)
      (all_in (route_places R ws) (place_of R 0) (λ i l. let h : i < word ws 2 = omega (arith, count_is R ws g) in rw (place_is R ws g i h) (placed i h)))
      k
    where
      R : Records
      R = records T

      ws : List ℕ
      ws = route_words T.routes m

      g : Drawable R ws
      g = drawable R _ m a.below a.sized.blocks a.sized.runs (a.right.routes m a.below)

      placed : (i : ℕ) → i < word ws 2 → InRange (mark_place R ws i)
      placed i h = place_in_range R (word ws (3 + i)) (records_fit R a.sized.blocks a.sized.runs a.allowed) (g.marks i h)

  pub pieced_exists : (r : Result (Option DrawnPiece) Refusal) × Pieced T m k r
  pieced_exists = let a = asked_exists true T m in go a.0 a.1
    where
      go : (v : Result Unit Refusal) → Asked true T m (answer_of v) → (r : Result (Option DrawnPiece) Refusal) × Pieced T m k r
      go (Err e) a = (Err e, record { asked = a; drawn = tt })
      go (Ok u) a = let r = shows_exists shape (held (accepted true T m 0 a refl)) in (Ok r.0, record { asked = a; drawn = r.1 })

  pub curved_exists : (old : List Float) → (r : Result Bool Refusal) × (new : List Float) × Curved T m k old r new
  curved_exists old = let a = asked_exists (eqb (length old) 18) T m in go a.0 a.1
    where
      go : (v : Result Unit Refusal) → Asked (eqb (length old) 18) T m (answer_of v) → (r : Result Bool Refusal) × (new : List Float) × Curved T m k old r new
      go (Err e) a = (Err e, old, record { asked = a; refused = λ z. refl; done = tt })
      go (Ok u) a =
          let w = bend_points_exist shape (held (accepted _ T m 0 a refl)) in
          (Ok (is_bend shape), w.0, record { asked = a; refused = λ n. absurd (n refl); done = record { answer = refl; row = w.1 } })

  module _ (n : ℕ) (kind : Shape → ℕ) (row : Shape → ℕ → Point) (rows : (p : Shape) → Held p → (xs : List Float) × Row (row p) n xs) (word : List ℕ) (points : List Float) where
    filled : (r : ℕ) × (word' : List ℕ) × (points' : List Float) × Filled n kind row T m k word points r word' points'
    filled = let a = asked_exists own T m in go (answer_of a.0) a.1 (ℕ_discrete (answer_of a.0) 0)
      where
        own : Bool
        own = eqb (length word) 1 && eqb (length points) (2 * n)

        go : (v : ℕ) → Asked own T m v → Dec (v ≡ 0) → (r : ℕ) × (word' : List ℕ) × (points' : List Float) × Filled n kind row T m k word points r word' points'
        go v a (no z) = (v, word, points, record { asked = a; refused = λ e. (refl, refl); done = λ e. absurd (z e) })
        go v a (yes z) =
            let w = rows shape (held (accepted _ T m v a z)) in
            (v, kind shape ∷ [], w.0, record { asked = a; refused = λ e. absurd (e z); done = λ e. (refl, w.1) })

three_exist : (p : Shape) → Held p → (j : ℕ) → HasSpot (piece_points p j)
three_exist nothing h j = origin_exists
three_exist (straight a b) h zero = h.0
three_exist (straight a b) h (suc zero) = h.1
three_exist (straight a b) h (suc (suc j)) = origin_exists
three_exist (bend a p c) h zero = bend_spot_exists a p c 0 (omega arith) h.0 h.1 h.2
three_exist (bend a p c) h (suc zero) = whole_spot_exists p h.1
three_exist (bend a p c) h (suc (suc zero)) = bend_spot_exists a p c 8 (omega arith) h.0 h.1 h.2
three_exist (bend a p c) h (suc (suc (suc j))) = origin_exists

module _ (T : Tables) (m k : ℕ) (word : List ℕ) (points : List Float) where
  pub piece_filled_exists : (r : ℕ) × (word' : List ℕ) × (points' : List Float) × PieceFilled T m k word points r word' points'
  piece_filled_exists = filled T m k 3 kind_of piece_points (λ p h. row_exists (piece_points p) 3 (λ j l. three_exist p h j)) word points

  pub bend_filled_exists : (r : ℕ) × (word' : List ℕ) × (points' : List Float) × BendFilled T m k word points r word' points'
  bend_filled_exists = filled T m k 9 bend_kind bend_points bend_points_exist word points
