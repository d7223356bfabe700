-- What a user may lean on: the pieces of a run's route join from its first end to its second, straight and bend in turn, and a bend's nine points
-- begin and end where it does.
use mathlib.Core.Path.{◌≡◌, refl, sym, ap, ◌∙◌, subst}
use mathlib.Core.Logic.{◌⊎◌, inl, inr}
use mathlib.Core.Bool.{Bool, true, true≢false}
use mathlib.Core.List.{List, [], map}
use Prim.Native.Nat.{ℕ, suc, ◌+◌, ◌*◌, ◌%◌, ◌<◌, ◌≤◌}
use native.Mathlib.Omega.{arith}
use native.Mathlib.Nat.{le_refl}
use borrow.Author.Tests.{eq-eqb}
use lib.Dec.{eqb}
use lib.Ieee.{Float}
use lib.ListN.{length, get_or}
use lib.Seq.{take-length, take-append-le}
use Rattle.geometry.specs.Words.{Point, word}
use Rattle.paths.specs.Path.{Graph, Chain, last, more}
use Rattle.tables.specs.Tables.{Records, Tables, records, route_words, first_end, second_end, place_of}
use Rattle.search.specs.Network.{graph}
use Rattle.book.specs.Drawing.{Right}
use Rattle.routing.specs.Routes.{RouteIs, no_run, found, no_way}
use Rattle.curves.specs.Curve.{whole, At}
use Rattle.curves.specs.declared.Spot.{Spot}
use Rattle.curves.proofs.Unique.{at_unique}
use Rattle.pieces.specs.declared.DrawnPiece.{DrawnPiece}
use Rattle.pieces.specs.declared.DrawnPiece.TheVariants.{Straight, Bend}
use Rattle.std.specs.Prelude.{Option, None, Some, Result, Ok}
use Rattle.refusals.specs.declared.Refusal.{Refusal}
use Rattle.refusals.specs.Numbers.{answer_of}
use Rattle.pieces.specs.Pieces.{Shape, nothing, straight, bend, pieces, route_places, piece_at}
use Rattle.pieces.specs.Showing.{Shows, shows_nothing, shows_straight, shows_bend, Spans, spot_in, Row, bend_points, is_bend as is_bend_shape}
use Rattle.pieces.specs.inner.Steps.{Drawable}
use Rattle.pieces.proofs.Pieces.{is_nothing, is_straight, is_bend}
use Rattle.pieces.proofs.Joins.{There, start_of, last_of, pieces_joined, pieces_begin, pieces_end, spans_there, spans_start, spans_finish}
use Rattle.drawn_routes.specs.Calls.{early, stored_piece, Pieced, Curved}
use Rattle.drawn_routes.proofs.Asking.{Accepted, accepted, asked_own}
use Rattle.drawn_routes.proofs.Routes.{drawable}
use Rattle.drawn_routes.proofs.Unique.{asked_unique, ok_of}

-- ---- the places of a chain's marks
chain_first : {G : Graph} {end v : ℕ} {us : List ℕ} (f : ℕ → Point) (d : Point) → Chain G end v us → get_or (map f us) 0 d ≡ f v
chain_first f d (last e) = refl
chain_first f d (more n e ch) = refl

chain_last : {G : Graph} {end v : ℕ} {us : List ℕ} (f : ℕ → Point) (d : Point) → Chain G end v us → last_of d (map f us) ≡ f end
chain_last f d (last e) = refl
chain_last f d (more {v = v} n e ch) = chain_last f (f v) ch

module _ (R : Records) (Clear : ℕ → ℕ → Type 0) (m : ℕ) where
  -- a route record has no places, or those of a chain from end to end
  route_places_lem : {ws : List ℕ} → RouteIs R Clear m ws
      → (route_places R ws ≡ []) ⊎ ((us : List ℕ) × Chain (graph R Clear) (second_end m) (first_end m) us × (route_places R ws ≡ map (place_of R) us))
  route_places_lem (no_run e) = inl refl
  route_places_lem (no_way e n) = inl refl
  route_places_lem (found e us r) = inr (us, r.chain, ap (map (place_of R)) (take-append-le (length us) us _ (le_refl (length us)) ∙ take-length us))

  module _ (ws : List ℕ) (k : ℕ) (h : There (piece_at R ws k)) (d : Point) where
    abbrev places : List Point
    places = route_places R ws

    first_place : RouteIs R Clear m ws → get_or places 0 d ≡ place_of R (first_end m)
    unfolding pieces
    first_place r = go (route_places_lem r)
      where
        go : (places ≡ []) ⊎ ((us : List ℕ) × Chain (graph R Clear) (second_end m) (first_end m) us × (places ≡ map (place_of R) us)) → get_or places 0 d ≡ place_of R (first_end m)
        go (inl e) = absurd (rw e at h)
        go (inr c) = rw c.2 (chain_first (place_of R) d c.1)

    last_place : RouteIs R Clear m ws → last_of d places ≡ place_of R (second_end m)
    unfolding pieces
    last_place r = go (route_places_lem r)
      where
        go : (places ≡ []) ⊎ ((us : List ℕ) × Chain (graph R Clear) (second_end m) (first_end m) us × (places ≡ map (place_of R) us)) → last_of d places ≡ place_of R (second_end m)
        go (inl e) = absurd (rw e at h)
        go (inr c) = rw c.2 (chain_last (place_of R) d c.1)

  no_marks : {ws : List ℕ} → RouteIs R Clear m ws → word ws 0 ≡ 2 → word ws 2 ≡ 0
  no_marks (no_run e) z = refl
  no_marks (no_way e n) z = refl
  no_marks (found e us r) z = absurd (omega arith)

none_there : {p : Shape} → Shows p None → There p → ⊥
none_there shows_nothing h = h

nine_between : {p : Shape} {s q t : Spot} {ys : List Float} → Shows p (Some (Bend s q t)) → Row (bend_points p) 9 ys → (spot_in ys 0 ≡ s) × (spot_in ys 8 ≡ t)
nine_between (shows_bend x y z) r = (at_unique _ _ _ (r.each 0 (omega arith)) x, at_unique _ _ _ (r.each 8 (omega arith)) z)

is_nine : {p : Shape} {s q t : Spot} → Shows p (Some (Bend s q t)) → is_bend_shape p ≡ true
is_nine (shows_bend x y z) = refl

show_nothing : {r : Option DrawnPiece} → Shows nothing r → r ≡ None
show_nothing shows_nothing = refl

show_straight : {a b : Point} {r : Option DrawnPiece} → Shows (straight a b) r → (s : Spot) × (t : Spot) × (r ≡ Some (Straight s t))
show_straight (shows_straight {s = s} {t = t} x y) = (s, t, refl)

show_bend : {a p c : Point} {r : Option DrawnPiece} → Shows (bend a p c) r → (s : Spot) × (q : Spot) × (t : Spot) × (r ≡ Some (Bend s q t))
show_bend (shows_bend {s = s} {q = q} {t = t} x y z) = (s, q, t, refl)

is_curved : {p : Shape} {r : Option DrawnPiece} → Shows p r → true ≡ is_bend_shape p → (s : Spot) × (q : Spot) × (t : Spot) × (r ≡ Some (Bend s q t))
is_curved shows_nothing e = absurd (true≢false e)
is_curved (shows_straight x y) e = absurd (true≢false e)
is_curved (shows_bend x y z) e = show_bend (shows_bend x y z)

module _ (T : Tables) (m : ℕ) where
  abbrev R : Records
  R = records T

  abbrev ws : List ℕ
  ws = route_words T.routes m

  abbrev along : List Point
  along = route_places R ws

  allowed : {k : ℕ} {r : Result (Option DrawnPiece) Refusal} → Pieced T m k r → answer_of r ≡ 0 → Accepted T m
  allowed h z = accepted true T m _ h.asked z

  -- each piece starts where the one before finishes, float for float
  pub pieces_join : {k : ℕ} {r r' : DrawnPiece} {s t s' t' : Spot} → Pieced T m k (Ok (Some r)) → Pieced T m (suc k) (Ok (Some r')) → Spans r s t → Spans r' s' t' → t ≡ s'
  pieces_join {k = k} {s' = s'} h h' x x' =
      at_unique _ _ _ (spans_finish h.drawn x) (subst (λ (p : Point). At p s') (sym (pieces_joined along k (spans_there h'.drawn x'))) (spans_start h'.drawn x'))

  module _ {k : ℕ} {r : DrawnPiece} {s t : Spot} (h : Pieced T m k (Ok (Some r))) (x : Spans r s t) where
    there : There (stored_piece T m k)
    there = spans_there h.drawn x

    -- the first piece starts at the first end
    pub first_starts : k ≡ 0 → At (whole (place_of R (first_end m))) s
    first_starts z =
        let a = allowed h refl in
        let d = place_of R 0 in
        subst (λ (p : Point). At p s) (ap (λ (i : ℕ). start_of (stored_piece T m i)) z ∙ pieces_begin d along (rw z at there) ∙ ap whole (first_place R _ m ws k there d (a.right.routes m a.below)))
        (spans_start h.drawn x)

    -- the last piece, after which there is none, finishes at the second
    pub last_finishes : Pieced T m (suc k) (Ok None) → At (whole (place_of R (second_end m))) t
    last_finishes n =
        let a = allowed h refl in
        let d = place_of R 0 in
        subst (λ (p : Point). At p t) (pieces_end d along k there (none_there n.drawn) ∙ ap whole (last_place R _ m ws k there d (a.right.routes m a.below)))
        (spans_finish h.drawn x)

  -- a bend's nine points begin and end at its start and finish
  pub bend_between : {k : ℕ} {s q t : Spot} {xs ys : List Float} → Pieced T m k (Ok (Some (Bend s q t))) → Curved T m k xs (Ok true) ys → (spot_in ys 0 ≡ s) × (spot_in ys 8 ≡ t)
  bend_between h c = nine_between h.drawn c.done.row

  -- and both calls tell the same pieces to be bends
  pub bend_shown : {k : ℕ} {s q t : Spot} {v : Result Bool Refusal} {xs ys : List Float} → length xs ≡ 18 → Pieced T m k (Ok (Some (Bend s q t))) → Curved T m k xs v ys → v ≡ Ok true
  bend_shown {v = v} {xs = xs} e h c = go (ok_of v (asked_unique (eqb (length xs) 18) T m _ 0 c.asked (asked_own _ T m 0 (eq-eqb (length xs) 18 e) h.asked)))
    where
      go : (b : Bool) × (v ≡ Ok b) → v ≡ Ok true
      go b = b.1 ∙ ap Ok ((rw b.1 at c).done.answer ∙ is_nine h.drawn)

  pub only_bends : {k : ℕ} {r : Result (Option DrawnPiece) Refusal} {xs ys : List Float} → length xs ≡ 18 → Pieced T m k r → Curved T m k xs (Ok true) ys
      → (s : Spot) × (q : Spot) × (t : Spot) × (r ≡ Ok (Some (Bend s q t)))
  only_bends {k = k} {r = r} {xs = xs} e h c = go (ok_of r (asked_unique (eqb (length xs) 18) T m _ 0 (asked_own _ T m _ (eq-eqb (length xs) 18 e) h.asked) c.asked))
    where
      go : (d : Option DrawnPiece) × (r ≡ Ok d) → (s : Spot) × (q : Spot) × (t : Spot) × (r ≡ Ok (Some (Bend s q t)))
      go d = let b = is_curved (rw d.1 at h).drawn c.done.answer in (b.0, b.1, b.2, d.1 ∙ ap Ok b.3)

  -- pieces are numbered from 0, straight and bend in turn: a route of n marks has 2 n - 3
  module _ {k : ℕ} {r : Option DrawnPiece} (h : Pieced T m k (Ok r)) where
    drawing : Drawable R ws
    drawing = let a = allowed h refl in drawable R _ m a.below a.sized.blocks a.sized.runs (a.right.routes m a.below)

    pub none_past : 2 * word ws 2 ≤ k + 3 → r ≡ None
    none_past l = show_nothing (subst (λ (p : Shape). Shows p r) (is_nothing R ws drawing k l) h.drawn)

    pub even_straight : k + 3 < 2 * word ws 2 → k % 2 ≡ 0 → (s : Spot) × (t : Spot) × (r ≡ Some (Straight s t))
    even_straight l e = show_straight (subst (λ (p : Shape). Shows p r) (is_straight R ws drawing k l e) h.drawn)

    pub odd_bend : k + 3 < 2 * word ws 2 → (k % 2 ≡ 0 → ⊥) → (s : Spot) × (q : Spot) × (t : Spot) × (r ≡ Some (Bend s q t))
    odd_bend l e = show_bend (subst (λ (p : Shape). Shows p r) (is_bend R ws drawing k l e) h.drawn)

    -- a run with no way has none
    pub no_way_none : word ws 0 ≡ 2 → r ≡ None
    no_way_none e = let a = allowed h refl in none_past (rw (no_marks R _ m (a.right.routes m a.below) e) (omega arith))

  -- on right tables every run that is present is drawn
  pub right_drawn : {k : ℕ} {r : Result (Option DrawnPiece) Refusal} → early true T m ≡ 0 → Right T → Pieced T m k r → answer_of r ≡ 0
  right_drawn {r = r} e t h = go (h.asked.right e)
    where
      go : ((answer_of r ≡ 0) × Right T) ⊎ ((answer_of r ≡ 11) × (Right T → ⊥)) → answer_of r ≡ 0
      go (inl a) = a.0
      go (inr a) = absurd (a.1 t)
