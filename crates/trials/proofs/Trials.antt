-- The table of trial yards, proved: one computed test, and one law that it says what a row says.
use mathlib.Core.Path.{◌≡◌, refl, sym, ◌∙◌}
use mathlib.Core.List.{List, [], ◌∷◌}
use mathlib.Core.Bool.{Bool, true, false, ◌&&◌, ◌||◌, not, true≢false}
use Prim.Native.Nat.{ℕ}
use native.Mathlib.Omega.{arith}
use lib.Dec.{eqb}
use lib.ListN.{get_or}
use borrow.Author.Tests.{eqb-true}
use Rattle.lists.specs.Lists.{all, all_below}
use Rattle.lists.proofs.Every.{both, and_yes}
use Rattle.geometry.specs.Words.{Point, places_from}
use Rattle.geometry.specs.Obstruction.{turn, side_turn}
use Rattle.geometry.specs.Convexity.{convex, side_test}
use Rattle.lengths.specs.Length.{squared, length_of}
use Rattle.tables.specs.Tables.{Tables, records, route_words}
use Rattle.records.specs.Questions.{place_right, count_right, figure_right}
use Rattle.visibility.specs.Visibility.{ByPlaces, PairIs}
use Rattle.visibility.proofs.Unique.{pair_unique}
use Rattle.routing.specs.Routes.{RouteIs}
use Rattle.routing.proofs.Unique.{route_unique}
use Rattle.book.specs.Questions.{first_no}
use Rattle.book.specs.Book.{Book, Edit, empty_book, free, questions, answer, written, step, after_all, answers}
use Rattle.book.specs.Drawing.{Drawn}
use Rattle.book.specs.Edits.{Started}
use Rattle.book.specs.History.{Calls}
use Rattle.book.proofs.Demand3.{demand3}
use Rattle.trials.specs.Rows.{Blocks, Row, sight, straight, way, charged, shut, answered, add_blocks, Leaves, Byte, Found, NoWay, Holds, AllHold}
use Rattle.trials.specs.Table.{rows}
use Rattle.trials.proofs.Sight.{obstructed}
use Rattle.trials.proofs.Measures.{measures, length_measured}
use Rattle.trials.proofs.Drawings.{hidden_by, seen, scattered, between, byte_is, byte_is_lem, shut_place}
use Rattle.trials.proofs.Search.{labelled}
use Rattle.trials.proofs.Shut.{starts_shut, ends_shut}
use Rattle.trials.proofs.Ways.{shows, way_found}
use Rattle.trials.proofs.Yards.{blocks_book, yard_book, charged_book, stands, run_stored, leaves, charged_leaves}

-- two lists are the same
unfoldable same : List ℕ → List ℕ → Bool
same [] [] = true
same [] (y ∷ ys) = false
same (x ∷ xs) [] = false
same (x ∷ xs) (y ∷ ys) = eqb x y && same xs ys

same_is : (xs ys : List ℕ) → same xs ys ≡ true → xs ≡ ys
unfolding same
same_is [] [] h = refl
same_is [] (y ∷ ys) h = absurd (true≢false (sym h))
same_is (x ∷ xs) [] h = absurd (true≢false (sym h))
same_is (x ∷ xs) (y ∷ ys) h = let p = both (eqb x y) _ h in λ i. eqb-true x y p.0 i ∷ same_is xs ys p.1 i

-- run 0's route from p to q, by its marks
unfoldable finds : Book → Point → Point → ℕ → List ℕ → Bool
unfolding scattered labelled shows
finds b p q l [] = false
finds b p q l (v ∷ us) = scattered b && (eqb v 192 && (eqb (labelled b p q 192).len l && shows b p q (labelled b p q) us))

-- what the table rests on: this test of a row, computed
unfoldable passes : Row → Bool
unfolding add_blocks stands blocks_book after_all answers step answer questions written first_no free count_right all convex side_test all_below side_turn turn places_from obstructed
    seen scattered between byte_is measures finds same
passes (sight bs p q x) = stands bs && (place_right p && place_right q && byte_is (yard_book bs p q) p q x)
passes (straight p q l) = measures 0 (squared p q) l
passes (way bs p q l us) = stands bs && (place_right p && place_right q && finds (yard_book bs p q) p q l us)
passes (charged f bs p q l us) = figure_right f && (stands bs && (place_right p && place_right q && finds (charged_book f bs p q) p q l us))
passes (shut bs p) = stands bs && (place_right p && (not (seen (blocks_book bs) p p) || between (blocks_book bs) p p))
passes (answered es rs) = same (answers empty_book es) rs

tested : all passes rows ≡ true
unfolding passes rows all
tested = refl

-- a drawing holds the byte and the route record that its places require
byte_drawn : (b : Book) (T : Tables) (x : ℕ) → Drawn b T → PairIs (records T) 192 193 x → Byte x T
byte_drawn b T x d h = pair_unique (records T) 192 193 _ x (d.right.pairs.each 192 193 (omega arith) (omega arith)) h

route_drawn : (b : Book) (T : Tables) (ws : List ℕ) → Drawn b T → RouteIs (records T) (ByPlaces (records T)) 0 ws → route_words T.routes 0 ≡ ws
route_drawn b T ws d h = route_unique (records T) (ByPlaces (records T)) 0 (d.right.routes 0 (omega arith)) h

route_found : (b : Book) (p q : Point) (l : ℕ) (us : List ℕ) → get_or b.runs 0 [] ≡ p ∷ q ∷ [] → finds b p q l us ≡ true → (T : Tables) → Drawn b T → Found l us T
unfolding finds
route_found b p q l [] run h T d = absurd (true≢false (sym h))
route_found b p q l (v ∷ us) run h T d =
    let y = both (scattered b) _ h in
    let a = both (eqb v 192) _ y.1 in
    let c = both (eqb (labelled b p q 192).len l) _ a.1 in
    route_drawn b T _ d (rw (eqb-true v 192 a.0, ← eqb-true _ l c.0) (way_found b p q (labelled b p q) T d run y.0 refl us c.1))

-- the run does not matter for whether a place is shut
shut_alone : (bs : Blocks) (p q a : Point) → not (seen (yard_book bs p q) a a) || between (yard_book bs p q) a a ≡ not (seen (blocks_book bs) a a) || between (blocks_book bs) a a
unfolding seen hidden_by between
shut_alone bs p q a = refl

passes_holds : (r : Row) → passes r ≡ true → Holds r
unfolding passes Holds length_of
passes_holds (sight bs p q x) h =
    let s = both (stands bs) _ h in
    let r = both (place_right p && place_right q) _ s.1 in
    leaves bs p q s.0 r.0 (Byte x) (λ T d. byte_drawn _ T x d (byte_is_lem (yard_book bs p q) T d p q (run_stored bs p q s.0 r.0) x r.1))
passes_holds (straight p q l) h = length_measured (squared p q) l h
passes_holds (way bs p q l us) h =
    let s = both (stands bs) _ h in
    let r = both (place_right p && place_right q) _ s.1 in
    leaves bs p q s.0 r.0 (Found l us) (route_found (yard_book bs p q) p q l us (run_stored bs p q s.0 r.0) r.1)
passes_holds (charged f bs p q l us) h =
    let g = both (figure_right f) _ h in
    let s = both (stands bs) _ g.1 in
    let r = both (place_right p && place_right q) _ s.1 in
    charged_leaves bs p q s.0 r.0 f g.0 (Found l us) (route_found (charged_book f bs p q) p q l us (run_stored bs p q s.0 r.0) r.1)
passes_holds (shut bs p) h =
    let s = both (stands bs) _ h in
    let r = both (place_right p) _ s.1 in
    λ q o.
    let from = and_yes (place_right p) (place_right q) r.0 o in
    let to = and_yes (place_right q) (place_right p) o r.0 in (
      leaves bs p q s.0 from NoWay (λ T d. route_drawn _ T _ d (starts_shut (yard_book bs p q) T d p q (run_stored bs p q s.0 from) (shut_place _ T d p (shut_alone bs p q p ∙ r.1)))),
      leaves bs q p s.0 to NoWay (λ T d. route_drawn _ T _ d (ends_shut (yard_book bs q p) T d q p (run_stored bs q p s.0 to) (shut_place _ T d p (shut_alone bs q p p ∙ r.1)))),
    )
passes_holds (answered es rs) h = same_is (answers empty_book es) rs h

all_hold : (rs : List Row) → all passes rs ≡ true → AllHold rs
unfolding all AllHold
all_hold [] h = tt
all_hold (r ∷ rs) h = let p = both (passes r) _ h in (passes_holds r p.0, all_hold rs p.1)

-- the table is right
pub trials : AllHold rows
trials = all_hold rows tested

-- what a row says of a drawing is so of the calls: after a start, each of its edits answers 0, and the tables are as the row says
pub leaves_called : (es : List Edit) (P : Tables → Type 0) → Leaves es P → (T₀ T T' : Tables) (rs : List ℕ)
    → Started T₀ 0 T → Calls es T rs T' → (all (λ r. eqb r 0) rs ≡ true) × P T'
leaves_called es P l T₀ T T' rs s c = let d = demand3 T₀ T T' es rs s c in (rw d.0 l.taken, l.each T' d.1)
