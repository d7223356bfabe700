-- The pieces along a list of places join: each starts where the one before finishes, the first starts at the first place, the last finishes at the last.
use mathlib.Core.Path.{◌≡◌, refl, sym}
use mathlib.Core.List.{List, [], ◌∷◌}
use Prim.Native.Nat.{ℕ, zero, suc}
use lib.ListN.{get_or}
use Rattle.geometry.specs.Words.{Point}
use Rattle.curves.specs.Curve.{bend_at, whole, At}
use Rattle.curves.specs.declared.Spot.{Spot}
use Rattle.std.specs.Prelude.{Some}
use Rattle.pieces.specs.declared.DrawnPiece.{DrawnPiece}
use Rattle.pieces.specs.Pieces.{Shape, nothing, straight, bend, pieces_from, pieces}
use Rattle.pieces.specs.Showing.{Shows, shows_straight, shows_bend, Spans, straight_spans, bend_spans, origin}

abbrev pub start_of : Shape → Point
start_of nothing = origin
start_of (straight a b) = a
start_of (bend a p c) = bend_at a p c 0

abbrev pub finish_of : Shape → Point
finish_of nothing = origin
finish_of (straight a b) = b
finish_of (bend a p c) = bend_at a p c 8

-- the piece is there
abbrev pub There : Shape → Type 0
There nothing = ⊥
There (straight a b) = Unit
There (bend a p c) = Unit

abbrev pub last_of : Point → List Point → Point
last_of d [] = d
last_of d (a ∷ ps) = last_of a ps

abbrev from : Point → List Point → ℕ → Shape
from s ps k = get_or (pieces_from s ps) k nothing

begins : (s p c : Point) (ps : List Point) → start_of (from s (p ∷ c ∷ ps) 0) ≡ s
unfolding pieces_from
begins s p c [] = refl
begins s p c (x ∷ ps) = refl

there_first : (s p c : Point) (ps : List Point) → There (from s (p ∷ c ∷ ps) 0)
unfolding pieces_from
there_first s p c [] = tt
there_first s p c (x ∷ ps) = tt

joins : (s : Point) (ps : List Point) (k : ℕ) → There (from s ps (suc k)) → finish_of (from s ps k) ≡ start_of (from s ps (suc k))
unfolding pieces_from
joins s [] k h = absurd h
joins s (a ∷ []) k h = absurd h
joins s (a ∷ b ∷ []) k h = absurd h
joins s (a ∷ p ∷ c ∷ ps) zero h = refl
joins s (a ∷ p ∷ c ∷ ps) (suc zero) h = sym (begins (bend_at a p c 8) p c ps)
joins s (a ∷ p ∷ c ∷ ps) (suc (suc k)) h = joins (bend_at a p c 8) (p ∷ c ∷ ps) k h

ends : (s d : Point) (ps : List Point) (k : ℕ) → There (from s ps k) → (There (from s ps (suc k)) → ⊥) → finish_of (from s ps k) ≡ whole (last_of d ps)
unfolding pieces_from
ends s d [] k h n = absurd h
ends s d (a ∷ []) k h n = absurd h
ends s d (a ∷ b ∷ []) zero h n = refl
ends s d (a ∷ b ∷ []) (suc k) h n = absurd h
ends s d (a ∷ p ∷ c ∷ ps) zero h n = absurd (n tt)
ends s d (a ∷ p ∷ c ∷ ps) (suc zero) h n = absurd (n (there_first (bend_at a p c 8) p c ps))
ends s d (a ∷ p ∷ c ∷ ps) (suc (suc k)) h n = ends (bend_at a p c 8) d (p ∷ c ∷ ps) k h n

abbrev piece_of : List Point → ℕ → Shape
piece_of ps k = get_or (pieces ps) k nothing

pub pieces_joined : (ps : List Point) (k : ℕ) → There (piece_of ps (suc k)) → finish_of (piece_of ps k) ≡ start_of (piece_of ps (suc k))
unfolding pieces
pieces_joined [] k h = absurd h
pieces_joined (a ∷ ps) k h = joins (whole a) (a ∷ ps) k h

pub pieces_begin : (d : Point) (ps : List Point) → There (piece_of ps 0) → start_of (piece_of ps 0) ≡ whole (get_or ps 0 d)
unfolding pieces pieces_from
pieces_begin d [] h = absurd h
pieces_begin d (a ∷ []) h = absurd h
pieces_begin d (a ∷ b ∷ ps) h = begins (whole a) a b ps

pub pieces_end : (d : Point) (ps : List Point) (k : ℕ) → There (piece_of ps k) → (There (piece_of ps (suc k)) → ⊥) → finish_of (piece_of ps k) ≡ whole (last_of d ps)
unfolding pieces
pieces_end d [] k h n = absurd h
pieces_end d (a ∷ ps) k h n = ends (whole a) d (a ∷ ps) k h n

-- a drawn piece that shows a piece goes from its start to its finish
pub spans_there : {p : Shape} {r : DrawnPiece} {s t : Spot} → Shows p (Some r) → Spans r s t → There p
spans_there (shows_straight x y) straight_spans = tt
spans_there (shows_bend x y z) bend_spans = tt

pub spans_start : {p : Shape} {r : DrawnPiece} {s t : Spot} → Shows p (Some r) → Spans r s t → At (start_of p) s
spans_start (shows_straight x y) straight_spans = x
spans_start (shows_bend x y z) bend_spans = x

pub spans_finish : {p : Shape} {r : DrawnPiece} {s t : Spot} → Shows p (Some r) → Spans r s t → At (finish_of p) t
spans_finish (shows_straight x y) straight_spans = y
spans_finish (shows_bend x y z) bend_spans = z
