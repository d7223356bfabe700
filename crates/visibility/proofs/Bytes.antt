-- The byte of one pair, from the answers that the code gets.
use mathlib.Core.Path.{◌≡◌, refl, sym, ◌∙◌}
use mathlib.Core.List.{List}
use mathlib.Core.Bool.{Bool, true, false, and-false}
use Prim.Native.Nat.{ℕ, ◌<◌}
use Rattle.lists.specs.inner.Tells.{Tells}
use Rattle.geometry.specs.Words.{Point}
use Rattle.geometry.specs.inner.Bounds.{InRange}
use Rattle.seams.specs.Seam.{Shared}
use Rattle.tables.specs.Tables.{Records, present, place_of}
use Rattle.tables.specs.inner.Fit.{Fit}
use Rattle.tables.proofs.Marks.{place_in_range}
use Rattle.visibility.specs.Visibility.{both_present, Unhidden, PairIs, absent, clear, seam, hidden}
use Rattle.visibility.specs.inner.Bytes.{StraightIs, visible, between, lowest, MarkIs}

-- the byte of a straight that no block hides, from the answer of the search for a seam
module _ (blocks : List ℕ) (a b : Point) where
  pub straight_shared : (t : Bool) → Unhidden blocks a b → Tells (Shared blocks a b) t → t ≡ true → StraightIs blocks a b 253
  straight_shared t u h e = between (record { seen = u; shared = h.yes' e }) refl

  pub straight_open : (t : Bool) → Unhidden blocks a b → Tells (Shared blocks a b) t → t ≡ false → StraightIs blocks a b 254
  straight_open t u h e = visible (record { seen = u; unshared = h.no' e }) refl

-- a mark's place is in range
pub place_is_in_range : (R : Records) (i : ℕ) (a : Point) → Fit R → i < 240 → a ≡ place_of R i → InRange a
place_is_in_range R i a f h e = rw e (place_in_range R i f h)

module _ (R : Records) (i j : ℕ) where
  pub absent_high : (there : Bool) (p : Point) → MarkIs R j there p → there ≡ false → both_present R i j ≡ false
  absent_high there p m e = rw (sym m.presence ∙ e) (and-false (present R i))

  pub absent_low : (t : Bool) → t ≡ present R i → t ≡ false → both_present R i j ≡ false
  absent_low t g e = rw (sym g ∙ e)

  pub there_both : (t there : Bool) (p : Point) → MarkIs R j there p → there ≡ true → t ≡ present R i → t ≡ true → both_present R i j ≡ true
  there_both t there p m e g h = rw (sym g ∙ h, sym m.presence ∙ e)

  -- the ways to a fresh byte
  pub fresh_high : (there : Bool) (p : Point) → MarkIs R j there p → there ≡ false → PairIs R i j 255
  fresh_high there p m e = absent (absent_high there p m e) refl

  pub fresh_low : (t : Bool) → t ≡ present R i → t ≡ false → PairIs R i j 255
  fresh_low t g e = absent (absent_low t g e) refl

  pub fresh_straight : (t there : Bool) (a b : Point) (byte : ℕ) → MarkIs R j there b → there ≡ true → t ≡ present R i → t ≡ true → a ≡ place_of R i
      → StraightIs R.blocks a b byte → PairIs R i j byte
  fresh_straight t there a b byte m e g h q (visible f o) = clear (there_both t there b m e g h) (rw (q, m.place) at f) o
  fresh_straight t there a b byte m e g h q (between f o) = seam (there_both t there b m e g h) (rw (q, m.place) at f) o
  fresh_straight t there a b byte m e g h q (lowest l x f) =
      hidden (there_both t there b m e g h) l (rw (q, m.place) at x) (λ k s y. f k s (rw (q, m.place) y))
