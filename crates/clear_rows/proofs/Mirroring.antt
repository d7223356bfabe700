-- Rows of lower corners, mirrored: each clear straight then stands in the rows of both its ends.
use mathlib.Core.Path.{◌≡◌, refl, sym, ap, ◌∙◌}
use mathlib.Core.Bool.{Bool, true, false, ◌||◌, and-eq-true_iff}
use mathlib.Core.List.{List}
use Prim.Native.Nat.{ℕ, ◌<◌}
use native.Mathlib.Decide.{dec_lt}
use native.Mathlib.Omega.{arith}
use Rattle.tables.specs.Tables.{Records, is_corner, is_end, present}
use Rattle.tables.proofs.Marks.{end_before}
use Rattle.visibility.specs.Visibility.{ByPlaces}
use Rattle.visibility.proofs.Straights.{clear_sym}
use Rattle.adjacency.specs.inner.Adjacent.{Shows, near_bit}
use Rattle.mark_rows.specs.inner.Adjacent.{Adjacent, Rows}
use Rattle.mark_rows.proofs.Words.{shows_not, by_marks, by_words}
use Rattle.corner_words.specs.inner.Mirrors.{LowerOnly, Mirrored}
use Rattle.clear_rows.specs.inner.Sparing.{Seen, AllSay}

-- a clear straight is so from either end
pub places_turned : (R : Records) (v u : ℕ) → ByPlaces R v u → ByPlaces R u v
places_turned R v u c = let b = (and-eq-true_iff (present R v) (present R u)).0 c.0 in (rw (b.1, b.0) refl, clear_sym c.1)

-- a mark below 192 that is there is a corner
corner_there : (R : Records) (u : ℕ) → u < 192 → present R u ≡ true → is_corner R.blocks u ≡ true
unfolding present
corner_there R u l e = go (is_corner R.blocks u) refl
  where
    go : (t : Bool) → is_corner R.blocks u ≡ t → is_corner R.blocks u ≡ true
    go true q = q
    go false q =
        let x : false ≡ true = sym (ap (λ (b : Bool). b || is_end R.runs u) q ∙ sym (end_before R.runs u l)) ∙ e in
        let z : ◌≡◌ {A = ℕ} 0 1 = cc in
        absurd (omega arith)

module _ {P : ℕ → ℕ → Type 0} {rows : List ℕ} (a : AllSay P rows) where
  row_says : (v u : ℕ) → v < 240 → u < 192 → Shows (P v u) (near_bit rows v u)
  row_says = by_marks P rows 240 a.each

module _ (R : Records) {old : List ℕ} (a : AllSay (Seen R) old) where
  pub lower_only : LowerOnly old
  lower_only = record { sized = a.sized; each = λ v u l h e. ((row_says a v u l h).yes' e).1 }

  turned : (v u : ℕ) → u < 192 → Adjacent R.blocks (ByPlaces R) u v → Adjacent R.blocks (ByPlaces R) v u
  turned v u l x =
      let b = (and-eq-true_iff (present R v) (present R u)).0 x.clear.0 in
      record { present = corner_there R u l b.1; differ = λ q. x.differ (sym q); clear = places_turned R v u x.clear }

  module _ {new : List ℕ} (m : Mirrored old new) where
    says : (v u : ℕ) → v < 240 → u < 192 → Dec (u < v) → Dec (v < u) → Shows (Adjacent R.blocks (ByPlaces R) v u) (near_bit new v u)
    says v u l h (yes b) d =
        let s = row_says a v u l h in
        rw (m.kept v u l b h) (record { small = s.small; yes' = λ e. (s.yes' e).0; no' = λ x. s.no' (x, b) })
    says v u l h (no b) (yes c) =
        let s = row_says a u v (omega arith) (omega arith) in
        rw (m.turned u v h c)
        (record { small = s.small; yes' = λ e. turned v u h (s.yes' e).0; no' = λ x. s.no' (turned u v (omega arith) x, c) })
    says v u l h (no b) (no c) =
        let q : u ≡ v = omega arith in
        rw (ap (near_bit new v) q ∙ m.own v (omega arith)) (shows_not _ (λ x. x.differ q))

    pub mirrored_rows : Rows R.blocks (ByPlaces R) new 720
    mirrored_rows = record { sized = m.sized; each = by_words (Adjacent R.blocks (ByPlaces R)) new 240 (λ v u l h. says v u l h (dec_lt u v) (dec_lt v u)) }
