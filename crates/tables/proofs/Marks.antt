-- Marks: the words that say whether they are present, and their places.
use mathlib.Core.Path.{◌≡◌, sym, ◌∙◌}
use mathlib.Core.List.{List}
use mathlib.Core.Bool.{Bool, true, false}
use Prim.Native.Nat.{ℕ, ◌+◌, ◌*◌, ◌-◌, ◌/◌, ◌%◌, ◌<◌, ◌≤◌}
use native.Mathlib.Omega.{arith}
use native.Mathlib.Decide.{dec_lt}
use borrow.Author.Tests.{lt-ltb, le-ltb, lt-leb}
use Rattle.geometry.specs.Words.{word, place_at}
use Rattle.geometry.specs.inner.Bounds.{InRange}
use Rattle.tables.specs.Tables.{Records, stored, is_corner, is_end, present, place_of, pair_index, pair_byte}
use Rattle.tables.specs.inner.Fit.{Fit}

module _ (runs : List ℕ) (i : ℕ) where
  pub end_before : i < 192 → false ≡ is_end runs i
  unfolding is_end
  end_before h = rw (lt-leb 192 i h)

module _ (blocks runs : List ℕ) (i : ℕ) where
  pub present_corner : (t : Bool) → t ≡ is_corner blocks i → t ≡ true → true ≡ present (stored blocks runs) i
  unfolding present
  present_corner t e h = rw (sym e ∙ h)

  pub corner_place : i < 192 → place_at blocks (17 * (i / 8) + 1 + 2 * (i % 8)) ≡ place_of (stored blocks runs) i
  unfolding place_of
  corner_place h = rw (lt-ltb i 192 h)

  pub end_place : 192 ≤ i → place_at runs (5 * ((i - 192) / 2) + 1 + 2 * ((i - 192) % 2)) ≡ place_of (stored blocks runs) i
  unfolding place_of
  end_place h = rw (le-ltb i 192 h)

module _ (pairs : List ℕ) (i j at : ℕ) where
  pub byte_up : i < j → at ≡ pair_index i j → word pairs at ≡ pair_byte pairs i j
  unfolding pair_byte
  byte_up h e = rw (lt-ltb i j h, e)

  pub byte_down : j ≤ i → at ≡ pair_index j i → word pairs at ≡ pair_byte pairs i j
  unfolding pair_byte
  byte_down h e = rw (le-ltb i j h, e)

-- every mark's place is near, so that no product of turns leaves 64 bits
pub place_in_range : (R : Records) (i : ℕ) → Fit R → i < 240 → InRange (place_of R i)
unfolding place_of
place_in_range R i f h = go (dec_lt i 192)
  where
    go : Dec (i < 192) → InRange (place_of R i)
    go (yes l) =
        rw (lt-ltb i 192 l)
        (record {
          east = f.blocks.coordinates (17 * (i / 8) + 1 + 2 * (i % 8)) (omega arith);
          north = f.blocks.coordinates (17 * (i / 8) + 1 + 2 * (i % 8) + 1) (omega arith);
        })
    go (no l) =
        rw (le-ltb i 192 (omega arith))
        (record {
          east = f.runs.coordinates (5 * ((i - 192) / 2) + 1 + 2 * ((i - 192) % 2)) (omega arith);
          north = f.runs.coordinates (5 * ((i - 192) / 2) + 1 + 2 * ((i - 192) % 2) + 1) (omega arith);
        })
