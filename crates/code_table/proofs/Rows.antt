-- A row of codes as it is made: entry by entry, and side by side.
use mathlib.Core.Path.{◌≡◌, refl, sym, ap, ◌∙◌}
use mathlib.Core.Bool.{Bool, cond}
use mathlib.Core.List.{List}
use Prim.Native.Nat.{ℕ, ◌+◌, ◌*◌, ◌-◌, ◌%◌, ◌<◌, ◌≤◌}
use native.Mathlib.Decide.{ℕ_discrete}
use native.Mathlib.Omega.{arith}
use lib.IntN.{ℤ, pos, ◌-ℤ◌, ◌*ℤ◌}
use lib.Signed.{lt_z}
use lib.ListN.{length, set, take, drop, length-set, length-take, length-drop, length-replicate}
use borrow.Rule.Slice.PartMut.{put_mid, Post-is}
use lib.Seq.{get_or-set_same, get_or-set_other}
use Rattle.lists.specs.inner.Filled.{filled}
use Rattle.lists.specs.Lists.{splice}
use Rattle.geometry.specs.inner.Bounds.{InRange}
use Rattle.geometry.specs.Words.{Point, point, word, block_words, corners}
use Rattle.geometry.proofs.Searching.{part_is}
use Rattle.tables.specs.Tables.{Records, stored, place_of}
use Rattle.tables.specs.inner.Fit.{Fit}
use Rattle.tables.proofs.Marks.{place_in_range}
use Rattle.tables.proofs.Splices.{word_replicate, part_word, splice_length, splice_before, splice_here}
use Rattle.codes.specs.inner.Codes.{code_from, code_of, CodesOf}
use Rattle.codes.proofs.Coding.{code_last, code_step, code_done, code_absent}
use Rattle.code_table.specs.inner.Lines.{LineOf, Marks, mark_at, RowFrom, RowIs, PlacesOf}

-- the entries below i are those of f, and the others are as they were
pub record Upto (f : ℕ → ℕ) (old new : List ℕ) (i : ℕ) : Type 0 where
  pub sized : length new ≡ 240
  pub past : (j : ℕ) → j < i → word new j ≡ f j
  pub rest : (j : ℕ) → i ≤ j → word new j ≡ word old j

module _ (f : ℕ → ℕ) (old : List ℕ) where
  pub upto_none : length old ≡ 240 → Upto f old old 0
  upto_none l = record { sized = l; past = λ j h. absurd (omega arith); rest = λ j h. refl }

  pub upto_next : (new : List ℕ) (i v : ℕ) → i < 240 → v ≡ f i → Upto f old new i → Upto f old (set new i v) (i + 1)
  upto_next new i v h e u =
      record { sized = length-set new i v ∙ u.sized; past = λ j l. past j l (ℕ_discrete j i); rest = λ j l. get_or-set_other new i j v 0 (omega arith) ∙ u.rest j (omega arith) }
    where
      past : (j : ℕ) → j < i + 1 → Dec (j ≡ i) → word (set new i v) j ≡ f j
      past j l (yes q) = rw q (get_or-set_same new i v 0 (omega (arith, u.sized)) ∙ e)
      past j l (no q) = get_or-set_other new i j v 0 q ∙ u.past j (omega arith)

-- the codes of the marks from side k on
abbrev pub from_side : List ℕ → List ℕ → List ℕ → ℕ → ℕ → ℕ
from_side ws east north k i = code_from (corners ws) (mark_at east north i) k 8

pub row_from : (ws east north old new : List ℕ) (k i : ℕ) → 240 ≤ i → Upto (from_side ws east north k) old new i → RowFrom ws east north k new
row_from ws east north old new k i h u = record { sized = u.sized; each = λ j l. u.past j (omega arith) }

-- one code, by the line of the side
module _ (ws : List ℕ) (k : ℕ) (p q : Point) (same : p ≡ q) (e n level : ℤ) (t : Bool) (l : LineOf (corners ws) k e n level) (h : t ≡ lt_z level (e *ℤ pos p.north -ℤ n *ℤ pos p.east)) where
  pub code_from_last : (c : ℕ) → word ws 0 ≡ k + 1 → c ≡ cond t 0 255 → c ≡ code_from (corners ws) q k 8
  code_from_last c m g =
      let d : word ws 0 - 1 ≡ k = omega arith in
      rw (← same) (rw d at (code_last ws p (omega arith) c t (rw d (h ∙ l.left p.east p.north)) g))

  pub code_from_side : (c r : ℕ) → k + 1 < word ws 0 → c ≡ code_from (corners ws) q (k + 1) 8 → r ≡ cond t 0 1 + 2 * (c % 128) → r ≡ code_from (corners ws) q k 8
  code_from_side c r m f g =
      let d : k + 1 - 1 ≡ k = omega arith in
      rw (← same) (rw d at (code_step ws p (omega arith) c (k + 1) r t (omega arith) m (rw d (h ∙ l.left p.east p.north)) (rw (← same) at f) g))

pub mark_in_range : (east north : List ℕ) (i : ℕ) (p : Point) → p ≡ mark_at east north i → Marks east north → i < 240 → InRange p
mark_in_range east north i p e m h = rw e (record { east = m.east_small i h; north = m.north_small i h })

-- ---- a whole row
pub row_absent : (ws east north old row : List ℕ) → length old ≡ 240 → row ≡ filled (length old) 255 → word ws 0 ≡ 0 → RowIs ws east north row
unfolding filled
row_absent ws east north old row l f e =
    rw f
    (record {
      sized = length-replicate (length old) 255 ∙ l;
      each = λ i h. word_replicate (length old) i 255 (omega arith) ∙ code_absent ws (mark_at east north i) e;
    })

pub row_done : (ws east north row : List ℕ) (k : ℕ) → 0 < word ws 0 → k ≤ 0 → RowFrom ws east north k row → RowIs ws east north row
row_done ws east north row k s z r = record { sized = r.sized; each = λ i h. code_done ws (mark_at east north i) s (word row i) k z (r.each i h) }

-- ---- the places of all marks
pub places_all : (R : Records) (east₀ north₀ east north : List ℕ) (i : ℕ) → Fit R → 240 ≤ i → Upto (λ j. (place_of R j).east) east₀ east i → Upto (λ j. (place_of R j).north) north₀ north i
    → PlacesOf R east north
places_all R east₀ north₀ east north i f h u v =
    record {
      marks = record {
        easts = u.sized;
        norths = v.sized;
        east_small = λ j l. omega (arith, u.past j (omega arith), (place_in_range R j f l).east);
        north_small = λ j l. omega (arith, v.past j (omega arith), (place_in_range R j f l).north);
      };
      each = λ j l. λ t. point (u.past j (omega arith) t) (v.past j (omega arith) t);
    }

-- ---- the rows of all blocks, one after the other
-- the codes against the blocks below n
pub record RowsUpto (R : Records) (codes : List ℕ) (n : ℕ) : Type 0 where
  pub sized : length codes ≡ 5760
  pub each : (b i : ℕ) → b < n → i < 240 → word codes (240 * b + i) ≡ code_of (block_words R.blocks b) (place_of R i)

pub rows_none : (R : Records) (codes : List ℕ) → length codes ≡ 5760 → RowsUpto R codes 0
rows_none R codes l = record { sized = l; each = λ b i h. absurd (omega arith) }

pub rows_all : (R : Records) (codes : List ℕ) (n : ℕ) → 24 ≤ n → RowsUpto R codes n → CodesOf R codes
rows_all R codes n h u = record { sized = u.sized; each = λ b i l m. u.each b i (omega arith) m }

pub row_lent : (codes : List ℕ) (n : ℕ) → length codes ≡ 5760 → n < 24 → length (take (240 * n + 240 - 240 * n) (drop (240 * n) codes)) ≡ 240
row_lent codes n l h = simp (length-take, length-drop) (omega arith)

module _ (blocks runs east north codes row : List ℕ) (n : ℕ) (h : n < 24) (p : PlacesOf (stored blocks runs) east north)
    (r : RowIs (take (17 * n + 17 - 17 * n) (drop (17 * n) blocks)) east north row) (u : RowsUpto (stored blocks runs) codes n) where
  fits : 240 * n + length row ≤ length codes
  fits = omega (arith, u.sized, r.sized)

  row_put : RowsUpto (stored blocks runs) (splice codes (240 * n) row) (n + 1)
  row_put = record { sized = splice_length codes (240 * n) row fits ∙ u.sized; each = λ b i l m. go b i l m (ℕ_discrete b n) }
    where
      go : (b i : ℕ) → b < n + 1 → i < 240 → Dec (b ≡ n) → word (splice codes (240 * n) row) (240 * b + i) ≡ code_of (block_words blocks b) (place_of (stored blocks runs) i)
      go b i l m (no e) = splice_before codes (240 * n) row fits (240 * b + i) (omega arith) ∙ u.each b i (omega arith) m
      go b i l m (yes e) =
          rw e
          (sym (part_word (splice codes (240 * n) row) (240 * n) (length row) i (omega (arith, r.sized)))
          ∙ ap (λ (t : List ℕ). word t i) (splice_here codes (240 * n) row fits)
          ∙ (rw (part_is blocks n, p.each i m) at (r.each i m)))

  pub rows_next : RowsUpto (stored blocks runs) (put_mid (240 * n) (240 * n + 240 - 240 * n) codes row) (n + 1)
  unfolding splice
  rows_next = rw (Post-is (240 * n) (240 * n + 240) codes (omega arith)) (rw r.sized at row_put)
