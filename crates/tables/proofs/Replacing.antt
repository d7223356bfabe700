-- A record written over another, and another figure: the tables stay such that the layers under the calls may use them.
use mathlib.Core.Path.{◌≡◌, sym, ap, ◌∙◌, subst}
use mathlib.Core.List.{List}
use Prim.Native.Nat.{ℕ, ◌+◌, ◌*◌, ◌-◌, ◌<◌, ◌≤◌}
use native.Mathlib.Decide.{dec_lt, dec_le}
use native.Mathlib.Omega.{arith}
use lib.ListN.{length, set, length-set}
use lib.Seq.{get_or-set_same, get_or-set_other}
use Rattle.geometry.specs.Words.{word}
use Rattle.geometry.specs.inner.Bounds.{BoundedRecord, Bounded}
use Rattle.tables.specs.Tables.{stored}
use Rattle.tables.specs.inner.Fit.{BoundedRuns, Fit, BoundedRun}
use Rattle.lists.specs.Lists.{splice}
use Rattle.tables.proofs.Splices.{word_in, splice_length, splice_before, splice_after, splice_here}

module _ (t : List ℕ) (at : ℕ) (ws : List ℕ) (fits : at + length ws ≤ length t) where
  splice_in : (i : ℕ) → at ≤ i → i < at + length ws → word (splice t at ws) i ≡ word ws (i - at)
  splice_in i lo hi = word_in (splice t at ws) at (length ws) i lo hi ∙ ap (λ (l : List ℕ). word l (i - at)) (splice_here t at ws fits)

  -- a property of every word of both is one of every word of the whole
  splice_words : (P : ℕ → Type 0) (i : ℕ) → (at ≤ i → i < at + length ws → P (word ws (i - at))) → P (word t i) → P (word (splice t at ws) i)
  splice_words P i f g = go (dec_le at i) (dec_lt i (at + length ws))
    where
      go : Dec (at ≤ i) → Dec (i < at + length ws) → P (word (splice t at ws) i)
      go (no a) d = subst P (sym (splice_before t at ws fits i (omega arith))) g
      go (yes a) (no b) = subst P (sym (splice_after t at ws fits i (omega arith))) g
      go (yes a) (yes b) = subst P (sym (splice_in i a b)) (f a b)

block_bounded : (t : List ℕ) (n : ℕ) (ws : List ℕ) → Bounded t → BoundedRecord ws → n < 24 → Bounded (splice t (17 * n) ws)
block_bounded t n ws b r h =
    let fits : 17 * n + length ws ≤ length t = omega (arith, b.sized, r.sized) in
    record {
      sized = splice_length t (17 * n) ws fits ∙ b.sized;
      counts = λ k l. splice_words t (17 * n) ws fits (λ w. w ≤ 8) (17 * k)
          (λ (lo : 17 * n ≤ 17 * k) (hi : 17 * k < 17 * n + length ws). let e : 17 * k - 17 * n ≡ 0 = omega (arith, r.sized) in rw e r.count) (b.counts k l);
      coordinates = λ i l. splice_words t (17 * n) ws fits (λ w. w ≤ 32767) i
          (λ (lo : 17 * n ≤ i) (hi : i < 17 * n + length ws). r.coordinates (i - 17 * n) (omega (arith, r.sized))) (b.coordinates i l);
    }

run_bounded : (t : List ℕ) (m : ℕ) (ws : List ℕ) → BoundedRuns t → BoundedRun ws → m < 24 → BoundedRuns (splice t (5 * m) ws)
run_bounded t m ws b r h =
    let fits : 5 * m + length ws ≤ length t = omega (arith, b.sized, r.sized) in
    record {
      sized = splice_length t (5 * m) ws fits ∙ b.sized;
      flags = λ k l. splice_words t (5 * m) ws fits (λ w. w ≤ 1) (5 * k)
          (λ (lo : 5 * m ≤ 5 * k) (hi : 5 * k < 5 * m + length ws). let e : 5 * k - 5 * m ≡ 0 = omega (arith, r.sized) in rw e r.flag) (b.flags k l);
      coordinates = λ i l. splice_words t (5 * m) ws fits (λ w. w ≤ 32767) i
          (λ (lo : 5 * m ≤ i) (hi : i < 5 * m + length ws). r.coordinates (i - 5 * m) (omega (arith, r.sized))) (b.coordinates i l);
      figure = rw (splice_after t (5 * m) ws fits 120 (omega (arith, r.sized))) b.figure;
    }

pub block_fit : (b r : List ℕ) (n : ℕ) (ws : List ℕ) {b' : List ℕ} → Fit (stored b r) → BoundedRecord ws → n < 24 → b' ≡ splice b (17 * n) ws → Fit (stored b' r)
block_fit b r n ws f w h e = rw e (record { blocks = block_bounded b n ws f.blocks w h; runs = f.runs })

pub run_fit : (b r : List ℕ) (m : ℕ) (ws : List ℕ) {r' : List ℕ} → Fit (stored b r) → BoundedRun ws → m < 24 → r' ≡ splice r (5 * m) ws → Fit (stored b r')
run_fit b r m ws f w h e = rw e (record { blocks = f.blocks; runs = run_bounded r m ws f.runs w h })

figure_bounded : (t : List ℕ) (f : ℕ) → BoundedRuns t → f ≤ 1000 → BoundedRuns (set t 120 f)
figure_bounded t f b h =
    record {
      sized = length-set t 120 f ∙ b.sized;
      flags = λ m l. rw (get_or-set_other t 120 (5 * m) f 0 (omega arith)) (b.flags m l);
      coordinates = λ i l. rw (get_or-set_other t 120 i f 0 (omega arith)) (b.coordinates i l);
      figure = rw (get_or-set_same t 120 f 0 (omega (arith, b.sized))) h;
    }

pub figure_fit : (b r : List ℕ) (f : ℕ) → Fit (stored b r) → f ≤ 1000 → Fit (stored b (set r 120 f))
figure_fit b r f g h = record { blocks = g.blocks; runs = figure_bounded r f g.runs h }
