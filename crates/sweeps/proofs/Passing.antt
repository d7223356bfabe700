-- A pass along a line, the passes along all lines, the four directions in turn.
use mathlib.Core.Path.{◌≡◌, refl, sym, ap, ◌∙◌, subst}
use mathlib.Core.List.{List}
use Prim.Native.Nat.{ℕ, zero, suc, ◌+◌, ◌*◌, ◌-◌, ◌/◌, ◌%◌, ◌≤◌, ◌<◌, min}
use native.Mathlib.Omega.{arith}
use native.Mathlib.Numerals.{add-one}
use native.Mathlib.Decide.{ℕ_discrete}
use borrow.Author.Tests.{ne_eqb}
use Rattle.geometry.specs.Words.{word}
use Rattle.lengths.specs.Length.{gap}
use Rattle.nets.specs.Net.{Net}
use Rattle.nets.specs.inner.Keys.{Attained}
use Rattle.crossings.specs.inner.Charts.{spot, span, step_of, axis_by}
use Rattle.sweeps.specs.inner.Keys.{key_at, unreached, Lanes, leave, through, on_line, gap_on, line_key, Calm, Fair, Improved, Lowered}
use Rattle.sweeps.proofs.Lowering.{lowered_none, lowered_then, lowered_one, improved_not}
use Rattle.sweeps.proofs.Carrying.{Toward, west, south, north, east, Leads, axis_small, turned, carried_attained}

pub line_back : {d u : ℕ} (line n k : ℕ) → 0 < k → k < n → Toward (on_line d line n k) u d → u ≡ on_line d line n (k - 1)
unfolding on_line
line_back line n k a b (west e) = omega arith
line_back line n k a b (south e f) = omega arith
line_back line n k a b (north e f) = omega arith
line_back line n k a b (east e) = omega arith

-- the gap of two crossings on a line is their distance
module _ (xs ys : List ℕ) where
  span_east : (i j l : ℕ) → l < 66 → span xs ys (66 * i + l) (66 * j + l) ≡ gap (word xs i) (word xs j)
  unfolding span spot
  span_east i j l h =
      let a : (66 * i + l) / 66 ≡ i = omega arith in
      let b : (66 * j + l) / 66 ≡ j = omega arith in
      let c : (66 * i + l) % 66 ≡ l = omega arith in
      let d : (66 * j + l) % 66 ≡ l = omega arith in
      rw (a, b, c, d) (omega arith)

  span_north : (l i j : ℕ) → i < 66 → j < 66 → span xs ys (66 * l + i) (66 * l + j) ≡ gap (word ys i) (word ys j)
  unfolding span spot
  span_north l i j h k =
      let a : (66 * l + i) / 66 ≡ l = omega arith in
      let b : (66 * l + j) / 66 ≡ l = omega arith in
      let c : (66 * l + i) % 66 ≡ i = omega arith in
      let d : (66 * l + j) % 66 ≡ j = omega arith in
      rw (a, b, c, d) (omega arith)

  pub gap_is : {d u : ℕ} (line n k : ℕ) → line < 66 → n ≤ 66 → 0 < k → k < n → Toward (on_line d line n k) u d → gap_on xs ys d n k ≡ span xs ys (on_line d line n k) u
  unfolding gap_on on_line
  gap_is {u = u} line n k ll nl a b (west e) =
      let q : u ≡ 66 * (k - 1) + line = omega arith in
      rw (ne_eqb k 0 (λ (z : k ≡ 0). omega arith), q) (sym (span_east k (k - 1) line ll))
  gap_is {u = u} line n k ll nl a b (south e f) =
      let q : u ≡ 66 * line + (k - 1) = omega arith in
      rw (ne_eqb k 0 (λ (z : k ≡ 0). omega arith), q) (sym (span_north line k (k - 1) (omega arith) (omega arith)))
  gap_is {u = u} line n k ll nl a b (north e f) =
      let q : u ≡ 66 * line + (n - k) = omega arith in
      rw (ne_eqb k 0 (λ (z : k ≡ 0). omega arith), q) (sym (span_north line (n - 1 - k) (n - k) (omega arith) (omega arith)))
  gap_is {u = u} line n k ll nl a b (east e) =
      let q : u ≡ 66 * (n - k) + line = omega arith in
      rw (ne_eqb k 0 (λ (z : k ≡ 0). omega arith), q) (sym (span_east (n - 1 - k) (n - k) line ll))

pub line_below : (d line n k : ℕ) → d ≤ 3 → line < 66 → n ≤ 66 → k < n → on_line d line n k < 4356
unfolding on_line
line_below zero line n k dl a b l = omega arith
line_below (suc zero) line n k dl a b l = omega arith
line_below (suc (suc zero)) line n k dl a b l = omega arith
line_below (suc (suc (suc zero))) line n k dl a b l = omega arith
line_below (suc (suc (suc (suc d)))) line n k dl a b l = absurd (omega arith)

module _ (F : Lanes) (K : ℕ → ℕ) (d line n : ℕ) where
  pub line_none : unreached ≡ line_key F K d line n 0
  unfolding line_key
  line_none = refl

  pub line_next : (k v w c r : ℕ) → v ≡ on_line d line n k → w ≡ gap_on F.xs F.ys d n k → c ≡ line_key F K d line n k
      → r ≡ min (leave F.end K (axis_by d) v) (through F.steps d v w c) → r ≡ line_key F K d line n (k + 1)
  unfolding line_key
  line_next k v w c r ve we ce e = rw (add-one, sym ce, sym ve, sym we) e

-- k crossings of a line are passed, and c is the key carried
pub record Passing (G : Net) (F : Lanes) (d line n : ℕ) (top₀ low₀ top low : List ℕ) (moved c k : ℕ) : Type 0 where
  pub few : moved ≤ k
  pub lowered : Lowered G F.end top₀ low₀ top low moved
  pub held : c < unreached → (0 < k) × Attained G F.end (axis_by d) (on_line d line n (k - 1)) c
  pub carry : moved ≡ 0 → c ≡ line_key F (key_at top₀ low₀) d line n k
  pub calm : moved ≡ 0 → (i : ℕ) → i < k → Calm F (key_at top₀ low₀) d line n i

module _ {G : Net} {F : Lanes} {d line n : ℕ} {top₀ low₀ : List ℕ} where
  pub passing_none : Fair G F.end top₀ low₀ → Passing G F d line n top₀ low₀ top₀ low₀ 0 unreached 0
  passing_none f =
      record { few = omega arith; lowered = lowered_none f; held = λ h. absurd (omega arith); carry = λ e. line_none F (key_at top₀ low₀) d line n; calm = λ e i l. absurd (omega arith) }

  module _ (leads : Leads G F) (dl : d ≤ 3) (ll : line < 66) (nl : n ≤ 66) {top low : List ℕ} {moved c k : ℕ} (p : Passing G F d line n top₀ low₀ top low moved c k) (kl : k < n) where
    pub passing_next : {v w c' t : ℕ} {top' low' : List ℕ} {r : ℕ} → v ≡ on_line d line n k → w ≡ gap_on F.xs F.ys d n k
        → c' ≡ min (leave F.end (key_at top low) (axis_by d) v) (through F.steps d v w c)
        → t ≡ 1638401 * axis_by d → Improved top low v (c' + t) top' low' r → Passing G F d line n top₀ low₀ top' low' (moved + r) c' (k + 1)
    passing_next {v} {w} {c'} {t} {top'} {low'} {r} ve we ce te i =
        record {
          few = omega (arith, p.few, i.small);
          lowered = lowered_then p.lowered (lowered_one fair below (λ h. store (at (omega arith))) i);
          held = λ h. (omega arith, subst (λ (w : ℕ). Attained G F.end (axis_by d) w c') back (at h));
          carry = carries;
          calm = λ e j l. calms e j (omega arith) (ℕ_discrete j k);
        }
      where
        fair : Fair G F.end top low
        fair = p.lowered.fair

        below : v < 4356
        below = rw ve (line_below d line n k dl ll nl kl)

        back : v ≡ on_line d line n (k + 1 - 1)
        back = let q : k ≡ k + 1 - 1 = omega arith in ve ∙ ap (on_line d line n) q

        toward : step_of F.steps d v < 4356 → Toward (on_line d line n k) (step_of F.steps d v) d
        toward l = subst (λ (x : ℕ). Toward x (step_of F.steps d v) d) ve (leads d v dl below l).toward

        behind : step_of F.steps d v < 4356 → c < unreached → (w ≡ span F.xs F.ys v (step_of F.steps d v)) × Attained G F.end (axis_by d) (step_of F.steps d v) c
        behind l h =
            let b = p.held h in (
              we ∙ gap_is F.xs F.ys line n k ll nl b.0 kl (toward l) ∙ ap (λ (x : ℕ). span F.xs F.ys x (step_of F.steps d v)) (sym ve),
              subst (λ (x : ℕ). Attained G F.end (axis_by d) x c) (sym (line_back line n k b.0 kl (toward l))) b.1,
            )

        at : c' < unreached → Attained G F.end (axis_by d) v c'
        at = carried_attained leads fair d v w c c' dl below behind ce

        store : Attained G F.end (axis_by d) v c' → Attained G F.end 0 v (c' + t)
        store a = let s = turned 0 (axis_by d) (axis_small d) a in record { by = s.by; path = s.path; within = omega (arith, s.within) }

        carries : moved + r ≡ 0 → c' ≡ line_key F (key_at top₀ low₀) d line n (k + 1)
        carries e =
            let s = p.lowered.still (omega arith) in
            line_next F (key_at top₀ low₀) d line n k v w c c' ve we (p.carry (omega arith)) (rw (sym s.0, sym s.1) ce)

        calms : moved + r ≡ 0 → (j : ℕ) → j ≤ k → Dec (j ≡ k) → Calm F (key_at top₀ low₀) d line n j
        calms e j l (no m) = p.calm (omega arith) j (omega arith)
        calms e j l (yes q) =
            let s = p.lowered.still (omega arith) in
            let h : key_at top₀ low₀ v ≤ c' + t = rw (s.0, s.1) at (improved_not fair below i (omega arith)) in
            let z : c' ≡ line_key F (key_at top₀ low₀) d line n (suc k) = carries e ∙ ap (line_key F (key_at top₀ low₀) d line n) (add-one k) in
            rw q (record { calm = omega (arith, ap (key_at top₀ low₀) ve) })

-- the lines below this one are done
pub record Sweeping (G : Net) (F : Lanes) (d n : ℕ) (top₀ low₀ top low : List ℕ) (moved line : ℕ) : Type 0 where
  pub few : moved ≤ 66 * line
  pub lowered : Lowered G F.end top₀ low₀ top low moved
  pub calm : moved ≡ 0 → (l k : ℕ) → l < line → k < n → Calm F (key_at top₀ low₀) d l n k
