-- The words of the route records.
use mathlib.Core.Path.{◌≡◌, sym, ap, ◌∙◌, subst}
use mathlib.Core.List.{List}
use Prim.Native.Nat.{ℕ, ◌+◌, ◌*◌, ◌-◌, ◌/◌, ◌<◌, ◌≤◌}
use native.Mathlib.Decide.{dec_lt}
use native.Mathlib.Omega.{arith}
use lib.ListN.{length, set, take, drop, length-take, length-drop}
use borrow.Rule.Slice.PartMut.{put_mid, Post-is}
use Rattle.lists.specs.inner.Filled.{filled}
use Rattle.paths.specs.Path.{NoChain}
use Rattle.geometry.specs.Words.{word}
use Rattle.tables.specs.Tables.{Records, first_end, second_end, route_words}
use Rattle.tables.specs.inner.Fit.{Fit}
use Rattle.lists.specs.Lists.{splice}
use Rattle.tables.proofs.Splices.{part_ext, splice_length, splice_before, splice_here}
use Rattle.search.specs.Network.{ByBytes, graph}
use Rattle.routing.specs.Routes.{RouteIs, no_run, found, no_way, Routed}
use Rattle.routing.specs.inner.Walking.{Walked}

-- a record that has been cleared
pub cleared : (n : ℕ) {part : List ℕ} → n ≡ 197 → part ≡ filled n 0 → part ≡ filled 197 0
cleared n l e = e ∙ ap (λ (k : ℕ). filled k 0) l

pub cleared_length : {part : List ℕ} → part ≡ filled 197 0 → length part ≡ 197
unfolding filled
cleared_length e = ap length e

module _ (R : Records) (Clear : ℕ → ℕ → Type 0) (m : ℕ) (part : List ℕ) where
  pub absent_record : part ≡ filled 197 0 → word R.runs (5 * m) ≡ 0 → RouteIs R Clear m part
  unfolding filled
  absent_record e z = rw e (no_run z)

  present_flag : Fit R → m < 24 → (word R.runs (5 * m) ≡ 0 → ⊥) → word R.runs (5 * m) ≡ 1
  present_flag f l h = omega (arith, f.runs.flags m l)

  pub no_way_record : part ≡ filled 197 0 → Fit R → m < 24 → (word R.runs (5 * m) ≡ 0 → ⊥) → NoChain (graph R Clear) (first_end m) (second_end m)
      → RouteIs R Clear m (set part 0 2)
  unfolding filled
  no_way_record e f l h n = rw e (no_way (present_flag f l h) n)

  pub found_record : (key : List ℕ) (n : ℕ) → Fit R → m < 24 → (word R.runs (5 * m) ≡ 0 → ⊥) → Walked (graph R Clear) (first_end m) (second_end m) key part n
      → RouteIs R Clear m (set (set (set part 0 1) 1 (word key (first_end m) / 256)) 2 n)
  found_record key n f l h w = rw (w.written, ← w.length_is, ← w.count) (found (present_flag f l h) w.marks w.route)

-- the part that is lent for one record
pub lent_part : (routes : List ℕ) (m : ℕ) → take (197 * m + 197 - 197 * m) (drop (197 * m) routes) ≡ route_words routes m
lent_part routes m = let e : 197 * m + 197 - 197 * m ≡ 197 = omega arith in ap (λ (k : ℕ). take k (drop (197 * m) routes)) e

pub lent_length : (routes : List ℕ) (m : ℕ) → length routes ≡ 4728 → m < 24 → length (take (197 * m + 197 - 197 * m) (drop (197 * m) routes)) ≡ 197
lent_length routes m e l = simp (length-take, length-drop) (omega arith)

-- the records below m are those of the pair bytes
pub record Upto (R : Records) (pairs routes : List ℕ) (m : ℕ) : Type 0 where
  pub sized : length routes ≡ 4728
  pub each : (k : ℕ) → k < m → RouteIs R (ByBytes pairs) k (route_words routes k)

module _ (R : Records) (pairs routes : List ℕ) where
  pub upto_none : length routes ≡ 4728 → Upto R pairs routes 0
  upto_none l = record { sized = l; each = λ k h. absurd (omega arith) }

  -- and that of m
  pub upto_more : (m : ℕ) → Upto R pairs routes m → RouteIs R (ByBytes pairs) m (route_words routes m) → Upto R pairs routes (m + 1)
  upto_more m u r =
      record {
        sized = u.sized;
        each = λ k h.
            elim (dec_lt k m) [
              | yes b ↦ u.each k b
              | no b ↦ let q : m ≡ k = omega arith in subst (λ (j : ℕ). RouteIs R (ByBytes pairs) j (route_words routes j)) q r
            ];
      }

  pub upto_all : (m : ℕ) → 24 ≤ m → Upto R pairs routes m → Routed R pairs routes
  upto_all m l u = record { sized = u.sized; each = λ k h. u.each k (omega arith) }

-- one more record is written
pub upto_next : (R : Records) (pairs routes : List ℕ) (m : ℕ) (part : List ℕ) → m < 24 → Upto R pairs routes m → length part ≡ 197 → RouteIs R (ByBytes pairs) m part
    → Upto R pairs (put_mid (197 * m) (197 * m + 197 - 197 * m) routes part) (m + 1)
unfolding splice
upto_next R pairs routes m part l u e r = subst (λ (t : List ℕ). Upto R pairs t (m + 1)) (sym back) (upto_more R pairs new m before here)
  where
    new : List ℕ
    new = splice routes (197 * m) part

    fits : 197 * m + length part ≤ length routes
    fits = omega (arith, u.sized)

    back : put_mid (197 * m) (197 * m + 197 - 197 * m) routes part ≡ new
    back = rw (Post-is (197 * m) (197 * m + 197) routes (omega arith), e)

    before : Upto R pairs new m
    before =
        record {
          sized = splice_length routes (197 * m) part fits ∙ u.sized;
          each = λ k b.
              rw (part_ext new routes (197 * k) 197 (splice_length routes (197 * m) part fits) (λ i lo hi. splice_before routes (197 * m) part fits i (omega arith)))
              (u.each k b);
        }

    here : RouteIs R (ByBytes pairs) m (route_words new m)
    here = rw (ap (λ (n : ℕ). take n (drop (197 * m) new)) (sym e) ∙ splice_here routes (197 * m) part fits) r
