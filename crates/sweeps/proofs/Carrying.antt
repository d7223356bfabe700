-- The key that is carried along a line is that of a path.
use mathlib.Core.Path.{◌≡◌, refl, sym, ap, ◌∙◌, subst}
use mathlib.Core.Bool.{Bool, true, false, cond, ◌||◌}
use mathlib.Core.List.{List, [], ◌∷◌}
use Prim.Native.Nat.{ℕ, ◌+◌, ◌*◌, ◌/◌, ◌≤◌, ◌<◌, min}
use native.Mathlib.Omega.{arith}
use native.Mathlib.Decide.{dec_lt, ℕ_discrete}
use lib.Dec.{eqb}
use borrow.Author.Tests.{eq-eqb, ne_eqb, lt-ltb, le-ltb}
use Rattle.nets.specs.Net.{Net, Path, arrive, onward, turn}
use Rattle.nets.specs.inner.Keys.{weight, key_from, Attained}
use Rattle.nets.proofs.Sums.{turn_same, turn_small, key_more}
use Rattle.nets.proofs.Labels.{key_turn}
use Rattle.crossings.specs.inner.Charts.{span, step_of, axis_by}
use Rattle.sweeps.specs.inner.Keys.{key_at, unreached, Lanes, leave, through, Fair}

module _ (end : ℕ) (K : ℕ → ℕ) (b v : ℕ) where
  pub leave_end : v ≡ end → 0 ≡ leave end K b v
  unfolding leave
  leave_end e = rw (eq-eqb v end e)

  pub leave_on : (v ≡ end → ⊥) → {k : ℕ} → k ≡ K v → k + 1638401 * b ≡ leave end K b v
  unfolding leave
  leave_on n q = rw (ne_eqb v end n, q)

  pub leave_most : leave end K b v ≤ K v + 1638401 * b
  leave_most = elim (ℕ_discrete v end) [ yes e ↦ omega (arith, leave_end e) | no n ↦ omega (arith, leave_on n refl) ]

module _ (steps : List ℕ) (d v w c : ℕ) where
  pub through_none : {u : ℕ} → u ≡ step_of steps d v → 4356 ≤ u → unreached ≡ through steps d v w c
  unfolding through
  through_none q l = rw (le-ltb (step_of steps d v) 4356 (omega arith))

  pub through_is : {u : ℕ} → u ≡ step_of steps d v → u < 4356 → 65536 * w + c ≡ through steps d v w c
  unfolding through
  through_is q l = rw (lt-ltb (step_of steps d v) 4356 (omega arith))

one_of : (t : Bool) → cond t 0 1 ≤ 1
one_of true = omega arith
one_of false = omega arith

pub axis_small : (d : ℕ) → axis_by d ≤ 1
unfolding axis_by
axis_small d = one_of (eqb d 1 || eqb d 2)

-- where a step in each direction leads
pub data Toward (v u : ℕ) : ℕ → Type 0 where
  west : u + 66 ≡ v → Toward v u 0
  south : u + 1 ≡ v → v / 66 ≡ u / 66 → Toward v u 1
  north : u ≡ v + 1 → v / 66 ≡ u / 66 → Toward v u 2
  east : u ≡ v + 66 → Toward v u 3

-- what the table of steps says of a net
pub record Led (G : Net) (F : Lanes) (d v u : ℕ) : Type 0 where
  pub toward : Toward v u d
  pub step : G.Step v u
  pub axis : G.axis v u ≡ axis_by d
  pub long : span F.xs F.ys v u ≡ G.len v u

abbrev pub Leads : Net → Lanes → Type 0
Leads G F = (d v : ℕ) → d ≤ 3 → v < 4356 → step_of F.steps d v < 4356 → Led G F d v (step_of F.steps d v)

turn_most : (a b : ℕ) → turn a b ≤ a + b
turn_most a b = elim (ℕ_discrete a b) [ yes e ↦ rw e (omega (arith, turn_same b)) | no n ↦ omega (arith, turn_small a b) ]

pub straight : {G : Net} {F : Lanes} {d v u : ℕ} → Led G F d v u → weight G (axis_by d) v u ≡ 65536 * span F.xs F.ys v u
unfolding weight
straight {G} {F} {d} {v} {u} l = let t : turn (axis_by d) (G.axis v u) ≡ 0 = ap (turn (axis_by d)) l.axis ∙ turn_same (axis_by d) in omega (arith, l.long)

module _ {G : Net} {end : ℕ} where
  stops : {v : ℕ} {us : List ℕ} → Path G end v us → G.Stop end
  stops (arrive s) = s
  stops (onward s p) = stops p

  -- a change of axis costs one turn at most
  pub turned : {v c : ℕ} (a b : ℕ) → b ≤ 1 → Attained G end b v c → Attained G end a v (c + 1638401 * (a + b))
  turned a b l t = record { by = t.by; path = t.path; within = omega (arith, key_turn G end a b l t.path, turn_most a b, t.within) }

  pub attained_least : {a v x y z : ℕ} → z ≡ min x y → (x < unreached → Attained G end a v x) → (y < unreached → Attained G end a v y) → z < unreached → Attained G end a v z
  attained_least {a} {v} {x} {y} {z} e p q h =
      elim (dec_lt x y) [
        | yes l ↦ let k : x ≡ z = omega arith in subst (Attained G end a v) k (p (omega arith))
        | no l ↦ let k : y ≡ z = omega arith in subst (Attained G end a v) k (q (omega arith))
      ]

module _ {G : Net} {F : Lanes} (leads : Leads G F) {top low : List ℕ} (f : Fair G F.end top low) where
  leave_attained : (b v : ℕ) → v < 4356 → leave F.end (key_at top low) b v < unreached → Attained G F.end b v (leave F.end (key_at top low) b v)
  unfolding key_from
  leave_attained b v vl h = go (ℕ_discrete v F.end)
    where
      go : Dec (v ≡ F.end) → Attained G F.end b v (leave F.end (key_at top low) b v)
      go (yes e) =
          let t = f.attained v vl (omega (arith, ap (key_at top low) e, f.at_end)) in
          rw (e, sym (leave_end F.end (key_at top low) b F.end refl)) (record { by = F.end ∷ []; path = arrive (stops t.path); within = omega arith })
      go (no n) =
          let q = leave_on F.end (key_at top low) b v n refl in
          let t = turned b 0 (omega arith) (f.attained v vl (omega arith)) in
          record { by = t.by; path = t.path; within = omega (arith, t.within) }

  -- what the crossing behind v has
  abbrev Held : ℕ → ℕ → ℕ → ℕ → Type 0
  Held d v w c = step_of F.steps d v < 4356 → c < unreached
      → (w ≡ span F.xs F.ys v (step_of F.steps d v)) × Attained G F.end (axis_by d) (step_of F.steps d v) c

  through_attained : (d v w c : ℕ) → d ≤ 3 → v < 4356 → Held d v w c → through F.steps d v w c < unreached → Attained G F.end (axis_by d) v (through F.steps d v w c)
  through_attained d v w c dl vl held h = go (dec_lt (step_of F.steps d v) 4356)
    where
      go : Dec (step_of F.steps d v < 4356) → Attained G F.end (axis_by d) v (through F.steps d v w c)
      go (no n) = absurd (omega (arith, through_none F.steps d v w c refl (omega arith)))
      go (yes l) =
          let q = through_is F.steps d v w c refl l in
          let s = leads d v dl vl l in
          let t = held l (omega arith) in
          record {
            by = v ∷ t.1.by;
            path = onward s.step t.1.path;
            within = omega (arith, key_more G F.end (axis_by d) v t.1.path, straight s, t.0, t.1.within, ap (λ (a : ℕ). key_from G a t.1.by) s.axis);
          }

  pub carried_attained : (d v w c c' : ℕ) → d ≤ 3 → v < 4356 → Held d v w c
      → c' ≡ min (leave F.end (key_at top low) (axis_by d) v) (through F.steps d v w c) → c' < unreached → Attained G F.end (axis_by d) v c'
  carried_attained d v w c c' dl vl held e = attained_least e (leave_attained (axis_by d) v vl) (through_attained d v w c dl vl held)
