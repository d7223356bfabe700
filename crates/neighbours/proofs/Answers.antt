-- What the comparisons of block records answer.
use mathlib.Core.Path.{◌≡◌, sym, ap, ◌∙◌, subst}
use mathlib.Core.Bool.{true}
use mathlib.Core.List.{List}
use mathlib.Core.Logic.{◌⊎◌, ⊎_elim}
use Prim.Native.Nat.{ℕ, ◌+◌, ◌*◌, ◌<◌, ◌≤◌}
use native.Mathlib.Nat.{min-le_left, min-le_right}
use native.Mathlib.Decide.{dec_lt}
use native.Mathlib.Omega.{arith}
use borrow.Author.Count.{below_more}
use lib.IntN.{ℤ, pos}
use lib.Signed.{lt_z}
use lib.ListN.{length, set, length-set}
use lib.Seq.{get_or-set_same, get_or-set_other}
use Rattle.geometry.specs.Words.{Point, word, block_words, corners}
use Rattle.geometry.specs.Obstruction.{corner_at, side_turn}
use Rattle.geometry.proofs.Bound.{test_yes}
use Rattle.geometry.proofs.Corners.{places_length, corner_is}
use Rattle.geometry.proofs.Searching.{part, part_is}
use Rattle.seams.specs.inner.Near.{Alone, Near}
use Rattle.neighbours.specs.inner.Rectangles.{Solid, Further, Reaches, Leaves, Ends, Beyond, Apart, Parted, Low, High, Bound, Listed}
use Rattle.neighbours.specs.declared.End.{End}
use Rattle.neighbours.specs.declared.End.TheVariants.{Least, Greatest}
use Rattle.neighbours.proofs.Enclosing.{Encloses, encloses_east, encloses_north, divided}

-- ---- solid records
pub solid_told : (ws : List ℕ) (p : Point) {z : ℤ} → 3 ≤ word ws 0 → p ≡ corner_at (corners ws) 2 → z ≡ side_turn (corners ws) p 0 → lt_z (pos 0) z ≡ true → Solid (corners ws)
solid_told ws p {z} h e s t = record { three = rw (places_length ws 1 (word ws 0)) h; turns = rw e at (test_yes (pos 0) (side_turn (corners ws) p 0) t (ap (lt_z (pos 0)) s)) }

-- ---- an end of the corners, after k of them
abbrev Past : End → ℕ → ℕ → Type 0
Past Least m w = m ≤ w
Past Greatest m w = w ≤ m

further_past : (end : End) (v w m : ℕ) → Further end v w m → Past end m w
further_past Least v w m e = omega (arith, min-le_right v w)
further_past Greatest v w m e = omega arith

still_past : (end : End) (u v w m : ℕ) → Further end v w m → Past end v u → Past end m u
still_past Least u v w m e h = omega (arith, min-le_left v w)
still_past Greatest u v w m e h = omega arith

abbrev pub EndsTo : List ℕ → ℕ → End → ℕ → ℕ → Type 0
EndsTo ws i end m k = (j : ℕ) → j < k → Past end m (word ws (2 * j + i))

pub ends_next : (ws : List ℕ) (i : ℕ) (end : End) (v : ℕ) (k m : ℕ) → EndsTo ws i end v k → Further end v (word ws (2 * k + i)) m → EndsTo ws i end m (k + 1)
ends_next ws i end v k m f e =
    below_more (λ (j : ℕ). Past end m (word ws (2 * j + i))) k (λ j h. still_past end _ _ _ _ e (f j h)) (further_past end _ _ _ e)

pub ends_all : (ws : List ℕ) (i : ℕ) (end : End) (m k : ℕ) → k ≡ word ws 0 → EndsTo ws i end m k → Ends ws i end m
ends_all ws i Least m k e f = record { each = λ j h. f j (omega arith) }
ends_all ws i Greatest m k e f = record { each = λ j h. f j (omega arith) }

-- ---- records with a limit between them
pub beyond_bounds : {ws vs : List ℕ} {i hi lo : ℕ} → Reaches ws i hi → Leaves vs i lo → hi < lo → Beyond ws vs i
beyond_bounds {hi = hi} r s g = record { limit = hi; within = r; past = λ k l. omega (arith, s.each k l) }

pub apart_sym : {ws vs : List ℕ} → Apart ws vs → Apart vs ws
apart_sym a = record { apart = λ n e d h p q f g. a.apart n e d h q p g f }

-- along a coordinate, whose words stand from word i on
module _ (c : Point → ℕ) (i : ℕ) (reads : (ws : List ℕ) (k : ℕ) → k < word ws 0 → c (corner_at (corners ws) k) ≡ word ws (2 * k + i)) where
  parts : {ws vs : List ℕ} → Beyond ws vs i → (n : ℕ) (z : ℤ) → 1 ≤ n → Encloses c (corners ws) n z → Encloses c (corners vs) n z → ⊥
  parts {ws} {vs} b n z h =
      divided c (corners ws) (corners vs) b.limit n z h
      (λ k l. let g = counted ws k l in rw (reads ws k g) (b.within.each k g))
      (λ k l. let g = counted vs k l in rw (reads vs k g) (b.past k g))
    where
      counted : (ws : List ℕ) (k : ℕ) → k < length (corners ws) → k < word ws 0
      counted ws k l = rw (places_length ws 1 (word ws 0)) at l

pub apart_east : {ws vs : List ℕ} → Solid (corners ws) → Solid (corners vs) → Beyond ws vs 1 → Apart ws vs
apart_east s t b =
    record { apart = λ n e d h p q f g. parts (λ p. p.east) 1 (λ ws k l. ap (λ (p : Point). p.east) (corner_is ws k l)) b n e h (encloses_east _ n e d h s f) (encloses_east _ n e d h t g) }

pub apart_north : {ws vs : List ℕ} → Solid (corners ws) → Solid (corners vs) → Beyond ws vs 2 → Apart ws vs
apart_north s t b =
    record { apart = λ n e d h p q f g. parts (λ p. p.north) 2 (λ ws k l. ap (λ (p : Point). p.north) (corner_is ws k l)) b n d h (encloses_north _ n e d h s f) (encloses_north _ n e d h t g) }

-- either way round
pub divided_east : {ws vs : List ℕ} → Solid (corners ws) → Solid (corners vs) → Beyond ws vs 1 ⊎ Beyond vs ws 1 → Apart ws vs
divided_east s t = ⊎_elim (λ b. apart_east s t b) (λ b. apart_sym (apart_east t s b))

pub divided_north : {ws vs : List ℕ} → Solid (corners ws) → Solid (corners vs) → Beyond ws vs 2 ⊎ Beyond vs ws 2 → Apart ws vs
divided_north s t = ⊎_elim (λ b. apart_north s t b) (λ b. apart_sym (apart_north t s b))

-- ---- the bounds of two records
module _ {ws vs : List ℕ} {hi lo : ℕ} (g : hi < lo) where
  pub bounds_east : High ws 1 hi → Low vs 1 lo → Apart ws vs
  bounds_east h l =
      let a : hi < 65535 = omega (arith, l.small) in
      let b : 0 < lo = omega arith in
      record { apart = λ n e d w p q. (apart_east (h.solid a p) (l.solid b q) (beyond_bounds (h.bound a p) (l.bound b q) g)).apart n e d w p q }

  pub bounds_north : High ws 2 hi → Low vs 2 lo → Apart ws vs
  bounds_north h l =
      let a : hi < 65535 = omega (arith, l.small) in
      let b : 0 < lo = omega arith in
      record { apart = λ n e d w p q. (apart_north (h.solid a p) (l.solid b q) (beyond_bounds (h.bound a p) (l.bound b q) g)).apart n e d w p q }

-- ---- blocks of the table
pub parted_words : (blocks : List ℕ) (p q : ℕ) → Apart (block_words blocks p) (block_words blocks q) → Parted blocks p q
parted_words blocks p q a = record { parted = λ n e d h f g. absurd (a.apart n e d h f.stands g.stands f.covers g.covers) }

pub bound_part : (blocks : List ℕ) (p i : ℕ) (end : End) (m : ℕ) → Bound (part blocks p) i end m → Bound (block_words blocks p) i end m
bound_part blocks p i Least m l = rw (part_is blocks p) at l
bound_part blocks p i Greatest m h = rw (part_is blocks p) at h

-- block p is compared with the blocks below q
abbrev pub PartedTo : List ℕ → ℕ → ℕ → Type 0
PartedTo blocks p q = (k : ℕ) → k < q → Parted blocks p k

pub parted_next : (blocks : List ℕ) (p q : ℕ) → PartedTo blocks p q → Parted blocks p q → PartedTo blocks p (q + 1)
parted_next blocks p q f h k l = elim (dec_lt k q) [ yes m ↦ f k m | no m ↦ let e : q ≡ k = omega arith in subst (Parted blocks p) e h ]

pub parted_all : (blocks : List ℕ) (p q : ℕ) → PartedTo blocks p q → 24 ≤ q → Alone blocks p
parted_all blocks p q f l = record { alone = λ k n e d h a b. (f k (omega (arith, b.number))).parted n e d h a b }

-- ---- a word for each block
module _ {P : ℕ → ℕ → Type 0} {t : List ℕ} where
  pub listed_none : length t ≡ 24 → Listed P t 0
  listed_none l = record { sized = l; each = λ k h. absurd (omega arith) }

  module _ {p : ℕ} (f : Listed P t p) where
    pub listed_next : {v : ℕ} → p < 24 → P p v → Listed P (set t p v) (p + 1)
    listed_next {v} l h =
        record {
          sized = length-set t p v ∙ f.sized;
          each = λ k b. elim (dec_lt k p) [
            | yes g ↦ subst (P k) (sym (get_or-set_other t p k v 0 (λ q. omega arith))) (f.each k g)
            | no g ↦ let q : p ≡ k = omega arith in subst (λ (k : ℕ). P k (word (set t p v) k)) q (subst (P p) (sym (get_or-set_same t p v 0 (omega (arith, f.sized)))) h)
          ];
        }

    pub listed_all : 24 ≤ p → Listed P t 24
    listed_all z = record { sized = f.sized; each = λ k l. f.each k (omega arith) }

-- 0 where a block is alone
abbrev pub AloneAt : List ℕ → ℕ → ℕ → Type 0
AloneAt blocks k x = x ≡ 0 → Alone blocks k

pub near_all : {blocks near : List ℕ} → Listed (AloneAt blocks) near 24 → Near blocks near
near_all f = record { sized = f.sized; each = f.each }
