-- What the codes of both ends say of hiding.
use mathlib.Core.Path.{◌≡◌, sym, ap, ◌∙◌}
use mathlib.Core.Bool.{Bool, true, false}
use mathlib.Core.Logic.{◌↔◌}
use denote.Enum.Bare.{sameb}
use Rattle.codes.specs.contracts.Side.{the_type}
use mathlib.Core.List.{List}
use Prim.Native.Nat.{ℕ, zero, suc, ◌+◌, ◌-◌, ◌%◌, ◌<◌, ◌≤◌, min}
use native.Mathlib.Decide.{dec_lt}
use native.Mathlib.Nat.{min-eq_left, min-eq_right, min-le_left, min-le_right}
use native.Mathlib.Omega.{arith}
use lib.Bits.{bit_and, and_comm, and_mask, and_le_l}
use lib.IntN.{pos}
use lib.Signed.{◌<ℤ◌, ◌≤ℤ◌, clash_ℤ}
use lib.ListN.{length}
use Rattle.geometry.specs.Words.{Point, word, corners}
use Rattle.geometry.specs.Obstruction.{turn, corner_at, next_corner, side_turn, Obstructs}
use Rattle.geometry.proofs.Signed.{lt_le}
use Rattle.geometry.proofs.Corners.{places_length, corner_read}
use Rattle.geometry.proofs.Obstructing.{obstructs_iff, obstructs_sym}
use Rattle.seams.specs.inner.Reach.{Touched, Around}
use Rattle.bits.specs.inner.Bits.{bit}
use Rattle.bits.proofs.Counting.{bit_and_lem, bit_small, bit_zero}
use Rattle.codes.specs.declared.Side.{Side}
use Rattle.codes.specs.declared.Side.TheVariants.{Right, On, Left}
use Rattle.codes.specs.declared.Meeting.TheVariants.{Misses, Touches, Hides}
use Rattle.codes.specs.inner.Codes.{outside, bit_side, code_of, Starts, Ends, CornerSide, CodesAre, Hiding, Missed, Met}
use Rattle.codes.proofs.Coding.{out_yes, out_no, code_bit, code_low, code_absent, some_bit}
use Rattle.codes.proofs.Crosses.{turn_at}
use Rattle.codes.proofs.Rounds.{Round, round_of, next_up, next_end}
use Rattle.codes.proofs.Cone.{corner_left, corner_right, touched_left, touched_right, between_corners}

-- the derived `==`
abbrev pub same : Side → Side → Bool
same = sameb the_type

-- ---- corner r stands between side before and side r, where the bits differ
record Turning (m r : ℕ) : Type 0 where
  before : ℕ
  below : before < m
  within : r < m
  next : (before + 1) % m ≡ r
  here : bit_side m r ≡ r
  prior : bit_side m ((r + 7) % 8) ≡ before

turning : (m r : ℕ) → 3 ≤ m → m ≤ 8 → r < 8 → (bit_side m r ≡ bit_side m ((r + 7) % 8) → ⊥) → Turning m r
turning m zero lo hi h f =
    record {
      before = m - 1;
      below = omega arith;
      within = omega arith;
      next = next_end m (m - 1) (omega arith);
      here = min-eq_left (omega arith);
      prior = min-eq_right (omega arith);
    }
turning m (suc r) lo hi h f = go (dec_lt (suc r) m)
  where
    e : (suc r + 7) % 8 ≡ r
    e = omega arith

    go : Dec (suc r < m) → Turning m (suc r)
    go (yes l) =
        let s : r + 1 ≡ suc r = omega arith in
        record {
          before = r;
          below = omega arith;
          within = l;
          next = next_up m r (omega arith) ∙ s;
          here = min-eq_left (omega arith);
          prior = ap (bit_side m) e ∙ min-eq_left (omega arith);
        }
    go (no l) = absurd (f (min-eq_right (omega arith) ∙ sym (ap (bit_side m) e ∙ min-eq_right (omega arith))))

-- ---- the codes of both ends
module _ {ws : List ℕ} {ci cj : ℕ} {a b : Point} (d : CodesAre ws ci cj a b) where
  counted : length (corners ws) ≡ word ws 0
  counted = places_length ws 1 (word ws 0)

  stood : (c : ℕ) (p : Point) → c ≡ code_of ws p → c < 255 → 0 < word ws 0
  stood c p e h = elim (dec_lt 0 (word ws 0)) [ yes l ↦ l | no l ↦ let z : c ≡ 255 = e ∙ sym (code_absent ws p (omega arith)) in absurd (omega arith) ]

  -- bit k of a standing block's code
  one_is : (c : ℕ) (p : Point) → c ≡ code_of ws p → 0 < word ws 0 → (k : ℕ) → k < 8 → bit k c ≡ 1 → side_turn (corners ws) p (bit_side (word ws 0) k) ≤ℤ pos 0
  one_is c p e s k h o = out_yes (corners ws) p _ (sym (code_bit ws p s k h) ∙ sym (ap (bit k) e) ∙ o)

  none_is : (c : ℕ) (p : Point) → c ≡ code_of ws p → 0 < word ws 0 → (k : ℕ) → k < 8 → bit k c ≡ 0 → pos 0 <ℤ side_turn (corners ws) p (bit_side (word ws 0) k)
  none_is c p e s k h o = out_no (corners ws) p _ (sym (code_bit ws p s k h) ∙ sym (ap (bit k) e) ∙ o)

  set_is : (c : ℕ) (p : Point) → c ≡ code_of ws p → 0 < word ws 0 → (k : ℕ) → k < word ws 0 → side_turn (corners ws) p k ≤ℤ pos 0 → bit k c ≡ 1
  set_is c p e s k h x =
      elim (dec_lt 0 (bit k c)) [
        | yes l ↦ omega (arith, bit_small k c)
        | no l ↦ let m : bit_side (word ws 0) k ≡ k = min-eq_left (omega arith) in
            clash_ℤ (rw m at (none_is c p e s k (omega (arith, d.right.bounded.count)) (omega arith))) x
      ]

  -- ---- both codes share a bit: some side has both ends not left of it
  pub beside_side : (bit_and ci cj ≡ 0 → ⊥) → 0 < word ws 0
      → (k : ℕ) × (k < word ws 0) × (side_turn (corners ws) a k ≤ℤ pos 0) × (side_turn (corners ws) b k ≤ℤ pos 0)
  beside_side f s =
      let t = some_bit 8 (bit_and ci cj) (omega arith) (omega (arith, and_le_l ci cj, code_low ws a, d.first)) in
      let k = t.0 in
      let u : min (bit k ci) (bit k cj) ≡ 1 = sym (bit_and_lem k ci cj) ∙ t.2 in
      let u₁ : bit k ci ≡ 1 = omega (arith, bit_small k ci, min-le_left (bit k ci) (bit k cj)) in
      let u₂ : bit k cj ≡ 1 = omega (arith, bit_small k cj, min-le_right (bit k ci) (bit k cj)) in
      (bit_side (word ws 0) k, omega (arith, min-le_right k (word ws 0 - 1)), one_is ci a d.first s k t.1 u₁, one_is cj b d.last s k t.1 u₂)

  pub shared : (bit_and ci cj ≡ 0 → ⊥) → Hiding ws a b → ⊥
  shared f h =
      let k = beside_side f h.0 in
      ((obstructs_iff (corners ws) a b).0 h.1).each k.0 (rw counted k.1) k.2 k.3

  -- ---- a code of 0: the end itself is inside
  inside : (c : ℕ) (p q : Point) → c ≡ code_of ws p → c ≡ 0 → Obstructs (corners ws) p q
  inside c p q e z = (obstructs_iff (corners ws) p q).1 (record { each = λ k h x y. clash_ℤ (left k h) x; pairs = λ i j h l x y. clash_ℤ (left i h) x })
    where
      left : (k : ℕ) → k < length (corners ws) → pos 0 <ℤ side_turn (corners ws) p k
      left k h =
          let l : k < word ws 0 = rw counted at h in
          let m : bit_side (word ws 0) k ≡ k = min-eq_left (omega arith) in
          rw m at (none_is c p e (stood c p e (omega arith)) k (omega (arith, d.right.bounded.count)) (ap (bit k) z ∙ bit_zero k))

  pub first_inside : ci ≡ 0 → Hiding ws a b
  first_inside z = (stood ci a d.first (omega arith), inside ci a b d.first z)

  pub last_inside : cj ≡ 0 → Hiding ws a b
  last_inside z = (stood cj b d.last (omega arith), obstructs_sym (corners ws) b a (inside cj b a d.last z))

  -- ---- no bit shared, and neither 0: the cone
  pub not_all : bit_and ci cj ≡ 0 → (cj ≡ 0 → ⊥) → ci < 255
  not_all n l =
      elim (dec_lt ci 255) [
        | yes h ↦ h
        | no h ↦ let e : ci ≡ 255 = omega (arith, code_low ws a, d.first) in
            let z : cj % 256 ≡ 0 = sym (and_mask cj 8) ∙ and_comm cj 255 ∙ (rw e at n) in
            absurd (omega (arith, code_low ws b, d.last))
      ]

  module _ (n : bit_and ci cj ≡ 0) (lo : cj ≡ 0 → ⊥) where
    stands : 0 < word ws 0
    stands = stood ci a d.first (not_all n lo)

    round : Round (corners ws)
    round = round_of (corners ws) d.right.round (rw counted (d.right.many stands))

    each : (k : ℕ) → k < length (corners ws) → side_turn (corners ws) a k ≤ℤ pos 0 → side_turn (corners ws) b k ≤ℤ pos 0 → ⊥
    each k h x y =
        let l : k < word ws 0 = rw counted at h in
        let u : min (bit k ci) (bit k cj) ≡ 0 = sym (bit_and_lem k ci cj) ∙ ap (bit k) n ∙ bit_zero k in
        let v : ◌≡◌ {A = ℕ} 1 0 = rw (set_is ci a d.first stands k l x, set_is cj b d.last stands k l y) at u in
        omega arith

    turning_at : (k : ℕ) → k < 8 → (bit k ci ≡ bit ((k + 7) % 8) ci → ⊥) → Turning (word ws 0) k
    turning_at k h f =
        turning (word ws 0) k (d.right.many stands) d.right.bounded.count h
        (λ e. f (ap (bit k) d.first ∙ code_bit ws a stands k h ∙ ap (outside (corners ws) a) e ∙ sym (ap (bit ((k + 7) % 8)) d.first ∙ code_bit ws a stands ((k + 7) % 8) (omega arith))))

    next_is : (k : ℕ) (t : Turning (word ws 0) k) → next_corner (corners ws) t.before ≡ k
    next_is k t = ap (λ (m : ℕ). (t.before + 1) % m) counted ∙ t.next

    around : (u s : ℕ) → Touched ws a b u s → Around (length (corners ws)) (side_turn (corners ws) a) (side_turn (corners ws) b) u s
    around u s t k h = t.around k (rw counted at h)

    -- the corner where the first end's set bits start
    module _ (f : ℕ) (sf : Starts ci f) where
      tf : Turning (word ws 0) f
      tf = turning_at f sf.below (λ e. omega (arith, sf.set, sf.clear))

      inner_f : pos 0 <ℤ side_turn (corners ws) a tf.before
      inner_f = rw tf.prior at (none_is ci a d.first stands ((f + 7) % 8) (omega arith) sf.clear)

      outer_f : side_turn (corners ws) a (next_corner (corners ws) tf.before) ≤ℤ pos 0
      outer_f = rw (next_is f tf) (rw tf.here at (one_is ci a d.first stands f sf.below sf.set))

      lefts : Obstructs (corners ws) a b → pos 0 <ℤ turn_at a b (corner_at (corners ws) f)
      lefts o =
          rw (next_is f tf) at
          (corner_left (corners ws) round a b ((obstructs_iff (corners ws) a b).0 o) tf.before (rw counted tf.below) (rw (next_is f tf, counted) tf.within) inner_f outer_f)

      missed_left : turn_at a b (corner_at (corners ws) f) <ℤ pos 0 → Missed ws a b
      missed_left h u s w t =
          touched_left (corners ws) round a b each u s w (around u s t) tf.before (rw counted tf.below) (rw (next_is f tf, counted) tf.within) inner_f outer_f (rw (next_is f tf) h)

    -- and the one where they end
    module _ (g : ℕ) (sg : Ends ci g) where
      tg : Turning (word ws 0) g
      tg = turning_at g sg.below (λ e. omega (arith, sg.set, sg.clear))

      outer_g : side_turn (corners ws) a tg.before ≤ℤ pos 0
      outer_g = rw tg.prior at (one_is ci a d.first stands ((g + 7) % 8) (omega arith) sg.set)

      inner_g : pos 0 <ℤ side_turn (corners ws) a (next_corner (corners ws) tg.before)
      inner_g = rw (next_is g tg) (rw tg.here at (none_is ci a d.first stands g sg.below sg.clear))

      rights : Obstructs (corners ws) a b → turn_at a b (corner_at (corners ws) g) <ℤ pos 0
      rights o =
          rw (next_is g tg) at
          (corner_right (corners ws) round a b ((obstructs_iff (corners ws) a b).0 o) tg.before (rw counted tg.below) (rw (next_is g tg, counted) tg.within) outer_g inner_g)

      missed_right : pos 0 <ℤ turn_at a b (corner_at (corners ws) g) → Missed ws a b
      missed_right h u s w t =
          touched_right (corners ws) round a b each u s w (around u s t) tg.before (rw counted tg.below) (rw (next_is g tg, counted) tg.within) outer_g inner_g (rw (next_is g tg) h)

    pub cone_iff : (f g : ℕ) → Starts ci f → Ends ci g
        → Obstructs (corners ws) a b ↔ ((pos 0 <ℤ turn_at a b (corner_at (corners ws) f)) × (turn_at a b (corner_at (corners ws) g) <ℤ pos 0))
    cone_iff f g sf sg = (
      λ o. (lefts f sf o, rights g sg o),
      λ h. between_corners (corners ws) round a b each f g (rw counted (tf f sf).within) (rw counted (tg g sg).within) h.0 h.1,
    )

    -- the side of the straight that each of the two is on
    module _ (f : ℕ) (sf : Starts ci f) (x : Side) (cx : CornerSide ws f a b x) where
      pub at_f : cx.place ≡ corner_at (corners ws) f
      at_f = corner_read ws cx.place f (tf f sf).within cx.east cx.north

      pub lefts_f : Hiding ws a b → pos 0 <ℤ turn a b 1 (pos cx.place.east) (pos cx.place.north)
      lefts_f h = rw (← at_f) at (lefts f sf h.1)

    module _ (f : ℕ) (sf : Starts ci f) where
      pub met_right : (x : Side) → CornerSide ws f a b x → same x Right ≡ true → Met ws a b Misses
      met_right Right cx e = (λ h. clash_ℤ (lefts_f f sf Right cx h) (lt_le cx.side), missed_left f sf (rw (at_f f sf Right cx) at cx.side))
      met_right On cx e = cc
      met_right Left cx e = cc

      pub met_first : (x : Side) → CornerSide ws f a b x → same x On ≡ true → Met ws a b Touches
      met_first On cx e h = clash_ℤ (lefts_f f sf On cx h) cx.side.1
      met_first Right cx e h = cc
      met_first Left cx e h = cc

    module _ (g : ℕ) (sg : Ends ci g) (y : Side) (cy : CornerSide ws g a b y) where
      pub at_g : cy.place ≡ corner_at (corners ws) g
      at_g = corner_read ws cy.place g (tg g sg).within cy.east cy.north

      pub rights_g : Hiding ws a b → turn a b 1 (pos cy.place.east) (pos cy.place.north) <ℤ pos 0
      rights_g h = rw (← at_g) at (rights g sg h.1)

    module _ (g : ℕ) (sg : Ends ci g) where
      pub met_left : (y : Side) → CornerSide ws g a b y → same y Left ≡ true → Met ws a b Misses
      met_left Left cy e = (λ h. clash_ℤ (rights_g g sg Left cy h) (lt_le cy.side), missed_right g sg (rw (at_g g sg Left cy) at cy.side))
      met_left On cy e = cc
      met_left Right cy e = cc

      pub met_last : (y : Side) → CornerSide ws g a b y → same y On ≡ true → Met ws a b Touches
      met_last On cy e h = clash_ℤ (rights_g g sg On cy h) cy.side.0
      met_last Right cy e h = cc
      met_last Left cy e h = cc

      pub met_between : (f : ℕ) → Starts ci f → (x y : Side) → CornerSide ws f a b x → CornerSide ws g a b y → same x Right ≡ false → same y Left ≡ false → same x On ≡ false → same y On ≡ false → Met ws a b Hides
      met_between f sf Left Right cx cy e₀ e₁ e₂ e₃ = (stands, (cone_iff f g sf sg).1 (rw (at_f f sf Left cx) at cx.side, rw (at_g g sg Right cy) at cy.side))
      met_between f sf Left Left cx cy e₀ e₁ e₂ e₃ = cc
      met_between f sf Left On cx cy e₀ e₁ e₂ e₃ = cc
      met_between f sf Right y cx cy e₀ e₁ e₂ e₃ = cc
      met_between f sf On y cx cy e₀ e₁ e₂ e₃ = cc
