-- What each return and each turn of the loops shows.
use mathlib.Core.Path.{◌≡◌, refl, sym, ap, ◌∙◌}
use mathlib.Core.Logic.{◌⊎◌, inl, inr, ⊎_elim}
use mathlib.Core.Bool.{Bool, true, false}
use mathlib.Core.List.{List}
use Prim.Native.Nat.{ℕ, zero, suc, ◌+◌, ◌*◌, ◌-◌, ◌%◌, ◌<◌, ◌≤◌, max}
use native.Mathlib.Nat.{le-max_left, le-max_right}
use native.Mathlib.Decide.{ℕ_discrete, dec_lt}
use native.Mathlib.Omega.{arith}
use lib.Bits.{bit_or, or_step, or_lt}
use lib.IntN.{ℤ, pos, ◌-ℤ◌, ◌*ℤ◌}
use lib.Signed.{lt_z, ◌<ℤ◌, ◌≤ℤ◌, clash_ℤ, ≤ℤ_refl}
use mir.Val.{bool_byte}
use lib.Dec.{eqb}
use lib.ListN.{length, set, take, drop, replicate, length-set, get_or-replicate}
use lib.Seq.{get_or-set_same, get_or-set_other}
use Rattle.lists.specs.inner.Tells.{Tells}
use Rattle.bits.specs.inner.Bits.{bit, Packed}
use Rattle.geometry.specs.Words.{Point, point, word, block_words, corners}
use Rattle.geometry.specs.Obstruction.{side_turn}
use Rattle.geometry.proofs.Bound.{test_yes, test_no}
use Rattle.geometry.proofs.Signed.{◌⊖◌, posn, nonpos, ⊖-lt, lt_le, below_or_not}
use Rattle.geometry.proofs.Searching.{part_is}
use Rattle.code_table.specs.inner.Lines.{LineOf, mark_at}
use Rattle.alignments.specs.inner.Lined.{OffFrom, RightFrom, Unheld, Marked, SidesByte, Blank, SidesRow, PackedBoth, PackedTo, WordSays, LinesOf}

-- ---- a byte
or_even : (a b : ℕ) → bit_or a b % 2 ≡ 0 → (a % 2 ≡ 0) × (b % 2 ≡ 0)
or_even a b e =
    let m : max (a % 2) (b % 2) ≡ 0 = omega (arith, or_step a b) in
    (omega (arith, le-max_left (a % 2) (b % 2)), omega (arith, le-max_right (a % 2) (b % 2)))

pub marked_is : (old : ℕ) (on right : Bool) (v w : ℕ) → v ≡ bool_byte on → w ≡ bool_byte right → Marked old on right (bit_or (bit_or old v) (2 * w))
marked_is old on right v w e f = record { line = λ z. line on e (or_even old v (or_even (bit_or old v) (2 * w) z).0); beyond = λ h. beyond right f h }
  where
    line : (t : Bool) → v ≡ bool_byte t → (old % 2 ≡ 0) × (v % 2 ≡ 0) → (old % 2 ≡ 0) × (t ≡ false)
    line false e p = (p.0, refl)
    line true e p = absurd (omega (arith, p.1))

    one : (t : Bool) → v ≡ bool_byte t → v < 2
    one true e = omega arith
    one false e = omega arith

    beyond : (t : Bool) → w ≡ bool_byte t → 2 ≤ bit_or (bit_or old v) (2 * w) → (2 ≤ old) ⊎ (t ≡ true)
    beyond true f h = inr refl
    beyond false f h =
        elim (dec_lt old 2) [
          | yes l ↦ absurd (omega (arith, or_lt 1 (bit_or old v) (2 * w) (or_lt 1 old v l (one on e)) (omega arith)))
          | no l ↦ inl (omega arith)
        ]

-- ---- a side
pub below_zero : (z : ℤ) → z ≤ℤ pos 0 → (z ≡ pos 0 → ⊥) → z <ℤ pos 0
below_zero z h = nonpos (λ z. (z ≡ pos 0 → ⊥) → z <ℤ pos 0) go z h
  where
    go : (a : ℕ) → ((0 ⊖ a) ≡ pos 0 → ⊥) → (0 ⊖ a) <ℤ pos 0
    go zero n = absurd (n (sym (posn 0)))
    go (suc a) n = rw (posn 0) (⊖-lt 0 (suc a) 0 0 (omega arith))

module _ (ws : List ℕ) (k x y : ℕ) (e n level : ℤ) (l : LineOf (corners ws) k e n level) where
  off_mark : (t : Bool) → (t ≡ false → level ≡ e *ℤ pos y -ℤ n *ℤ pos x → ⊥) → t ≡ false → OffFrom ws (point x y) (k + 1) → OffFrom ws (point x y) k
  off_mark t f g o s h i z =
      elim (dec_lt k s) [ yes b ↦ o s (omega arith) i z | no b ↦ let q : s ≡ k = omega arith in f g (l.on x y (rw q at z)) ]

  right_turn : (t : Bool) → t ≡ lt_z (e *ℤ pos y -ℤ n *ℤ pos x) level → t ≡ true → side_turn (corners ws) (point x y) k <ℤ pos 0
  right_turn t f g =
      let h = test_yes (e *ℤ pos y -ℤ n *ℤ pos x) level g f in
      ⊎_elim
      (λ p. absurd (clash_ℤ (test_yes level (e *ℤ pos y -ℤ n *ℤ pos x) (left p) refl) (lt_le h)))
      (λ p. below_zero (side_turn (corners ws) (point x y) k) p (λ z. clash_ℤ h (level_le (l.on x y z))))
      (below_or_not (pos 0) (side_turn (corners ws) (point x y) k))
    where
      level_le : level ≡ e *ℤ pos y -ℤ n *ℤ pos x → level ≤ℤ (e *ℤ pos y -ℤ n *ℤ pos x)
      level_le q = rw (← q) (≤ℤ_refl level)

      left : pos 0 <ℤ side_turn (corners ws) (point x y) k → lt_z level (e *ℤ pos y -ℤ n *ℤ pos x) ≡ true
      left p = l.left x y ∙ yes_test (pos 0) (side_turn (corners ws) (point x y) k) p
        where
          yes_test : (a b : ℤ) → a <ℤ b → lt_z a b ≡ true
          yes_test a b h = go (lt_z a b) refl
            where
              go : (s : Bool) → s ≡ lt_z a b → lt_z a b ≡ true
              go true q = sym q
              go false q = absurd (clash_ℤ h (test_no a b refl q))

  pub sides_mark : (p : Point) (on right : Bool) (old r : ℕ) → point x y ≡ p → k < word ws 0 → Tells (level ≡ e *ℤ pos y -ℤ n *ℤ pos x) on → right ≡ lt_z (e *ℤ pos y -ℤ n *ℤ pos x) level
      → Marked old on right r → SidesByte ws p (k + 1) old → SidesByte ws p k r
  sides_mark p on right old r same h f g m s =
      let s = rw (← same) at s in
      rw (← same)
      (record {
        line = λ z. off_mark on f.no' (m.line z).1 (s.line (m.line z).0);
        beyond = λ z. ⊎_elim (λ b. further (s.beyond b)) (λ t. record { side = k; after = omega arith; before = h; right = right_turn right g t }) (m.beyond z);
      })
    where
      further : RightFrom ws (point x y) (k + 1) → RightFrom ws (point x y) k
      further q = record { side = q.side; after = omega (arith, q.after); before = q.before; right = q.right }

-- the marks below i are done, and the others are as they were
pub record SidesUpto (ws east north : List ℕ) (k : ℕ) (old row : List ℕ) (i : ℕ) : Type 0 where
  pub sized : length row ≡ 240
  pub past : (j : ℕ) → j < i → SidesByte ws (mark_at east north j) k (word row j)
  pub rest : (j : ℕ) → i ≤ j → word row j ≡ word old j

module _ (ws east north : List ℕ) (k : ℕ) (old : List ℕ) where
  pub sides_none : length old ≡ 240 → SidesUpto ws east north k old old 0
  sides_none l = record { sized = l; past = λ j h. absurd (omega arith); rest = λ j h. refl }

  pub sides_next : (row : List ℕ) (i v : ℕ) → i < 240 → SidesByte ws (mark_at east north i) k v → SidesUpto ws east north k old row i → SidesUpto ws east north k old (set row i v) (i + 1)
  sides_next row i v h f u =
      record { sized = length-set row i v ∙ u.sized; past = λ j l. past j l (ℕ_discrete j i); rest = λ j l. get_or-set_other row i j v 0 (omega arith) ∙ u.rest j (omega arith) }
    where
      past : (j : ℕ) → j < i + 1 → Dec (j ≡ i) → SidesByte ws (mark_at east north j) k (word (set row i v) j)
      past j l (yes q) = rw (q, get_or-set_same row i v 0 (omega (arith, u.sized))) f
      past j l (no q) = rw (get_or-set_other row i j v 0 q) (u.past j (omega arith))

  pub sides_all : (row : List ℕ) (i : ℕ) → 240 ≤ i → SidesUpto ws east north k old row i → SidesRow ws east north k row
  sides_all row i h u = record { sized = u.sized; each = λ j l. u.past j (omega arith) }

pub blank_new : Blank (replicate 240 0)
blank_new = record { sized = refl; each = λ i h. get_or-replicate 240 i 0 0 h }

pub sides_end : (ws east north row : List ℕ) → Blank row → SidesRow ws east north (word ws 0) row
sides_end ws east north row r =
    record { sized = r.sized; each = λ i h. record { line = λ z t a b. absurd (omega arith); beyond = λ b. absurd (omega (arith, r.each i h)) } }

pub sides_first : (ws east north row : List ℕ) (k : ℕ) → k ≤ 0 → SidesRow ws east north k row → SidesRow ws east north 0 row
sides_first ws east north row k h r = let e : k ≡ 0 = omega arith in rw e at r

-- one word more is packed
pub room : (n : ℕ) → n < 24 → n + 24 < 64
room n h = omega arith

pub both_packed : (c n b d h r : ℕ) → Packed c n (b % 2) d → h ≡ bool_byte (eqb b 1) → Packed d (n + 24) h r → PackedBoth c n b r
both_packed c n b d h r p f q =
    record {
      line = λ z. p.here (q.kept n z);
      held = λ z e. let o : h ≡ 1 = rw e at f in omega (arith, q.here z);
      kept = λ m z. p.kept m (q.kept m z);
    }

pub pack_none : (row : List ℕ) (n : ℕ) (old : List ℕ) → length old ≡ 240 → PackedTo row n old old 0
pack_none row n old l = record { sized = l; past = λ j h. absurd (omega arith); rest = λ j h. refl }

pub pack_next : (row : List ℕ) (n : ℕ) (old new : List ℕ) (i v : ℕ) → i < 240 → PackedBoth (word new i) n (word row i) v → PackedTo row n old new i → PackedTo row n old (set new i v) (i + 1)
pack_next row n old new i v h p u =
    record { sized = length-set new i v ∙ u.sized; past = λ j l. past j l (ℕ_discrete j i); rest = λ j l. get_or-set_other new i j v 0 (omega arith) ∙ u.rest j (omega arith) }
  where
    past : (j : ℕ) → j < i + 1 → Dec (j ≡ i) → PackedBoth (word old j) n (word row j) (word (set new i v) j)
    past j l (yes q) = rw (q, get_or-set_same new i v 0 (omega (arith, u.sized)), ← (u.rest i (omega arith))) p
    past j l (no q) = rw (get_or-set_other new i j v 0 q) (u.past j (omega arith))

pub pack_all : (row : List ℕ) (n : ℕ) (old new : List ℕ) (i : ℕ) → i ≤ 240 → 240 ≤ i → PackedTo row n old new i → PackedTo row n old new 240
pack_all row n old new i h l u = let e : i ≡ 240 = omega arith in rw e at u

-- ---- a word
says_alone : (ws : List ℕ) (p : Point) (mask n w : ℕ) → mask ≡ 0 → WordSays ws p mask n w
says_alone ws p mask n w z = record { line = λ e. inl z; held = λ e. inl z }

says_kept : (ws : List ℕ) (p : Point) (mask n v w : ℕ) → ((m : ℕ) → bit m w ≡ 0 → bit m v ≡ 0) → WordSays ws p mask n v → WordSays ws p mask n w
says_kept ws p mask n v w f s = record { line = λ e. s.line (f n e); held = λ e. s.held (f (n + 24) e) }

not_held : (ws : List ℕ) (p : Point) (b : ℕ) → SidesByte ws p 0 b → (b ≡ 1 → ⊥) → Unheld ws p
not_held ws p b s f t h z g =
    elim (dec_lt 1 b) [
      | yes l ↦ let r = s.beyond (omega arith) in clash_ℤ r.right (g r.side r.before)
      | no l ↦ s.line (even b f (omega arith)) t (omega arith) h z
    ]
  where
    even : (b : ℕ) → (b ≡ 1 → ⊥) → b ≤ 1 → b % 2 ≡ 0
    even b f l = elim (ℕ_discrete b 1) [ yes q ↦ absurd (f q) | no q ↦ omega arith ]

says_packed : (ws : List ℕ) (p : Point) (mask n c b w : ℕ) → SidesByte ws p 0 b → PackedBoth c n b w → WordSays ws p mask n w
says_packed ws p mask n c b w s q = record { line = λ e. inr (s.line (q.line e)); held = λ e. inr (not_held ws p b s (q.held e)) }

-- the lines of one block more
module _ (blocks east north masks old : List ℕ) (n : ℕ) (u : LinesOf blocks east north masks old n) where
  pub lines_alone : word masks n ≡ 0 → LinesOf blocks east north masks old (n + 1)
  lines_alone z = record { sized = u.sized; each = λ b i l h. go b i l h (ℕ_discrete b n) }
    where
      go : (b i : ℕ) → b < n + 1 → i < 240 → Dec (b ≡ n) → WordSays (block_words blocks b) (mark_at east north i) (word masks b) b (word old i)
      go b i l h (yes q) = says_alone _ _ _ _ _ (ap (word masks) q ∙ z)
      go b i l h (no q) = u.each b i (omega arith) h

  pub lines_added : (row new : List ℕ) → SidesRow (take (17 * n + 17 - 17 * n) (drop (17 * n) blocks)) east north 0 row → PackedTo row n old new 240 → LinesOf blocks east north masks new (n + 1)
  lines_added row new o p = record { sized = p.sized; each = λ b i l h. go b i l h (ℕ_discrete b n) }
    where
      go : (b i : ℕ) → b < n + 1 → i < 240 → Dec (b ≡ n) → WordSays (block_words blocks b) (mark_at east north i) (word masks b) b (word new i)
      go b i l h (yes q) = rw q (says_packed _ _ _ _ _ _ _ (rw (part_is blocks n) at (o.each i h)) (p.past i h))
      go b i l h (no q) = says_kept _ _ _ _ _ _ (p.past i h).kept (u.each b i (omega arith) h)

pub lines_none : (blocks east north masks lines : List ℕ) → length lines ≡ 240 → LinesOf blocks east north masks lines 0
lines_none blocks east north masks lines l = record { sized = l; each = λ n i h. absurd (omega arith) }

pub lines_all : (blocks east north masks lines : List ℕ) (n : ℕ) → n ≤ 24 → 24 ≤ n → LinesOf blocks east north masks lines n → LinesOf blocks east north masks lines 24
lines_all blocks east north masks lines n h l u = let e : n ≡ 24 = omega arith in rw e at u
