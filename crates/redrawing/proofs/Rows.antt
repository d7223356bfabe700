-- The loops over the pair table: the entries of a row and the rows redrawn so far, the pairs renewed so far, the rows found right so far.
use mathlib.Core.Path.{◌≡◌, refl, sym, ap, ◌∙◌}
use mathlib.Core.Logic.{◌≢◌, ◌⊎◌, inl, inr}
use mathlib.Core.List.{List}
use mathlib.Core.Bool.{Bool, true, false, not}
use Prim.Native.Nat.{ℕ, ◌+◌, ◌*◌, ◌-◌, ◌<◌, ◌≤◌}
use native.Mathlib.Omega.{arith}
use native.Mathlib.Decide.{ℕ_discrete}
use lib.ListN.{length, set, take, drop, length-set, length-take, length-drop}
use lib.Seq.{get_or-set_same, get_or-set_other}
use borrow.Rule.Slice.PartMut.{put_mid, Post-is}
use Rattle.geometry.specs.Words.{word}
use Rattle.tables.specs.Tables.{Records, pair_index, OnRun}
use Rattle.lists.specs.Lists.{splice}
use Rattle.tables.proofs.Pairs.{tri, tri_next, tri_240, tri_below, pair_tri, pair_in, pair_row, pair_col}
use Rattle.tables.proofs.Splices.{part_word, splice_length, splice_before, splice_after, splice_here}
use Rattle.visibility.specs.Visibility.{PairIs, PairsRight, BlockPair, RunPair, BlockRedrawn, RunRedrawn}
use Rattle.redrawing.specs.inner.Rows.{RowRedrawn, InRow, InColumn, Renewed, RowRight, RowsRight}
use Rattle.lists.specs.inner.Tells.{Tells}
use Rattle.lists.proofs.Telling.{tells_yes, tells_no, told, denied}
use Rattle.visibility.proofs.Unique.{pair_unique}

-- the entries of row j below i are redrawn, and the others are as they were
pub record RowUpto (R : Records) (n j : ℕ) (old new : List ℕ) (i : ℕ) : Type 0 where
  pub sized : length new ≡ j
  pub past : (k : ℕ) → k < i → BlockPair R n k j (word old k) (word new k)
  pub rest : (k : ℕ) → i ≤ k → word new k ≡ word old k

module _ (R : Records) (n j : ℕ) (old : List ℕ) where
  pub row_none : length old ≡ j → RowUpto R n j old old 0
  row_none l = record { sized = l; past = λ k h. absurd (omega arith); rest = λ k h. refl }

  pub row_next : (new : List ℕ) (i v : ℕ) → i < j → BlockPair R n i j (word new i) v → RowUpto R n j old new i → RowUpto R n j old (set new i v) (i + 1)
  row_next new i v h p u = record { sized = length-set new i v ∙ u.sized; past = past; rest = rest }
    where
      past : (k : ℕ) → k < i + 1 → BlockPair R n k j (word old k) (word (set new i v) k)
      past k l = go (ℕ_discrete k i)
        where
          go : Dec (k ≡ i) → BlockPair R n k j (word old k) (word (set new i v) k)
          go (yes e) = rw (e, get_or-set_same new i v 0 (omega (arith, u.sized))) (rw (u.rest i (omega arith)) at p)
          go (no e) = rw (get_or-set_other new i k v 0 e) (u.past k (omega arith))

      rest : (k : ℕ) → i + 1 ≤ k → word (set new i v) k ≡ word old k
      rest k l = get_or-set_other new i k v 0 (omega arith) ∙ u.rest k (omega arith)

  pub row_all : (new : List ℕ) (i : ℕ) → j ≤ i → RowUpto R n j old new i → RowRedrawn R n j old new
  row_all new i h u = record { sized = u.sized; each = λ k l. u.past k (omega arith) }

-- the rows below top are redrawn, and the others are as they were
pub record RowsUpto (R : Records) (n : ℕ) (old new : List ℕ) (top : ℕ) : Type 0 where
  pub sized : length new ≡ 28680
  pub past : (i j : ℕ) → i < j → j < top → BlockPair R n i j (word old (tri j + i)) (word new (tri j + i))
  pub rest : (k : ℕ) → tri top ≤ k → word new k ≡ word old k

pub row_end : (start j : ℕ) → start ≡ tri j → j < 240 → start + j ≤ 28680
row_end start j e h = omega (arith, tri_below j 240 h, tri_240)

pub row_lent : (t : List ℕ) (start j : ℕ) → length t ≡ 28680 → start ≡ tri j → j < 240 → length (take (start + j - start) (drop start t)) ≡ j
row_lent t start j l e h = simp (length-take, length-drop) (omega (arith, row_end start j e h))

-- a part that was lent as `&mut t[a..a + size]` is back
put_splice : (t part : List ℕ) (a size : ℕ) → length part ≡ size → put_mid a (a + size - a) t part ≡ splice t a part
unfolding splice
put_splice t part a size l = rw (Post-is a (a + size) t (omega arith), l)

module _ (R : Records) (n : ℕ) (old : List ℕ) where
  pub rows_none : length old ≡ 28680 → RowsUpto R n old old 0
  rows_none l = record { sized = l; past = λ i j h k. absurd (omega arith); rest = λ k h. refl }

  module _ (new part : List ℕ) (j : ℕ) (h : j < 240) (p : RowRedrawn R n j (take (tri j + j - tri j) (drop (tri j) new)) part) (u : RowsUpto R n old new j) where
    row_fits : tri j + length part ≤ length new
    row_fits = omega (arith, u.sized, p.sized, tri_below j 240 h, tri_240)

    in_row : (i : ℕ) → i < j → word (splice new (tri j) part) (tri j + i) ≡ word part i
    in_row i l =
        sym (part_word (splice new (tri j) part) (tri j) (length part) i (omega (arith, p.sized)))
        ∙ ap (λ (x : List ℕ). word x i) (splice_here new (tri j) part row_fits)

    row_was : (i : ℕ) → i < j → word (take (tri j + j - tri j) (drop (tri j) new)) i ≡ word old (tri j + i)
    row_was i l = part_word new (tri j) (tri j + j - tri j) i (omega arith) ∙ u.rest (tri j + i) (omega arith)

    row_put : RowsUpto R n old (splice new (tri j) part) (j + 1)
    row_put = record { sized = splice_length new (tri j) part row_fits ∙ u.sized; past = past; rest = rest }
      where
        past : (i k : ℕ) → i < k → k < j + 1 → BlockPair R n i k (word old (tri k + i)) (word (splice new (tri j) part) (tri k + i))
        past i k l m = go (ℕ_discrete k j)
          where
            go : Dec (k ≡ j) → BlockPair R n i k (word old (tri k + i)) (word (splice new (tri j) part) (tri k + i))
            go (yes e) = rw (e, in_row i (omega arith), sym (row_was i (omega arith))) (p.each i (omega arith))
            go (no e) =
                rw (splice_before new (tri j) part row_fits (tri k + i) (omega (arith, tri_below k j (omega arith))))
                (u.past i k l (omega arith))

        rest : (k : ℕ) → tri (j + 1) ≤ k → word (splice new (tri j) part) k ≡ word old k
        rest k l =
            splice_after new (tri j) part row_fits k (omega (arith, p.sized, tri_next j)) ∙ u.rest k (omega (arith, tri_next j))

  -- row j, from start on, was lent and is back redrawn
  pub rows_next : (new part : List ℕ) (start j : ℕ) → start ≡ tri j → j < 240 → RowRedrawn R n j (take (start + j - start) (drop start new)) part
      → RowsUpto R n old new j → RowsUpto R n old (put_mid start (start + j - start) new part) (j + 1)
  rows_next new part start j e h p u =
      rw (put_splice new part start j p.sized, e) (row_put new part j h (rw e at p) u)

  pub rows_all : (new : List ℕ) (top : ℕ) → 240 ≤ top → RowsUpto R n old new top → BlockRedrawn R n old new
  rows_all new top h u =
      record { sized = u.sized; each = λ i j l m. rw (pair_tri i j) (u.past i j l (omega arith)) }

-- one more pair is renewed
module _ (R : Records) (C D : ℕ → ℕ → Type 0) (old new : List ℕ) (a b v : ℕ) where
  pub renew_one : a < b → b < 240 → PairIs R a b v → ((i j : ℕ) → D i j → C i j ⊎ ((i ≡ a) × (j ≡ b))) → ((i j : ℕ) → C i j → D i j) → D a b
      → Renewed R C old new → Renewed R D old (set new (pair_index a b) v)
  renew_one l m p split grow here u =
      record { sized = length-set new (pair_index a b) v ∙ u.sized; fresh = fresh; kept = kept }
    where
      stored_here : word (set new (pair_index a b) v) (pair_index a b) ≡ v
      stored_here = get_or-set_same new (pair_index a b) v 0 (omega (arith, u.sized, pair_in a b l m))

      other : (i j : ℕ) → i < j → (i ≡ a → j ≡ b → ⊥) → word (set new (pair_index a b) v) (pair_index i j) ≡ word new (pair_index i j)
      other i j h d =
          get_or-set_other new (pair_index a b) (pair_index i j) v 0
          (λ e. d (pair_col i j a b h l e) (pair_row i j a b h l e))

      at : (i j : ℕ) → (i ≡ a) × (j ≡ b) → PairIs R i j (word (set new (pair_index a b) v) (pair_index i j))
      at i j e = rw (e.0, e.1, stored_here) p

      fresh : (i j : ℕ) → i < j → j < 240 → D i j → PairIs R i j (word (set new (pair_index a b) v) (pair_index i j))
      fresh i j h k d = go (ℕ_discrete i a) (ℕ_discrete j b) (split i j d)
        where
          go : Dec (i ≡ a) → Dec (j ≡ b) → C i j ⊎ ((i ≡ a) × (j ≡ b)) → PairIs R i j (word (set new (pair_index a b) v) (pair_index i j))
          go (yes e) (yes f) s = at i j (e, f)
          go (yes e) (no f) (inl s) = rw (other i j h (λ x y. f y)) (u.fresh i j h k s)
          go (yes e) (no f) (inr s) = at i j s
          go (no e) q (inl s) = rw (other i j h (λ x y. e x)) (u.fresh i j h k s)
          go (no e) q (inr s) = at i j s

      kept : (i j : ℕ) → i < j → j < 240 → (D i j → ⊥) → word (set new (pair_index a b) v) (pair_index i j) ≡ word old (pair_index i j)
      kept i j h k d =
          other i j h (λ e f. d (rw (e, f) here)) ∙ u.kept i j h k (λ c. d (grow i j c))

module _ (R : Records) (old : List ℕ) (k : ℕ) where
  pub renew_row_none : length old ≡ 28680 → Renewed R (InRow k 0) old old
  renew_row_none l = record { sized = l; fresh = λ i j h m d. absurd (omega (arith, d.1)); kept = λ i j h m d. refl }

  pub renew_row_next : (new : List ℕ) (i at v : ℕ) → i < k → k < 240 → at ≡ pair_index i k → PairIs R i k v → Renewed R (InRow k i) old new
      → Renewed R (InRow k (i + 1)) old (set new at v)
  renew_row_next new i at v l m e p u =
      rw e (renew_one R (InRow k i) (InRow k (i + 1)) old new i k v l m p split (λ x y c. (c.0, omega (arith, c.1))) (refl, omega arith) u)
    where
      split : (x y : ℕ) → InRow k (i + 1) x y → InRow k i x y ⊎ ((x ≡ i) × (y ≡ k))
      split x y (a, b) = go (ℕ_discrete x i)
        where
          go : Dec (x ≡ i) → InRow k i x y ⊎ ((x ≡ i) × (y ≡ k))
          go (yes q) = inr (q, a)
          go (no q) = inl (a, omega arith)

  pub renew_row_all : (new : List ℕ) (i : ℕ) → k ≤ i → i ≤ k → Renewed R (InRow k i) old new → Renewed R (InRow k k) old new
  renew_row_all new i a b u = let e : i ≡ k = omega arith in rw e at u

  pub renew_column_none : length old ≡ 28680 → Renewed R (InColumn k (k + 1)) old old
  renew_column_none l =
      record { sized = l; fresh = λ i j h m d. absurd (omega (arith, d.0, d.1)); kept = λ i j h m d. refl }

  pub renew_column_next : (new : List ℕ) (j at v : ℕ) → k < j → j < 240 → at ≡ pair_index k j → PairIs R k j v → Renewed R (InColumn k j) old new
      → Renewed R (InColumn k (j + 1)) old (set new at v)
  renew_column_next new j at v l m e p u =
      rw e (renew_one R (InColumn k j) (InColumn k (j + 1)) old new k j v l m p split (λ x y c. (c.0, omega (arith, c.1))) (refl, omega arith) u)
    where
      split : (x y : ℕ) → InColumn k (j + 1) x y → InColumn k j x y ⊎ ((x ≡ k) × (y ≡ j))
      split x y (a, b) = go (ℕ_discrete y j)
        where
          go : Dec (y ≡ j) → InColumn k j x y ⊎ ((x ≡ k) × (y ≡ j))
          go (yes q) = inr (a, q)
          go (no q) = inl (a, omega arith)

  pub renew_column_all : (new : List ℕ) (j : ℕ) → 240 ≤ j → j ≤ 240 → Renewed R (InColumn k j) old new → Renewed R (InColumn k 240) old new
  renew_column_all new j a b u = let e : j ≡ 240 = omega arith in rw e at u

-- both marks of run m, each with the marks below and the marks above it
module _ (R : Records) (m : ℕ) (s₀ s₁ s₂ s₃ s₄ : List ℕ) (below : m < 24) where
  pub run_renewed : Renewed R (InRow (192 + 2 * m) (192 + 2 * m)) s₀ s₁ → Renewed R (InRow (193 + 2 * m) (193 + 2 * m)) s₁ s₂
      → Renewed R (InColumn (192 + 2 * m) 240) s₂ s₃ → Renewed R (InColumn (193 + 2 * m) 240) s₃ s₄ → RunRedrawn R m s₀ s₄
  run_renewed u₁ u₂ u₃ u₄ = record { sized = u₄.sized; each = each }
    where
      each : (i j : ℕ) → i < j → j < 240 → RunPair R m i j (word s₀ (pair_index i j)) (word s₄ (pair_index i j))
      each i j h l = go (ℕ_discrete i (193 + 2 * m)) (ℕ_discrete i (192 + 2 * m)) (ℕ_discrete j (193 + 2 * m)) (ℕ_discrete j (192 + 2 * m))
        where
          e₄ : i ≢ 193 + 2 * m → word s₄ (pair_index i j) ≡ word s₃ (pair_index i j)
          e₄ d = u₄.kept i j h l (λ c. d c.0)

          e₃ : i ≢ 192 + 2 * m → word s₃ (pair_index i j) ≡ word s₂ (pair_index i j)
          e₃ d = u₃.kept i j h l (λ c. d c.0)

          e₂ : j ≢ 193 + 2 * m → word s₂ (pair_index i j) ≡ word s₁ (pair_index i j)
          e₂ d = u₂.kept i j h l (λ c. d c.0)

          e₁ : j ≢ 192 + 2 * m → word s₁ (pair_index i j) ≡ word s₀ (pair_index i j)
          e₁ d = u₁.kept i j h l (λ c. d c.0)

          go : Dec (i ≡ 193 + 2 * m) → Dec (i ≡ 192 + 2 * m) → Dec (j ≡ 193 + 2 * m) → Dec (j ≡ 192 + 2 * m)
              → RunPair R m i j (word s₀ (pair_index i j)) (word s₄ (pair_index i j))
          go (yes a) b c d =
              record { fresh = λ q. u₄.fresh i j h l (a, l); kept = λ (x : OnRun m i → ⊥) y. absurd (x (omega arith, omega arith)) }
          go (no a) (yes b) c d =
              record { fresh = λ q. rw (e₄ a) (u₃.fresh i j h l (b, l)); kept = λ (x : OnRun m i → ⊥) y. absurd (x (omega arith, omega arith)) }
          go (no a) (no b) (yes c) d =
              record { fresh = λ q. rw (e₄ a, e₃ b) (u₂.fresh i j h l (c, omega arith)); kept = λ x (y : OnRun m j → ⊥). absurd (y (omega arith, omega arith)) }
          go (no a) (no b) (no c) (yes d) =
              record { fresh = λ q. rw (e₄ a, e₃ b, e₂ c) (u₁.fresh i j h l (d, omega arith)); kept = λ x (y : OnRun m j → ⊥). absurd (y (omega arith, omega arith)) }
          go (no a) (no b) (no c) (no d) = record { fresh = off; kept = λ x y. e₄ a ∙ e₃ b ∙ e₂ c ∙ e₁ d }
            where
              off : OnRun m i ⊎ OnRun m j → PairIs R i j (word s₄ (pair_index i j))
              off (inl x) = absurd (omega (arith, x.0, x.1))
              off (inr x) = absurd (omega (arith, x.0, x.1))

-- the check
module _ (R : Records) (pairs : List ℕ) where
  pub row_right_none : (j : ℕ) → RowRight R pairs j 0
  row_right_none j = record { each = λ k h. absurd (omega arith) }

  pub row_right_next : (i j at due : ℕ) → at ≡ pair_index i j → PairIs R i j due → word pairs at ≡ due → RowRight R pairs j i → RowRight R pairs j (i + 1)
  row_right_next i j at due e p q r = record { each = λ k h. go k h (ℕ_discrete k i) }
    where
      go : (k : ℕ) → k < i + 1 → Dec (k ≡ i) → PairIs R k j (word pairs (pair_index k j))
      go k h (yes d) = rw (d, sym e, q) p
      go k h (no d) = r.each k (omega arith)

  pub row_right_yes : (j i : ℕ) → j ≤ i → RowRight R pairs j i → Tells (RowRight R pairs j j) true
  row_right_yes j i h r = tells_yes (record { each = λ k l. r.each k (omega arith) })

  pub row_right_no : (i j at due : ℕ) → i < j → at ≡ pair_index i j → PairIs R i j due → (word pairs at ≡ due → ⊥) → Tells (RowRight R pairs j j) false
  row_right_no i j at due h e p q = tells_no (λ f. q (rw e (pair_unique R i j _ _ (f.each i h) p)))

  pub rows_right_none : RowsRight R pairs 0
  rows_right_none = record { each = λ i j h l. absurd (omega arith) }

  pub rows_right_next : (j : ℕ) (t : Bool) → Tells (RowRight R pairs j j) t → not t ≡ false → RowsRight R pairs j → RowsRight R pairs (j + 1)
  rows_right_next j t a e r = record { each = λ i k h l. go i k h l (ℕ_discrete k j) }
    where
      go : (i k : ℕ) → i < k → k < j + 1 → Dec (k ≡ j) → PairIs R i k (word pairs (pair_index i k))
      go i k h l (yes d) = rw d ((told a e).each i (omega arith))
      go i k h l (no d) = r.each i k h (omega arith)

  pub rows_right_yes : (top : ℕ) → 240 ≤ top → RowsRight R pairs top → Tells (PairsRight R pairs) true
  rows_right_yes top h r = tells_yes (record { each = λ i j a b. r.each i j a (omega arith) })

  pub rows_right_no : (j : ℕ) (t : Bool) → j < 240 → Tells (RowRight R pairs j j) t → not t ≡ true → Tells (PairsRight R pairs) false
  rows_right_no j t h a e = tells_no (λ f. denied a e (record { each = λ i l. f.each i j l h }))
