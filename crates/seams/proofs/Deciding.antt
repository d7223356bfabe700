-- Whether a straight is shared is decidable: the same going round as the code's, over any list of sides.
use mathlib.Core.Path.{◌≡◌, subst}
use mathlib.Core.List.{List}
use mathlib.Core.Logic.{◌⊎◌, inl, inr}
use Prim.Native.Nat.{ℕ, zero, suc, ◌+◌, ◌<◌, ◌≤◌}
use native.Mathlib.Decide.{dec_lt}
use native.Mathlib.Numerals.{add-one}
use native.Mathlib.Omega.{arith}
use borrow.Author.Count.{below_more}
use lib.IntN.{ℤ, pos, ◌*ℤ◌}
use lib.Signed.{◌≤ℤ◌, ◌<ℤ◌}
use Rattle.geometry.specs.Words.{Point, word, block_words, corners}
use Rattle.geometry.specs.Obstruction.{side_turn}
use Rattle.geometry.proofs.Signed.{below_or_not}
use Rattle.seams.specs.Seam.{Shared}
use Rattle.seams.specs.inner.Reach.{On, Around, Touched, Both, Ends, Narrower, Common}
use Rattle.seams.proofs.Closed.{on_neither}
use Rattle.seams.proofs.Rounds.{whole_ends, whole_both, side_both, side_low, side_low_keep, side_up, side_up_keep, common_first, common_last, common_if, common_not}
use Rattle.seams.proofs.Seams.{shared_of, unshared}

-- ---- one side more
pub record OneMore (l r p q x y : ℤ) : Type 0 where
  pub l' : ℤ
  pub r' : ℤ
  pub p' : ℤ
  pub q' : ℤ
  pub narrower : Narrower l r p q x y l' r' p' q'

module _ (l r p q x y : ℤ) (e : Ends l r p q) where
  more : {l' r' p' q' : ℤ} → Narrower l r p q x y l' r' p' q' → OneMore l r p q x y
  more {l'} {r'} {p'} {q'} n = record { l' = l'; r' = r'; p' = p'; q' = q'; narrower = n }

  one_more : OneMore l r p q x y ⊎ ((x <ℤ pos 0) × (y <ℤ pos 0))
  one_more = go (below_or_not x (pos 0)) (below_or_not y (pos 0))
    where
      low : x <ℤ pos 0 → pos 0 ≤ℤ y → ((x *ℤ r) <ℤ (l *ℤ y)) ⊎ ((l *ℤ y) ≤ℤ (x *ℤ r)) → OneMore l r p q x y
      low h k (inl t) = more (side_low l r p q x y e h k t)
      low h k (inr t) = more (side_low_keep l r p q x y e k t)

      up : pos 0 ≤ℤ x → y <ℤ pos 0 → ((y *ℤ p) <ℤ (q *ℤ x)) ⊎ ((q *ℤ x) ≤ℤ (y *ℤ p)) → OneMore l r p q x y
      up h k (inl t) = more (side_up l r p q x y e h k t)
      up h k (inr t) = more (side_up_keep l r p q x y e h t)

      go : (x <ℤ pos 0) ⊎ (pos 0 ≤ℤ x) → (y <ℤ pos 0) ⊎ (pos 0 ≤ℤ y) → OneMore l r p q x y ⊎ ((x <ℤ pos 0) × (y <ℤ pos 0))
      go (inl h) (inl k) = inr (h, k)
      go (inl h) (inr k) = inl (low h k (below_or_not (x *ℤ r) (l *ℤ y)))
      go (inr h) (inl k) = inl (up h k (below_or_not (y *ℤ p) (q *ℤ x)))
      go (inr h) (inr k) = inl (more (side_both l r p q x y e h k))

-- ---- m sides more
pub record Round (m : ℕ) (x y : ℕ → ℤ) (l r p q : ℤ) : Type 0 where
  pub l' : ℤ
  pub r' : ℤ
  pub p' : ℤ
  pub q' : ℤ
  pub ends : Ends l' r' p' q'
  pub all : (u s : ℕ) → Both l' r' p' q' u s → Both l r p q u s × Around m x y u s
  pub only : (u s : ℕ) → Both l r p q u s → Around m x y u s → Both l' r' p' q' u s

-- none of the weights that two sides and m more leave
abbrev None : ℕ → (ℕ → ℤ) → (ℕ → ℤ) → ℤ → ℤ → ℤ → ℤ → Type 0
None m x y l r p q = (u s : ℕ) → 1 ≤ u + s → Both l r p q u s → Around m x y u s → ⊥

module _ (x y : ℕ → ℤ) (l r p q : ℤ) (e : Ends l r p q) where
  round_next : (m : ℕ) (n : Round m x y l r p q) → OneMore n.l' n.r' n.p' n.q' (x m) (y m) → Round (m + 1) x y l r p q
  round_next m n o =
      record {
        l' = o.l';
        r' = o.r';
        p' = o.p';
        q' = o.q';
        ends = o.narrower.ends;
        all = λ u s b.
            let i = o.narrower.all u s b in
            let j = n.all u s i.0 in
            (j.0, below_more (λ (k : ℕ). On u s (x k) (y k)) m j.1 i.1);
        only = λ u s b i. o.narrower.only u s (n.only u s b (λ k h. i k (omega arith))) (i m (omega arith));
      }

  pub round : (m : ℕ) → Round m x y l r p q ⊎ None m x y l r p q
  round zero =
      inl (record { l' = l; r' = r; p' = p; q' = q; ends = e; all = λ u s b. (b, λ k h. absurd (none k h)); only = λ u s b i. b })
    where
      none : (k : ℕ) → k < 0 → ⊥
      none k h = omega arith
  round (suc m) = subst (λ (k : ℕ). Round k x y l r p q ⊎ None k x y l r p q) (add-one m) (go (round m))
    where
      last : (n : Round m x y l r p q) → OneMore n.l' n.r' n.p' n.q' (x m) (y m) ⊎ ((x m <ℤ pos 0) × (y m <ℤ pos 0)) → Round (m + 1) x y l r p q ⊎ None (m + 1) x y l r p q
      last n (inl o) = inl (round_next m n o)
      last n (inr z) = inr (λ u s w b i. on_neither u s (x m) (y m) w z.0 z.1 (i m (omega arith)))

      go : Round m x y l r p q ⊎ None m x y l r p q → Round (m + 1) x y l r p q ⊎ None (m + 1) x y l r p q
      go (inl n) = last n (one_more n.l' n.r' n.p' n.q' (x m) (y m) n.ends)
      go (inr f) = inr (λ u s w b i. f u s w b (λ k h. i k (omega arith)))

-- ---- a point between two sides
common_dec : (l r p q : ℤ) → Ends l r p q → Dec (Common l r p q)
unfolding Common
common_dec l r p q e = go (below_or_not l (pos 0)) (below_or_not q (pos 0))
  where
    last : l <ℤ pos 0 → q <ℤ pos 0 → ((p *ℤ r) <ℤ (l *ℤ q)) ⊎ ((l *ℤ q) ≤ℤ (p *ℤ r)) → Dec (Common l r p q)
    last h k (inl t) = no (λ c. common_not l r p q e h k t c.0 c.1 c.2 c.3)
    last h k (inr t) = yes (common_if l r p q e h t)

    go : (l <ℤ pos 0) ⊎ (pos 0 ≤ℤ l) → (q <ℤ pos 0) ⊎ (pos 0 ≤ℤ q) → Dec (Common l r p q)
    go (inr h) d = yes (common_first l r p q e h)
    go (inl h) (inr k) = yes (common_last l r p q e k)
    go (inl h) (inl k) = last h k (below_or_not (p *ℤ r) (l *ℤ q))

-- ---- two lists of sides
abbrev Both_around : ℕ → (ℕ → ℤ) → (ℕ → ℤ) → ℕ → (ℕ → ℤ) → (ℕ → ℤ) → Type 0
Both_around m x y m' x' y' = (u : ℕ) × (s : ℕ) × (1 ≤ u + s) × Around m x y u s × Around m' x' y' u s

around_dec : (m : ℕ) (x y : ℕ → ℤ) (m' : ℕ) (x' y' : ℕ → ℤ) → Dec (Both_around m x y m' x' y')
unfolding Common
around_dec m x y m' x' y' = first (round x y (pos 1) (pos 1) (pos 1) (pos 1) whole_ends m)
  where
    third : (n : Round m x y (pos 1) (pos 1) (pos 1) (pos 1)) (k : Round m' x' y' n.l' n.r' n.p' n.q') → Dec (Common k.l' k.r' k.p' k.q') → Dec (Both_around m x y m' x' y')
    third n k (yes c) =
        let i = k.all c.0 c.1 c.3 in
        yes (c.0, c.1, c.2, (n.all c.0 c.1 i.0).1, i.1)
    third n k (no f) = no (λ c. f (c.0, c.1, c.2, k.only c.0 c.1 (n.only c.0 c.1 (whole_both c.0 c.1) c.3) c.4))

    second : (n : Round m x y (pos 1) (pos 1) (pos 1) (pos 1)) → Round m' x' y' n.l' n.r' n.p' n.q' ⊎ None m' x' y' n.l' n.r' n.p' n.q' → Dec (Both_around m x y m' x' y')
    second n (inl k) = third n k (common_dec k.l' k.r' k.p' k.q' k.ends)
    second n (inr f) = no (λ c. f c.0 c.1 c.2 (n.only c.0 c.1 (whole_both c.0 c.1) c.3) c.4)

    first : Round m x y (pos 1) (pos 1) (pos 1) (pos 1) ⊎ None m x y (pos 1) (pos 1) (pos 1) (pos 1) → Dec (Both_around m x y m' x' y')
    first (inl n) = second n (round x' y' n.l' n.r' n.p' n.q' n.ends m')
    first (inr f) = no (λ c. f c.0 c.1 c.2 (whole_both c.0 c.1) c.3)

-- ---- two blocks
unfoldable Meeting : List ℕ → List ℕ → Point → Point → Type 0
Meeting ws vs a b = (u : ℕ) × (s : ℕ) × (1 ≤ u + s) × Touched ws a b u s × Touched vs a b u s

meeting_dec : (ws vs : List ℕ) (a b : Point) → Dec (Meeting ws vs a b)
unfolding Meeting
meeting_dec ws vs a b = go (dec_lt 0 (word ws 0)) (dec_lt 0 (word vs 0)) (around_dec (word ws 0) (x ws) (y ws) (word vs 0) (x vs) (y vs))
  where
    x : List ℕ → ℕ → ℤ
    x ws = side_turn (corners ws) a

    y : List ℕ → ℕ → ℤ
    y ws = side_turn (corners ws) b

    go : Dec (0 < word ws 0) → Dec (0 < word vs 0) → Dec (Both_around (word ws 0) (side_turn (corners ws) a) (side_turn (corners ws) b) (word vs 0) (side_turn (corners vs) a) (side_turn (corners vs) b)) → Dec (Meeting ws vs a b)
    go (no f) d e = no (λ c. f c.3.stands)
    go (yes h) (no f) e = no (λ c. f c.4.stands)
    go (yes h) (yes k) (no f) = no (λ c. f (c.0, c.1, c.2, c.3.around, c.4.around))
    go (yes h) (yes k) (yes c) = yes (c.0, c.1, c.2, record { stands = h; around = c.3 }, record { stands = k; around = c.4 })

-- ---- some number below n
unfoldable Some : (ℕ → Type 0) → ℕ → Type 0
Some P n = (k : ℕ) × (k < n) × P k

some_dec : (P : ℕ → Type 0) → ((k : ℕ) → Dec (P k)) → (n : ℕ) → Dec (Some P n)
unfolding Some
some_dec P d zero = no (λ h. none h.0 h.1)
  where
    none : (k : ℕ) → k < 0 → ⊥
    none k h = omega arith
some_dec P d (suc n) = go (some_dec P d n) (d n)
  where
    go : Dec (Some P n) → Dec (P n) → Dec (Some P (suc n))
    go (yes h) e = yes (h.0, omega (arith, h.1), h.2)
    go (no f) (yes h) = yes (n, omega arith, h)
    go (no f) (no g) = no (λ h. at h.0 h.1 h.2 (dec_lt h.0 n))
      where
        at : (k : ℕ) → k < suc n → P k → Dec (k < n) → ⊥
        at k l h (yes z) = f (k, z, h)
        at k l h (no z) = let c : k ≡ n = omega arith in g (subst P c h)

pub shared_dec : (blocks : List ℕ) (a b : Point) → Dec (Shared blocks a b)
unfolding Some Meeting
shared_dec blocks a b = go (some_dec (λ q. Some (λ p. Meeting (block_words blocks p) (block_words blocks q) a b) q) (λ q. some_dec (λ p. Meeting (block_words blocks p) (block_words blocks q) a b) (λ p. meeting_dec (block_words blocks p) (block_words blocks q) a b) q) 24)
  where
    go : Dec (Some (λ q. Some (λ p. Meeting (block_words blocks p) (block_words blocks q) a b) q) 24) → Dec (Shared blocks a b)
    go (yes h) =
        let q = h.0 in
        let p = h.2.0 in
        let l : p < q = h.2.1 in
        let i = h.2.2 in
        let d : (p ≡ q → ⊥) = (λ (e : p ≡ q). omega arith) in
        yes (shared_of d (record { some = i.2; first_number = omega (arith, h.1); second_number = h.1; first = i.3; second = i.4 }))
    go (no f) = no (unshared (λ p q u s l h. f (q, h.second_number, (p, l, (u, s, h.some, h.first, h.second)))))
