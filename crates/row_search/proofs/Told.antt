-- What rows of bits tell: each set bit is that of a corner, and a search over them is one over the straights that they were made of.
use mathlib.Core.Path.{◌≡◌, refl, sym, ap, ◌∙◌, subst}
use mathlib.Core.Logic.{◌⊎◌, inl, inr}
use mathlib.Core.Bool.{Bool, true, false, cond}
use mathlib.Core.List.{List}
use Prim.Native.Nat.{ℕ, ◌+◌, ◌*◌, ◌/◌, ◌%◌, ◌≤◌, ◌<◌}
use native.Mathlib.Decide.{dec_lt}
use native.Mathlib.Omega.{arith}
use borrow.Author.Tests.{lt-ltb, le-ltb}
use Rattle.paths.specs.Path.{Graph}
use Rattle.paths.proofs.Maps.{chain_map}
use Rattle.geometry.specs.Words.{word}
use Rattle.bits.proofs.Counting.{bit_small}
use Rattle.tables.specs.Tables.{Records, is_corner, first_end, second_end}
use Rattle.adjacency.specs.inner.Adjacent.{Shows, near_bit}
use Rattle.mark_rows.specs.inner.Adjacent.{Adjacent, Rows}
use Rattle.mark_rows.proofs.Words.{by_marks}
use Rattle.search.specs.Network.{graph}
use Rattle.search.specs.inner.Keys.{Vertex, Attained, Keyed, Searched}
use Rattle.row_search.specs.inner.Rows.{told_bit, ByRows, Tidy}
use Rattle.search.proofs.Network.{corner_below}

-- what is read: the row of s, that of v, or what the ends see
module _ (rows : List ℕ) (facing : Bool) (v s : ℕ) where
  pub told_corner : v < 192 → told_bit rows facing v s ≡ near_bit rows s v
  unfolding told_bit
  told_corner h = rw (lt-ltb v 192 h)

  pub told_end : 192 ≤ v → s < 192 → told_bit rows facing v s ≡ near_bit rows v s
  unfolding told_bit
  told_end h l = rw (le-ltb v 192 h, lt-ltb s 192 l)

  pub told_ends : 192 ≤ v → 192 ≤ s → told_bit rows facing v s ≡ cond facing 1 0
  unfolding told_bit
  told_ends h l = rw (le-ltb v 192 h, le-ltb s 192 l)

facing_small : (facing : Bool) → cond facing 1 0 < 2
facing_small true = omega arith
facing_small false = omega arith

facing_yes : (facing : Bool) → ◌≡◌ {A = ℕ} (cond facing 1 0) 1 → facing ≡ true
facing_yes true e = refl
facing_yes false e = absurd (omega arith)

pub told_small : (rows : List ℕ) (facing : Bool) (v s : ℕ) → told_bit rows facing v s < 2
told_small rows facing v s = go (dec_lt v 192) (dec_lt s 192)
  where
    go : Dec (v < 192) → Dec (s < 192) → told_bit rows facing v s < 2
    go (yes h) d = omega (arith, told_corner rows facing v s h, bit_small (v % 64) (word rows (3 * s + v / 64)))
    go (no h) (yes l) = omega (arith, told_end rows facing v s (omega arith) l, bit_small (s % 64) (word rows (3 * v + s / 64)))
    go (no h) (no l) = omega (arith, told_ends rows facing v s (omega arith) (omega arith), facing_small facing)

-- bit u of row v says whether corner u is near v
module _ {blocks : List ℕ} {Clear : ℕ → ℕ → Type 0} {rows : List ℕ} (r : Rows blocks Clear rows 720) where
  row_shows : (v u : ℕ) → v < 240 → u < 192 → Shows (Adjacent blocks Clear v u) (near_bit rows v u)
  row_shows = by_marks (Adjacent blocks Clear) rows 240 r.each

  pub rows_tidy : Tidy blocks rows
  rows_tidy = record { sized = r.sized; each = λ v u a b e. let n = (row_shows v u a b).yes' e in (n.present, n.differ) }

-- a search in one graph is one in another of the same cost, where both have the same inner vertices and, between bounded ones, the same edges
module _ (G : Graph) (J : ℕ → Type 0) (F : ℕ → ℕ → Type 0) (start end : ℕ) (B : ℕ → Type 0) (at-start : B start) (at_end : B end)
    (inner : (u : ℕ) → G.Inner u → J u × B u) (inner_back : (u : ℕ) → J u → G.Inner u × B u)
    (edge : (v u : ℕ) → B v → B u → G.Edge v u → F v u) (edge-back : (v u : ℕ) → B v → B u → F v u → G.Edge v u) where
  abbrev H : Graph
  H = record { Inner = J; Edge = F; cost = G.cost }

  vertex_to : {v : ℕ} → Vertex G start v → Vertex H start v
  vertex_to (inl q) = inl q
  vertex_to (inr i) = inr (inner _ i).0

  vertex_back : {v : ℕ} → Vertex H start v → Vertex G start v
  vertex_back (inl q) = inl q
  vertex_back (inr i) = inr (inner_back _ i).0

  bounded : {v : ℕ} → Vertex H start v → B v
  bounded (inl q) = subst B (sym q) at-start
  bounded (inr i) = (inner_back _ i).1

  attained_map : {v k : ℕ} → Attained G start end v k → Attained H start end v k
  attained_map t =
      let x = vertex_to t.vertex in
      record { vertex = x; by = t.by; chain = chain_map G H end B at_end inner edge (bounded x) t.chain; exact = t.exact; few = t.few }

  keyed_map : {key : List ℕ} → Keyed G start end key → Keyed H start end key
  keyed_map k =
      record {
        sized = k.sized;
        end_zero = k.end_zero;
        reached = k.reached;
        relaxed_last = λ v x e. k.relaxed_last v (vertex_back x) (edge-back v end (bounded x) at_end e);
        bound = k.bound;
        consistent = record { none = k.consistent.none; step = k.consistent.step };
        relaxed = λ v u x i e. let j = inner_back u i in k.relaxed v u (vertex_back x) j.0 (edge-back v u (bounded x) j.1 e);
        attained = λ v b e h. attained_map (k.attained v b e h);
      }

  pub searched_map : {key : List ℕ} {r : Bool} → Searched G start end key r → Searched H start end key r
  searched_map t = record { way = λ e. keyed_map (t.way e); no_way = λ e vs c. t.no_way e vs (chain_map H G end B at_end inner_back edge-back at-start c) }

-- the rows were made of clear straights, and what the ends of run m see of each other is told
module _ (R : Records) (Clear : ℕ → ℕ → Type 0) (m : ℕ) (l : m < 24) (rows : List ℕ) (facing : Bool) (r : Rows R.blocks Clear rows 720) (turn : (v u : ℕ) → Clear v u → Clear u v)
    (faces : facing ≡ true → Clear (first_end m) (second_end m)) (faced : Clear (first_end m) (second_end m) → facing ≡ true) where
  -- an end of the run, or a corner
  abbrev Mark : ℕ → Type 0
  Mark v = ((v ≡ first_end m) ⊎ (v ≡ second_end m)) ⊎ (is_corner R.blocks v ≡ true)

  below : {v : ℕ} → Mark v → v < 240
  below (inl (inl q)) = omega arith
  below (inl (inr q)) = omega arith
  below {v} (inr c) = omega (arith, corner_below R.blocks v c)

  an_end : {v : ℕ} → (v ≡ first_end m) ⊎ (v ≡ second_end m) → 192 ≤ v
  an_end (inl q) = omega arith
  an_end (inr q) = omega arith

  both : {v u : ℕ} → (v ≡ first_end m) ⊎ (v ≡ second_end m) → (u ≡ first_end m) ⊎ (u ≡ second_end m) → (v ≡ u → ⊥) → (facing ≡ true → Clear v u) × (Clear v u → facing ≡ true)
  both (inl p) (inl q) ne = absurd (ne (p ∙ sym q))
  both (inl p) (inr q) ne = (λ e. rw (p, q) (faces e), λ c. faced (rw (p, q) at c))
  both (inr p) (inl q) ne = (λ e. rw (p, q) (turn _ _ (faces e)), λ c. faced (turn _ _ (rw (p, q) at c)))
  both (inr p) (inr q) ne = absurd (ne (p ∙ sym q))

  clear_of : (v u : ℕ) → Mark v → Mark u → (v ≡ u → ⊥) → ByRows rows facing v u → Clear v u
  clear_of v u (inr c) b ne e = let h = corner_below R.blocks v c in ((row_shows r u v (below b) h).yes' (sym (told_corner rows facing v u h) ∙ e)).clear
  clear_of v u (inl a) (inr c) ne e =
      let h = corner_below R.blocks u c in
      turn u v ((row_shows r v u (below (inl a)) h).yes' (sym (told_end rows facing v u (an_end a) h) ∙ e)).clear
  clear_of v u (inl a) (inl b) ne e = (both a b ne).0 (facing_yes facing (sym (told_ends rows facing v u (an_end a) (an_end b)) ∙ e))

  told_of : (v u : ℕ) → Mark v → Mark u → (v ≡ u → ⊥) → Clear v u → ByRows rows facing v u
  told_of v u (inr c) b ne e = let h = corner_below R.blocks v c in told_corner rows facing v u h ∙ (row_shows r u v (below b) h).no' (record { present = c; differ = ne; clear = e })
  told_of v u (inl a) (inr c) ne e =
      let h = corner_below R.blocks u c in
      told_end rows facing v u (an_end a) h ∙ (row_shows r v u (below (inl a)) h).no' (record { present = c; differ = λ q. ne (sym q); clear = turn v u e })
  told_of v u (inl a) (inl b) ne e = told_ends rows facing v u (an_end a) (an_end b) ∙ ap (λ (f : Bool). cond f 1 0) ((both a b ne).1 e)

  pub told_searched : {key : List ℕ} {a : Bool} → Searched (graph R (ByRows rows facing)) (first_end m) (second_end m) key a → Searched (graph R Clear) (first_end m) (second_end m) key a
  told_searched =
      searched_map (graph R (ByRows rows facing)) (graph R Clear).Inner (graph R Clear).Edge (first_end m) (second_end m) Mark (inl (inl refl)) (inl (inr refl))
      (λ u i. (i, inr i)) (λ u i. (i, inr i)) (λ v u a b e. (e.0, clear_of v u a b e.0 e.1)) (λ v u a b e. (e.0, told_of v u a b e.0 e.1))
