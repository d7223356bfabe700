-- The list of corners, the two ends behind it, and that a search over that list is one over the corners.
use mathlib.Core.Path.{◌≡◌, sym, ap, ◌∙◌, subst}
use mathlib.Core.Logic.{inl, inr}
use mathlib.Core.Bool.{Bool, true, false, true≢false}
use mathlib.Core.List.{List}
use Prim.Native.Nat.{ℕ, ◌+◌, ◌≤◌, ◌<◌}
use native.Mathlib.Decide.{dec_lt}
use native.Mathlib.Omega.{arith}
use lib.ListN.{length, set, length-set}
use lib.Seq.{get_or-set_same, get_or-set_other}
use Rattle.paths.specs.Path.{Graph, Chain}
use Rattle.paths.proofs.Maps.{chain_map}
use Rattle.geometry.specs.Words.{word}
use Rattle.tables.specs.Tables.{Records, is_corner, first_end, second_end}
use Rattle.search.specs.inner.Keys.{Vertex, Attained, Keyed, Searched}
use Rattle.search.proofs.Network.{corner_below}
use Rattle.heaps.specs.inner.Marks.{Among, Once}
use Rattle.lazy_search.specs.inner.Lazy.{straights, network, Listing}
use Rattle.lazy_routes.specs.inner.Corners.{CornersListed}

-- the first n of the list are the corners below i, each once
pub record ListedTo (blocks order : List ℕ) (i n : ℕ) : Type 0 where
  pub sized : length order ≡ 194
  pub few : n ≤ i
  pub all : (u : ℕ) → u < i → is_corner blocks u ≡ true → Among order 0 n u
  pub only : (j : ℕ) → j < n → is_corner blocks (word order j) ≡ true
  pub below : (j : ℕ) → j < n → word order j < i
  pub once : Once order n

pub listed_none : (blocks order : List ℕ) → length order ≡ 194 → ListedTo blocks order 0 0
listed_none blocks order l =
    record {
      sized = l;
      few = omega arith;
      all = λ u h. absurd (omega arith);
      only = λ j h. absurd (omega arith);
      below = λ j h. absurd (omega arith);
      once = λ j k h. absurd (omega arith);
    }

module _ (blocks order : List ℕ) (i n : ℕ) (t : ListedTo blocks order i n) where
  pub listed_more : i < 192 → is_corner blocks i ≡ true → ListedTo blocks (set order n i) (i + 1) (n + 1)
  listed_more l e =
      record {
        sized = length-set order n i ∙ t.sized;
        few = omega (arith, t.few);
        all = λ u h c.
            elim (dec_lt u i) [
              | yes b ↦
                  let o = t.all u b c in
                  record { place = o.place; from = o.from; before = omega (arith, o.before); is = there o.place o.before ∙ o.is }
              | no b ↦ let q : i ≡ u = omega arith in record { place = n; from = omega arith; before = omega arith; is = here ∙ q }
            ];
        only = λ j h.
            elim (dec_lt j n) [
              | yes b ↦ subst (λ (x : ℕ). is_corner blocks x ≡ true) (sym (there j b)) (t.only j b)
              | no b ↦ subst (λ (x : ℕ). is_corner blocks x ≡ true) (sym (last_is j h b)) e
            ];
        below = λ j h. elim (dec_lt j n) [ yes b ↦ omega (arith, there j b, t.below j b) | no b ↦ omega (arith, last_is j h b) ];
        once = λ j k a b q.
            elim (dec_lt j n) [
              | yes c ↦
                  elim (dec_lt k n) [
                    | yes d ↦ t.once j k c d (sym (there j c) ∙ q ∙ there k d)
                    | no d ↦ absurd (omega (arith, there j c, t.below j c, q, last_is k b d))
                  ]
              | no c ↦
                  elim (dec_lt k n) [
                    | yes d ↦ absurd (omega (arith, there k d, t.below k d, q, last_is j a c))
                    | no d ↦ omega arith
                  ]
            ];
      }
    where
      here : word (set order n i) n ≡ i
      here = get_or-set_same order n i 0 (omega (arith, t.sized, t.few))

      there : (j : ℕ) → j < n → word (set order n i) j ≡ word order j
      there j b = get_or-set_other order n j i 0 (omega arith)

      last_is : (j : ℕ) → j < n + 1 → (j < n → ⊥) → word (set order n i) j ≡ i
      last_is j a b = let q : j ≡ n = omega arith in ap (word (set order n i)) q ∙ here

  pub listed_passed : is_corner blocks i ≡ false → ListedTo blocks order (i + 1) n
  listed_passed e =
      record {
        sized = t.sized;
        few = omega (arith, t.few);
        all = λ u h c.
            elim (dec_lt u i) [
              | yes b ↦ t.all u b c
              | no b ↦ let q : u ≡ i = omega arith in absurd (true≢false (sym c ∙ ap (is_corner blocks) q ∙ e))
            ];
        only = t.only;
        below = λ j h. omega (arith, t.below j h);
        once = t.once;
      }

  pub listed_all : i ≡ 192 → CornersListed blocks order n
  listed_all q =
      record {
        bends = record { sized = t.sized; few = omega (arith, t.few); corners = λ j h. omega (arith, t.below j h); once = t.once };
        all = λ u c. t.all u (omega (arith, corner_below blocks u c)) c;
        only = λ u a. subst (λ (x : ℕ). is_corner blocks x ≡ true) a.is (t.only a.place a.before);
      }

-- the same marks are listed as are corners
pub record SameBends (blocks order : List ℕ) (n : ℕ) : Type 0 where
  pub to : (u : ℕ) → Among order 0 n u → is_corner blocks u ≡ true
  pub back : (u : ℕ) → is_corner blocks u ≡ true → Among order 0 n u

-- the ends of run m put behind the corners
module _ {blocks order : List ℕ} {n : ℕ} (k : CornersListed blocks order n) (m : ℕ) where
  abbrev with_ends : List ℕ
  with_ends = set (set order n (first_end m)) (n + 1) (second_end m)

  kept : (j : ℕ) → j < n → word with_ends j ≡ word order j
  kept j b = get_or-set_other (set order n (first_end m)) (n + 1) j (second_end m) 0 (omega arith) ∙ get_or-set_other order n j (first_end m) 0 (omega arith)

  pub ends_listed : Listing with_ends n m
  ends_listed =
      record {
        bends = record {
          sized = length-set (set order n (first_end m)) (n + 1) (second_end m) ∙ length-set order n (first_end m) ∙ k.bends.sized;
          few = k.bends.few;
          corners = λ j b. omega (arith, kept j b, k.bends.corners j b);
          once = λ i j a b q. k.bends.once i j a b (sym (kept i a) ∙ q ∙ kept j b);
        };
        first =
            get_or-set_other (set order n (first_end m)) (n + 1) n (second_end m) 0 (omega arith)
            ∙ get_or-set_same order n (first_end m) 0 (omega (arith, k.bends.sized, k.bends.few));
        second = get_or-set_same (set order n (first_end m)) (n + 1) (second_end m) 0 (omega (arith, length-set order n (first_end m), k.bends.sized, k.bends.few));
      }

  pub ends_same : SameBends blocks with_ends n
  ends_same =
      record {
        to = λ u a. k.only u (record { place = a.place; from = a.from; before = a.before; is = sym (kept a.place a.before) ∙ a.is });
        back = λ u c. let a = k.all u c in record { place = a.place; from = a.from; before = a.before; is = kept a.place a.before ∙ a.is };
      }

-- a search over the list is one over the corners
module _ (R : Records) {order : List ℕ} {n : ℕ} (s : SameBends R.blocks order n) where
  abbrev G : Graph
  G = network R order n

  abbrev H : Graph
  H = straights R

  chain_to : {end v : ℕ} {us : List ℕ} → Chain G end v us → Chain H end v us
  chain_to {end} = chain_map G H end (λ v. Unit {0}) tt (λ u a. (s.to u a, tt)) (λ v u a b e. e) tt

  chain_back : {end v : ℕ} {us : List ℕ} → Chain H end v us → Chain G end v us
  chain_back {end} = chain_map H G end (λ v. Unit {0}) tt (λ u a. (s.back u a, tt)) (λ v u a b e. e) tt

  vertex_to : {start v : ℕ} → Vertex G start v → Vertex H start v
  vertex_to (inl q) = inl q
  vertex_to (inr a) = inr (s.to _ a)

  vertex_back : {start v : ℕ} → Vertex H start v → Vertex G start v
  vertex_back (inl q) = inl q
  vertex_back (inr a) = inr (s.back _ a)

  attained_as : {start end v k : ℕ} → Attained G start end v k → Attained H start end v k
  attained_as t = record { vertex = vertex_to t.vertex; by = t.by; chain = chain_to t.chain; exact = t.exact; few = t.few }

  keyed_as : {start end : ℕ} {key : List ℕ} → Keyed G start end key → Keyed H start end key
  keyed_as k =
      record {
        sized = k.sized;
        end_zero = k.end_zero;
        reached = k.reached;
        relaxed_last = λ v x. k.relaxed_last v (vertex_back x);
        bound = k.bound;
        consistent = record { none = k.consistent.none; step = k.consistent.step };
        relaxed = λ v u x i. k.relaxed v u (vertex_back x) (s.back u i);
        attained = λ v b e h. attained_as (k.attained v b e h);
      }

  pub searched_as : {start end : ℕ} {key : List ℕ} {r : Bool} → Searched G start end key r → Searched H start end key r
  searched_as t = record { way = λ e. keyed_as (t.way e); no_way = λ e vs c. t.no_way e vs (chain_back c) }
