-- The rule for a quote leaves no choice of its number and its words; its lists are compared east before north.
use mathlib.Core.Path.{◌≡◌, refl, sym, ap, ◌∙◌, subst}
use mathlib.Core.List.{List, [], ◌∷◌, ◌++◌}
use Prim.Native.Nat.{ℕ, ◌*◌, ◌-◌, ◌/◌, ◌%◌, ◌<◌}
use native.Mathlib.Decide.{ℕ_discrete, dec_lt}
use native.Mathlib.Omega.{arith}
use lib.ListN.{length, replicate}
use Rattle.geometry.specs.Words.{word}
use Rattle.paths.specs.Path.{NoLater, same, less, then}
use Rattle.tables.specs.Tables.{Records}
use Rattle.nets.specs.Net.{Path, arrive, onward, cost}
use Rattle.crossings.specs.Grid.{Grid, Crossing, place, net}
use Rattle.ducts.specs.Quote.{crossing_words, QuoteIs, found, no_way, DuctQuoted}
use Rattle.lines.specs.inner.Lined.{Rising}
use Rattle.nets.proofs.Labels.{best_one}
use Rattle.crossings.proofs.Sizes.{rising_apart}

pub quote_unique : (blocks : List ℕ) (g : Grid) (start end : ℕ) {q q' c c' : List ℕ} → QuoteIs blocks g start end q c → QuoteIs blocks g start end q' c' → (q ≡ q') × (c ≡ c')
quote_unique blocks g start end (found us a) (found vs b) =
    let e : us ≡ vs = best_one (net blocks g) start end a b in
    (ap (λ (ws : List ℕ). 1 ∷ cost (net blocks g) ws ∷ length ws ∷ []) e, ap (λ (ws : List ℕ). crossing_words g ws ++ replicate (8712 - 2 * length ws) 0) e)
quote_unique blocks g start end (found us a) (no_way n) = absurd (n us a.path)
quote_unique blocks g start end (no_way n) (found us a) = absurd (n us a.path)
quote_unique blocks g start end (no_way n) (no_way k) = (refl, refl)

-- a call's number and both lists
pub quoted_unique : (R : Records) (m : ℕ) (quote crossings : List ℕ) (r r' : ℕ) (q q' c c' : List ℕ) → DuctQuoted R m quote crossings r q c → DuctQuoted R m quote crossings r' q' c'
    → (r ≡ r') × (q ≡ q') × (c ≡ c')
quoted_unique R m quote crossings r r' q q' c c' a b = go (ℕ_discrete r 0)
  where
    same_answer : r ≡ r'
    same_answer = a.answer ∙ sym b.answer

    go : Dec (r ≡ 0) → (r ≡ r') × (q ≡ q') × (c ≡ c')
    go (yes e) = let u = quote_unique _ _ _ _ (a.done e) (b.done (sym same_answer ∙ e)) in (same_answer, u.0, u.1)
    go (no n) =
        let x = a.refused n in
        let y = b.refused (λ (e : r' ≡ 0). n (same_answer ∙ e)) in
        (same_answer, x.0 ∙ sym y.0, x.1 ∙ sym y.1)

-- lists of crossings in order have their coordinates in order
pub data Crossings (g : Grid) : List ℕ → Type 0 where
  no_crossing : Crossings g []
  one_crossing : {v : ℕ} {vs : List ℕ} → Crossing g v → Crossings g vs → Crossings g (v ∷ vs)

pub path_crossings : (blocks : List ℕ) (g : Grid) (end : ℕ) → Crossing g end → {v : ℕ} {us : List ℕ} → Path (net blocks g) end v us → Crossings g us
unfolding net
path_crossings blocks g end e (arrive s) = one_crossing e no_crossing
path_crossings blocks g end e (onward s p) = one_crossing s.from (path_crossings blocks g end e p)

module _ (g : Grid) (xr : Rising 0 g.xs) (yr : Rising 0 g.ys) where
  pub words_order : {us vs : List ℕ} → Crossings g us → Crossings g vs → NoLater us vs → NoLater (crossing_words g us) (crossing_words g vs)
  unfolding crossing_words place
  words_order c d same = same
  words_order (one_crossing {v = u} {vs = us} a c) (one_crossing {v = v} {vs = vs} b d) (less h) = go (dec_lt (u / 66) (v / 66))
    where
      go : Dec (u / 66 < v / 66) → NoLater (crossing_words g (u ∷ us)) (crossing_words g (v ∷ vs))
      go (yes l) = less (rising_apart xr (u / 66) (v / 66) l b.east)
      go (no l) =
          let e : v / 66 ≡ u / 66 = omega arith in
          let k = rising_apart yr (u % 66) (v % 66) (omega arith) b.north in
          subst (λ (x : ℕ). NoLater (crossing_words g (u ∷ us)) (word g.xs x ∷ word g.ys (v % 66) ∷ crossing_words g vs)) (sym e) (then (less k))
  words_order (one_crossing a c) (one_crossing b d) (then h) = then (then (words_order c d h))
