-- Laws of the layout: a table with a record written over, the words of a part, and the words of the records.
use mathlib.Core.Path.{◌≡◌, refl, sym, ap, ◌∙◌, subst}
use mathlib.Core.List.{List, [], ◌∷◌, ◌++◌}
use Prim.Native.Nat.{ℕ, zero, suc, ◌+◌, ◌*◌, ◌-◌, ◌/◌, ◌%◌, ◌<◌, ◌≤◌}
use native.Mathlib.Nat.{suc-add}
use native.Mathlib.Omega.{arith}
use native.Mathlib.Decide.{dec_lt}
use lib.ListN.{length, get_or, take, drop, replicate, length-append, length-take, length-drop, length-replicate, get_or-replicate, get_or-append}
use lib.Seq.{get_or-take, get_or-drop, ext_get_or, get_or-append-add, length-take-le, take_at, drop_at}
use Rattle.geometry.specs.Words.{Point, word, places_from, block_words, corners}
use Rattle.tables.specs.Tables.{run_words, figure_of, route_words}
use Rattle.lists.specs.Lists.{splice}
use Rattle.tables.specs.Written.{place_words, block_record, run_record}
pub use Rattle.geometry.proofs.Corners.{places_length}
pub use Rattle.geometry.proofs.Searching.{block_word}

get_d_append_after : (p q : List ℕ) (i : ℕ) → length p ≤ i → get_or (p ++ q) i 0 ≡ get_or q (i - length p) 0
get_d_append_after p q i h =
    let e : length p + (i - length p) ≡ i = omega arith in
    subst (λ (k : ℕ). get_or (p ++ q) k 0 ≡ get_or q (i - length p) 0) e (get_or-append-add p q (i - length p) 0)

-- a word of a part is a word of its table
pub part_word : (t : List ℕ) (at size k : ℕ) → k < size → word (take size (drop at t)) k ≡ word t (at + k)
part_word t at size k h = get_or-take size (drop at t) k 0 h ∙ get_or-drop at t k 0

pub run_word : (t : List ℕ) (m k : ℕ) → k < 5 → word (run_words t m) k ≡ word t (5 * m + k)
run_word t m k h = part_word t (5 * m) 5 k h

pub block_first : (t : List ℕ) (n : ℕ) → word (block_words t n) 0 ≡ word t (17 * n)
block_first t n = block_word t n 0 (omega arith) ∙ ap (λ (k : ℕ). word t k) (omega arith)

pub run_first : (t : List ℕ) (m : ℕ) → word (run_words t m) 0 ≡ word t (5 * m)
run_first t m = run_word t m 0 (omega arith) ∙ ap (λ (k : ℕ). word t k) (omega arith)

-- a word of a table is a word of the part that it lies in
pub word_in : (t : List ℕ) (at size i : ℕ) → at ≤ i → i < at + size → word t i ≡ word (take size (drop at t)) (i - at)
word_in t at size i lo hi =
    let e : at + (i - at) ≡ i = omega arith in
    sym (part_word t at size (i - at) (omega arith) ∙ ap (λ (k : ℕ). word t k) e)

pub part_length : (t : List ℕ) (at size : ℕ) → at + size ≤ length t → length (take size (drop at t)) ≡ size
part_length t at size h = simp (length-take, length-drop) (omega arith)

-- equal words make equal parts
pub part_ext : (s t : List ℕ) (at size : ℕ) → length s ≡ length t → ((i : ℕ) → at ≤ i → i < at + size → get_or s i 0 ≡ get_or t i 0)
    → take size (drop at s) ≡ take size (drop at t)
part_ext s t at size l h =
    ext_get_or 0 (take size (drop at s)) (take size (drop at t))
    (simp (length-take, length-drop, l))
    λ i b. let c : i < size = omega (arith, simp (length-take) at b) in
    rw (get_or-take size (drop at s) i 0 c, get_or-take size (drop at t) i 0 c, get_or-drop at s, get_or-drop at t) (h (at + i) (omega arith) (omega arith))

-- a part of a list is that of the list with more words after it
pub part_append : (s t : List ℕ) (at size : ℕ) → at + size ≤ length s → take size (drop at (s ++ t)) ≡ take size (drop at s)
part_append s t at size h =
    ext_get_or 0 (take size (drop at (s ++ t))) (take size (drop at s))
    (part_length (s ++ t) at size (omega (arith, length-append s t)) ∙ sym (part_length s at size h))
    λ i b. let c : i < size = omega (arith, simp (length-take) at b) in
    rw (get_or-take size (drop at (s ++ t)) i 0 c, get_or-take size (drop at s) i 0 c, get_or-drop at (s ++ t), get_or-drop at s) (get_or-append s t 0 (at + i) (omega arith))

-- tables whose records are the same are the same
pub blocks_ext : (s t : List ℕ) → length s ≡ 408 → length t ≡ 408 → ((n : ℕ) → n < 24 → block_words s n ≡ block_words t n) → s ≡ t
blocks_ext s t a b h = ext_get_or 0 s t (a ∙ sym b) λ i l.
    word_in s (17 * (i / 17)) 17 i (omega arith) (omega arith) ∙ ap (λ (x : List ℕ). word x (i - 17 * (i / 17))) (h (i / 17) (omega arith))
    ∙ sym (word_in t (17 * (i / 17)) 17 i (omega arith) (omega arith))

pub runs_ext : (s t : List ℕ) → length s ≡ 121 → length t ≡ 121 → ((n : ℕ) → n < 24 → run_words s n ≡ run_words t n) → figure_of s ≡ figure_of t → s ≡ t
runs_ext s t a b h f = ext_get_or 0 s t (a ∙ sym b) λ i l. go i l (dec_lt i 120)
  where
    go : (i : ℕ) → i < length s → Dec (i < 120) → get_or s i 0 ≡ get_or t i 0
    go i l (yes c) =
        word_in s (5 * (i / 5)) 5 i (omega arith) (omega arith) ∙ ap (λ (x : List ℕ). word x (i - 5 * (i / 5))) (h (i / 5) (omega arith))
        ∙ sym (word_in t (5 * (i / 5)) 5 i (omega arith) (omega arith))
    go i l (no c) = let e : i ≡ 120 = omega arith in rw e f

pub routes_ext : (s t : List ℕ) → length s ≡ 4728 → length t ≡ 4728 → ((n : ℕ) → n < 24 → route_words s n ≡ route_words t n) → s ≡ t
routes_ext s t a b h = ext_get_or 0 s t (a ∙ sym b) λ i l.
    word_in s (197 * (i / 197)) 197 i (omega arith) (omega arith) ∙ ap (λ (x : List ℕ). word x (i - 197 * (i / 197))) (h (i / 197) (omega arith))
    ∙ sym (word_in t (197 * (i / 197)) 197 i (omega arith) (omega arith))

module _ (t : List ℕ) (at : ℕ) (ws : List ℕ) (fits : at + length ws ≤ length t) where
  head_length : length (take at t) ≡ at
  head_length = length-take-le at t (omega arith)

  pub splice_length : length (splice t at ws) ≡ length t
  unfolding splice
  splice_length = simp (length-append, head_length, length-drop) (omega arith)

  pub splice_before : (i : ℕ) → i < at → get_or (splice t at ws) i 0 ≡ get_or t i 0
  unfolding splice
  splice_before i h = get_or-append (take at t) (ws ++ drop (at + length ws) t) 0 i (omega (arith, head_length)) ∙ get_or-take at t i 0 h

  pub splice_after : (i : ℕ) → at + length ws ≤ i → get_or (splice t at ws) i 0 ≡ get_or t i 0
  unfolding splice
  splice_after i h =
      get_d_append_after (take at t) (ws ++ drop (at + length ws) t) i (omega (arith, head_length))
      ∙ get_d_append_after ws (drop (at + length ws) t) (i - length (take at t)) (omega (arith, head_length))
      ∙ get_or-drop (at + length ws) t (i - length (take at t) - length ws) 0
      ∙ ap (λ (k : ℕ). get_or t k 0) (omega (arith, head_length))

  pub splice_here : take (length ws) (drop at (splice t at ws)) ≡ ws
  unfolding splice
  splice_here = rw (drop_at (take at t) (ws ++ drop (at + length ws) t) at head_length) (take_at ws (drop (at + length ws) t) (length ws) refl)

pub word_replicate : (n i v : ℕ) → i < n → word (replicate n v) i ≡ v
word_replicate n i v h = get_or-replicate n i v 0 h

pub word_zeros : (n i : ℕ) → word (replicate n 0) i ≡ 0
word_zeros zero i = refl
word_zeros (suc n) zero = refl
word_zeros (suc n) (suc i) = word_zeros n i

pub part_replicate : (n at size v : ℕ) → at + size ≤ n → take size (drop at (replicate n v)) ≡ replicate size v
part_replicate n at size v h =
    let l : length (take size (drop at (replicate n v))) ≡ size = simp (length-take, length-drop, length-replicate) (omega arith) in
    ext_get_or 0 (take size (drop at (replicate n v))) (replicate size v) (l ∙ sym (length-replicate size v))
    λ i b. let c : i < size = omega arith in
    rw (get_or-take size (drop at (replicate n v)) i 0 c, get_or-drop at (replicate n v), get_or-replicate n (at + i) v 0 (omega arith), get_or-replicate size i v 0 c)

pub place_words_length : (ps : List Point) → length (place_words ps) ≡ 2 * length ps
unfolding place_words
place_words_length [] = refl
place_words_length (p ∷ ps) = let h = place_words_length ps in omega arith

pub block_record_length : (ps : List Point) → length ps ≤ 8 → length (block_record ps) ≡ 17
unfolding block_record
block_record_length ps h = simp (length-append, length-replicate, place_words_length) (omega arith)

pub block_record_none : block_record [] ≡ replicate 17 0
unfolding block_record place_words
block_record_none = refl

pub run_record_none : run_record [] ≡ replicate 5 0
unfolding run_record
run_record_none = refl

pub run_record_two : (p q : Point) → run_record (p ∷ q ∷ []) ≡ 1 ∷ p.east ∷ p.north ∷ q.east ∷ q.north ∷ []
unfolding run_record place_words
run_record_two p q = refl

-- places read past a word
pub places_past : (x : ℕ) (t : List ℕ) (i c : ℕ) → places_from (x ∷ t) (suc i) c ≡ places_from t i c
unfolding places_from
places_past x t i zero = refl
places_past x t i (suc c) = rw (suc-add i 1, suc-add i 2, places_past x t (i + 2) c)

places_again : (ps : List Point) (zs : List ℕ) → places_from (place_words ps ++ zs) 0 (length ps) ≡ ps
unfolding places_from place_words
places_again [] zs = refl
places_again (p ∷ ps) zs =
    ap (λ (r : List Point). p ∷ r)
    (places_past p.east (p.north ∷ (place_words ps ++ zs)) 1 (length ps) ∙ places_past p.north (place_words ps ++ zs) 0 (length ps) ∙ places_again ps zs)

-- a block's record says its corners
pub corners_record : (ps : List Point) → corners (block_record ps) ≡ ps
unfolding block_record
corners_record ps = places_past (length ps) _ 0 (length ps) ∙ places_again ps _

-- a new block's record holds the words that were lent
pub words_again : (ws : List ℕ) → length ws % 2 ≡ 0 → place_words (places_from ws 0 (length ws / 2)) ≡ ws
unfolding place_words places_from
words_again [] h = refl
words_again (x ∷ []) h = absurd (omega arith)
words_again (x ∷ y ∷ ws) h =
    let e : suc (suc (length ws)) / 2 ≡ suc (length ws / 2) = omega arith in
    rw (e, places_past x (y ∷ ws) 1 (length ws / 2), places_past y ws 0 (length ws / 2), words_again ws (omega arith))
