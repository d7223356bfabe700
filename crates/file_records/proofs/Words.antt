-- Words and steps, written and read back.
use mathlib.Core.Path.{◌≡◌, refl, sym, ap, ◌∙◌}
use mathlib.Core.List.{List, [], ◌∷◌, ◌++◌}
use mathlib.Core.Bool.{true}
use Prim.Native.Nat.{ℕ, zero, suc, ◌+◌, ◌*◌, ◌-◌, ◌/◌, ◌%◌, ◌<◌, ◌≤◌}
use native.Mathlib.Omega.{arith}
use native.Mathlib.Numerals.{add-one}
use native.Mathlib.Decide.{dec_lt}
use lib.Dec.{leb}
use lib.ListN.{length, get_or, drop}
use lib.Seq.{drop-cons, drop-drop, get_or-drop}
use borrow.Author.Tests.{le-leb, leb-true}
use Rattle.lists.specs.Lists.{all}
use Rattle.lists.proofs.Every.{both}
use Rattle.file_words.specs.Words.{byte, field, fields_from, stepped, step_words, inside}
use Rattle.file_words.proofs.Corners.{step_up, step_down}
use Rattle.file_records.specs.Records.{word_bytes, step_byte, step_bytes}
use Rattle.file_records.specs.Conversions.{step_near, near_from}

-- a list of bytes
abbrev pub Bytes : List ℕ → Type 0
Bytes f = (i : ℕ) → byte f i < 256

pub one_at : (f : List ℕ) (at a : ℕ) (t : List ℕ) → drop at f ≡ a ∷ t → (byte f at ≡ a) × (drop (at + 1) f ≡ t)
one_at f at a t h =
    let e : at + 0 ≡ at = omega arith in
    let g = rw e at (get_or-drop at f 0 0) in
    (sym g ∙ ap (λ (l : List ℕ). get_or l 0 0) h, sym (drop-drop 1 at f) ∙ ap (λ (l : List ℕ). drop 1 l) h)

pub two_at : (f : List ℕ) (at a b : ℕ) (t : List ℕ) → drop at f ≡ a ∷ b ∷ t → (byte f at ≡ a) × (byte f (at + 1) ≡ b) × (drop (at + 2) f ≡ t)
two_at f at a b t h =
    let p = one_at f at a (b ∷ t) h in
    let q = one_at f (at + 1) b t p.1 in
    let e : at + 1 + 1 ≡ at + 2 = omega arith in
    (p.0, q.0, rw e at q.1)

pub drop_one : (f : List ℕ) (at : ℕ) → at < length f → drop at f ≡ byte f at ∷ drop (at + 1) f
drop_one f at h = rw (add-one at) (drop-cons f at 0 h)

pub drop_two : (f : List ℕ) (at : ℕ) → at + 1 < length f → drop at f ≡ byte f at ∷ byte f (at + 1) ∷ drop (at + 2) f
drop_two f at h =
    let e : at + 1 + 1 ≡ at + 2 = omega arith in
    rw (← e) (drop_one f at (omega arith) ∙ ap (λ (l : List ℕ). byte f at ∷ l) (drop_one f (at + 1) h))

-- words
pub fields_print : (f : List ℕ) (b : Bytes f) (at n : ℕ) → at + 2 * n ≤ length f → drop at f ≡ word_bytes (fields_from f at n) ++ drop (at + 2 * n) f
unfolding fields_from word_bytes
fields_print f b at zero h = let e : at + 2 * 0 ≡ at = omega arith in rw e
fields_print f b at (suc n) h =
    let lo : field f at % 256 ≡ byte f at = omega (arith, b at) in
    let hi : field f at / 256 ≡ byte f (at + 1) = omega (arith, b at) in
    let e : at + 2 + 2 * n ≡ at + 2 * suc n = omega arith in
    rw (lo, hi, ← e) (drop_two f at (omega arith) ∙ ap (λ (l : List ℕ). byte f at ∷ byte f (at + 1) ∷ l) (fields_print f b (at + 2) n (omega arith)))

pub fields_parse : (f : List ℕ) (at : ℕ) (ws rest : List ℕ) → drop at f ≡ word_bytes ws ++ rest
    → (fields_from f at (length ws) ≡ ws) × (drop (at + 2 * length ws) f ≡ rest)
unfolding fields_from word_bytes
fields_parse f at [] rest h = let e : at + 2 * 0 ≡ at = omega arith in (refl, rw e h)
fields_parse f at (w ∷ ws) rest h =
    let t = two_at f at (w % 256) (w / 256) (word_bytes ws ++ rest) h in
    let i = fields_parse f (at + 2) ws rest t.2 in
    let e : at + 2 + 2 * length ws ≡ at + 2 * suc (length ws) = omega arith in
    let v : field f at ≡ w = omega (arith, t.0, t.1) in
    (rw (v, i.0), rw e at i.1)

pub words_size : (ws : List ℕ) → length (word_bytes ws) ≡ 2 * length ws
unfolding word_bytes
words_size [] = refl
words_size (w ∷ ws) = rw (words_size ws) (omega arith)

-- steps
pub step_back : (a s : ℕ) → a < 65536 → s < 256 → step_byte a (stepped a s) ≡ s
unfolding step_byte
step_back a s ha hs =
    elim (dec_lt s 128) [
      | yes l ↦ rw (← step_up a s l) (omega arith)
      | no l ↦ rw (← step_down a s (omega arith)) (omega arith)
    ]

pub stepped_small : (a s : ℕ) → stepped a s < 65536
stepped_small a s =
    elim (dec_lt s 128) [
      | yes l ↦ rw (← step_up a s l) (omega arith)
      | no l ↦ rw (← step_down a s (omega arith)) (omega arith)
    ]

pub step_there : (a c : ℕ) → a ≤ 32767 → c ≤ 32767 → step_near a c ≡ true → stepped a (step_byte a c) ≡ c
unfolding step_byte
step_there a c ha hc h =
    let n = both (leb c (a + 127)) (leb a (c + 128)) h in
    let u : c ≤ a + 127 = leb-true c (a + 127) n.0 in
    let d : a ≤ c + 128 = leb-true a (c + 128) n.1 in
    elim (dec_lt c a) [
      | no l ↦
          let e : (65536 + c - a) % 256 ≡ c - a = omega arith in
          rw (e, ← step_up a (c - a) (omega arith)) (omega arith)
      | yes l ↦
          let e : (65536 + c - a) % 256 ≡ 256 + c - a = omega arith in
          rw (e, ← step_down a (256 + c - a) (omega arith)) (omega arith)
    ]

pub step_near_lem : (a s : ℕ) → a ≤ 32767 → s < 256 → stepped a s ≤ 32767 → step_near a (stepped a s) ≡ true
step_near_lem a s ha hs =
    elim (dec_lt s 128) [
      | yes l ↦ rw (← step_up a s l) (λ h.
          let e : (a + s) % 65536 ≡ a + s = omega arith in
          rw (e, le-leb (a + s) (a + 127) (omega arith), le-leb a (a + s + 128) (omega arith)))
      | no l ↦ rw (← step_down a s (omega arith)) (λ h.
          let e : (a + (65280 + s)) % 65536 ≡ a + s - 256 = omega arith in
          rw (e, le-leb (a + s - 256) (a + 127) (omega arith), le-leb a (a + s - 256 + 128) (omega arith)))
    ]

pub steps_print : (f : List ℕ) (bs : Bytes f) (at n a b : ℕ) → a < 65536 → b < 65536 → at + n ≤ length f
    → drop at f ≡ step_bytes a b (step_words f at n a b) ++ drop (at + n) f
unfolding step_words step_bytes
steps_print f bs at zero a b ha hb h = let e : at + 0 ≡ at = omega arith in rw e
steps_print f bs at (suc n) a b ha hb h =
    let e : at + 1 + n ≡ at + suc n = omega arith in
    rw (step_back a (byte f at) ha (bs at), ← e)
    (drop_one f at (omega arith) ∙ ap (λ (l : List ℕ). byte f at ∷ l) (steps_print f bs (at + 1) n b (stepped a (byte f at)) hb (stepped_small a (byte f at)) (omega arith)))

pub steps_near : (f : List ℕ) (bs : Bytes f) (at n a b : ℕ) → a ≤ 32767 → b ≤ 32767 → inside (step_words f at n a b) ≡ true → near_from a b (step_words f at n a b) ≡ true
unfolding step_words inside all near_from
steps_near f bs at zero a b ha hb h = refl
steps_near f bs at (suc n) a b ha hb h =
    let c : ℕ = stepped a (byte f at) in
    let p = both (leb c 32767) (inside (step_words f (at + 1) n b c)) h in
    let k : c ≤ 32767 = leb-true c 32767 p.0 in
    rw (step_near_lem a (byte f at) ha (bs at) k) (steps_near f bs (at + 1) n b c hb k p.1)

pub steps_parse : (f : List ℕ) (at a b : ℕ) (ws rest : List ℕ) → a ≤ 32767 → b ≤ 32767 → inside ws ≡ true → near_from a b ws ≡ true
    → drop at f ≡ step_bytes a b ws ++ rest → (step_words f at (length ws) a b ≡ ws) × (drop (at + length ws) f ≡ rest)
unfolding step_words step_bytes inside all near_from
steps_parse f at a b [] rest ha hb hi hn h = let e : at + 0 ≡ at = omega arith in (refl, rw e h)
steps_parse f at a b (c ∷ ws) rest ha hb hi hn h =
    let p = both (leb c 32767) (inside ws) hi in
    let q = both (step_near a c) (near_from b c ws) hn in
    let t = one_at f at (step_byte a c) (step_bytes b c ws ++ rest) h in
    let k : c ≤ 32767 = leb-true c 32767 p.0 in
    let v : stepped a (byte f at) ≡ c = rw t.0 (step_there a c ha k q.0) in
    let i = steps_parse f (at + 1) b c ws rest hb k p.1 q.1 t.1 in
    let e : at + 1 + length ws ≡ at + suc (length ws) = omega arith in
    (rw (v, i.0), rw e at i.1)

pub steps_size : (a b : ℕ) (ws : List ℕ) → length (step_bytes a b ws) ≡ length ws
unfolding step_bytes
steps_size a b [] = refl
steps_size a b (c ∷ ws) = ap suc (steps_size b c ws)
