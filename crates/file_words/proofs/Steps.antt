-- A step in 16 bits is the step in whole numbers with sign: a coordinate inside 0 to 32,767 stays inside by both or leaves by both.
use mathlib.Core.Path.{◌≡◌, refl, ap, ◌∙◌}
use mathlib.Core.List.{List, [], ◌∷◌, map}
use mathlib.Core.Bool.{true, ◌&&◌, cond}
use Prim.Native.Nat.{ℕ, zero, suc, ◌+◌, ◌*◌, ◌-◌, ◌<◌, ◌≤◌}
use native.Mathlib.Omega.{arith}
use native.Mathlib.Decide.{dec_lt}
use lib.Dec.{leb, ltb}
use lib.IntN.{ℤ, pos, negsuc, ◌+ℤ◌, ◌-ℤ◌}
use borrow.Author.Tests.{lt-ltb, le-ltb, le-leb, leb-true}
use Rattle.lists.specs.Lists.{all}
use Rattle.file_words.specs.Words.{byte, field, stepped, step_words, corner_words, inside}
use Rattle.lists.proofs.Every.{both}
use Rattle.file_words.proofs.Corners.{step_up, step_down, words_short}

-- a byte in two's complement
unfoldable pub signed : ℕ → ℤ
signed s = cond (ltb s 128) (pos s) (pos s -ℤ pos 256)

-- coordinates by signed steps, each from the one two before it
unfoldable pub steps : List ℕ → ℕ → ℕ → ℤ → ℤ → List ℤ
steps f at zero a b = []
steps f at (suc n) a b = (a +ℤ signed (byte f at)) ∷ steps f (at + 1) n b (a +ℤ signed (byte f at))

-- each from 0 to 32,767
pub data Inside : List ℤ → Type 0 where
  none : Inside []
  more : {z : ℤ} {zs : List ℤ} (k : ℕ) → z ≡ pos k → k ≤ 32767 → Inside zs → Inside (z ∷ zs)

signed_up : (s : ℕ) → s < 128 → signed s ≡ pos s
unfolding signed
signed_up s h = rw (lt-ltb s 128 h)

signed_down : (s : ℕ) → 128 ≤ s → s < 256 → signed s ≡ negsuc (255 - s)
unfolding signed
signed_down s l h = let e : 256 - suc s ≡ 255 - s = omega arith in rw (le-ltb s 128 l, lt-ltb s 256 h, e)

low_sum : (a m : ℕ) → suc m ≤ a → pos a +ℤ negsuc m ≡ pos (a - suc m)
low_sum a m h = rw (le-ltb a (suc m) h)

under : (a m : ℕ) → a < suc m → pos a +ℤ negsuc m ≡ negsuc (suc m - suc a)
under a m h = rw (lt-ltb a (suc m) h)

module _ (a s : ℕ) (ha : a ≤ 32767) (hs : s < 256) where
  -- inside, both steps lead to one place
  pub step_same : stepped a s ≤ 32767 → pos a +ℤ signed s ≡ pos (stepped a s)
  step_same =
      elim (dec_lt s 128) [
        | yes l ↦ rw (← step_up a s l, signed_up s l) (λ h. ap pos (omega arith))
        | no l ↦ rw (← step_down a s (omega arith), signed_down s (omega arith) hs) (λ h.
            low_sum a (255 - s) (omega arith) ∙ ap pos (omega arith))
      ]

  -- and where the true place is inside, the step in 16 bits leads there
  pub step_true : (k : ℕ) → pos a +ℤ signed s ≡ pos k → k ≤ 32767 → stepped a s ≡ k
  step_true k =
      elim (dec_lt s 128) [
        | yes l ↦ rw (← step_up a s l, signed_up s l) (λ e h. let q : a + s ≡ k = cc in omega arith)
        | no l ↦ rw (← step_down a s (omega arith), signed_down s (omega arith) hs)
            (elim (dec_lt a (suc (255 - s))) [
              | yes u ↦ rw (under a (255 - s) u) (λ e h. let z : ◌≡◌ {A = ℕ} 0 1 = cc in absurd (omega arith))
              | no u ↦ rw (low_sum a (255 - s) (omega arith)) (λ e h. let q : a - suc (255 - s) ≡ k = cc in omega arith)
            ])
      ]

module _ (f : List ℕ) (bs : (i : ℕ) → byte f i < 256) where
  pub steps_inside : (at n a b : ℕ) → a ≤ 32767 → b ≤ 32767 → inside (step_words f at n a b) ≡ true → Inside (steps f at n (pos a) (pos b))
  unfolding step_words steps inside all
  steps_inside at zero a b ha hb h = none
  steps_inside at (suc n) a b ha hb h =
      let c : ℕ = stepped a (byte f at) in
      let p = both (leb c 32767) (inside (step_words f (at + 1) n b c)) h in
      let k : c ≤ 32767 = leb-true c 32767 p.0 in
      rw (step_same a (byte f at) ha (bs at) k) (more c refl k (steps_inside (at + 1) n b c hb k p.1))

  pub inside_steps : (at n a b : ℕ) → a ≤ 32767 → b ≤ 32767 → Inside (steps f at n (pos a) (pos b)) → inside (step_words f at n a b) ≡ true
  unfolding step_words steps inside all
  inside_steps at zero a b ha hb h = refl
  inside_steps at (suc n) a b ha hb (more k e m h) =
      let q : stepped a (byte f at) ≡ k = step_true a (byte f at) ha (bs at) k e m in
      rw (q, le-leb k 32767 m) (inside_steps (at + 1) n b k hb m (rw e at h))

  steps_same : (at n a b : ℕ) → a ≤ 32767 → b ≤ 32767 → inside (step_words f at n a b) ≡ true → map pos (step_words f at n a b) ≡ steps f at n (pos a) (pos b)
  unfolding step_words steps inside all
  steps_same at zero a b ha hb h = refl
  steps_same at (suc n) a b ha hb h =
      let c : ℕ = stepped a (byte f at) in
      let p = both (leb c 32767) (inside (step_words f (at + 1) n b c)) h in
      let k : c ≤ 32767 = leb-true c 32767 p.0 in
      rw (step_same a (byte f at) ha (bs at) k, steps_same (at + 1) n b c hb k p.1)

  -- a corner in full and those that are counted from it, in words and in whole numbers with sign
  from_signed : (at n a b : ℕ) → inside (a ∷ b ∷ step_words f at n a b) ≡ true
      → (map pos (a ∷ b ∷ step_words f at n a b) ≡ pos a ∷ pos b ∷ steps f at n (pos a) (pos b)) × Inside (pos a ∷ pos b ∷ steps f at n (pos a) (pos b))
  unfolding inside all
  from_signed at n a b h =
      let p = both (leb a 32767) (leb b 32767 && inside (step_words f at n a b)) h in
      let q = both (leb b 32767) (inside (step_words f at n a b)) p.1 in
      let ha = leb-true a 32767 p.0 in
      let hb = leb-true b 32767 q.0 in
      (rw (steps_same at n a b ha hb q.1), more a refl ha (more b refl hb (steps_inside at n a b ha hb q.1)))

  signed_from : (at n a b : ℕ) → Inside (pos a ∷ pos b ∷ steps f at n (pos a) (pos b)) → inside (a ∷ b ∷ step_words f at n a b) ≡ true
  unfolding inside all
  signed_from at n a b (more k e m (more l g o h)) =
      let ea : a ≡ k = cc in
      let eb : b ≡ l = cc in
      rw (le-leb a 32767 (omega arith), le-leb b 32767 (omega arith), inside_steps at n a b (omega arith) (omega arith) h)

-- the corners of a block of version 2, counted in whole numbers with sign
unfoldable pub signed_corners : List ℕ → ℕ → List ℤ
signed_corners f at =
    pos (field f (at + 1)) ∷ pos (field f (at + 3)) ∷ steps f (at + 5) (2 * byte f at - 2) (pos (field f (at + 1))) (pos (field f (at + 3)))

-- the words of the corners lie inside just where these do, and are these then
module _ (f : List ℕ) (bs : (i : ℕ) → byte f i < 256) (at : ℕ) (version : byte f 3 ≡ 1 → ⊥) (some : byte f at ≡ 0 → ⊥) where
  pub corners_signed : inside (corner_words f at) ≡ true → (map pos (corner_words f at) ≡ signed_corners f at) × Inside (signed_corners f at)
  unfolding signed_corners
  corners_signed = rw (words_short f at version some) (from_signed f bs (at + 5) (2 * byte f at - 2) (field f (at + 1)) (field f (at + 3)))

  pub signed_corners_lem : Inside (signed_corners f at) → inside (corner_words f at) ≡ true
  unfolding signed_corners
  signed_corners_lem = rw (words_short f at version some) (signed_from f bs (at + 5) (2 * byte f at - 2) (field f (at + 1)) (field f (at + 3)))
