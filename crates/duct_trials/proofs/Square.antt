-- The yard with square S as block 0 and one run, as words, and what S hides there.
use mathlib.Core.Path.{◌≡◌, sym, ap, ◌∙◌, subst}
use mathlib.Core.List.{List, [], ◌∷◌}
use Prim.Native.Nat.{ℕ, ◌+◌, ◌*◌, ◌-◌, ◌<◌, ◌≤◌}
use native.Mathlib.Decide.{dec_lt}
use native.Mathlib.Omega.{arith}
use lib.Dec.{lit<}
use lib.ListN.{replicate}
use lib.Seq.{get_or-drop}
use Rattle.geometry.specs.Words.{Point, point, word, block_words, places_from}
use Rattle.geometry.specs.Obstruction.{Obstructs, Hidden}
use Rattle.seams.specs.Seam.{Shared}
use Rattle.tables.specs.Tables.{Records, stored}
use Rattle.tables.proofs.Splices.{word_zeros, block_first}
use Rattle.trials.proofs.Sight.{obstructed, seen_hidden, seen_clear}
use Rattle.duct_trials.proofs.Checker.{Judges}

abbrev pub S : List Point
S = point 10 10 ∷ point 20 10 ∷ point 20 20 ∷ point 10 20 ∷ []

-- the 408 words of the block table, and the 121 of the run table
unfoldable pub blocks_s : List ℕ
blocks_s = 4 ∷ 10 ∷ 10 ∷ 20 ∷ 10 ∷ 20 ∷ 20 ∷ 10 ∷ 20 ∷ replicate 399 0

unfoldable pub one_run : Point → Point → List ℕ
one_run p q = 1 ∷ p.east ∷ p.north ∷ q.east ∷ q.north ∷ replicate 116 0

-- S, and run 0 from p to q
abbrev pub yard : Point → Point → Records
yard p q = stored blocks_s (one_run p q)

past : (k : ℕ) → word blocks_s (9 + k) ≡ 0
unfolding blocks_s
past k = sym (get_or-drop 9 blocks_s k 0) ∙ word_zeros 399 k

-- no other block is present
no_other : (n : ℕ) → 1 ≤ n → word blocks_s (17 * n) ≡ 0
no_other n h = let e : 17 * n ≡ 9 + (17 * n - 9) = omega arith in ap (word blocks_s) e ∙ past (17 * n - 9)

-- a straight is hidden where S obstructs it, and then by block 0
module _ (a b : Point) where
  by_S : Obstructs S a b → Hidden blocks_s 0 a b
  unfolding blocks_s places_from
  by_S o = record { stands = lit< tt; across = o }

  of_first : Hidden blocks_s 0 a b → Obstructs S a b
  unfolding blocks_s places_from
  of_first h = h.across

  only_S : (n : ℕ) → Hidden blocks_s n a b → Obstructs S a b
  only_S n h = elim (dec_lt 0 n) [
    | yes l ↦ absurd (omega (arith, h.stands, block_first blocks_s n, no_other n l))
    | no l ↦ let e : n ≡ 0 = omega arith in of_first (subst (λ (k : ℕ). Hidden blocks_s k a b) e h)
  ]

-- one block makes no seam
alone : (a b : Point) → Shared blocks_s a b → ⊥
alone a b h = h.different (omega (arith, first h.p h.first.stands, first h.q h.second.stands))
  where
    first : (n : ℕ) → 0 < word (block_words blocks_s n) 0 → n ≡ 0
    first n o = elim (dec_lt 0 n) [ yes l ↦ absurd (omega (arith, block_first blocks_s n, no_other n l)) | no l ↦ omega arith ]

pub square_judged : Judges blocks_s (obstructed S)
square_judged =
    record {
      hides = λ a b e c. c.seen 0 (lit< tt) (by_S a b (seen_hidden S a b e));
      clears = λ a b e. record { seen = λ n l h. seen_clear S a b e (only_S a b n h); unshared = alone a b };
    }
