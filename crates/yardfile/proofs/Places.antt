-- Question 22, for each way out of the code.
use mathlib.Core.Path.{◌≡◌, sym, ◌∙◌}
use mathlib.Core.List.{List, []}
use mathlib.Core.Bool.{Bool, true}
use Prim.Native.Nat.{ℕ, ◌+◌, ◌≤◌}
use native.Mathlib.Omega.{arith}
use lib.ListN.{length}
use borrow.Author.Tests.{eq-eqb, ne_eqb}
use Rattle.file_words.specs.Words.{byte, block_size, corner_words, inside}
use Rattle.yardfile.specs.File.{body_size, corners_right}
use Rattle.file_words.proofs.Corners.{words_empty, inside_yes}
use Rattle.yardfile.proofs.Cases.{body_block}

module _ (f : List ℕ) (at : ℕ) where
  pub right_other : (k : ℕ) → k ≡ byte f at → (k ≡ 1 → ⊥) → true ≡ corners_right f at
  unfolding corners_right
  right_other k e h = rw (ne_eqb (byte f at) 1 (λ z. h (e ∙ z)))

  module _ (k : ℕ) (e : k ≡ byte f at) (one : k ≡ 1) where
    pub right_full : (v : ℕ) → v ≡ byte f 3 → (v ≡ 2 → ⊥) → true ≡ corners_right f at
    unfolding corners_right
    right_full v p h = rw (eq-eqb (byte f at) 1 (sym e ∙ one), ne_eqb (byte f 3) 2 (λ z. h (p ∙ z)))

    pub right_short : (v : ℕ) (t : Bool) (ws : List ℕ) → v ≡ byte f 3 → v ≡ 2 → ws ≡ corner_words f (at + 2) → t ≡ inside ws → t ≡ corners_right f at
    unfolding corners_right
    right_short v t ws p h q r = rw (eq-eqb (byte f at) 1 (sym e ∙ one), eq-eqb (byte f 3) 2 (sym p ∙ h)) (rw q at r)

    pub right_none : (v c : ℕ) → v ≡ byte f 3 → v ≡ 2 → c ≡ byte f (at + 2) → c ≡ 0 → true ≡ corners_right f at
    right_none v c p h q z = right_short v true [] p h (sym (words_empty f (at + 2) (λ y. omega arith) (sym q ∙ z))) (inside_yes [] 0 (omega arith) (λ k l. absurd (omega arith)))

    pub block_inside : at + 2 + body_size f at ≤ length f → at + 2 + block_size (byte f 3) (byte f (at + 2)) ≤ length f
    block_inside h = omega (arith, body_block f at (sym e ∙ one))
