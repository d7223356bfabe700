-- A straight that is clear is so from either end, and its ends are places that are clear.
use mathlib.Core.Logic.{⊎_elim}
use mathlib.Core.List.{List}
use Prim.Native.Nat.{ℕ, suc}
use native.Mathlib.Omega.{arith}
use lib.IntN.{ℤ, pos}
use lib.Signed.{◌<ℤ◌}
use lib.ListN.{length}
use Rattle.geometry.specs.Words.{Point, block_words, corners}
use Rattle.geometry.specs.Obstruction.{side_turn, Obstructs}
use Rattle.geometry.specs.inner.Sides.{In}
use Rattle.geometry.proofs.Signed.{◌⊖◌, diff, undiff, positive, ⊖-lt, below_or_not}
use Rattle.geometry.proofs.Weights.{in_neither, enters_of, of_enters}
use Rattle.geometry.proofs.Obstructing.{by_turns, of_turns, hidden_sym}
use Rattle.seams.proofs.Seams.{shared_sym, shared_end}
use Rattle.visibility.specs.Visibility.{Clear}

last_in : (x y : ℤ) → pos 0 <ℤ y → In 0 1 x y
last_in x y y₀ = positive (λ y. In 0 1 x y) (λ b. undiff (λ x. In 0 1 x (suc b ⊖ 0)) (λ a a'. simp diff (⊖-lt _ _ _ _ (omega arith))) x) y y₀

end_in : (u s : ℕ) (x y : ℤ) → In u s y y → In 0 1 x y
end_in u s x y h = ⊎_elim (λ l. last_in x y l) (λ l. absurd (in_neither u s y y l l h)) (below_or_not (pos 0) y)

obstructs_end : (ps : List Point) (a b : Point) → Obstructs ps b b → Obstructs ps a b
obstructs_end ps a b h =
    let e = of_enters (length ps) (side_turn ps b) (side_turn ps b) (by_turns ps b b h) in
    of_turns ps a b (enters_of (length ps) (side_turn ps a) (side_turn ps b) 0 1 (omega arith) (λ k l. end_in e.0 e.1 (side_turn ps a k) (side_turn ps b k) (e.3 k l)))

pub clear_sym : {blocks : List ℕ} {a b : Point} → Clear blocks a b → Clear blocks b a
clear_sym {blocks} {a} {b} c = record { seen = λ n l h. c.seen n l (hidden_sym blocks n b a h); unshared = λ h. c.unshared (shared_sym blocks b a h) }

pub clear_end : {blocks : List ℕ} {a b : Point} → Clear blocks a b → Clear blocks b b
clear_end {blocks} {a} {b} c =
    record {
      seen = λ n l h. c.seen n l (record { stands = h.stands; across = obstructs_end (corners (block_words blocks n)) a b h.across });
      unshared = λ h. c.unshared (shared_sym blocks b a (shared_end blocks b a h));
    }
