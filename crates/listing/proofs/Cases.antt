-- Which line it is, by the number of the stop and by the state of a route record.
use mathlib.Core.Path.{◌≡◌}
use mathlib.Core.List.{List, [], ◌++◌}
use Prim.Native.Nat.{ℕ}
use borrow.Author.Tests.{eq-eqb, ne_eqb}
use Rattle.geometry.specs.Words.{word}
use Rattle.listing.specs.Lines.{bytes, labelled, stop_line, way_text, run_line}

pub stop_none : (number at : ℕ) → number ≡ 0 → [] ≡ stop_line number at
unfolding stop_line
stop_none number at e = rw (eq-eqb number 0 e)

pub stop_line_lem : (number at : ℕ) → (number ≡ 0 → ⊥) → labelled "stop " number ++ labelled " at " at ++ bytes "\n" ≡ stop_line number at
unfolding stop_line
stop_line_lem number at n = rw (ne_eqb number 0 n)

pub run_none : (m : ℕ) (ws : List ℕ) → word ws 0 ≡ 0 → [] ≡ run_line m ws
unfolding run_line
run_none m ws e = rw (eq-eqb (word ws 0) 0 e)

pub run_way : (m : ℕ) (ws : List ℕ) → (word ws 0 ≡ 0 → ⊥) → word ws 0 ≡ 1 → labelled "run " m ++ way_text ws ≡ run_line m ws
unfolding run_line
run_way m ws n e = rw (ne_eqb (word ws 0) 0 n, eq-eqb (word ws 0) 1 e)

pub run_no_way : (m : ℕ) (ws : List ℕ) → (word ws 0 ≡ 0 → ⊥) → (word ws 0 ≡ 1 → ⊥) → labelled "run " m ++ bytes " no way\n" ≡ run_line m ws
unfolding run_line
run_no_way m ws n k = rw (ne_eqb (word ws 0) 0 n, ne_eqb (word ws 0) 1 k)
