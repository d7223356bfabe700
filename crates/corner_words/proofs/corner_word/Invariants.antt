use mathlib.Core.Path.{◌≡◌}
use mathlib.Core.Bool.{true}
use Rattle.tables.specs.Tables.{is_corner}
use Rattle.mark_rows.proofs.Words.{Part}
use Rattle.corner_words.proofs.corner_word.Given as goal

abbrev pub invariant-loop-k : goal.invariant-loop-k
invariant-loop-k l = Part (λ u. is_corner l.blocks u ≡ true) l.q l.k l.w
