use mathlib.Core.Path.{◌≡◌}
use Rattle.geometry.specs.Words.{word}
use Rattle.bits.specs.inner.Bits.{bit}
use Rattle.mark_rows.proofs.Words.{Part}
use Rattle.corner_words.proofs.left_word.Given as goal

abbrev pub invariant-loop-k : goal.invariant-loop-k
invariant-loop-k l = Part (λ u. bit l.b (word l.codes u) ≡ 0) l.q l.k l.w
