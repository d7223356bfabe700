use mathlib.Core.Bool.{true≢false}
use mathlib.Core.Path.{sym, ◌∙◌}
use lib.IntN.{pos}
use Rattle.geometry.proofs.Bound.{here_yes, here_no, fits_zero, turn_fits}
use Rattle.geometry.proofs.Narrowing.{parts, steeper_yes, steeper_no}
use Rattle.lists.proofs.Telling.{tells_yes}
use Rattle.geometry.proofs.Weights.{meet_first, meet_last}
use Rattle.geometry.proofs.Span.parted.Goals as goal
use Rattle.geometry.proofs.Span.parted.Goals.{then-self-gt0, else-self-gt0}

pub returns-then-self-gt0-2 : goal.returns-then-self-gt0-2
returns-then-self-gt0-2 c =
    rw c.if-self-gt0-2.true
    (tells_yes
    (elim c.if-self-gt0.branch [
      | then-self-gt0 w ↦ meet_first _ _ _ _ (here_yes (pos 0) _ fits_zero (turn_fits c.requires.small.small_l) w.if-self-gt0.true) c.requires.above.1
      | else-self-gt0 w ↦ meet_last _ _ _ _ c.requires.above.0 (here_yes (pos 0) _ fits_zero (turn_fits c.requires.small.small_q) (sym w.value-is ∙ c.if-self-gt0-2.true))
    ]))

pub returns-else-self-gt0-2 : goal.returns-else-self-gt0-2
returns-else-self-gt0-2 c =
    let fl = turn_fits c.requires.small.small_l in
    let fr = turn_fits c.requires.small.small_r in
    let fp = turn_fits c.requires.small.small_p in
    let fq = turn_fits c.requires.small.small_q in
    elim c.if-self-gt0.branch [
      | then-self-gt0 w ↦ absurd (true≢false (sym w.if-self-gt0.true ∙ (sym w.value-is ∙ c.if-self-gt0-2.false)))
      | else-self-gt0 w ↦ parts _ _ _ _ c.steeper.result
          (here_no (pos 0) _ fits_zero fl w.if-self-gt0.false)
          (here_no (pos 0) _ fits_zero fq (sym w.value-is ∙ c.if-self-gt0-2.false))
          c.requires.above.0
          c.requires.above.1
          (steeper_yes _ _ _ _ fl fr fp fq c.steeper.ensures)
          (steeper_no _ _ _ _ fl fr fp fq c.steeper.ensures)
    ]
