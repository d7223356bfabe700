use mathlib.Core.Bool.{true≢false}
use mathlib.Core.Path.{sym, ◌∙◌}
use Rattle.neighbours.proofs.Answers.{divided_east, divided_north}
use Rattle.neighbours.proofs.is_apart.Goals as goal
use Rattle.neighbours.proofs.is_apart.Goals.{then-is_solid, else-is_solid}

pub returns-then-is_divided : goal.returns-then-is_divided
returns-then-is_divided c e =
    elim c.if-is_solid.branch [
      | then-is_solid w ↦ divided_east (c.is_solid.ensures w.if-is_solid.true) (w.is_solid-then-is_solid.ensures (sym w.value-is ∙ c.if-is_solid-2.true)) (c.is_divided.ensures e)
      | else-is_solid w ↦ absurd (true≢false (sym c.if-is_solid-2.true ∙ w.value-is ∙ w.if-is_solid.false))
    ]

pub returns-else-is_divided : goal.returns-else-is_divided
returns-else-is_divided c e =
    elim c.if-is_solid.branch [
      | then-is_solid w ↦ divided_north (c.is_solid.ensures w.if-is_solid.true) (w.is_solid-then-is_solid.ensures (sym w.value-is ∙ c.if-is_solid-2.true)) (c.is_divided-else-is_divided.ensures e)
      | else-is_solid w ↦ absurd (true≢false (sym c.if-is_solid-2.true ∙ w.value-is ∙ w.if-is_solid.false))
    ]
