use mathlib.Core.Bool.{true≢false}
use mathlib.Core.Path.{sym, ◌∙◌}
use borrow.Author.Tests.{eq-eqb, eqb-true}
use Rattle.geometry.specs.Words.{point_of}
use Rattle.geometry.proofs.Bound.{read}
use Rattle.geometry.proofs.Corners.{corner_read, corner_in_range}
use Rattle.geometry.proofs.Convexities.{side_same, side_next, side_left}
use Rattle.geometry.proofs.is_left.Goals as goal
use Rattle.geometry.proofs.is_left.Goals.{then-l-k, else-l-k}

pub returns-then-l-next : goal.returns-then-l-next
returns-then-l-next c =
    elim c.if-l-k.branch [
      | then-l-k w ↦ c.if-l-next.true ∙ side_same _ _ _ w.if-l-k.true
      | else-l-k w ↦ c.if-l-next.true ∙ side_next _ _ _ w.next.ensures.value (eqb-true _ _ (sym w.value-is ∙ c.if-l-next.true))
    ]

pub side-requires : goal.side-requires
side-requires c =
    (c.requires.0, c.requires.1, rw (corner_read c.args.words.now (point_of c.corner.result) c.args.l c.requires.2 c.corner.ensures.0 c.corner.ensures.1) (corner_in_range _ c.requires.0 _ c.requires.2))

pub returns-else-l-next : goal.returns-else-l-next
returns-else-l-next c =
    elim c.if-l-k.branch [
      | then-l-k w ↦ absurd (true≢false (sym (eq-eqb _ _ w.if-l-k.true) ∙ (sym w.value-is ∙ c.if-l-next.false)))
      | else-l-k w ↦ side_left _ _ _ w.next.ensures.value w.if-l-k.false (λ e. true≢false (sym (w.value-is ∙ eq-eqb _ _ e) ∙ c.if-l-next.false))
          (corner_read _ _ _ c.requires.2 c.corner.ensures.0 c.corner.ensures.1) (read c.side.type_inv c.side.ensures.value)
    ]
