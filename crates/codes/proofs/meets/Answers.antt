use mathlib.Core.Path.{sym}
use mathlib.Core.Logic.{⊎_elim}
use native.Mathlib.Omega.{arith}
use Rattle.codes.proofs.Coded.{shared, first_inside, last_inside, not_all, met_right, met_first, met_left, met_last, met_between}
use Rattle.codes.proofs.meets.Goals as goal
use Rattle.codes.proofs.meets.Goals.{then-eq-3-via-then-eq-3, then-eq-3-via-else-eq-3+then-eq-4}

pub returns-then-ci-cj-ne0 : goal.returns-then-ci-cj-ne0
returns-then-ci-cj-ne0 c = search shared

pub returns-then-ci-eq0 : goal.returns-then-ci-eq0
returns-then-ci-eq0 c = ⊎_elim (first_inside c.requires) (λ z. last_inside c.requires z.1) c.then-ci-eq0.either

pub first-requires : goal.first-requires
first-requires c = (omega arith, not_all c.requires (omega arith) (omega arith))

pub after-requires : goal.after-requires
after-requires c = (omega arith, not_all c.requires (omega arith) (omega arith))

pub returns-then-eq : goal.returns-then-eq
returns-then-eq c = met_right c.requires c.if-ci-cj-ne0.false c.if-cj-eq0.false _ c.first.ensures _ c.corner_side-f.ensures (sym c.if-eq.ensures)

pub returns-then-eq-2 : goal.returns-then-eq-2
returns-then-eq-2 c = met_left c.requires c.if-ci-cj-ne0.false c.if-cj-eq0.false _ c.after.ensures _ c.corner_side-g.ensures (sym c.if-eq-2.ensures)

pub returns-then-eq-3 : goal.returns-then-eq-3
returns-then-eq-3 c =
    elim c.then-eq-3.branch [
      | then-eq-3-via-then-eq-3 w ↦ met_first c.requires c.if-ci-cj-ne0.false c.if-cj-eq0.false _ c.first.ensures _ c.corner_side-f.ensures (sym w.if-eq-3.ensures)
      | then-eq-3-via-else-eq-3+then-eq-4 w ↦ met_last c.requires c.if-ci-cj-ne0.false c.if-cj-eq0.false _ c.after.ensures _ c.corner_side-g.ensures (sym w.if-eq-4.ensures)
    ]

pub returns : goal.returns
returns c =
    met_between c.requires c.if-ci-cj-ne0.false c.if-cj-eq0.false _ c.after.ensures _ c.first.ensures _ _ c.corner_side-f.ensures c.corner_side-g.ensures (sym c.if-eq.ensures) (sym c.if-eq-2.ensures)
    (sym c.if-eq-3.ensures) (sym c.if-eq-4.ensures)
