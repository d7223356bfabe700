use mathlib.Core.Path.{◌∙◌, ap}
use mathlib.Core.Bool.{not}
use Prim.Native.Nat.{◌<◌}
use native.Mathlib.Omega.{arith}
use borrow.Author.Tests.{lt-ltb, eq-eqb}
use Rattle.lengths.proofs.Charges.{dearer_free, dearer_figure, dearer_length}
use Rattle.lengths.proofs.dearer.Goals as goal

pub returns-else-square-ne0 : goal.returns-else-square-ne0
returns-else-square-ne0 c = ap not (eq-eqb _ 0 c.if-square-ne0.false) ∙ dearer_free _ _ _ c.if-square-ne0.false

pub returns-then-most-figure : goal.returns-then-most-figure
returns-then-most-figure c =
    let h : c.args.most < c.args.figure = omega arith in
    lt-ltb _ _ h ∙ dearer_figure _ _ _ c.if-square-ne0.true h

pub returns-else-most-figure : goal.returns-else-most-figure
returns-else-most-figure c = search dearer_length
