use lib.IntN.{pos}
use Rattle.geometry.proofs.Bound.{here_yes, here_no, fits_zero}
use Rattle.codes.proofs.side_of.Goals as goal

pub returns-then-t-lt0 : goal.returns-then-t-lt0
returns-then-t-lt0 c =
    let t = c.turn-t in
    rw (← t.ensures) (here_yes _ (pos 0) (record { sfits = t.type_inv }) fits_zero c.if-t-lt0.true)

pub returns-then-t-gt0 : goal.returns-then-t-gt0
returns-then-t-gt0 c =
    let t = c.turn-t in
    rw (← t.ensures) (here_yes (pos 0) _ fits_zero (record { sfits = t.type_inv }) c.if-t-gt0.true)

pub returns-else-t-gt0 : goal.returns-else-t-gt0
returns-else-t-gt0 c =
    let t = c.turn-t in
    rw (← t.ensures) (here_no _ (pos 0) (record { sfits = t.type_inv }) fits_zero c.if-t-lt0.false, here_no (pos 0) _ fits_zero (record { sfits = t.type_inv }) c.if-t-gt0.false)
