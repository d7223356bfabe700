use Rattle.std.proofs.Common.{ap}
use Rattle.std.proofs.lemmas.Result.{err_from_is_err_and}
use Rattle.refusals.specs.Numbers.{number_of}
use Rattle.file_calls.proofs.Replays.{no_end, no_room, replay_ends}
use Rattle.file_calls.proofs.replay_into.Goals as goal

pub returns-then-end-ne2 : goal.returns-then-end-ne2
returns-then-end-ne2 c = search no_end

pub returns-in_err-outcome : goal.returns-in_err-outcome
returns-in_err-outcome c =
    let p = err_from_is_err_and c.from_residual.result c.from_residual.ensures.1 in
    rw (p.1, p.2, c.in_err-outcome.ensures.refused) (no_room _ _ _ _ _ _ _ _ _ c.in_err-outcome.ensures.replayed (ap number_of c.in_err-outcome.ensures.refused))

pub returns-in-Some : goal.returns-in-Some
returns-in-Some c =
    let h = rw c.in-Some.is at c.in_ok-outcome.ensures.replayed in
    replay_ends _ _ _ _ _ _ _ _ _ _ c.if-end-ne2.false c.in_ok-outcome.ensures.refused h c.copy_from_slice.ensures.after

pub returns-in-None : goal.returns-in-None
returns-in-None c =
    let h = rw c.in-None.is at c.in_ok-outcome.ensures.replayed in
    replay_ends _ _ _ _ _ _ _ _ _ _ c.if-end-ne2.false c.in_ok-outcome.ensures.refused h c.copy_from_slice.ensures.after
