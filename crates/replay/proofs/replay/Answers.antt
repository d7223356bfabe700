use Rattle.replay.specs.Replay.{too_short, whole}
use native.Mathlib.Omega.{arith}
use Rattle.replay.proofs.replay.Goals as goal

pub returns-then-answers-lt4096-clause-replayed : goal.returns-then-answers-lt4096-clause-replayed
returns-then-answers-lt4096-clause-replayed c = too_short (omega arith)

pub returns-clause-replayed : goal.returns-clause-replayed
returns-clause-replayed c = whole (omega arith) c.call_edits.ensures
