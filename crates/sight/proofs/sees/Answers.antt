use Rattle.visibility.proofs.Bytes.{place_is_in_range}
use Rattle.sight.proofs.Tests.{unseen_first, unseen_second}
use Rattle.sight.proofs.sees.Goals as goal
use Rattle.sight.proofs.sees.Goals.{then-enters_own-via-then-enters_own, then-enters_own-via-else-enters_own+then-enters_own-2}

pub enters_own-requires : goal.enters_own-requires
enters_own-requires c = (c.requires.records.0, c.requires.marks.0, place_is_in_range _ _ _ c.requires.records.0.fit c.requires.marks.1 c.requires.places.1)

pub enters_own-requires-else-enters_own : goal.enters_own-requires-else-enters_own
enters_own-requires-else-enters_own c = (c.requires.records.0, c.requires.marks.1, place_is_in_range _ _ _ c.requires.records.0.fit c.requires.marks.0 c.requires.places.0)

pub returns-then-enters_own-clause-tells : goal.returns-then-enters_own-clause-tells
returns-then-enters_own-clause-tells c =
    elim c.then-enters_own.branch [
      | then-enters_own-via-then-enters_own w ↦ unseen_first _ _ _ _ _ c.requires.places.1 c.enters_own.ensures w.if-enters_own.true
      | then-enters_own-via-else-enters_own+then-enters_own-2 w ↦ unseen_second _ _ _ _ _ c.requires.places.0 w.enters_own-else-enters_own.ensures w.if-enters_own-2.true
    ]
