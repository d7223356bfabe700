use Rattle.seam_search.proofs.Walking.{both_numbers, after_none, after_joined, after_shut}
use Rattle.seam_search.proofs.shared_after.Goals as goal

pub returns-then-w-eq0 : goal.returns-then-w-eq0
returns-then-w-eq0 c = after_none _ _ _ c.both-w.ensures c.if-w-eq0.true

pub joined_among-requires-clause-blocks : goal.joined_among-requires-clause-blocks
joined_among-requires-clause-blocks c = (c.requires.blocks.0, both_numbers _ _ _ c.both-w.ensures c.requires.touched)

pub returns-in-Some : goal.returns-in-Some
returns-in-Some c = after_joined _ _ _ c.both-w.ensures c.in-Some.ensures c.requires.touched c.joined_among.ensures

pub returns-in-None : goal.returns-in-None
returns-in-None c = after_shut c.in-None.ensures
