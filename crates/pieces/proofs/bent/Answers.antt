use Rattle.lists.proofs.Telling.{denied}
use Rattle.pieces.proofs.Pieces.{bent_none, bent_bend}
use Rattle.pieces.proofs.bent.Goals as goal

pub returns-then-not-is_bend : goal.returns-then-not-is_bend
returns-then-not-is_bend c = search (bent_none, denied)

pub returns : goal.returns
returns c = bent_bend _ _ c.requires.0 _ _ _ _ _ (c.is_bend.ensures.yes' c.if-not-is_bend.false) c.mark_place-a.ensures c.mark_place-p.ensures c.mark_place-c.ensures c.put_curve.ensures
