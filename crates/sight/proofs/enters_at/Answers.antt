use Rattle.sight.proofs.Tests.{enters_record}
use Rattle.sight.proofs.enters_at.Goals as goal

pub returns-then-is_left : goal.returns-then-is_left
returns-then-is_left c e =
    enters_record c.args.words.now c.args.k _ _ c.requires.1 c.requires.2 c.before-then-is_left.ensures.0 c.before-then-is_left.ensures.1
    (c.is_left.ensures.yes' c.if-is_left.true) (c.is_left-then-is_left.ensures.yes' e)
