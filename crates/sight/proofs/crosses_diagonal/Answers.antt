use Rattle.sight.proofs.Tests.{one_way, other_way}
use Rattle.sight.proofs.crosses_diagonal.Goals as goal

pub returns-then-crosses : goal.returns-then-crosses
returns-then-crosses c =
    λ t. one_way c.args.words.now c.args.i c.args.j c.requires.1 c.requires.2 c.requires.3 c.requires.4 _ _ _ _ c.corner-c.ensures.0 c.corner-c.ensures.1 c.corner-d.ensures.0 c.corner-d.ensures.1
    (c.crosses.ensures t)

pub returns-else-crosses : goal.returns-else-crosses
returns-else-crosses c =
    λ t. other_way c.args.words.now c.args.i c.args.j c.requires.1 c.requires.2 c.requires.3 c.requires.4 _ _ _ _ c.corner-c.ensures.0 c.corner-c.ensures.1 c.corner-d.ensures.0 c.corner-d.ensures.1
    (c.crosses-else-crosses.ensures t)
