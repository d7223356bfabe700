use Rattle.drawn_routes.proofs.Filling.{into_kind}
use Rattle.drawn_routes.proofs.fill_bend.Goals as goal

pub returns-then-kind-ne1 : goal.returns-then-kind-ne1
returns-then-kind-ne1 c = search into_kind
