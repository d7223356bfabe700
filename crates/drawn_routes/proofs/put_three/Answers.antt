use Rattle.drawn_routes.proofs.Filling.{three_put}
use Rattle.drawn_routes.proofs.put_three.Goals as goal

pub returns : goal.returns
returns c = search three_put
