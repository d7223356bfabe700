use Rattle.pieces.proofs.Rows.{origin_spot}
use Rattle.drawn_routes.proofs.nowhere.Goals as goal

pub returns : goal.returns
returns c = search origin_spot
