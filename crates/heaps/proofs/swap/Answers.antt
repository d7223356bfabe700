use Rattle.heaps.proofs.Marks.{swapped}
use Rattle.heaps.proofs.swap.Goals as goal

pub returns : goal.returns
returns c = search swapped
