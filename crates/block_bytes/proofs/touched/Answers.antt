use Rattle.block_bytes.proofs.Touching.{touched_word}
use Rattle.block_bytes.proofs.touched.Goals as goal

pub returns : goal.returns
returns c = touched_word _ _ _
