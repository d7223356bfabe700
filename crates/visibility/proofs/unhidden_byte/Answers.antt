use Rattle.visibility.proofs.Bytes.{straight_shared, straight_open}
use Rattle.visibility.proofs.unhidden_byte.Goals as goal

pub returns-then-shared : goal.returns-then-shared
returns-then-shared c = search straight_shared

pub returns-else-shared : goal.returns-else-shared
returns-else-shared c = search straight_open
