use Rattle.block_bytes.proofs.Touching.{straight_apart}
use Rattle.block_bytes.proofs.Aids.straight_byte.Goals as goal

pub returns-then-self : goal.returns-then-self
returns-then-self c = straight_apart _ _ _ _ _ _ _ (rw c.in_default.is at c.look-s.ensures) (c.requires.aids.0.apart c.if-self.true)
