use Rattle.alignments.specs.inner.Lined.{LinesOf}
use Rattle.alignments.proofs.fill_lines.Given as goal

abbrev pub invariant-loop-n : goal.invariant-loop-n
invariant-loop-n l = LinesOf l.blocks l.places.east l.places.north l.masks l.lines l.n
