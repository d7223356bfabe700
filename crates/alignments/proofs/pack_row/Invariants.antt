use Rattle.alignments.specs.inner.Lined.{PackedTo}
use Rattle.alignments.proofs.pack_row.Given as goal

abbrev pub invariant-loop-i : goal.invariant-loop-i
invariant-loop-i l = PackedTo l.row l.n l.initial.lines l.lines l.i
