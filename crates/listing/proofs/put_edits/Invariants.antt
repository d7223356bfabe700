use Prim.Native.Nat.{◌+◌, ◌*◌}
use Rattle.geometry.specs.Words.{word}
use Rattle.listing.specs.Lines.{joined, edit_line}
use Rattle.listing.specs.inner.Put.{Put}
use Rattle.listing.proofs.put_edits.Given as goal

abbrev pub invariant-loop-i : goal.invariant-loop-i
invariant-loop-i l = Put (54 * l.i) l.initial.out 0 (joined l.i (λ i. edit_line (i + 1) (word l.answers i))) l.out l.end
