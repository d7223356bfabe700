use Prim.Native.Nat.{◌≤◌}
use Rattle.tables.specs.Tables.{stored}
use Rattle.search.specs.inner.Parts.{Places}
use Rattle.search.proofs.list_places.Given as goal

abbrev pub invariant-loop-i : goal.invariant-loop-i
invariant-loop-i l = (l.i ≤ 240) × Places (stored l.blocks l.runs) l.places l.i
