use Rattle.replay.proofs.Going.{Going}
use mathlib.Core.Path.{◌≡◌}
use Prim.Native.Nat.{◌-◌}
use lib.ListN.{length}
use Rattle.tables.specs.Tables.{tables}
use Rattle.replay.proofs.call_edits.Given as goal

abbrev pub invariant-loop-item : goal.invariant-loop-item
invariant-loop-item l =
    Going l.file (tables l.initial.blocks l.initial.runs l.initial.pairs l.initial.routes l.initial.totals) l.initial.answers l.answers l.count l.at (tables l.blocks l.runs l.pairs l.routes l.totals)
    × (length l.blocks ≡ length l.initial.blocks)
    × (length l.runs ≡ length l.initial.runs)
    × (length l.pairs ≡ length l.initial.pairs)
    × (length l.routes ≡ length l.initial.routes)
    × (length l.totals ≡ length l.initial.totals)

abbrev pub decreases-loop-item : goal.decreases-loop-item
decreases-loop-item l = length l.file - l.at
