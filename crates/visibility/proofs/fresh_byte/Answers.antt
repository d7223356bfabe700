use mathlib.Core.Bool.{and-false}
use mathlib.Core.Path.{refl, sym, ◌∙◌}
use borrow.Author.Tests.{not-true}
use Rattle.tables.specs.Tables.{present, stored}
use Rattle.visibility.specs.Visibility.{absent}
use Rattle.visibility.proofs.Bytes.{place_is_in_range, absent_low}
use Rattle.visibility.proofs.fresh_byte.Goals as goal
use Rattle.visibility.proofs.fresh_byte.Goals.{then-not-is_present-via-then-not-is_present, then-not-is_present-via-else-not-is_present+then-not-is_present-2}

pub returns-then-not-is_present : goal.returns-then-not-is_present
returns-then-not-is_present c =
    elim c.then-not-is_present.branch [
      | then-not-is_present-via-then-not-is_present w ↦ absent (rw (sym c.is_present.ensures ∙ not-true _ w.if-not-is_present.true-raw) (and-false (present (stored c.args.blocks.now c.args.runs.now) c.args.i))) refl
      | then-not-is_present-via-else-not-is_present+then-not-is_present-2 w ↦ absent (absent_low _ _ _ _ w.is_present-else-not-is_present.ensures (not-true _ w.if-not-is_present-2.true-raw)) refl
    ]

pub straight_byte-requires-clause-ends : goal.straight_byte-requires-clause-ends
straight_byte-requires-clause-ends c = (
  place_is_in_range _ _ _ c.requires.0 c.requires.2 c.place_of-a.ensures,
  place_is_in_range _ _ _ c.requires.0 c.requires.3 c.place_of-b.ensures,
)
