use borrow.Author.Rules.{rules}
use Rattle.geometry.proofs.Searching.{part_bounded}
use Rattle.alignments.proofs.Marking.{blank_new, lines_alone, lines_added}
use Rattle.alignments.proofs.add_lines.Goals as goal

pub returns-then-masks-n-eq0 : goal.returns-then-masks-n-eq0
returns-then-masks-n-eq0 c = search lines_alone

pub mark_sides-requires : goal.mark_sides-requires
mark_sides-requires c = search (part_bounded, blank_new, rules)

pub returns : goal.returns
returns c = search lines_added
