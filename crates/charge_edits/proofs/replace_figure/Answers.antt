use borrow.Author.Rules.{rules}
use Rattle.totals.proofs.Summing.{routed_addable}
use Rattle.tables.proofs.Replacing.{figure_fit}
use Rattle.charge_edits.proofs.replace_figure.Goals as goal

pub all_routes-requires : goal.all_routes-requires
all_routes-requires c = search (figure_fit, rules)

pub write_totals-requires : goal.write_totals-requires
write_totals-requires c = (search rules, search (figure_fit, routed_addable, rules), search rules)
