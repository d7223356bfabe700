use borrow.Author.Rules.{rules}
use Rattle.totals.proofs.Summing.{routed_addable}
use Rattle.tables.proofs.Replacing.{run_fit}
use Rattle.run_edits.proofs.replace_run.Goals as goal

pub redraw_run-requires : goal.redraw_run-requires
redraw_run-requires c = search (run_fit, rules)

pub all_routes-requires : goal.all_routes-requires
all_routes-requires c = search (run_fit, rules)

pub write_totals-requires : goal.write_totals-requires
write_totals-requires c =
    (search rules, routed_addable _ _ _ (run_fit _ _ _ _ c.requires.fit.0 c.requires.fit.1 c.requires.fit.2 c.put_words.ensures) c.all_routes.ensures, c.requires.sizes.2)
