use borrow.Author.Rules.{rules}
use Rattle.totals.proofs.Summing.{routed_addable}
use Rattle.codes.proofs.Uprights.{upright_replaced, fit_replaced}
use Rattle.block_edits.proofs.Accepting.{none_right}
use Rattle.block_edits.proofs.erase_block.Goals as goal

pub redraw_block-requires : goal.redraw_block-requires
redraw_block-requires c = search (upright_replaced, none_right, rules)

pub all_routes-requires : goal.all_routes-requires
all_routes-requires c = search (fit_replaced, none_right, rules)

pub write_totals-requires : goal.write_totals-requires
write_totals-requires c =
    (search rules, routed_addable _ _ _ (fit_replaced _ _ _ _ c.requires.upright.0 none_right c.requires.upright.1 c.put_words.ensures) c.all_routes.ensures, c.requires.sizes.2)
