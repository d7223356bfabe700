use Rattle.crossings.proofs.Charts.{crossing_east, crossing_north, in_grid, spot_in_range}
use Rattle.walks.proofs.Ending.{fair_start, end_stop, not_clear, not_reached}
use Rattle.walks.proofs.find_path.Goals as goal
use mathlib.Core.Path.{ap, ◌∙◌}
use lib.ListN.{length-map}
use mathlib.Core.Bool.{not}

pub is_clear_place-requires : goal.is_clear_place-requires
is_clear_place-requires c = let r = c.requires.lines.1 in let e = c.requires.ends.1 in
    let n = spot_in_range _ _ _ _ r _ _ (crossing_east _ _ _ _ r _ e) (crossing_north _ _ _ _ r _ e) c.spot-p.ensures in
    (c.requires.lines.0, n)

pub returns-then-not-is_clear_place : goal.returns-then-not-is_clear_place
returns-then-not-is_clear_place c = let r = c.requires.lines.1 in let e = c.requires.ends.1 in not_clear _ _ _ _ _ r e c.spot-p.ensures c.is_clear_place.ensures (ap not c.if-not-is_clear_place.true) c.requires.lists.0 (length-map _ _ ∙ c.requires.lists.1)

pub search-requires-clause-keys : goal.search-requires-clause-keys
search-requires-clause-keys c =
    let r = c.requires.lines.1 in let e = c.requires.ends.1 in
    fair_start c.open_keys.ensures (in_grid _ _ _ _ r _ e) (end_stop _ _ _ _ _ r e c.spot-p.ensures c.is_clear_place.ensures (ap not c.if-not-is_clear_place.false))

pub returns-then-key-ge-UNREACHED : goal.returns-then-key-ge-UNREACHED
returns-then-key-ge-UNREACHED c = let r = c.requires.lines.1 in let e = c.requires.ends.1 in not_reached _ _ _ _ _ r e c.chart.ensures c.search.ensures _ c.label-key.ensures.value c.if-key-ge-UNREACHED.true c.search.ensures.fair.low_sized (length-map _ _ ∙ c.requires.lists.1)
