use Rattle.yard.proofs.Checking.{check_fit, check_pairs_size, check_routes_size, check_totals_size, check_addable, check_unfit, check_pairs, check_routes, check_totals, check_done}
use Rattle.yard.proofs.check.Goals as goal

pub returns-in_err-fitness : goal.returns-in_err-fitness
returns-in_err-fitness c = check_unfit _ _ _ c.from_residual.ensures c.in_err-fitness.ensures

pub pairs_right-requires : goal.pairs_right-requires
pairs_right-requires c =
    let f = c.in_ok-fitness.ensures in (check_fit _ _ _ _ _ f, check_pairs_size _ _ _ _ _ f)

pub returns-then-not-pairs_right : goal.returns-then-not-pairs_right
returns-then-not-pairs_right c = search (check_pairs, c.in_ok-fitness.ensures)

pub routes_right-requires : goal.routes_right-requires
routes_right-requires c =
    let f = c.in_ok-fitness.ensures in
    (check_fit _ _ _ _ _ f, check_pairs_size _ _ _ _ _ f, check_routes_size _ _ _ _ _ f)

pub returns-then-not-routes_right : goal.returns-then-not-routes_right
returns-then-not-routes_right c = search (check_routes, c.in_ok-fitness.ensures)

pub totals_right-requires : goal.totals_right-requires
totals_right-requires c =
    let f = c.in_ok-fitness.ensures in
    (check_pairs_size _ _ _ _ _ f, check_addable _ _ _ _ _ f _ c.routes_right.ensures c.if-not-routes_right.false-raw, check_totals_size _ _ _ _ _ f)

pub returns-then-not-totals_right : goal.returns-then-not-totals_right
returns-then-not-totals_right c = search (check_totals, c.in_ok-fitness.ensures)

pub returns : goal.returns
returns c = search (check_done, c.in_ok-fitness.ensures)
