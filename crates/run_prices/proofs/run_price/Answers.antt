use native.Mathlib.Omega.{arith}
use Rattle.search.specs.inner.Keys.{unreached}
use Rattle.search.proofs.Steps.{filled_all}
use Rattle.row_search.proofs.Told.{rows_tidy}
use Rattle.run_prices.proofs.Pricing.{priced_absent, priced_shut, priced_found, searched_places}
use Rattle.run_prices.proofs.run_price.Goals as goal

pub returns-then-runs-m-eq0 : goal.returns-then-runs-m-eq0
returns-then-runs-m-eq0 c = priced_absent _ _ c.if-runs-m-eq0.true

pub settle-requires : goal.settle-requires
settle-requires c = let tidy = rows_tidy c.requires.places.1 in record { fit = (c.requires.fit.0, c.requires.places.0); told = ((tidy, omega arith), λ v l. (tidy, omega arith)); m_bound = (c.requires.fit.2, filled_all 240 unreached) }

pub returns-then-settle : goal.returns-then-settle
returns-then-settle c =
    let f = c.requires.fit in
    priced_found _ _ f.0 f.2 c.if-runs-m-eq0.false _ ((searched_places _ _ f.2 _ c.requires.places.1 c.facing.ensures c.settle.ensures).way c.if-settle.true)

pub returns : goal.returns
returns c =
    let f = c.requires.fit in
    priced_shut _ _ f.0 f.2 c.if-runs-m-eq0.false ((searched_places _ _ f.2 _ c.requires.places.1 c.facing.ensures c.settle.ensures).no_way c.if-settle.false)
