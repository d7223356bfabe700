use Rattle.drawn_routes.proofs.Asking.{unnamed, named_5, named_all, in_runs}
use Rattle.drawn_routes.proofs.asked.Goals as goal

pub returns-in_err-named : goal.returns-in_err-named
returns-in_err-named c = unnamed _ _ _ _ c.from_residual.ensures c.in_err-named.ensures

pub bounds-runs-m : goal.bounds-runs-m
bounds-runs-m c = in_runs _ _ _ _ _ _ c.in_ok-named.ensures

pub returns-then-runs-m-eq0 : goal.returns-then-runs-m-eq0
returns-then-runs-m-eq0 c = named_5 _ _ _ _ _ _ c.in_ok-named.ensures c.if-runs-m-eq0.true

pub returns : goal.returns
returns c = named_all _ _ _ _ _ _ c.in_ok-named.ensures _ c.if-runs-m-eq0.false c.check.ensures
