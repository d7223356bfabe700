use mathlib.Core.Path.{◌≡◌}
use native.Mathlib.Omega.{arith}
use Rattle.lengths.specs.Length.{root_up}
use Rattle.lengths.specs.Charge.{charge}
use Rattle.tables.specs.Tables.{stored}
use Rattle.search.specs.Network.{cost}
use Rattle.search.proofs.Steps.{cost_is}
use Rattle.routing.proofs.TightKeys.{loose_order, loose_straights}
use Rattle.lazy_routes.proofs.TightKeys.{loose_cost, by_sight}
use Rattle.lazy_routes.proofs.tight.Goals as goal

pub returns-then-ku-kv : goal.returns-then-ku-kv
returns-then-ku-kv c = record { tells = loose_order _ _ _ _ _ _ c.if-ku-kv.true; sized = c.requires.sound.2 }

pub returns-then-more-ne1 : goal.returns-then-more-ne1
returns-then-more-ne1 c = record { tells = loose_straights _ _ _ _ _ _ c.if-ku-kv.false (λ q. omega (arith, c.if-more-ne1.true)); sized = c.requires.sound.2 }

pub returns-then-is_charge : goal.returns-then-is_charge
returns-then-is_charge c =
    let e = rw c.from-cost.ensures at c.is_charge.ensures in
    let h : cost (stored c.args.blocks.now c.args.runs.now) c.args.v c.args.u ≡ charge c.figure_of-figure.result (root_up c.squared-square.result) = cost_is _ _ _ _ _ _ _ c.requires.sound.3 c.place_of-b.ensures c.figure_of-figure.ensures c.squared-square.ensures.value in
    record { tells = by_sight _ _ _ _ _ _ _ c.if-ku-kv.false h _ c.requires.v_bound.2 (omega (arith, c.if-more-ne1.false)) _ e c.if-is_charge.true c.sees.ensures.tells; sized = c.sees.ensures.sized }

pub returns-else-is_charge : goal.returns-else-is_charge
returns-else-is_charge c =
    let e = rw c.from-cost.ensures at c.is_charge.ensures in
    let h : cost (stored c.args.blocks.now c.args.runs.now) c.args.v c.args.u ≡ charge c.figure_of-figure.result (root_up c.squared-square.result) = cost_is _ _ _ _ _ _ _ c.requires.sound.3 c.place_of-b.ensures c.figure_of-figure.ensures c.squared-square.ensures.value in
    record { tells = rw c.if-is_charge.false (loose_cost _ _ _ _ _ _ _ c.if-ku-kv.false h _ e c.if-is_charge.false); sized = c.requires.sound.2 }
