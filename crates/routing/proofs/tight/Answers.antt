use mathlib.Core.Path.{sym, ◌∙◌}
use native.Mathlib.Omega.{arith}
use borrow.Author.Rules.{rules}
use Rattle.search.proofs.Steps.{cost_is}
use Rattle.routing.proofs.TightKeys.{loose_order, loose_straights, loose_hidden, by_cost}
use Rattle.routing.proofs.tight.Goals as goal

pub returns-then-ku-kv : goal.returns-then-ku-kv
returns-then-ku-kv c = search loose_order

pub returns-then-more-ne1 : goal.returns-then-more-ne1
returns-then-more-ne1 c = search loose_straights

pub pair_byte-requires : goal.pair_byte-requires
pair_byte-requires c = (search rules, search rules, search rules, λ q. omega (arith, c.requires.v_bound.2 q))

pub returns-then-pair_byte : goal.returns-then-pair_byte
returns-then-pair_byte c = loose_hidden _ _ _ _ _ _ (λ x. c.if-pair_byte.true (c.pair_byte.ensures ∙ x))

pub returns : goal.returns
returns c =
    rw c.is_charge.ensures
    (by_cost _ _ _ _ _ _ _ c.requires.v_bound.2 c.if-ku-kv.false c.if-more-ne1.false (sym c.pair_byte.ensures ∙ c.if-pair_byte.false) (cost_is _ _ _ _ _ _ _ c.place_of.ensures c.place_of-2.ensures c.figure_of-figure.ensures c.squared-square.ensures.value))
