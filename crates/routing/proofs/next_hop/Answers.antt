-- The loop keeps: no mark below u will do.
use mathlib.Core.Logic.{inl, inr}
use mathlib.Core.Path.{refl, ap}
use native.Mathlib.Omega.{arith}
use borrow.Author.Count.{below_more}
use borrow.Author.Rules.{rules}
use Rattle.geometry.specs.Words.{word}
use Rattle.routing.proofs.next_hop.Goals as goal

pub loop-u-init : goal.loop-u-init
loop-u-init c = (omega arith, λ w l. absurd (omega arith))

pub tight-requires : goal.tight-requires
tight-requires c = record { searchable = c.requires.searchable; v_bound = (search rules, search rules, λ q. ap (word c.args.key.now) q) }

pub returns-then-tight : goal.returns-then-tight
returns-then-tight c = record { within = inl (omega arith); tight = λ l. c.tight.ensures.yes' c.if-tight.true; least = λ w l b. c.loop-u.invariant.1 w l }

pub loop-u-preserved : goal.loop-u-preserved
loop-u-preserved c = (omega arith, below_more _ _ c.loop-u.invariant.1 (c.tight.ensures.no' c.if-tight.false))

pub returns : goal.returns
returns c = record { within = inr refl; tight = λ l. absurd (omega (arith, c.requires.v_bound.1)); least = λ w l b. c.loop-u.invariant.1 w (omega arith) }
