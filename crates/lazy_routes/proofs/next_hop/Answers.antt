-- The loop keeps: no mark below u will do.
use mathlib.Core.Logic.{inl, inr}
use mathlib.Core.Path.{refl, ap}
use native.Mathlib.Omega.{arith}
use borrow.Author.Count.{below_more}
use Rattle.geometry.specs.Words.{word}
use Rattle.lazy_routes.proofs.next_hop.Goals as goal

pub loop-u-init : goal.loop-u-init
loop-u-init c = (c.requires.sound.2, λ w l. absurd (omega arith))

pub tight-requires : goal.tight-requires
tight-requires c = record { sound = (c.requires.sound.0, c.requires.sound.1, c.loop-u.invariant.0, c.place_of-a.ensures); v_bound = (c.requires.v_bound.0, omega arith, λ q. ap (word c.args.key.now) q) }

pub returns-then-tight : goal.returns-then-tight
returns-then-tight c =
    record { hop = record { within = inl (omega arith); tight = λ b. c.tight.ensures.tells.yes' c.if-tight.true; least = λ w b d. c.loop-u.invariant.1 w b }; sized = c.tight.ensures.sized }

pub loop-u-preserved : goal.loop-u-preserved
loop-u-preserved c = (c.tight.ensures.sized, below_more _ _ c.loop-u.invariant.1 (c.tight.ensures.tells.no' c.if-tight.false))

pub returns : goal.returns
returns c = record { hop = record { within = inr refl; tight = λ b. absurd (omega (arith, c.requires.v_bound.1)); least = λ w b d. c.loop-u.invariant.1 w (omega arith) }; sized = c.loop-u.invariant.0 }
