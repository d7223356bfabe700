-- The loop keeps: `best` is the least key by the marks from place i on.
use mathlib.Core.Path.{◌≡◌}
use native.Mathlib.Omega.{arith}
use Rattle.lazy_search.proofs.Steps.{exact_none, exact_next}
use Rattle.lazy_search.proofs.tried_key.Goals as goal

pub loop-i-init : goal.loop-i-init
loop-i-init c = (omega (arith, c.requires.testable.from), c.requires.sound.2, exact_none)

pub loop-i-preserved : goal.loop-i-preserved
loop-i-preserved c =
    (omega arith, c.improved-best.ensures.sized, exact_next (omega arith) (omega arith) c.loop-i.invariant.2 (rw c.from-s.ensures at c.improved-best.ensures.key))

pub returns-clause-key : goal.returns-clause-key
returns-clause-key c = let q : c.loop-i.i ≡ c.args.lo = omega arith in rw q at c.loop-i.invariant.2
