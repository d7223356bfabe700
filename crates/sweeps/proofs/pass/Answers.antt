use borrow.Author.Rules.{rules}
use native.Mathlib.Omega.{arith}
use Rattle.crossings.proofs.Directions.{code_small}
use Rattle.sweeps.proofs.Passing.{passing_none, passing_next}
use Rattle.sweeps.proofs.Mapping.{leads_of}
use Rattle.sweeps.proofs.Reading.{bit_of}
use Rattle.sweeps.proofs.pass.Goals as goal

pub loop-k-init : goal.loop-k-init
loop-k-init c = (omega arith, search rules, search passing_none)

pub loop-k-preserved : goal.loop-k-preserved
loop-k-preserved c = (
  c.carry_on-c.ensures.small,
  c.loop-k.invariant.1,
  rw (c.from-moved.ensures, bit_of c.improve.result)
      (passing_next (leads_of c.requires.tables.0 c.requires.tables.1) (code_small c.args.d) c.requires.keys.1 c.requires.keys.2 c.loop-k.invariant.2 c.loop-k-test.true
      c.on_line-v.ensures.value c.gap_on.ensures.value c.carry_on-c.ensures.value c.loop-k.invariant.1 c.improve.ensures),
)
