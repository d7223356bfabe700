use Prim.Native.Nat.{◌<◌}
use native.Mathlib.Omega.{arith}
use Rattle.crossings.proofs.Directions.{code_small}
use Rattle.walks.proofs.Reading.{step_on}
use Rattle.walks.proofs.leads.Goals as goal

pub label-on-requires-clause-keys : goal.label-on-requires-clause-keys
label-on-requires-clause-keys c =
    let r = c.requires.tables.0 in let k = c.requires.keys in let h : c.in-Some.u < 4356 = omega arith in
    (k.0, k.1, h, step_on r c.requires.tables.1 (code_small c.args.d) k.2 c.in-Some.ensures.0 h, r.xs_few)
