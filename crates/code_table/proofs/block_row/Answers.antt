-- The loop keeps: the codes from side k on.
use mathlib.Core.Path.{◌≡◌, sym, ◌∙◌}
use Prim.Native.Nat.{◌+◌, ◌-◌}
use native.Mathlib.Omega.{arith}
use Rattle.code_table.proofs.Rows.{row_absent, row_done}
use Rattle.code_table.proofs.block_row.Goals as goal

pub returns-then-m-eq0 : goal.returns-then-m-eq0
returns-then-m-eq0 c = row_absent _ _ _ _ _ c.requires.2 c.fill.ensures (sym c.from-m.ensures ∙ c.if-m-eq0.true)

pub last_row-requires-clause-record : goal.last_row-requires-clause-record
last_row-requires-clause-record c = (c.requires.0, omega arith)

pub side_row-requires : goal.side_row-requires
side_row-requires c =
    let e : c.loop-k.k ≡ c.loop-k.k - 1 + 1 = omega arith in
    record { «record» = (c.requires.0, omega (arith, c.loop-k.auto.k)); marks = (c.requires.1, (rw e at c.loop-k.invariant)) }

pub returns : goal.returns
returns c = row_done _ _ _ _ _ (omega arith) c.loop-k-test.false c.loop-k.invariant
