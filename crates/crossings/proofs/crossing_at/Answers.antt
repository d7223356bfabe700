use Rattle.crossings.proofs.Reading.{index_small, crossing_is}
use native.Mathlib.Omega.{arith}
use Prim.Native.Nat.{◌≤◌}
use Rattle.crossings.proofs.crossing_at.Goals as goal

pub overflow_mul-result : goal.overflow_mul-result
overflow_mul-result c = let h : c.index_of.result ≤ 194 = search index_small in omega arith

pub overflow_add-result : goal.overflow_add-result
overflow_add-result c = let h : c.index_of.result ≤ 194 = search index_small in let k : c.index_of-2.result ≤ 194 = search index_small in omega arith

pub returns : goal.returns
returns c = search crossing_is
