use native.Mathlib.Omega.{arith}
use Rattle.bits.proofs.Counting.{bit_small}
use Rattle.corner_words.proofs.left_bit.Goals as goal

pub overflow_sub-result : goal.overflow_sub-result
overflow_sub-result c = omega (arith, bit_small c.args.b c.from.result)
