use mathlib.Core.Path.{◌≡◌}
use native.Mathlib.Omega.{arith}
use Rattle.std.proofs.Common.{rules, IsTrue, EachIndex, slice_index, ◌↔◌}
use Rattle.seam_search.proofs.Marking.{zeros_apart}
use Rattle.seam_search.proofs.all_apart.Goals as goal

pub returns : goal.returns
returns c e =
    let h : IsTrue c.all.result ↔ EachIndex c.args.masks.now (λ k. slice_index c.args.masks.now k ≡ 0) = search rules in
    zeros_apart c.requires (λ k l. h.0 e k (omega (arith, c.requires.sized)))
