use mathlib.Core.Path.{◌≡◌, subst}
use Prim.Native.Nat.{ℕ, ◌*◌}
use native.Mathlib.Omega.{arith}
use Rattle.lengths.specs.Length.{RootUp}
use Rattle.lengths.proofs.Squares.{least_above, least_exact}
use Rattle.lengths.proofs.Roots.{root_one, root_is}
use Rattle.lengths.proofs.slow_root_up.Goals as goal

pub returns-then-r-n : goal.returns-then-r-n
returns-then-r-n c = root_one _ _ _ (least_above _ _ c.root-r.ensures c.if-r-n.true) (root_is _)

pub returns-else-r-n : goal.returns-else-r-n
returns-else-r-n c =
    let r = c.root-r.result in
    let h = c.root-r.ensures.below in
    let e : r * r ≡ c.args.n = omega arith in
    root_one _ _ _ (subst (λ (n : ℕ). RootUp n r) e (least_exact r)) (root_is _)
