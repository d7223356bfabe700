use mathlib.Core.Path.{◌≡◌, ap}
use mathlib.Core.List.{List}
use Prim.Native.Nat.{ℕ, ◌+◌, ◌-◌, ◌*◌}
use native.Mathlib.Omega.{arith}
use lib.ListN.{take, drop}
use Rattle.tables.specs.Tables.{route_words}
use Rattle.listing.specs.Lines.{run_line}
use Rattle.listing.proofs.Putting.{put_as, put_joined, put_next, put_all}
use Rattle.listing.proofs.put_runs.Goals as goal

-- the part of the route table that is lent
record_of : (routes : List ℕ) (m : ℕ) → run_line m (take (197 * m + 197 - 197 * m) (drop (197 * m) routes)) ≡ run_line m (route_words routes m)
record_of routes m =
    let e : 197 * m + 197 - 197 * m ≡ 197 = omega arith in
    ap (λ (n : ℕ). run_line m (take n (drop (197 * m) routes))) e

pub loop-m-init : goal.loop-m-init
loop-m-init c = put_joined 4133 _ (omega arith)

pub loop-m-preserved : goal.loop-m-preserved
loop-m-preserved c = put_next _ _ c.loop-m.invariant (put_as (record_of _ _) c.put_run-end.ensures)

pub returns : goal.returns
returns c = put_all 4133 _ _ _ (omega arith) (omega arith) c.loop-m.invariant
