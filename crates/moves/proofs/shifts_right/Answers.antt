use mathlib.Core.Path.{◌≡◌}
use mathlib.Core.Bool.{true, false}
use native.Mathlib.Omega.{arith}
use Rattle.lists.specs.Lists.{all}
use Rattle.lists.proofs.Below.{by_call}
use Rattle.geometry.specs.Words.{corners}
use Rattle.records.specs.Questions.{shift_right}
use Rattle.moves.proofs.Shifting.{by_bits, land_all, east_fails, north_fails}
use Rattle.moves.proofs.shifts_right.Goals as goal
use Rattle.moves.proofs.shifts_right.Goals.{then-not-lands-via-then-not-lands, then-not-lands-via-else-not-lands+then-not-lands-2}

pub returns-then-not-lands : goal.returns-then-not-lands
returns-then-not-lands c =
    by_bits (λ e n. false ≡ all (shift_right e n) (corners c.args.words.now)) c.args.east c.args.north c.ranges.east c.ranges.north
    (elim c.then-not-lands.branch [
      | then-not-lands-via-then-not-lands w ↦ east_fails _ _ _ c.loop-k.k (omega arith) (by_call c.lands.ensures w.if-not-lands.true)
      | then-not-lands-via-else-not-lands+then-not-lands-2 w ↦ north_fails _ _ _ c.loop-k.k (omega arith) (by_call w.lands-else-not-lands.ensures w.if-not-lands-2.true)
    ])

pub returns : goal.returns
returns c =
    by_bits (λ e n. true ≡ all (shift_right e n) (corners c.args.words.now)) c.args.east c.args.north c.ranges.east c.ranges.north
    (land_all _ _ _ c.loop-k.k (omega arith) c.loop-k.invariant)
