use mathlib.Core.Logic.{⊎_elim}
use lib.IntN.{pos}
use lib.Signed.{◌<ℤ◌, ◌≤ℤ◌, clash_ℤ}
use mir.ValLaws.{to_z-of_z}
use Rattle.geometry.proofs.Bound.{turn_fits, here_yes, here_no, fits_zero}
use Rattle.geometry.proofs.Narrowing.{steeper_yes, steeper_no}
use Rattle.seams.proofs.Rounds.{step_both, step_up, step_up_keep, step_low, step_low_keep}
use Rattle.seams.proofs.tighten.Goals as goal

pub returns-then-steeper : goal.returns-then-steeper
returns-then-steeper c =
    let a = c.args in
    let n = c.requires.kept.small in
    let fx = c.ranges.x in
    let fy = c.ranges.y in
    let fp = turn_fits n.small_p in
    let fq = turn_fits n.small_q in
    let h : c.args.x <ℤ pos 0 = here_yes c.args.x (pos 0) fx fits_zero c.if-x-lt0.true in
    let k : pos 0 ≤ℤ c.args.y = ⊎_elim (λ i. clash_ℤ h i) (λ i. i) c.requires.side.2 in
    simp to_z-of_z
    (step_low _ _ _ _ a.x a.y c.requires.kept c.requires.side.0 c.requires.side.1 h k
    (steeper_yes a.x a.y _ _ fx fy (turn_fits n.small_l) (turn_fits n.small_r) c.steeper.ensures c.if-steeper.true))

pub returns-then-x-lt0 : goal.returns-then-x-lt0
returns-then-x-lt0 c =
    let n = c.requires.kept.small in
    let h : c.args.x <ℤ pos 0 = here_yes c.args.x (pos 0) c.ranges.x fits_zero c.if-x-lt0.true in
    let k : pos 0 ≤ℤ c.args.y = ⊎_elim (λ i. clash_ℤ h i) (λ i. i) c.requires.side.2 in
    step_low_keep _ _ _ _ _ _ c.requires.kept c.requires.side.0 c.requires.side.1 k
    (steeper_no _ _ _ _ c.ranges.x c.ranges.y (turn_fits n.small_l) (turn_fits n.small_r) c.steeper.ensures c.if-steeper.false)

pub returns-then-steeper-2 : goal.returns-then-steeper-2
returns-then-steeper-2 c =
    let a = c.args in
    let n = c.requires.kept.small in
    let fx = c.ranges.x in
    let fy = c.ranges.y in
    let fl = turn_fits n.small_l in
    let fr = turn_fits n.small_r in
    simp to_z-of_z
    (step_up _ _ _ _ a.x a.y c.requires.kept c.requires.side.0 c.requires.side.1 (here_no c.args.x (pos 0) fx fits_zero c.if-x-lt0.false) (here_yes a.y (pos 0) fy fits_zero c.if-y-lt0.true)
    (steeper_yes a.y a.x _ _ fy fx (turn_fits n.small_q) (turn_fits n.small_p) c.steeper-then-y-lt0.ensures c.if-steeper-2.true))

pub returns-else-steeper-2 : goal.returns-else-steeper-2
returns-else-steeper-2 c =
    let n = c.requires.kept.small in
    step_up_keep _ _ _ _ _ _ c.requires.kept c.requires.side.0 c.requires.side.1 (here_no c.args.x (pos 0) c.ranges.x fits_zero c.if-x-lt0.false)
    (steeper_no _ _ _ _ c.ranges.y c.ranges.x (turn_fits n.small_q) (turn_fits n.small_p) c.steeper-then-y-lt0.ensures c.if-steeper-2.false)

pub returns-else-y-lt0 : goal.returns-else-y-lt0
returns-else-y-lt0 c =
    step_both _ _ _ _ _ _ c.requires.kept c.requires.side.0 c.requires.side.1 (here_no c.args.x (pos 0) c.ranges.x fits_zero c.if-x-lt0.false) (here_no c.args.y (pos 0) c.ranges.y fits_zero c.if-y-lt0.false)
