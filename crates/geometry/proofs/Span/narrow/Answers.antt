use mathlib.Core.Logic.{⊎_elim}
use lib.IntN.{pos}
use lib.Signed.{◌<ℤ◌, clash_ℤ}
use mir.ValLaws.{to_z-of_z}
use Rattle.geometry.proofs.Bound.{turn_fits, here_yes, here_no, fits_zero}
use Rattle.geometry.proofs.Narrowing.{step_both, step_up, step_up_keep, step_low, step_low_keep, steeper_yes, steeper_no}
use Rattle.geometry.proofs.Span.narrow.Goals as goal

pub returns-then-y-gt0 : goal.returns-then-y-gt0
returns-then-y-gt0 c =
    step_both _ _ _ _ _ _ c.requires.small c.requires.side.0 c.requires.side.1 (here_yes (pos 0) c.args.x fits_zero c.ranges.x c.if-x-gt0.true)
    (here_yes (pos 0) c.args.y fits_zero c.ranges.y c.if-y-gt0.true)

pub returns-then-steeper : goal.returns-then-steeper
returns-then-steeper c =
    let a = c.args in
    let s = c.requires.small in
    let fx = c.ranges.x in
    let fy = c.ranges.y in
    let fl = turn_fits s.small_l in
    let fr = turn_fits s.small_r in
    simp to_z-of_z
    (step_up _ _ _ _ a.x a.y s c.requires.side.0 c.requires.side.1 (here_yes (pos 0) c.args.x fits_zero fx c.if-x-gt0.true)
    (steeper_yes a.y a.x _ _ fy fx (turn_fits s.small_q) (turn_fits s.small_p) c.steeper.ensures c.if-steeper.true))

pub returns-then-x-gt0 : goal.returns-then-x-gt0
returns-then-x-gt0 c =
    let s = c.requires.small in
    step_up_keep _ _ _ _ _ _ s c.requires.side.0 c.requires.side.1 (here_yes (pos 0) c.args.x fits_zero c.ranges.x c.if-x-gt0.true)
    (steeper_no _ _ _ _ c.ranges.y c.ranges.x (turn_fits s.small_q) (turn_fits s.small_p) c.steeper.ensures c.if-steeper.false)

pub returns-then-steeper-2 : goal.returns-then-steeper-2
returns-then-steeper-2 c =
    let a = c.args in
    let s = c.requires.small in
    let fx = c.ranges.x in
    let fy = c.ranges.y in
    let fp = turn_fits s.small_p in
    let fq = turn_fits s.small_q in
    let h : pos 0 <ℤ c.args.y = ⊎_elim (λ h. clash_ℤ h (here_no (pos 0) c.args.x fits_zero fx c.if-x-gt0.false)) (λ h. h) c.requires.side.2 in
    simp to_z-of_z
    (step_low _ _ _ _ a.x a.y s c.requires.side.0 c.requires.side.1 h
    (steeper_yes a.x a.y _ _ fx fy (turn_fits s.small_l) (turn_fits s.small_r) c.steeper-2.ensures c.if-steeper-2.true))

pub returns : goal.returns
returns c =
    let s = c.requires.small in
    let h : pos 0 <ℤ c.args.y = ⊎_elim (λ h. clash_ℤ h (here_no (pos 0) c.args.x fits_zero c.ranges.x c.if-x-gt0.false)) (λ h. h) c.requires.side.2 in
    step_low_keep _ _ _ _ _ _ s c.requires.side.0 c.requires.side.1 h
    (steeper_no _ _ _ _ c.ranges.x c.ranges.y (turn_fits s.small_l) (turn_fits s.small_r) c.steeper-2.ensures c.if-steeper-2.false)
