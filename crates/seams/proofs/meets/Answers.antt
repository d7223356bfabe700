use mathlib.Core.Bool.{true≢false}
use mathlib.Core.Path.{sym, ◌∙◌}
use lib.IntN.{pos}
use Rattle.lists.proofs.Telling.{tells_yes}
use Rattle.geometry.proofs.Bound.{here_yes, here_no, fits_zero, turn_fits}
use Rattle.geometry.proofs.Narrowing.{steeper_yes, steeper_no}
use Rattle.seams.proofs.Rounds.{common_first, common_last, common_tells}
use Rattle.seams.proofs.meets.Goals as goal
use Rattle.seams.proofs.meets.Goals.{then-s-lt0, else-s-lt0, then-s-lt0-2, else-s-lt0-2}

pub returns : goal.returns
returns c =
    let n = c.requires.small in
    let fl = turn_fits n.small_l in
    let fr = turn_fits n.small_r in
    let fp = turn_fits n.small_p in
    let fq = turn_fits n.small_q in
    let e = c.requires.ends in
    elim c.if-s-lt0-2.branch [
      | then-s-lt0-2 w ↦ rw w.result-is
          (elim c.if-s-lt0.branch [
            | then-s-lt0 v ↦ common_tells _ _ _ _ e w.steeper.result
                (here_yes _ (pos 0) fl fits_zero v.if-s-lt0.true)
                (here_yes _ (pos 0) fq fits_zero (sym v.value-is ∙ w.if-s-lt0-2.true))
                (steeper_yes _ _ _ _ fp fq fl fr w.steeper.ensures)
                (steeper_no _ _ _ _ fp fq fl fr w.steeper.ensures)
            | else-s-lt0 v ↦ absurd (true≢false (sym w.if-s-lt0-2.true ∙ v.value-is ∙ v.if-s-lt0.false))
          ])
      | else-s-lt0-2 w ↦ rw (w.result-is, w.if-s-lt0-2.false)
          (tells_yes
          (elim c.if-s-lt0.branch [
            | then-s-lt0 v ↦ common_last _ _ _ _ e (here_no _ (pos 0) fq fits_zero (sym v.value-is ∙ w.if-s-lt0-2.false))
            | else-s-lt0 v ↦ common_first _ _ _ _ e (here_no _ (pos 0) fl fits_zero v.if-s-lt0.false)
          ]))
    ]
