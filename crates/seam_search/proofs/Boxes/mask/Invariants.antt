use Rattle.seam_search.proofs.Marking.{MaskFrom}
use Rattle.seam_search.proofs.Boxes.mask.Given as goal

abbrev pub invariant-loop-q : goal.invariant-loop-q
invariant-loop-q l = MaskFrom l.blocks l.p l.q l.w
