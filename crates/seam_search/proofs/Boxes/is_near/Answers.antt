use mathlib.Core.Bool.{true}
use mathlib.Core.Path.{◌≡◌, sym, ◌∙◌}
use borrow.Author.Tests.{not-false}
use Rattle.seam_search.proofs.Marking.{one_parted, divided_east, divided_north}
use Rattle.seam_search.proofs.Boxes.is_near.Goals as goal
use Rattle.seam_search.proofs.Boxes.is_near.Goals.{then-p-q, else-p-q, then-is_divided, else-is_divided}

pub returns : goal.returns
returns c e =
    let t : c.if-is_divided.result ≡ true = not-false _ e in
    elim c.if-is_divided.branch [
      | then-is_divided w ↦ elim c.if-p-q.branch [
        | then-p-q v ↦ one_parted v.if-p-q.true
        | else-p-q v ↦ divided_east c.requires.0 c.requires.1 c.requires.2 (v.is_divided.ensures (sym v.value-is ∙ w.if-is_divided.true))
      ]
      | else-is_divided w ↦ divided_north c.requires.0 c.requires.1 c.requires.2 (w.is_divided-else-is_divided.ensures (sym w.result-is ∙ t))
    ]
