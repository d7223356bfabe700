use Rattle.lists.proofs.Telling.{tells_as, tells_no}
use Rattle.geometry.proofs.Comparing.{overlaps_of, of_overlaps}
use Rattle.geometry.proofs.overlaps.Goals as goal

pub returns-then-abreast : goal.returns-then-abreast
returns-then-abreast c =
    tells_as (λ n. overlaps_of _ _ _ (c.abreast.ensures.yes' c.if-abreast.true) n) (λ o. (of_overlaps _ _ _ o).1) c.abreast-then-abreast.ensures

pub returns-else-abreast : goal.returns-else-abreast
returns-else-abreast c = rw c.if-abreast.false (tells_no (λ o. c.abreast.ensures.no' c.if-abreast.false (of_overlaps _ _ _ o).0))
