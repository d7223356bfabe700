use Rattle.yardfile.proofs.Cases.{whole_other, whole_last}
use Rattle.yardfile.proofs.record_whole.Goals as goal

pub returns-then-kind-lt1 : goal.returns-then-kind-lt1
returns-then-kind-lt1 c = whole_other _ _ c.then-kind-lt1.either

pub returns : goal.returns
returns c = whole_last _ _ _ c.if-kind-lt1.false c.if-kind-gt7.false c.body_size.ensures.0
