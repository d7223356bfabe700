use Rattle.ducts.proofs.Counting.{accepted}
use Rattle.ducts.proofs.quote_duct.Goals as goal

pub price-requires-clause-yard : goal.price-requires-clause-yard
price-requires-clause-yard c = let a = accepted _ _ _ _ _ c.in_ok-answer.ensures in (a.fit, a.number, a.stand)

pub price-requires-clause-lists : goal.price-requires-clause-lists
price-requires-clause-lists c = let a = accepted _ _ _ _ _ c.in_ok-answer.ensures in (a.quote_is, a.crossings_is)
