use Rattle.ducts.proofs.Quoting.{quote_none, quote_found}
use Rattle.ducts.proofs.quote_between.Goals as goal

pub returns-in-Some : goal.returns-in-Some
returns-in-Some c = quote_found _ _ _ _ _ c.requires.lines.1 _ _ c.requires.ends.1 _ _ _ _ _ c.in-Some.ensures c.fill_quote.ensures c.write_path.ensures

pub returns-in-None : goal.returns-in-None
returns-in-None c = quote_none _ _ _ _ _ c.requires.lines.1 _ _ c.requires.ends.1 _ _ _ _ c.in-None.ensures c.fill_quote-in-None.ensures c.fill.ensures
