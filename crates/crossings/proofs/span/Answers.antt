use Rattle.crossings.proofs.Reading.{span_is}
use borrow.Author.Rules.{rules}
use Rattle.crossings.proofs.span.Goals as goal

pub returns : goal.returns
returns c = record { value = search span_is; small = search rules }
