use Rattle.ducts.proofs.Measures.{ruled_is, start_on, end_on, duct_is}
use Rattle.ducts.proofs.price.Goals as goal

pub quote_between-requires-clause-lines : goal.quote_between-requires-clause-lines
quote_between-requires-clause-lines c =
    let y = c.requires.yard in
    (y.0.blocks, ruled_is _ _ _ _ _ _ c.lines_of-nx.ensures c.lines_of-ny.ensures y.0 y.1 y.2)

pub quote_between-requires-clause-ends : goal.quote_between-requires-clause-ends
quote_between-requires-clause-ends c =
    let h = c.requires.yard.2 in (
      start_on _ _ _ _ _ _ c.lines_of-nx.ensures c.lines_of-ny.ensures _ _ c.crossing_at-start.ensures h c.place_of.ensures,
      end_on _ _ _ _ _ _ c.lines_of-nx.ensures c.lines_of-ny.ensures _ _ c.crossing_at-end.ensures h c.place_of-2.ensures,
    )

pub returns : goal.returns
returns c =
    duct_is _ _ _ _ _ _ c.lines_of-nx.ensures
    c.lines_of-ny.ensures _ _ _ _ _ _
    c.place_of.ensures c.crossing_at-start.ensures
    c.place_of-2.ensures c.crossing_at-end.ensures
    c.quote_between.ensures
