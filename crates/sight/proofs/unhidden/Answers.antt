use Rattle.visibility.proofs.Bytes.{place_is_in_range}
use Rattle.sight.proofs.unhidden.Goals as goal

pub hidden_by-requires : goal.hidden_by-requires
hidden_by-requires c = (
  c.requires.records.0.fit.blocks,
  c.requires.records.0.turns _,
  place_is_in_range _ _ _ c.requires.records.0.fit c.requires.marks.0 c.requires.places.0,
  place_is_in_range _ _ _ c.requires.records.0.fit c.requires.marks.1 c.requires.places.1,
)
