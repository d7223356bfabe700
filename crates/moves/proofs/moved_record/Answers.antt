use mathlib.Core.Path.{◌≡◌}
use mathlib.Core.List.{map}
use native.Mathlib.Omega.{arith}
use mir.Syntax.{w16}
use mir.ValLaws.{to_z-of_z}
use Rattle.geometry.specs.Words.{corners}
use Rattle.tables.specs.Written.{block_record}
use Rattle.records.specs.Questions.{shifted}
use Rattle.moves.proofs.Shifting.{by_bits, moved_next, moved_all, east_lands, north_lands}
use Rattle.moves.proofs.moved_record.Goals as goal

pub landing-requires : goal.landing-requires
landing-requires c = rw (to_z-of_z w16 c.args.east c.ranges.east) (east_lands c.args.east c.args.north _ c.loop-k.k c.requires.1 (omega arith))

pub landing-requires-in-loop-k : goal.landing-requires-in-loop-k
landing-requires-in-loop-k c = rw (to_z-of_z w16 c.args.north c.ranges.north) (north_lands c.args.east c.args.north _ c.loop-k.k c.requires.1 (omega arith))

pub returns : goal.returns
returns c =
    by_bits (λ e n. c.loop-k.made ≡ block_record (map (shifted e n) (corners c.args.words.now))) c.args.east c.args.north c.ranges.east c.ranges.north
    (moved_all _ _ _ _ c.loop-k.k c.requires.0.count (omega arith) (omega arith) c.loop-k.invariant)

pub loop-k-preserved : goal.loop-k-preserved
loop-k-preserved c = moved_next _ _ _ _ c.loop-k.k _ _ (omega arith) c.landing.ensures c.landing-in-loop-k.ensures c.loop-k.invariant
