use Rattle.codes.proofs.Hiding.{part_codes, part_met}
use Rattle.codes.proofs.meets_block.Goals as goal

pub meets-requires : goal.meets-requires
meets-requires c = search part_codes

pub returns : goal.returns
returns c = search part_met
