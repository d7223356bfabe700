use Rattle.fields.proofs.place_in.Goals as goal

pub returns : goal.returns
returns c = cc
