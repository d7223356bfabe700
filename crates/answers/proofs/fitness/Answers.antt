use Rattle.answers.proofs.Answers.{blocks_sized, runs_sized, fitness_one, fitness_two, fitness_none}
use Rattle.answers.proofs.fitness.Goals as goal

pub returns-then-not-lengths_right : goal.returns-then-not-lengths_right
returns-then-not-lengths_right c = search fitness_one

pub records_right-requires : goal.records_right-requires
records_right-requires c = (search blocks_sized, search runs_sized)

pub returns-then-not-records_right : goal.returns-then-not-records_right
returns-then-not-records_right c = search fitness_two

pub returns : goal.returns
returns c = search fitness_none
