use Rattle.file_questions.proofs.Answers.{answer_head, answer_version, answer_whole, answer_near, answer_inside, answer_long, answer_done}
use Rattle.file_questions.proofs.Asking.{head_low, said}
use Rattle.yardfile.proofs.Cases.{file_size}
use mathlib.Core.Path.{refl}
use Rattle.file_questions.proofs.first_failing.Goals as goal

pub returns-then-not-head_right : goal.returns-then-not-head_right
returns-then-not-head_right c = search answer_head

pub returns-then-byte_at-source : goal.returns-then-byte_at-source
returns-then-byte_at-source c = search answer_version

pub every_one-requires : goal.every_one-requires
every_one-requires c = (search file_size, search head_low, λ k. absurd (k refl))

pub returns-then-not-every_one : goal.returns-then-not-every_one
returns-then-not-every_one c = search answer_whole

pub near_enough-requires : goal.near_enough-requires
near_enough-requires c = (search file_size, search head_low, search said)

pub returns-then-not-near_enough : goal.returns-then-not-near_enough
returns-then-not-near_enough c = search answer_near

pub every_one-requires-2 : goal.every_one-requires-2
every_one-requires-2 c = (search file_size, search head_low, λ k. search said)

pub returns-then-not-every_one-2 : goal.returns-then-not-every_one-2
returns-then-not-every_one-2 c = search answer_inside

pub total_size-requires : goal.total_size-requires
total_size-requires c = (search file_size, search head_low, search said)

pub returns-then-total_size-gt8192 : goal.returns-then-total_size-gt8192
returns-then-total_size-gt8192 c = search answer_long

pub returns : goal.returns
returns c = search answer_done
