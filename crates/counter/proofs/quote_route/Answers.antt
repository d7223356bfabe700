use mathlib.Core.Path.{refl}
use Rattle.answers.proofs.Answers.{passed, not_none}
use Rattle.counter.proofs.Asking.{accepted}
use Rattle.counter.proofs.quote_route.Goals as goal

pub returns-in_err-answer : goal.returns-in_err-answer
returns-in_err-answer c =
    let h = c.from_residual.ensures in
    record { answer = passed _ _ _ h c.in_err-answer.ensures; refused = λ n. refl; done = λ z. absurd (not_none _ _ h z) }

pub route-requires : goal.route-requires
route-requires c = let a = accepted _ _ _ _ c.in_ok-answer.ensures in (a.sound, a.number, a.sized)

pub returns : goal.returns
returns c = record { answer = c.in_ok-answer.ensures; refused = λ n. absurd (n refl); done = λ e. c.route.ensures }
