use Rattle.yard.proofs.Checking.{start_refused, start_done}
use Rattle.yard.proofs.start.Goals as goal

pub returns-then-not-lengths_right : goal.returns-then-not-lengths_right
returns-then-not-lengths_right c = search start_refused

pub returns : goal.returns
returns c =
    search (start_done, c.fill.ensures.after (λ y e. e), c.fill-2.ensures.after (λ y e. e), c.fill-3.ensures.after (λ y e. e), c.fill-4.ensures.after (λ y e. e), c.fill-5.ensures.after (λ y e. e))
