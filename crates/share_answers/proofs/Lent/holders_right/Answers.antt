use mathlib.Core.Path.{refl}
use Prim.Native.Nat.{ℕ, ◌*◌}
use lib.Dec.{eqb}
use borrow.Author.Rules.{rules}
use borrow.Author.Tests.{tests}
use Rattle.std.proofs.lemmas.Iterator.{YieldsList-from_range}
use Rattle.std.proofs.lemmas.Iterator.Search.{all_from_yields_List}
use Rattle.geometry.specs.Words.{word}
use Rattle.book.specs.Book.{free}
use Rattle.shares.specs.Shares.{holder_right, holders_right}
use Rattle.share_answers.specs.inner.Asked.{run_places}
use Rattle.share_answers.proofs.Loops.{all_range, holder_at}
use Rattle.share_answers.proofs.Lent.holders_right.Goals as goal

pub returns : goal.returns
unfolding holders_right
returns c =
    let test = λ (k : ℕ). holder_right (eqb (word c.args.self.now.runs.now (5 * k)) 0) (word c.args.self.now.holders.now k) in
    all_range test (λ k. holder_right (free (run_places c.args.self.now.runs.now) k) (word c.args.self.now.holders.now k)) 24 _ (all_from_yields_List test _ _ _ c.all.ensures.ran (YieldsList-from_range 0 24 24 refl refl) (λ x b q k. search (rules, tests)))
    (holder_at c.args.self.now.runs.now c.args.self.now.holders.now)
