use mathlib.Core.Path.{refl}
use Prim.Native.Nat.{ℕ}
use lib.Dec.{leb}
use borrow.Author.Rules.{rules}
use borrow.Author.Tests.{tests}
use Rattle.std.proofs.lemmas.Iterator.{YieldsList-from_range}
use Rattle.std.proofs.lemmas.Iterator.Search.{all_from_yields_List}
use Rattle.geometry.specs.Words.{word}
use Rattle.shares.specs.Shares.{held, holdings_right}
use Rattle.share_answers.proofs.Loops.{all_range}
use Rattle.share_answers.proofs.Lent.holdings_right.Goals as goal

pub returns : goal.returns
unfolding holdings_right
returns c =
    let test = λ (k : ℕ). leb (held c.args.self.now.holders.now k) (word c.args.self.now.ceilings.now k) in
    all_range test test 4 _ (all_from_yields_List test _ _ _ c.all.ensures.ran (YieldsList-from_range 0 4 4 refl refl) (λ x b q k. search (rules, tests))) (λ k l. refl)
