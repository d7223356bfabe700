use Rattle.std.proofs.Common.{rules, tests, ◌≡◌, ℕ, take, nat_eq}
use Rattle.std.specs.Prelude.{position}
use Rattle.std.proofs.lemmas.Iterator.Search.{position_from_yields_List}
use Rattle.std.proofs.lemmas.Iterator.{YieldsList-from_slice}
use Rattle.lines.proofs.Lists.{index_is}
use Rattle.lines.proofs.index_of.Goals as goal

pub returns : goal.returns
returns c =
    let e : c.position.result ≡ position (λ (y : ℕ). nat_eq c.args.x y) (take c.args.n c.args.list.now) =
    position_from_yields_List (λ (y : ℕ). nat_eq c.args.x y) _ _ c.position.result c.position.ensures.ran (YieldsList-from_slice _ c.iter.ensures.rest) (λ x b q k. search (rules, tests)) in
    index_is _ _ _ _ c.requires c.unwrap_or.ensures e
