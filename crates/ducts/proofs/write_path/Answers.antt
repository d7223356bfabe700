use mathlib.Core.Path.{◌∙◌}
use borrow.Author.Rules.{rules}
use lib.ListN.{length-map}
use Prim.Native.Nat.{◌-◌}
use Rattle.ducts.proofs.Writing.{cleared_length, written_first, written_next, written_all, first_below, next_below, move_is}
use Rattle.ducts.proofs.write_path.Goals as goal

pub put_crossing-requires : goal.put_crossing-requires
put_crossing-requires c = let q = c.requires.path in
    (search rules, search rules, first_below c.args.xs.now c.args.ys.now _ _ _ (length-map _ _ ∙ c.requires.lists.2) q.0 q.1 q.2, search rules, search cleared_length)

pub loop-k-init : goal.loop-k-init
loop-k-init c = let q = c.requires.path in written_first _ _ _ _ _ (length-map _ _ ∙ c.requires.lists.2) q.0 q.1 _ _ c.requires.lists.3 c.put_crossing.ensures

pub put_crossing-requires-in-loop-k : goal.put_crossing-requires-in-loop-k
put_crossing-requires-in-loop-k c = let q = c.requires.path in
    (search rules, search rules, next_below _ _ _ _ _ (length-map _ _ ∙ c.requires.lists.2) q.0 q.1 q.2 _ _ _ _ c.loop-k.invariant c.loop-k-test.true (move_is c.args.trail.now (c.loop-k.k - 1) c.loop-k.v _ c.moved-v.ensures), search rules, search rules)

pub loop-k-preserved : goal.loop-k-preserved
loop-k-preserved c = let q = c.requires.path in
    written_next _ _ _ _ _ (length-map _ _ ∙ c.requires.lists.2) q.0 q.1 _ _ _ _ _ c.loop-k.invariant c.loop-k-test.true (move_is c.args.trail.now (c.loop-k.k - 1) c.loop-k.v _ c.moved-v.ensures) c.put_crossing-in-loop-k.ensures

pub returns : goal.returns
returns c = let q = c.requires.path in written_all _ _ _ _ _ (length-map _ _ ∙ c.requires.lists.2) q.0 q.1 _ _ _ c.loop-k.invariant c.loop-k-test.false
