use Rattle.replay.proofs.Taken.{taken, taken_whole}
use Rattle.replay.proofs.Going.{going_none, going_done, going_stop, going_room, going_on, going_next, read_is}
use mathlib.Core.Path.{refl, sym, ◌∙◌}
use native.Mathlib.Omega.{arith}
use borrow.Author.Rules.{rules}
use Rattle.replay.proofs.call_edits.Goals as goal

pub loop-item-init : goal.loop-item-init
loop-item-init c = (going_none _ _ _, refl, refl, refl, refl, refl)

pub returns-in-Ok-None : goal.returns-in-Ok-None
returns-in-Ok-None c = going_done _ _ _ _ _ _ _ c.loop-item.invariant.0 (read_is _ _ _ _ _ c.read_from.ensures c.in-Ok-None.is c.in-Ok-None.field-0-is)

pub returns-in-Err : goal.returns-in-Err
returns-in-Err c = going_stop _ _ _ _ _ _ _ c.loop-item.invariant.0 _ _ (sym c.read_from.ensures ∙ c.in-Err.is) c.stop_position.ensures

pub apply-requires : goal.apply-requires
apply-requires c = taken_whole _ _ _ (taken _ _ _ (read_is _ _ _ _ _ c.read_from.ensures c.in-Ok-Some.is c.in-Ok-Some.field-0-is))

pub offset_bounds-answers-count : goal.offset_bounds-answers-count
offset_bounds-answers-count c = omega (arith, going_room _ _ _ _ _ _ _ c.loop-item.invariant.0 _ (read_is _ _ _ _ _ c.read_from.ensures c.in-Ok-Some.is c.in-Ok-Some.field-0-is))

pub bounds-answers-count : goal.bounds-answers-count
bounds-answers-count c = omega (arith, going_room _ _ _ _ _ _ _ c.loop-item.invariant.0 _ (read_is _ _ _ _ _ c.read_from.ensures c.in-Ok-Some.is c.in-Ok-Some.field-0-is))

pub overflow_add-count : goal.overflow_add-count
overflow_add-count c = omega (arith, going_room _ _ _ _ _ _ _ c.loop-item.invariant.0 _ (read_is _ _ _ _ _ c.read_from.ensures c.in-Ok-Some.is c.in-Ok-Some.field-0-is))

pub loop-item-smaller : goal.loop-item-smaller
loop-item-smaller c = omega (arith, going_on _ _ _ _ _ _ _ c.loop-item.invariant.0 _ (read_is _ _ _ _ _ c.read_from.ensures c.in-Ok-Some.is c.in-Ok-Some.field-0-is))

pub loop-item-preserved : goal.loop-item-preserved
loop-item-preserved c = (
  going_next _ _ _ _ _ _ _ c.loop-item.invariant.0 _ (read_is _ _ _ _ _ c.read_from.ensures c.in-Ok-Some.is c.in-Ok-Some.field-0-is) _ _ c.requires (rw c.answer-answer.ensures c.apply.ensures),
  search rules,
  search rules,
  search rules,
  search rules,
  search rules,
)
