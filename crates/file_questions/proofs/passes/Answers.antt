use Rattle.std.proofs.Common.{ap}
use Rattle.file_questions.specs.inner.Questions.{number_asked}
use Rattle.file_questions.proofs.Asking.{asked_ten, asked_other, asked_room, asked_21, asked_22, not_ten, not_21}
use borrow.Author.Rules.{rules}
use Rattle.file_questions.proofs.passes.Goals as goal

pub returns-in-Whole : goal.returns-in-Whole
returns-in-Whole c = asked_ten _ _ _ _ (ap number_asked c.in-Whole.is) c.record_whole.ensures

pub returns-then-byte_at-ne1 : goal.returns-then-byte_at-ne1
returns-then-byte_at-ne1 c = asked_other _ _ _ (not_ten _ c.in_default.not-Whole) _ c.byte_at.ensures c.if-byte_at-ne1.true

pub corners_in-words-requires : goal.corners_in-words-requires
corners_in-words-requires c = (asked_room _ _ _ _ c.byte_at.ensures c.if-byte_at-ne1.false (not_ten _ c.in_default.not-Whole) c.requires.2, search rules)

pub returns-in-Near : goal.returns-in-Near
returns-in-Near c =
    asked_21 _ _ _ (not_ten _ c.in_default.not-Whole) _ c.byte_at.ensures c.if-byte_at-ne1.false _ c.corners_in-words.ensures _ (ap number_asked c.in-Near.is) c.near.ensures

pub returns : goal.returns
returns c =
    asked_22 _ _ _ (not_ten _ c.in_default.not-Whole) _ c.byte_at.ensures c.if-byte_at-ne1.false _ c.corners_in-words.ensures _ (not_21 _ c.in_default-question.not-Near) c.inside.ensures
