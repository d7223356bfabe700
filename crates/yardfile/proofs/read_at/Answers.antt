use Rattle.yardfile.proofs.Cases.{read_no_head, read_before, read_past, read_end, read_cut, read_outside, read_found, file_size, whole_inside, kind_got, kind_not_refused}
use borrow.Author.Rules.{rules}
use Rattle.yardfile.proofs.read_at.Goals as goal
use Rattle.yardfile.proofs.read_at.Goals.{then-at-lt5-via-then-at-lt5, then-at-lt5-via-else-at-lt5+then-file-at}

pub returns-then-not-head_right : goal.returns-then-not-head_right
returns-then-not-head_right c = search read_no_head

pub returns-then-at-lt5 : goal.returns-then-at-lt5
returns-then-at-lt5 c =
    elim c.then-at-lt5.branch [
      | then-at-lt5-via-then-at-lt5 w ↦ search read_before
      | then-at-lt5-via-else-at-lt5+then-file-at w ↦ search read_past
    ]

pub returns-then-at-file : goal.returns-then-at-file
returns-then-at-file c = search read_end

pub record_whole-requires : goal.record_whole-requires
record_whole-requires c = (search file_size, search rules)

pub returns-then-not-record_whole : goal.returns-then-not-record_whole
returns-then-not-record_whole c = search read_cut

pub corners_right-requires : goal.corners_right-requires
corners_right-requires c = (search whole_inside, search file_size)

pub returns-then-not-corners_right : goal.returns-then-not-corners_right
returns-then-not-corners_right c = search read_outside

pub returns-in_err-kind : goal.returns-in_err-kind
returns-in_err-kind c = absurd (kind_not_refused _ _ _ _ _ c.record_whole.ensures c.if-not-record_whole.false c.try_from.ensures c.in_err-kind.was)

pub item_at-requires : goal.item_at-requires
item_at-requires c = (
  search whole_inside,
  search file_size,
  kind_got _ _ _ _ _ c.record_whole.ensures c.if-not-record_whole.false c.try_from.ensures c.in_ok-kind.was,
)

pub returns : goal.returns
returns c = search read_found
