use Rattle.move_quotes.proofs.Moving.{part_asks, words_moved}
use Rattle.move_quotes.proofs.move_words.Goals as goal

pub moved_record-words-requires : goal.moved_record-words-requires
moved_record-words-requires c =
    part_asks _ _ c.ranges.east c.ranges.north _ _ c.requires.0 c.requires.1 c.requires.2

pub returns : goal.returns
returns c =
    words_moved _ _ c.ranges.east c.ranges.north _ _ c.args.after.now c.requires.3 c.requires.0.sized c.moved_record-words.ensures c.put_words.ensures c.put_words-2.ensures
