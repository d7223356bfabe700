use Rattle.std.proofs.Common.{rules}
use Rattle.file_words.proofs.Sizes.{sized_full, sized_empty, sized_short}
use Rattle.file_words.proofs.block_size.Goals as goal

pub returns-then-version-eq1 : goal.returns-then-version-eq1
returns-then-version-eq1 c = (rw c.from-corners.ensures (sized_full _ _ c.if-version-eq1.true), search rules)

pub returns-then-corners-eq0 : goal.returns-then-corners-eq0
returns-then-corners-eq0 c = let e = rw c.from-corners.ensures at c.if-corners-eq0.true in (sized_empty _ _ c.if-version-eq1.false e, search rules)

pub returns-else-corners-eq0 : goal.returns-else-corners-eq0
returns-else-corners-eq0 c = let e = rw c.from-corners.ensures at c.if-corners-eq0.false in (rw c.from-corners.ensures (sized_short _ _ c.if-version-eq1.false e), search rules)
