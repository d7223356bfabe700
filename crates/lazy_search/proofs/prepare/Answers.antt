use mathlib.Core.Path.{refl, sym, ◌∙◌}
use native.Mathlib.Omega.{arith}
use lib.ListN.{length-set}
use Rattle.lazy_search.proofs.Begin.{begin_listed, prepared}
use Rattle.lazy_search.proofs.prepare.Goals as goal

pub overflow_add-n : goal.overflow_add-n
overflow_add-n c = omega (arith, c.requires.fit.2.bends.few)

pub lower_bounds-requires : goal.lower_bounds-requires
lower_bounds-requires c = record { blocks_len = (c.requires.fit.0.blocks.sized, c.requires.fit.0.runs.sized); listed = (begin_listed _ _ c.requires.fit.0 c.requires.fit.1 c.requires.fit.2, omega (arith, c.requires.fit.1), c.requires.bounds_len.0) }

pub overflow_add-n-2 : goal.overflow_add-n-2
overflow_add-n-2 c = omega (arith, c.requires.fit.2.bends.few)

pub lower_bounds-requires-2 : goal.lower_bounds-requires-2
lower_bounds-requires-2 c = record { blocks_len = (c.requires.fit.0.blocks.sized, c.requires.fit.0.runs.sized); listed = (begin_listed _ _ c.requires.fit.0 c.requires.fit.1 c.requires.fit.2, omega (arith, c.requires.fit.1), refl) }

pub overflow_add-n-3 : goal.overflow_add-n-3
overflow_add-n-3 c = omega (arith, c.requires.fit.2.bends.few)

pub take_words-requires : goal.take_words-requires
take_words-requires c = (c.lower_bounds-2.ensures.sized, begin_listed _ _ c.requires.fit.0 c.requires.fit.1 c.requires.fit.2, c.requires.bounds_len.1.sized)

pub bounds-key-m : goal.bounds-key-m
bounds-key-m c = omega (arith, c.take_words.ensures.sized, c.requires.bounds_len.1.sized)

pub shape_of-bounds : goal.shape_of-bounds
shape_of-bounds c = c.lower_bounds.ensures.sized ∙ sym c.requires.bounds_len.0

pub shape_of-key : goal.shape_of-key
shape_of-key c = simp length-set c.take_words.ensures.sized

pub returns : goal.returns
returns c = prepared _ _ c.requires.fit.0 c.requires.fit.1 c.requires.fit.2 c.requires.bounds_len.1 c.lower_bounds.ensures c.lower_bounds-2.ensures c.take_words.ensures
