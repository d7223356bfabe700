use Rattle.block_bytes.proofs.Touching.{lined_up}
use Rattle.redrawing.proofs.redraw_block.Goals as goal

pub redraw_rows-requires : goal.redraw_rows-requires
redraw_rows-requires c = (
  record {
    coded = record { records = c.requires.0; table = c.fill_codes.ensures };
    near = c.mark_masks.ensures;
    lined = lined_up _ _ _ _ _ _ c.fill_marks.ensures c.fill_lines.ensures;
    apart = c.all_apart-alone.ensures;
  },
  c.requires.1,
  c.requires.2,
)
