-- The edit that a record of a yard file asks for. Rule 29.
use Rattle.std.specs.Prelude.{List, ℕ, ◌+◌}
use Rattle.geometry.specs.Words.{Point, point}
use Rattle.book.specs.Book.{Edit, add_block, remove_block, move_block, add_run, remove_run, move_run, set_charge}
use Rattle.yardfile.specs.declared.Item.{Item}
use Rattle.yardfile.specs.declared.Kind.{Kind}
use Rattle.yardfile.specs.declared.Kind.TheVariants.{AddBlock, RemoveBlock, MoveBlock, AddRun, RemoveRun, MoveRun, SetCharge}
use Rattle.file_words.specs.Words.{field, displacement, corner_words}

-- the place whose two coordinates stand at a position
abbrev pub place_in : List ℕ → ℕ → Point
place_in f at = point (field f at) (field f (at + 2))

-- the edit that a record asks for, by its kind; the number of the seventh is ignored
unfoldable pub edit_for : List ℕ → Kind → ℕ → ℕ → Edit
edit_for f AddBlock number at = add_block number (corner_words f at)
edit_for f RemoveBlock number at = remove_block number
edit_for f MoveBlock number at = move_block number (displacement (field f at)) (displacement (field f (at + 2)))
edit_for f AddRun number at = add_run number (place_in f at) (place_in f (at + 4))
edit_for f RemoveRun number at = remove_run number
edit_for f MoveRun number at = move_run number (place_in f at) (place_in f (at + 4))
edit_for f SetCharge number at = set_charge (field f at)

abbrev pub edit_of : List ℕ → Item → Edit
edit_of f r = edit_for f r.kind r.number r.fields
