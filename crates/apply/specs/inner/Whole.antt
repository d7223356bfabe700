-- What a record that was read asks of its file: its fields stand inside.
use Rattle.std.specs.Prelude.{◌≡◌, List, ℕ, ◌+◌, ◌≤◌, length}
use Rattle.yardfile.specs.declared.Item.{Item}
use Rattle.yardfile.specs.declared.Kind.TheVariants.{AddBlock, MoveBlock, AddRun, MoveRun, SetCharge}
use Rattle.file_words.specs.Words.{byte, block_size}

pub record Whole (f : List ℕ) (r : Item) : Type 0 where
  pub small : length f ≤ 8192
  pub block : r.kind ≡ AddBlock → r.fields + block_size (byte f 3) (byte f r.fields) ≤ length f
  pub shift : r.kind ≡ MoveBlock → r.fields + 4 ≤ length f
  pub ends : r.kind ≡ AddRun → r.fields + 8 ≤ length f
  pub new_ends : r.kind ≡ MoveRun → r.fields + 8 ≤ length f
  pub figure : r.kind ≡ SetCharge → r.fields + 2 ≤ length f
