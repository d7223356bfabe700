-- The answers of the exported read.
use mathlib.Core.Path.{◌≡◌, sym, ◌∙◌}
use mathlib.Core.List.{List}
use Prim.Native.Nat.{ℕ}
use lib.ListN.{length}
use Rattle.std.proofs.Common.{Option, Some, None, Result, Ok, Err}
use Rattle.refusals.specs.declared.Refusal.{Refusal}
use Rattle.refusals.specs.Numbers.{number_of}
use Rattle.yardfile.specs.declared.Item.{Item}
use Rattle.yardfile.specs.File.{read_at}
use Rattle.file_calls.specs.Reading.{ReadInto, a_record, the_end, refusal, words_of}

module _ (f : List ℕ) (at : ℕ) (old : List ℕ) (l : length old ≡ 4) (r : Result (Option Item) Refusal) (e : r ≡ read_at f at) where
  pub read_words : (x : Option Item) (new : List ℕ) → r ≡ Ok x → new ≡ words_of x at → ReadInto f at old 0 new
  read_words (Some i) new q n = rw n (a_record l (sym e ∙ q))
  read_words None new q n = rw n (the_end l (sym e ∙ q))

  pub read_refused : (x : Refusal) → r ≡ Err x → ReadInto f at old (number_of x) old
  read_refused x q = refusal l (sym e ∙ q)
