-- What the exported read answers and leaves: numbers and words, where the reader under it answers a Result. Rule 30.
use Rattle.std.specs.Prelude.{◌≡◌, Option, Some, None, Ok, Err, List, [], ◌∷◌, ℕ, length}
use Rattle.refusals.specs.declared.Refusal.{Refusal}
use Rattle.refusals.specs.Numbers.{number_of}
use Rattle.yardfile.specs.declared.Item.{Item}
use Rattle.yardfile.specs.File.{kind_byte, read_at}

-- the four words of a record: its kind, its number, where its fields start, and the position after it
abbrev pub item_words : Item → List ℕ
item_words r = kind_byte r.kind ∷ r.number ∷ r.fields ∷ r.next ∷ []

-- those of what was found at a position, where the end is a record of kind 0
abbrev pub words_of : Option Item → ℕ → List ℕ
words_of (Some r) at = item_words r
words_of None at = 0 ∷ 0 ∷ 0 ∷ at ∷ []

-- reading file f at a position into a lent list: kind 0 at the end; refused, or where the list is not four words long, the list is kept
pub data ReadInto (f : List ℕ) (at : ℕ) (old : List ℕ) : ℕ → List ℕ → Type 0 where
  wrong_length : (length old ≡ 4 → ⊥) → ReadInto f at old 1 old
  a_record : {r : Item} → length old ≡ 4 → read_at f at ≡ Ok (Some r) → ReadInto f at old 0 (item_words r)
  the_end : length old ≡ 4 → read_at f at ≡ Ok None → ReadInto f at old 0 (0 ∷ 0 ∷ 0 ∷ at ∷ [])
  refusal : {r : Refusal} → length old ≡ 4 → read_at f at ≡ Err r → ReadInto f at old (number_of r) old
