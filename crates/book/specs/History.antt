-- Demand 3: a yard that was started and then edited in any way is its book's fresh drawing, and each answer the book's. Rules 26 and 27.
use Rattle.std.specs.Prelude.{◌≡◌, List, [], ◌∷◌, true, ◌⊎◌, ℕ, ◌<◌}
use Rattle.geometry.specs.Words.{word}
use Rattle.tables.specs.Tables.{Tables, records, pair_index, OnRun}
use Rattle.visibility.specs.Visibility.{Hides, both_present, Afresh}
use Rattle.book.specs.Book.{Edit, Target, the_block, the_run, the_figure, target, empty_book, answers, after_all}
use Rattle.book.specs.Drawing.{Drawn}
use Rattle.book.specs.Edits.{Called, Started}

-- the calls of a list of edits, each handed the tables as the one before left them
pub data Calls : List Edit → Tables → List ℕ → Tables → Type 0 where
  no_calls : {T : Tables} → Calls [] T [] T
  call : {e : Edit} {es : List Edit} {T T₁ T₂ : Tables} {r : ℕ} {rs : List ℕ} → Called e T r T₁ → Calls es T₁ rs T₂ → Calls (e ∷ es) T (r ∷ rs) T₂

-- the entries that an accepted edit may rewrite: those that end on its record; of a block's edit also those whose byte was its number,
-- 253 or 254, and those above it between present marks that the block as it now stands hides; of the figure none
abbrev pub MayRewrite : Target → Tables → Tables → ℕ → ℕ → Type 0
MayRewrite (the_block n) T T' i j =
    Afresh n i j (word T.pairs (pair_index i j))
    ⊎ ((both_present (records T') i j ≡ true) × (n < word T.pairs (pair_index i j)) × Hides (records T') n i j)
MayRewrite (the_run m) T T' i j = OnRun m i ⊎ OnRun m j
MayRewrite (the_figure f) T T' i j = ⊥

-- the last sentence of the demand, over any tables, right or wrong: an entry that a call changes is one that it may rewrite
abbrev pub RewritesOnly : Type 0
RewritesOnly =
    (e : Edit) (T T' : Tables) (r : ℕ) → Called e T r T'
    → (i j : ℕ) → i < j → j < 240 → (word T'.pairs (pair_index i j) ≡ word T.pairs (pair_index i j) → ⊥) → MayRewrite (target e) T T' i j

-- the claim about the whole list: any edits with any arguments, refused ones among them
abbrev pub Demand3 : Type 0
Demand3 =
    (T₀ T T' : Tables) (es : List Edit) (rs : List ℕ)
    → Started T₀ 0 T → Calls es T rs T'
    → (rs ≡ answers empty_book es) × Drawn (after_all empty_book es) T'
