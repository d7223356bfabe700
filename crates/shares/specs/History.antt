-- Demand 3 with the edits in a contractor's name in the list: what is lent besides the yard's tables is an argument. Rule 51.
use Rattle.std.specs.Prelude.{◌≡◌, List, [], ◌∷◌, ℕ, zero, suc, ◌<◌}
use Rattle.geometry.specs.Words.{word}
use Rattle.tables.specs.Tables.{Tables, pair_index}
use Rattle.book.specs.Questions.{ask, first_no}
use Rattle.book.specs.Book.{Edit, Book, target, empty_book, answer, step}
use Rattle.book.specs.Drawing.{Drawn}
use Rattle.book.specs.Edits.{Called, Started}
use Rattle.book.specs.History.{MayRewrite}
use Rattle.shares.specs.Shares.{Terms, lists_right}
use Rattle.shares.specs.Calls.{EditFor, plain, questions_for, CalledFor}

-- an edit of the list: in nobody's name, or in a contractor's with the shares, ceilings and holders that are lent
pub data AnyEdit : Type 0 where
  unnamed : Edit → AnyEdit
  named : EditFor → Terms → List ℕ → AnyEdit

-- the same edit in nobody's name
abbrev pub plain_of : AnyEdit → Edit
plain_of (unnamed e) = e
plain_of (named d t hs) = plain d

-- the book's answer: 1 is asked only of what is lent besides the yard's tables, and 2 never
unfoldable pub any_answer : Book → AnyEdit → ℕ
any_answer b (unnamed e) = answer b e
any_answer b (named d t hs) = first_no (ask 1 (lists_right t hs) ∷ questions_for b.runs t hs d)

-- the book after an edit: the step of the same edit in nobody's name; refused, it stays
unfoldable pub any_step : Book → AnyEdit → Book
any_step b x = elim (any_answer b x) [ zero ↦ step b (plain_of x) | suc n ↦ b ]

-- the book after a list of edits, and its answers
unfoldable pub after_any : Book → List AnyEdit → Book
after_any b [] = b
after_any b (x ∷ xs) = after_any (any_step b x) xs

unfoldable pub any_answers : Book → List AnyEdit → List ℕ
any_answers b [] = []
any_answers b (x ∷ xs) = any_answer b x ∷ any_answers (any_step b x) xs

-- the call of an edit, and the calls of a list of edits, each handed the tables as the one before left them
pub data AnyCalled : AnyEdit → Tables → ℕ → Tables → Type 0 where
  called_plain : {e : Edit} {T T' : Tables} {r : ℕ} → Called e T r T' → AnyCalled (unnamed e) T r T'
  called_for : {d : EditFor} {t : Terms} {T T' : Tables} {hs hs' : List ℕ} {r : ℕ} → CalledFor d t T hs r T' hs' → AnyCalled (named d t hs) T r T'

pub data AnyCalls : List AnyEdit → Tables → List ℕ → Tables → Type 0 where
  none_called : {T : Tables} → AnyCalls [] T [] T
  next_called : {x : AnyEdit} {xs : List AnyEdit} {T T₁ T₂ : Tables} {r : ℕ} {rs : List ℕ}
      → AnyCalled x T r T₁ → AnyCalls xs T₁ rs T₂ → AnyCalls (x ∷ xs) T (r ∷ rs) T₂

-- the claim about the whole list: any edits with any arguments and any lists lent, refused ones among them
abbrev pub AnyDemand3 : Type 0
AnyDemand3 =
    (T₀ T T' : Tables) (xs : List AnyEdit) (rs : List ℕ)
    → Started T₀ 0 T → AnyCalls xs T rs T'
    → (rs ≡ any_answers empty_book xs) × Drawn (after_any empty_book xs) T'

-- the demand's last sentence, over any tables: an entry that a call changes is one that the same edit in nobody's name may rewrite
abbrev pub AnyRewritesOnly : Type 0
AnyRewritesOnly =
    (x : AnyEdit) (T T' : Tables) (r : ℕ) → AnyCalled x T r T'
    → (i j : ℕ) → i < j → j < 240 → (word T'.pairs (pair_index i j) ≡ word T.pairs (pair_index i j) → ⊥) → MayRewrite (target (plain_of x)) T T' i j

-- of edits and their answers, the edits that were answered 0
unfoldable pub made : List Edit → List ℕ → List Edit
made [] rs = []
made (e ∷ es) [] = []
made (e ∷ es) (zero ∷ rs) = e ∷ made es rs
made (e ∷ es) (suc r ∷ rs) = made es rs
