-- What every contractor may count on, after any list of calls. Rule 52.
use Rattle.std.specs.Prelude.{◌≡◌, List, [], ◌∷◌, true, ◌&&◌, ℕ, ◌*◌, ◌<◌, replicate}
use Rattle.geometry.specs.Words.{Point, word}
use Rattle.tables.specs.Tables.{Tables}
use Rattle.records.specs.Questions.{place_right}
use Rattle.book.specs.Book.{Edit, the_run, target}
use Rattle.book.specs.Edits.{Called, Checked}
use Rattle.shares.specs.Shares.{Terms, lists_right, terms_right, held}
use Rattle.shares.specs.Calls.{EditFor, add_run_for, CalledFor}
use Rattle.shares.specs.History.{AnyEdit, unnamed, named}

-- the edit is one of a block or of the figure
abbrev pub OffRuns : Edit → Type 0
OffRuns e = (m : ℕ) → target e ≡ the_run m → ⊥

-- calls with the same terms, each handed tables and holders as the one before left them; between them blocks and the figure may be edited too
pub data CallsFor (t : Terms) : List AnyEdit → Tables → List ℕ → List ℕ → Tables → List ℕ → Type 0 where
  no_calls_for : {T : Tables} {hs : List ℕ} → CallsFor t [] T hs [] T hs
  call_for : {d : EditFor} {xs : List AnyEdit} {T T₁ T₂ : Tables} {hs hs₁ hs₂ : List ℕ} {r : ℕ} {rs : List ℕ}
      → CalledFor d t T hs r T₁ hs₁ → CallsFor t xs T₁ hs₁ rs T₂ hs₂ → CallsFor t (named d t hs ∷ xs) T hs (r ∷ rs) T₂ hs₂
  between : {e : Edit} {xs : List AnyEdit} {T T₁ T₂ : Tables} {hs hs₂ : List ℕ} {r : ℕ} {rs : List ℕ}
      → OffRuns e → Called e T r T₁ → CallsFor t xs T₁ hs rs T₂ hs₂ → CallsFor t (unnamed e ∷ xs) T hs (r ∷ rs) T₂ hs₂

-- where the promise starts: a yard without runs that the check answers 0, all holders 255, shares and ceilings within the rules
pub record Opened (t : Terms) (T : Tables) (hs : List ℕ) : Type 0 where
  pub checked : Checked T 0
  pub empty : (m : ℕ) → m < 24 → word T.runs (5 * m) ≡ 0
  pub unheld : hs ≡ replicate 24 255
  pub lists : lists_right t hs ≡ true
  pub terms : terms_right t ≡ true

-- a number that is free, as the run table says it
pub record FreeNumber (T : Tables) : Type 0 where
  pub number : ℕ
  pub below : number < 24
  pub absent : word T.runs (5 * number) ≡ 0

-- whoever holds fewer runs than promised finds a free number, and adding at any free number with right coordinates is answered 0
pub record Promise (t : Terms) (T : Tables) (hs : List ℕ) : Type 0 where
  pub finds : (c : ℕ) → c < 4 → held hs c < word t.shares c → FreeNumber T
  pub accepts : (c m : ℕ) (p q : Point) → c < 4 → held hs c < word t.shares c → m < 24 → word T.runs (5 * m) ≡ 0 → place_right p && place_right q ≡ true
      → (r : ℕ) (T' : Tables) (hs' : List ℕ) → CalledFor (add_run_for c m p q) t T hs r T' hs' → r ≡ 0

-- the promise is kept after any such list of calls
abbrev pub KeepsPromise : Type 0
KeepsPromise =
    (t : Terms) (T T' : Tables) (hs hs' : List ℕ) (xs : List AnyEdit) (rs : List ℕ)
    → Opened t T hs → CallsFor t xs T hs rs T' hs' → Promise t T' hs'
