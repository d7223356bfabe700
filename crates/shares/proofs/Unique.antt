-- The contract of a call in a contractor's name leaves no choice, over any tables and lists, and can be met.
use mathlib.Core.Path.{◌≡◌, refl, sym, ◌∙◌, subst}
use mathlib.Core.List.{List, ◌∷◌}
use mathlib.Core.Bool.{Bool, true, ◌&&◌, not}
use Prim.Native.Nat.{ℕ}
use native.Mathlib.Decide.{ℕ_discrete}
use lib.Dec.{ltb, eqb}
use Rattle.lists.proofs.Every.{both}
use Rattle.geometry.specs.Words.{Point, word}
use Rattle.tables.specs.Tables.{Tables, records}
use Rattle.records.specs.Questions.{records_right}
use Rattle.book.specs.Questions.{Question, ask, first_no, lengths_right}
use Rattle.book.specs.Book.{free, questions}
use Rattle.book.specs.Edits.{book_of, answer_over, Called}
use Rattle.book.proofs.Questions.{first_yes}
use Rattle.book.proofs.Unique.{called_unique}
use Rattle.book.proofs.Outcomes.{called_exists}
use Rattle.shares.specs.Shares.{Terms, lists_right, shares_right}
use Rattle.shares.specs.Calls.{EditFor, add_run_for, remove_run_for, move_run_for, plain, names_right, own_run, questions_for, answer_over_for, holders_after, CalledFor}

pub for_unique : (d : EditFor) (t : Terms) (T T₁ T₂ : Tables) (hs hs₁ hs₂ : List ℕ) (r r' : ℕ) → CalledFor d t T hs r T₁ hs₁ → CalledFor d t T hs r' T₂ hs₂
    → (r ≡ r') × (T₁ ≡ T₂) × (hs₁ ≡ hs₂)
for_unique d t T T₁ T₂ hs hs₁ hs₂ r r' a b = go (ℕ_discrete r 0)
  where
    same : r ≡ r'
    same = a.answer ∙ sym b.answer

    go : Dec (r ≡ 0) → (r ≡ r') × (T₁ ≡ T₂) × (hs₁ ≡ hs₂)
    go (yes z) =
        let x = a.done z in
        let y = b.done (sym same ∙ z) in
        (same, (called_unique (plain d) T 0 0 T₁ T₂ x.0 y.0).1, x.1 ∙ sym y.1)
    go (no z) =
        let x = a.refused z in
        let y = b.refused (λ q. z (same ∙ q)) in
        (same, x.0 ∙ sym y.0, x.1 ∙ sym y.1)

-- a question that is answered yes is passed
passed : (k : ℕ) (b : Bool) (qs : List Question) → b ≡ true → first_no qs ≡ 0 → first_no (ask k b ∷ qs) ≡ 0
unfolding first_no
passed k b qs h z = rw h z

-- what a call answers 0, the plain edit answers 0
module _ (T : Tables) (t : Terms) (hs : List ℕ) (c m : ℕ) (ps qs : List Question) where
  plain_first : first_no (ask 1 (lengths_right T && lists_right t hs) ∷ ask 2 (records_right (records T)) ∷ ask 18 (shares_right (book_of (records T)).runs t hs) ∷ ask 3 (names_right c m) ∷ qs) ≡ 0
      → (first_no qs ≡ 0 → first_no ps ≡ 0) → first_no (ask 1 (lengths_right T) ∷ ask 2 (records_right (records T)) ∷ ask 3 (ltb m 24) ∷ ps) ≡ 0
  plain_first z own =
      let q₁ = first_yes 0 _ _ z in
      let q₂ = first_yes 1 _ _ q₁.1 in
      let q₃ = first_yes 2 _ _ (first_yes 17 _ _ q₂.1).1 in
      passed 1 _ _ (both (lengths_right T) (lists_right t hs) q₁.0).0 (passed 2 _ _ q₂.0 (passed 3 _ _ (both (ltb c 4) (ltb m 24) q₃.0).1 (own q₃.1)))

own_taken : (runs : List (List Point)) (hs : List ℕ) (c m : ℕ) (qs : List Question) → first_no (ask 5 (own_run runs hs c m) ∷ qs) ≡ 0 → first_no (ask 5 (not (free runs m)) ∷ qs) ≡ 0
own_taken runs hs c m qs z =
    let q₅ = first_yes 4 _ _ z in
    passed 5 _ _ (both (not (free runs m)) (eqb (word hs m) c) q₅.0).0 q₅.1

for_plain : (d : EditFor) (t : Terms) (T : Tables) (hs : List ℕ) → answer_over_for T t hs d ≡ 0 → answer_over T (plain d) ≡ 0
unfolding answer_over_for questions_for answer_over questions
for_plain (add_run_for c m p q) t T hs z =
    plain_first T t hs c m _ _ z (λ own. let q₄ = first_yes 3 _ _ own in passed 4 _ _ q₄.0 (first_yes 19 _ _ (first_yes 18 _ _ q₄.1).1).1)
for_plain (remove_run_for c m) t T hs z = plain_first T t hs c m _ _ z (own_taken (book_of (records T)).runs hs c m _)
for_plain (move_run_for c m p q) t T hs z = plain_first T t hs c m _ _ z (own_taken (book_of (records T)).runs hs c m _)

pub for_exists : (d : EditFor) (t : Terms) (T : Tables) (hs : List ℕ) → (T' : Tables) × (hs' : List ℕ) × CalledFor d t T hs (answer_over_for T t hs d) T' hs'
for_exists d t T hs = go (ℕ_discrete (answer_over_for T t hs d) 0)
  where
    go : Dec (answer_over_for T t hs d ≡ 0) → (T' : Tables) × (hs' : List ℕ) × CalledFor d t T hs (answer_over_for T t hs d) T' hs'
    go (no z) = (T, hs, record { answer = refl; refused = λ n. (refl, refl); done = λ q. absurd (z q) })
    go (yes z) =
        let w = called_exists (plain d) T in
        (w.0, holders_after d hs, record { answer = refl; refused = λ n. absurd (n z); done = λ q. (subst (λ (r : ℕ). Called (plain d) T r w.0) (for_plain d t T hs z) w.1, refl) })
