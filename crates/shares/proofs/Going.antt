-- What holds before and after every call in a contractor's name: the tables are a sound book's drawing, and question 18 is answered yes.
use mathlib.Core.Path.{◌≡◌, refl, sym, ap, ◌∙◌}
use mathlib.Core.List.{List, ◌∷◌}
use mathlib.Core.Bool.{true, false, ◌&&◌, not}
use Prim.Native.Nat.{ℕ, ◌<◌}
use native.Mathlib.Decide.{ℕ_discrete}
use native.Mathlib.Omega.{arith}
use lib.Dec.{ltb, eqb}
use lib.ListN.{length, set, length-set, get_or-replicate}
use borrow.Author.Tests.{ltb-true, eqb-true, eq-eqb, ne_eqb, not-true}
use Rattle.lists.proofs.Every.{both}
use Rattle.geometry.specs.Words.{Point, word}
use Rattle.tables.specs.Tables.{Tables, records}
use Rattle.book.specs.Questions.{Question, ask, first_no}
use Rattle.book.specs.Book.{Book, Edit, Target, the_block, the_run, the_figure, target, free, answer, step, write, written}
use Rattle.book.specs.Drawing.{Drawn}
use Rattle.book.specs.Edits.{book_of, Called}
use Rattle.book.proofs.Questions.{first_yes}
use Rattle.book.proofs.Stored.{run_free}
use Rattle.book.proofs.Sound.{Sound, step_done, step_refused}
use Rattle.book.proofs.Demand3.{drawn_lengths, drawn_records, drawn_book, call_drawn}
use Rattle.book.proofs.Checks.{checked_drawn, checked_sound}
use Rattle.shares.specs.Shares.{Terms, sum_below, held, free_numbers, unfilled_of, unfilled, lists_right, terms_right, shares_right}
use Rattle.shares.specs.Calls.{EditFor, add_run_for, remove_run_for, move_run_for, plain, own_run, questions_for, answer_over_for, holders_after, CalledFor}
use Rattle.shares.specs.History.{AnyEdit, named, any_answer}
use Rattle.shares.specs.Promise.{OffRuns, CallsFor, no_calls_for, call_for, between, Opened}
use Rattle.shares.proofs.Sums.{sum_same, count_all, count_none}
use Rattle.shares.proofs.Keeping.{terms_kept, Kept, kept_of, kept_yes, add_kept, remove_kept, move_kept}

pub lists_sized : (t : Terms) (hs : List ℕ) → lists_right t hs ≡ true → length hs ≡ 24
unfolding lists_right
lists_sized t hs h =
    eqb-true _ 24 (both (eqb (length hs) 24) (eqb (length t.shares) 4) (both (eqb (length hs) 24 && eqb (length t.shares) 4) (eqb (length t.ceilings) 4) h).0).0

lists_set : (t : Terms) (hs : List ℕ) (m v : ℕ) → lists_right t hs ≡ true → lists_right t (set hs m v) ≡ true
unfolding lists_right
lists_set t hs m v h = rw (length-set hs m v) h

lists_after : (t : Terms) (hs : List ℕ) (d : EditFor) → lists_right t hs ≡ true → lists_right t (holders_after d hs) ≡ true
lists_after t hs (add_run_for c m p q) h = lists_set t hs m _ h
lists_after t hs (remove_run_for c m) h = lists_set t hs m _ h
lists_after t hs (move_run_for c m p q) h = h

pub names : (c m : ℕ) → ltb c 4 && ltb m 24 ≡ true → (c < 4) × (m < 24)
names c m h = let a = both (ltb c 4) (ltb m 24) h in (ltb-true c 4 a.0, ltb-true m 24 a.1)

pub own_run_lem : (runs : List (List Point)) (hs : List ℕ) (c m : ℕ) → own_run runs hs c m ≡ true → (free runs m ≡ false) × (word hs m ≡ c)
own_run_lem runs hs c m h = let a = both (not (free runs m)) (eqb (word hs m) c) h in (not-true (free runs m) a.0, eqb-true _ c a.1)

-- 1, 18 and 3, which every call begins with
begun : (runs : List (List Point)) (t : Terms) (hs : List ℕ) (c m : ℕ) (qs : List Question)
    → first_no (ask 1 (lists_right t hs) ∷ ask 18 (shares_right runs t hs) ∷ ask 3 (ltb c 4 && ltb m 24) ∷ qs) ≡ 0
    → (length hs ≡ 24) × Kept runs t hs × (c < 4) × (m < 24) × (first_no qs ≡ 0)
begun runs t hs c m qs h =
    let q₁ = first_yes 0 _ _ h in
    let q₁₈ = first_yes 17 _ _ q₁.1 in
    let q₃ = first_yes 2 _ _ q₁₈.1 in
    let n = names c m q₃.0 in
    (lists_sized t hs q₁.0, kept_of runs t hs q₁₈.0, n.0, n.1, q₃.1)

-- an accepted call keeps question 18
call_right : (b : Book) (t : Terms) (hs : List ℕ) (d : EditFor) → Sound b → any_answer b (named d t hs) ≡ 0 → answer b (plain d) ≡ 0
    → shares_right (step b (plain d)).runs t (holders_after d hs) ≡ true
unfolding any_answer questions_for written
call_right b t hs (add_run_for c m p q) s h a =
    let k = begun b.runs t hs c m _ h in
    let q₄ = first_yes 3 _ _ k.4 in
    let q₁₉ = first_yes 18 _ _ q₄.1 in
    let q₂₀ = first_yes 19 _ _ q₁₉.1 in
    rw (step_done b (plain (add_run_for c m p q)) a)
    (kept_yes _ t _ (add_kept b.runs t hs c m k.1 s.run_count k.0 k.2 k.3 p q q₄.0 (ltb-true _ _ q₁₉.0) (ltb-true _ _ q₂₀.0)))
call_right b t hs (remove_run_for c m) s h a =
    let k = begun b.runs t hs c m _ h in
    let o = own_run_lem b.runs hs c m (first_yes 4 _ _ k.4).0 in
    rw (step_done b (plain (remove_run_for c m)) a)
    (kept_yes _ t _ (remove_kept b.runs t hs c m k.1 s.run_count k.0 k.2 k.3 o.0 o.1))
call_right b t hs (move_run_for c m p q) s h a =
    let k = begun b.runs t hs c m _ h in
    let o = own_run_lem b.runs hs c m (first_yes 4 _ _ k.4).0 in
    rw (step_done b (plain (move_run_for c m p q)) a)
    (kept_yes _ t _ (move_kept b.runs t hs c m k.1 s.run_count k.0 k.2 k.3 o.0 o.1 p q))

-- an edit of a block or of the figure leaves the places of runs
write_off : (b : Book) (g : Target) (ps : List Point) → ((m : ℕ) → g ≡ the_run m → ⊥) → (write b g ps).runs ≡ b.runs
write_off b (the_block n) ps h = refl
write_off b (the_run m) ps h = absurd (h m refl)
write_off b (the_figure f) ps h = refl

step_off : (b : Book) (e : Edit) → OffRuns e → (step b e).runs ≡ b.runs
step_off b e h = go (ℕ_discrete (answer b e) 0)
  where
    go : Dec (answer b e ≡ 0) → (step b e).runs ≡ b.runs
    go (yes z) = rw (step_done b e z) (write_off b (target e) (written b e) h)
    go (no z) = rw (step_refused b e z)

-- over the drawing of a book, a call answers as the book does
pub drawn_for : (b : Book) (T : Tables) (t : Terms) (hs : List ℕ) (d : EditFor) → Sound b → Drawn b T → answer_over_for T t hs d ≡ any_answer b (named d t hs)
unfolding answer_over_for any_answer first_no
drawn_for b T t hs d s w = rw (drawn_lengths b T s w, drawn_records b T s w, drawn_book b T s w)

pub record Going (t : Terms) (T : Tables) (hs : List ℕ) : Type 0 where
  pub book : Book
  pub sound : Sound book
  pub drawn : Drawn book T
  pub lists : lists_right t hs ≡ true
  pub right : shares_right book.runs t hs ≡ true

going_call : (d : EditFor) (t : Terms) (T T' : Tables) (hs hs' : List ℕ) (r : ℕ) → Going t T hs → CalledFor d t T hs r T' hs' → Going t T' hs'
going_call d t T T' hs hs' r g c = go (ℕ_discrete r 0)
  where
    go : Dec (r ≡ 0) → Going t T' hs'
    go (yes z) =
        let a = call_drawn g.book (plain d) T T' 0 g.sound g.drawn (c.done z).0 in
        let h = sym (drawn_for g.book T t hs d g.sound g.drawn) ∙ sym c.answer ∙ z in
        rw (c.done z).1
        record {
          book = step g.book (plain d);
          sound = a.1;
          drawn = a.2;
          lists = lists_after t hs d g.lists;
          right = call_right g.book t hs d g.sound h (sym a.0);
        }
    go (no z) = rw ((c.refused z).0, (c.refused z).1) g

going_between : (e : Edit) (t : Terms) (T T' : Tables) (hs : List ℕ) (r : ℕ) → OffRuns e → Going t T hs → Called e T r T' → Going t T' hs
going_between e t T T' hs r o g c =
    let a = call_drawn g.book e T T' r g.sound g.drawn c in
    record { book = step g.book e; sound = a.1; drawn = a.2; lists = g.lists; right = rw (step_off g.book e o) g.right }

pub going_all : {t : Terms} {T T' : Tables} {hs hs' : List ℕ} {xs : List AnyEdit} {rs : List ℕ} → Going t T hs → CallsFor t xs T hs rs T' hs' → Going t T' hs'
going_all g no_calls_for = g
going_all {t = t} {T = T} {hs = hs} g (call_for {d = d} {T₁ = T₁} {hs₁ = hs₁} {r = r} c cs) = going_all (going_call d t T T₁ hs hs₁ r g c) cs
going_all {t = t} {T = T} {hs = hs} g (between {e = e} {T₁ = T₁} {r = r} o c cs) = going_all (going_between e t T T₁ hs r o g c) cs

-- a yard without runs and holders
module _ (t : Terms) (runs : List (List Point)) (hs : List ℕ) (rules : terms_right t ≡ true)
    (empty : (m : ℕ) → m < 24 → free runs m ≡ true) (unheld : (m : ℕ) → m < 24 → word hs m ≡ 255) where
  none_held : (c : ℕ) → c < 4 → held hs c ≡ 0
  unfolding held
  none_held c l = count_none (λ m. eqb (word hs m) c) 24 (λ m b. rw (unheld m b) (ne_eqb 255 c (λ e. omega arith)))

  all_free : free_numbers runs ≡ 24
  unfolding free_numbers
  all_free = count_all (λ m. free runs m) 24 empty

  all_unfilled : unfilled hs t.shares ≡ sum_below 4 (λ c. word t.shares c)
  unfolding unfilled
  all_unfilled = sum_same (λ c. unfilled_of hs t.shares c) (λ c. word t.shares c) 4 (λ c l. omega (arith, none_held c l))

  empty_kept : Kept runs t hs
  empty_kept =
      record {
        terms = rules;
        holders = λ m l. rw (empty m l, unheld m l);
        holdings = λ c l. omega (arith, none_held c l);
        enough = omega (arith, all_free, all_unfilled, (terms_kept t rules).1);
      }

pub opened_going : (t : Terms) (T : Tables) (hs : List ℕ) → Opened t T hs → Going t T hs
opened_going t T hs o =
    record {
      book = book_of (records T);
      sound = checked_sound T o.checked;
      drawn = checked_drawn T o.checked;
      lists = o.lists;
      right =
          kept_yes (book_of (records T)).runs t hs
          (empty_kept t (book_of (records T)).runs hs o.terms
          (λ m l. run_free (records T) m l ∙ eq-eqb _ 0 (o.empty m l))
          (λ m l. ap (λ (s : List ℕ). word s m) o.unheld ∙ get_or-replicate 24 m 255 0 l));
    }
