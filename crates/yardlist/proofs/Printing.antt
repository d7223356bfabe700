-- What is replayed over a started yard and then listed is what a file prints.
use mathlib.Core.Path.{◌≡◌, ◌∙◌, subst}
use mathlib.Core.List.{List, [], ◌∷◌}
use Prim.Native.Nat.{ℕ}
use lib.ListN.{length, replicate, length-replicate}
use Rattle.tables.specs.Tables.{Tables, tables}
use Rattle.book.specs.Questions.{ask, first_no, lengths_right}
use Rattle.book.specs.Edits.{started, Started}
use Rattle.book.proofs.Questions.{Sized, sized, lengths_yes}
use Rattle.replay.specs.Replay.{Replayed}
use Rattle.listing.specs.Lines.{Listed}
use Rattle.yardlist.specs.Printed.{Printed}

accepted : (T : Tables) → Sized T → first_no (ask 1 (lengths_right T) ∷ []) ≡ 0
unfolding first_no
accepted T s = rw (lengths_yes T s)

start_empty : {T : Tables} {q : ℕ} {T' : Tables} → Sized T → Started T q T' → T' ≡ started
start_empty {T} s st = st.done (st.answer ∙ accepted T s)

zeros : (n : ℕ) → length {A = ℕ} (replicate n 0) ≡ n
zeros n = length-replicate {A = ℕ} n 0

pub printed : {f : List ℕ} {q : ℕ} {T : Tables} {answers : List ℕ} {count number at : ℕ} {b r p s t old new : List ℕ} {k : ℕ}
    → Started (tables (replicate 408 0) (replicate 121 0) (replicate 28680 0) (replicate 4728 0) (replicate 25 0)) q T
    → Replayed f T (replicate 4096 0) answers count number at (tables b r p s t)
    → Listed answers count number at s old new k
    → Printed f old new k
printed {f} {q} {T} {answers} {count} {number} {at} {b} {r} {p} {s} {t} st re li =
    record {
      answers = answers;
      count = count;
      number = number;
      at = at;
      yard = tables b r p s t;
      replayed = subst (λ (U : Tables). Replayed f U (replicate 4096 0) answers count number at (tables b r p s t)) (start_empty empty st) re;
      listed = li;
    }
  where
    empty : Sized (tables (replicate 408 0) (replicate 121 0) (replicate 28680 0) (replicate 4728 0) (replicate 25 0))
    empty = sized _ _ _ _ _ (zeros 408) (zeros 121) (zeros 28680) (zeros 4728) (zeros 25)
