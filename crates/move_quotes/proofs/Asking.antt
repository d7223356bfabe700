-- The number of a quote: the move's own, where the 48 words are there.
use mathlib.Core.Path.{◌≡◌, sym, ◌∙◌}
use mathlib.Core.List.{List}
use Prim.Native.Nat.{ℕ}
use native.Mathlib.Omega.{arith}
use native.Mathlib.Decide.{ℕ_discrete}
use lib.IntN.{ℤ}
use lib.ListN.{length}
use borrow.Author.Tests.{eq-eqb, ne_eqb}
use Rattle.tables.specs.Tables.{Tables}
use Rattle.book.specs.Book.{move_block}
use Rattle.book.specs.Edits.{answer_over}
use Rattle.move_quotes.specs.Quote.{quote_answer}

module _ (T : Tables) (n : ℕ) (de dn : ℤ) (quote : List ℕ) where
  -- its answer is that move's answer
  pub move_answer : length quote ≡ 48 → quote_answer T n de dn quote ≡ answer_over T (move_block n de dn)
  unfolding quote_answer
  move_answer l = rw (eq-eqb (length quote) 48 l)

  pub short_answer : (length quote ≡ 48 → ⊥) → 1 ≡ quote_answer T n de dn quote
  unfolding quote_answer
  short_answer l = rw (ne_eqb (length quote) 48 l)

  pub record Accepted : Type 0 where
    pub sized : length quote ≡ 48
    pub answer : answer_over T (move_block n de dn) ≡ 0

  pub accepted : 0 ≡ quote_answer T n de dn quote → Accepted
  accepted e = go (ℕ_discrete (length quote) 48)
    where
      go : Dec (length quote ≡ 48) → Accepted
      go (yes l) = record { sized = l; answer = sym (e ∙ move_answer l) }
      go (no l) = absurd (omega (arith, short_answer l, e))
