-- The contract of the quote can be met over any tables and words; by `quoted_unique` in one way only.
use mathlib.Core.Path.{◌≡◌, refl, sym}
use mathlib.Core.Logic.{◌⊎◌, inl, inr}
use mathlib.Core.List.{List}
use Prim.Native.Nat.{ℕ, ◌*◌, ◌≤◌}
use native.Mathlib.Decide.{ℕ_discrete, dec_lt}
use native.Mathlib.Omega.{arith}
use lib.IntN.{ℤ}
use Rattle.geometry.specs.Words.{word}
use Rattle.tables.specs.Tables.{Tables, records}
use Rattle.run_prices.proofs.Exists.{prices_exist}
use Rattle.book.specs.Book.{move_block}
use Rattle.answers.proofs.Accepting.{ready}
use Rattle.move_quotes.specs.Quote.{quote_answer, moved, MoveQuoted}
use Rattle.move_quotes.proofs.Asking.{accepted}

pub quoted_exists : (T : Tables) (n : ℕ) (de dn : ℤ) (quote : List ℕ) → (quote' : List ℕ) × MoveQuoted T n de dn quote (quote_answer T n de dn quote) quote'
unfolding moved
quoted_exists T n de dn quote = go (ℕ_discrete (quote_answer T n de dn quote) 0)
  where
    flag : (x : ℕ) → x ≤ 1 → (x ≡ 0) ⊎ (x ≡ 1)
    flag x h = elim (dec_lt 0 x) [ yes l ↦ inr (omega arith) | no l ↦ inl (omega arith) ]

    go : Dec (quote_answer T n de dn quote ≡ 0) → (quote' : List ℕ) × MoveQuoted T n de dn quote (quote_answer T n de dn quote) quote'
    go (no z) = (quote, record { answer = refl; refused = λ q. refl; done = λ q. absurd (z q) })
    go (yes z) =
        let a = accepted T n de dn quote (sym z) in
        let f = ready T (move_block n de dn) (sym a.answer) in
        let p = prices_exist (moved (records T) n de dn) (λ m l. flag (word T.runs (5 * m)) (f.fit.runs.flags m l)) in
        (p.0, record { answer = refl; refused = λ q. absurd (q z); done = λ q. p.1 })
