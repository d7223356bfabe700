-- The quote and the move agree: on a yard that the check answers 0 the words are the states and lengths that the move leaves in the route table.
use mathlib.Core.Path.{◌≡◌, refl, ap, ◌∙◌}
use mathlib.Core.List.{List}
use Prim.Native.Nat.{ℕ, ◌+◌, ◌*◌, ◌<◌}
use lib.IntN.{ℤ}
use Rattle.geometry.specs.Words.{word}
use Rattle.tables.specs.Tables.{Tables, records, stored}
use Rattle.run_prices.proofs.Unique.{prices_unique}
use Rattle.run_prices.proofs.Exists.{prices_of, prices_of_lem, state_at, price_at}
use Rattle.book.specs.Book.{Edit, Book, move_block, empty_book, after_all}
use Rattle.book.specs.Drawing.{Drawn}
use Rattle.book.specs.Edits.{book_of, Started, Checked, Called}
use Rattle.book.specs.History.{Calls}
use Rattle.book.proofs.Sound.{Sound, empty_sound, all_sound}
use Rattle.book.proofs.Demand3.{call_drawn, demand3}
use Rattle.book.proofs.Checks.{checked_drawn, checked_sound}
use Rattle.move_quotes.specs.Quote.{moved, MoveQuoted}
use Rattle.move_quotes.proofs.Asking.{accepted}

-- the words are the states, then the lengths, of the route table
abbrev Same : List ℕ → List ℕ → Type 0
Same quote routes = (m : ℕ) → m < 24 → (word quote m ≡ word routes (197 * m)) × (word quote (24 + m) ≡ word routes (197 * m + 1))

module _ (T T' : Tables) (n : ℕ) (de dn : ℤ) (quote quote' : List ℕ) (r : ℕ) (q : MoveQuoted T n de dn quote 0 quote') (c : Called (move_block n de dn) T r T') where
  -- the move that was quoted is made
  pub move_made : r ≡ 0
  move_made = c.answer ∙ (accepted T n de dn quote q.answer).answer

  -- and leaves the records that were priced, over any tables
  pub move_records : records T' ≡ moved (records T) n de dn
  unfolding moved
  move_records = let e = c.done move_made in λ i. stored (e.blocks i) (e.runs i)

  pub drawn_prices : (b : Book) → Sound b → Drawn b T → Same quote' T'.routes
  drawn_prices b s d m l =
      let e : quote' ≡ prices_of T'.routes =
      prices_unique (moved (records T) n de dn) quote' (prices_of T'.routes) (q.done refl)
      (rw (← move_records) (prices_of_lem (records T') T'.routes (call_drawn b (move_block n de dn) T T' r s d c).2.right.routes)) in
      (ap (λ (ws : List ℕ). word ws m) e ∙ state_at T'.routes m l, ap (λ (ws : List ℕ). word ws (24 + m)) e ∙ price_at T'.routes m l)

  pub move_prices : Checked T 0 → Same quote' T'.routes
  move_prices k = drawn_prices (book_of (records T)) (checked_sound T k) (checked_drawn T k)

-- so it is after any list of edits from a start
pub history_prices : (T₀ T₁ T T' : Tables) (es : List Edit) (rs : List ℕ) → Started T₀ 0 T₁ → Calls es T₁ rs T
    → (n : ℕ) (de dn : ℤ) (quote quote' : List ℕ) (r : ℕ) → MoveQuoted T n de dn quote 0 quote' → Called (move_block n de dn) T r T' → Same quote' T'.routes
history_prices T₀ T₁ T T' es rs st cs n de dn quote quote' r q c =
    drawn_prices T T' n de dn quote quote' r q c (after_all empty_book es) (all_sound empty_book es empty_sound) (demand3 T₀ T₁ T es rs st cs).1
