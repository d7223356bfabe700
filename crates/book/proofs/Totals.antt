-- The totals: what a call makes of them, and that it does not matter what they were.
use mathlib.Core.Path.{◌≡◌, refl, sym, ap, ◌∙◌}
use mathlib.Core.List.{List}
use Prim.Native.Nat.{ℕ}
use lib.ListN.{length}
use Rattle.geometry.specs.Words.{Point}
use Rattle.tables.specs.Tables.{Tables, tables, records}
use Rattle.totals.specs.Totals.{totals_of}
use Rattle.book.specs.Questions.{lengths_right}
use Rattle.book.specs.Book.{Edit, Target, the_block, the_run, the_figure, target}
use Rattle.book.specs.Drawing.{Drawn}
use Rattle.book.specs.Edits.{book_of, answer_over, Edited, Called, Checked}
use Rattle.book.proofs.Unique.{drawn_unique, called_unique}
use Rattle.book.proofs.Checks.{checked_drawn}

-- after every accepted edit they are those of the pairs and routes that it leaves, right or wrong
pub totals_follow : (e : Edit) (T T' : Tables) → Called e T 0 T' → T'.totals ≡ totals_of T'.pairs T'.routes
totals_follow e T T' c = go (target e) _ (c.done refl)
  where
    go : (t : Target) (ps : List Point) → Edited t T ps T' → T'.totals ≡ totals_of T'.pairs T'.routes
    go (the_block n) ps x = x.totals
    go (the_run m) ps x = x.totals
    go (the_figure f) ps x = x.totals

-- ---- 25 other words in their place: the same answer, and the same tables after an accepted edit
module _ (T : Tables) (t : List ℕ) (same : length t ≡ length T.totals) where
  abbrev other : Tables
  other = tables T.blocks T.runs T.pairs T.routes t

  unread_answer : (e : Edit) → answer_over T e ≡ answer_over other e
  unfolding answer_over lengths_right
  unread_answer e = rw same

  unread_done : (p : Target) (ps : List Point) (T' : Tables) → Edited p T ps T' → Edited p other ps T'
  unread_done (the_block n) ps T' x = record { blocks = x.blocks; runs = x.runs; pairs = x.pairs; routes = x.routes; totals = x.totals }
  unread_done (the_run m) ps T' x = record { blocks = x.blocks; runs = x.runs; pairs = x.pairs; routes = x.routes; totals = x.totals }
  unread_done (the_figure f) ps T' x = record { blocks = x.blocks; runs = x.runs; pairs = x.pairs; routes = x.routes; totals = x.totals }

  pub totals_unread : (e : Edit) (r r' : ℕ) (T' U' : Tables) → Called e T r T' → Called e other r' U' → (r ≡ r') × (r ≡ 0 → T' ≡ U')
  totals_unread e r r' T' U' c d = (c.answer ∙ unread_answer e ∙ sym d.answer, λ z. (called_unique e other r r' T' U' (there z) d).1)
    where
      there : r ≡ 0 → Called e other r T'
      there z = record { answer = c.answer ∙ unread_answer e; refused = λ n. absurd (n z); done = λ q. unread_done (target e) _ T' (c.done q) }

-- ---- a yard that the check answers 0, redrawn from its records, has the same totals
pub redrawn_totals : (T T' : Tables) → Checked T 0 → Drawn (book_of (records T)) T' → T'.totals ≡ T.totals
redrawn_totals T T' c d = ap (λ (U : Tables). U.totals) (drawn_unique (book_of (records T)) T' T d (checked_drawn T c))
