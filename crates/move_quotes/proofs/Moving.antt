-- The block table of a moved block, made beside the one that is lent.
use mathlib.Core.Path.{◌≡◌, refl, sym, ap, ◌∙◌, subst}
use mathlib.Core.Bool.{true}
use mathlib.Core.List.{List, map, ◌++◌, append-nil}
use Prim.Native.Nat.{ℕ, ◌+◌, ◌*◌, ◌-◌, ◌<◌}
use native.Mathlib.Omega.{arith}
use lib.IntN.{ℤ}
use lib.ListN.{length, take, drop, drop_of_length-le}
use mir.Syntax.{w16}
use mir.Val.{SFits, to_z, of_z}
use mir.ValLaws.{to_z-of_z}
use Rattle.lists.specs.Lists.{all, splice}
use Rattle.geometry.specs.Words.{block_words, corners}
use Rattle.geometry.specs.inner.Bounds.{BoundedRecord, Bounded}
use Rattle.geometry.proofs.Searching.{part_is, record_bounded}
use Rattle.tables.specs.Tables.{Records, Tables, stored}
use Rattle.tables.specs.Written.{block_record}
use Rattle.records.specs.Questions.{shift_right, shifted}
use Rattle.codes.specs.inner.Codes.{Upright}
use Rattle.codes.proofs.Uprights.{upright_replaced}
use Rattle.visibility.specs.Visibility.{ByPlaces}
use Rattle.run_prices.specs.Prices.{Prices}
use Rattle.book.specs.Book.{move_block, written}
use Rattle.book.specs.Edits.{answer_over}
use Rattle.book.proofs.Stored.{book_block}
use Rattle.block_edits.proofs.Accepting.{move_ready, move_right}
use Rattle.move_quotes.specs.Quote.{quote_answer, moved, MoveQuoted}
use Rattle.move_quotes.proofs.Asking.{move_answer, Accepted, accepted}

-- a table that is written over from its first word to its last
splice_whole : (t ws : List ℕ) → length t ≡ length ws → splice t 0 ws ≡ ws
unfolding splice
splice_whole t ws e = ap (λ (l : List ℕ). ws ++ l) (drop_of_length-le t {i = 0 + length ws} (omega arith)) ∙ append-nil ws

abbrev part : List ℕ → ℕ → List ℕ
part blocks n = take (17 * n + 17 - 17 * n) (drop (17 * n) blocks)

-- displacements go through their bits wherever they are handed on
abbrev bits : ℤ → ℤ
bits d = to_z w16 (of_z w16 d)

module _ (de dn : ℤ) (fe : SFits w16 de) (fn : SFits w16 dn) where
  pub plain_answer : (T : Tables) (n r : ℕ) (quote : List ℕ) → length quote ≡ 48 → r ≡ answer_over T (move_block n (bits de) (bits dn)) → r ≡ quote_answer T n de dn quote
  plain_answer T n r quote l e = rw (to_z-of_z w16 de fe, to_z-of_z w16 dn fn) at e ∙ sym (move_answer T n de dn quote l)

  pub plain_quote : {T : Tables} {n r : ℕ} {quote quote' : List ℕ} → MoveQuoted T n (bits de) (bits dn) quote r quote' → MoveQuoted T n de dn quote r quote'
  plain_quote q = rw (to_z-of_z w16 de fe, to_z-of_z w16 dn fn) at q

  module _ (blocks : List ℕ) (n : ℕ) where
    pub part_asks : Bounded blocks → n < 24 → all (shift_right de dn) (corners (block_words blocks n)) ≡ true
        → BoundedRecord (part blocks n) × (all (shift_right (bits de) (bits dn)) (corners (part blocks n)) ≡ true)
    part_asks b l h = rw (part_is blocks n, to_z-of_z w16 de fe, to_z-of_z w16 dn fn) (record_bounded blocks n b l, h)

    pub words_moved : (old : List ℕ) {rec first after : List ℕ} → length old ≡ 408 → length blocks ≡ 408
        → rec ≡ block_record (map (shifted (bits de) (bits dn)) (corners (part blocks n))) → first ≡ splice old 0 blocks → after ≡ splice first (17 * n) rec
        → after ≡ splice blocks (17 * n) (block_record (map (shifted de dn) (corners (block_words blocks n))))
    words_moved old {rec} {first} lo lb er ef ea =
        let s : first ≡ blocks = ef ∙ splice_whole old blocks (lo ∙ sym lb) in
        let t = rw (part_is blocks n, to_z-of_z w16 de fe, to_z-of_z w16 dn fn) at er in
        ea ∙ ap (λ (x : List ℕ). splice x (17 * n) rec) s ∙ ap (splice blocks (17 * n)) t

-- the records that the move leaves
pub moved_is : (blocks runs : List ℕ) (n : ℕ) (de dn : ℤ) {after : List ℕ} → n < 24
    → after ≡ splice blocks (17 * n) (block_record (map (shifted de dn) (corners (block_words blocks n)))) → stored after runs ≡ moved (stored blocks runs) n de dn
unfolding moved written
moved_is blocks runs n de dn l e = rw (book_block (stored blocks runs) n l) (ap (λ (b : List ℕ). stored b runs) e)

-- what is asked where a quote is not refused
module _ (T : Tables) (n : ℕ) (de dn : ℤ) (quote : List ℕ) (f : 0 ≡ quote_answer T n de dn quote) where
  granted : Accepted T n de dn quote
  granted = accepted T n de dn quote f

  pub quote_sized : length quote ≡ 48
  quote_sized = granted.sized

  pub quote_asks : Bounded T.blocks × (n < 24) × (all (shift_right de dn) (corners (block_words T.blocks n)) ≡ true)
  quote_asks =
      let f₀ = sym granted.answer in
      let g = move_ready T n de dn f₀ in
      (g.ready.fit.blocks, g.below, move_right T n de dn f₀)

  -- the moved records are ones that the coded test may be asked of, and those that the move leaves
  module _ {after : List ℕ} (e : after ≡ splice T.blocks (17 * n) (block_record (map (shifted de dn) (corners (block_words T.blocks n))))) where
    pub moved_upright : Upright (stored after T.runs)
    moved_upright =
        let g = move_ready T n de dn (sym granted.answer) in
        upright_replaced T.blocks T.runs n _ g.upright (g.right _ refl) g.below e

    pub quoted : (quote' : List ℕ) → Prices (stored after T.runs) (ByPlaces (stored after T.runs)) quote' → MoveQuoted T n de dn quote 0 quote'
    quoted quote' p =
        record {
          answer = f;
          refused = λ q. absurd (q refl);
          done = λ q. subst (λ (R : Records). Prices R (ByPlaces R) quote') (moved_is T.blocks T.runs n de dn quote_asks.1 e) p;
        }
