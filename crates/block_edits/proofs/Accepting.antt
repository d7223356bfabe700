-- An accepted edit of a block: its record is a sound one, and the contract is met by the tables that follow.
use mathlib.Core.Path.{◌≡◌}
use mathlib.Core.List.{List, [], map}
use mathlib.Core.Bool.{true}
use mathlib.Core.Logic.{◌⊎◌, inl, inr}
use Prim.Native.Nat.{ℕ, ◌+◌, ◌*◌, ◌-◌, ◌<◌, ◌≤◌}
use native.Mathlib.Omega.{arith}
use lib.IntN.{ℤ}
use lib.ListN.{length, take, drop, replicate}
use borrow.Author.Tests.{ltb-true}
use Rattle.lists.specs.Lists.{all}
use Rattle.geometry.specs.Words.{Point, word, block_words, corners}
use Rattle.geometry.specs.inner.Bounds.{BoundedRecord}
use Rattle.geometry.proofs.Searching.{part_is, record_bounded as record-bounded-at}
use Rattle.tables.specs.Tables.{Tables, records}
use Rattle.tables.specs.Written.{block_record}
use Rattle.tables.proofs.Splices.{block_record_none, block_record_length}
use Rattle.records.specs.Questions.{count_right, shift_right, shifted, lent_places, zero_from, block_right}
use Rattle.records.proofs.Loops.{zero_word}
use Rattle.records.proofs.Fits.{StandingRecord, block_cases, block_fit, block_allowed}
use Rattle.records.proofs.Places.{StandingCorners, BlockPlace, vacant, standing, new_standing, place_convex, block_small, block_right_lem, block_place}
use Rattle.moves.proofs.Standing.{shifted_place}
use Rattle.codes.specs.inner.Codes.{RightRecord, Upright}
use Rattle.book.specs.Book.{add_block, remove_block, move_block, questions, written}
use Rattle.book.specs.Edits.{answer_over, BlockEdited, Called}
use Rattle.book.proofs.Questions.{first_yes}
use Rattle.book.proofs.Stored.{book_block}
use Rattle.answers.proofs.Accepting.{Ready, own, ready, done}

-- a record that question 2 allows is one that the coded test may be asked of
block_upright : (ws : List ℕ) → length ws ≡ 17 → block_right ws ≡ true → RightRecord ws
block_upright ws l h = record { bounded = block_fit ws l h; many = go (block_cases ws h); round = place_convex (corners ws) (block_place ws h) }
  where
    go : (zero_from ws 0 ≡ true) ⊎ StandingRecord ws → 0 < word ws 0 → 3 ≤ word ws 0
    go (inl z) m = absurd (omega (arith, zero_word ws 0 0 z (omega arith) (omega arith)))
    go (inr s) m = s.low

pub none_right : RightRecord (replicate 17 0)
none_right = rw (← block_record_none) (block_upright (block_record []) (block_record_length [] (omega arith)) (block_right_lem [] vacant))

records_upright : (T : Tables) → Ready T → Upright (records T)
records_upright T r =
    record {
      fit = r.fit;
      each = λ n h.
          block_upright (block_words T.blocks n) (record-bounded-at T.blocks n r.fit.blocks h).sized
          (block_allowed (records T) r.sized.blocks r.sized.runs r.right n h);
    }

pub record BlockReady (T : Tables) (n : ℕ) (ps : List Point) : Type 0 where
  pub ready : Ready T
  pub upright : Upright (records T)
  pub below : n < 24
  pub right : (ws : List ℕ) → ws ≡ block_record ps → RightRecord ws

block_ready : (T : Tables) (n : ℕ) (ps : List Point) → Ready T → n < 24 → BlockPlace ps → BlockReady T n ps
block_ready T n ps r h p =
    record {
      ready = r;
      upright = records_upright T r;
      below = h;
      right = λ ws e. rw e (block_upright (block_record ps) (block_record_length ps (block_small ps p)) (block_right_lem ps p));
    }

module _ (T : Tables) (n : ℕ) (ws : List ℕ) (f : 0 ≡ answer_over T (add_block n ws)) where
  add_parts : (n < 24) × (count_right ws ≡ true) × StandingCorners (lent_places ws)
  unfolding questions
  add_parts =
      let q₃ = first_yes 2 _ _ (own T (add_block n ws) f) in
      let q₄ = first_yes 3 _ _ q₃.1 in
      let q₆ = first_yes 5 _ _ q₄.1 in
      let q₇ = first_yes 6 _ _ q₆.1 in
      let q₈ = first_yes 7 _ _ q₇.1 in
      (ltb-true n 24 q₃.0, q₆.0, new_standing ws q₆.0 q₇.0 q₈.0)

  pub add_count : count_right ws ≡ true
  add_count = add_parts.1

  pub add_ready : BlockReady T n (lent_places ws)
  add_ready = let a = add_parts in block_ready T n (lent_places ws) (ready T _ f) a.0 (standing a.2)

  pub add_done : (rec : List ℕ) (T' : Tables) → rec ≡ block_record (lent_places ws) → BlockEdited T n rec T' → Called (add_block n ws) T 0 T'
  unfolding written
  add_done rec T' e b = done T (add_block n ws) f T' (rw e at b)

module _ (T : Tables) (n : ℕ) (f : 0 ≡ answer_over T (remove_block n)) where
  pub remove_ready : BlockReady T n []
  unfolding questions
  remove_ready =
      let q₃ = first_yes 2 _ _ (own T (remove_block n) f) in
      block_ready T n [] (ready T _ f) (ltb-true n 24 q₃.0) vacant

  pub remove_done : (T' : Tables) → BlockEdited T n (replicate 17 0) T' → Called (remove_block n) T 0 T'
  unfolding written
  remove_done T' b = done T (remove_block n) f T' (rw block_record_none b)

module _ (T : Tables) (n : ℕ) (de dn : ℤ) (f : 0 ≡ answer_over T (move_block n de dn)) where
  pub move_below : n < 24
  unfolding questions
  move_below = ltb-true n 24 (first_yes 2 _ _ (own T (move_block n de dn) f)).0

  pub move_right : all (shift_right de dn) (corners (block_words T.blocks n)) ≡ true
  unfolding questions
  move_right =
      let q₃ = first_yes 2 _ _ (own T (move_block n de dn) f) in
      let q₅ = first_yes 4 _ _ q₃.1 in
      rw (book_block (records T) n move_below) at (first_yes 6 _ _ q₅.1).0

  pub move_ready : BlockReady T n (map (shifted de dn) (corners (block_words T.blocks n)))
  move_ready =
      let r = ready T _ f in
      let a = block_allowed (records T) r.sized.blocks r.sized.runs r.right n move_below in
      block_ready T n (map (shifted de dn) (corners (block_words T.blocks n))) r move_below
      (shifted_place de dn (corners (block_words T.blocks n)) (block_place (block_words T.blocks n) a) move_right)

  pub move_in : 17 * n + 17 ≤ length T.blocks
  move_in = omega (arith, move_ready.ready.sized.blocks, move_below)

  pub move_upright : (rec : List ℕ) → rec ≡ block_record (map (shifted de dn) (corners (take (17 * n + 17 - 17 * n) (drop (17 * n) T.blocks)))) → RightRecord rec
  move_upright rec e = move_ready.right rec (rw (part_is T.blocks n) at e)

  pub move_asks : (BoundedRecord (take (17 * n + 17 - 17 * n) (drop (17 * n) T.blocks)))
      × (all (shift_right de dn) (corners (take (17 * n + 17 - 17 * n) (drop (17 * n) T.blocks))) ≡ true)
  move_asks = rw (part_is T.blocks n) (record-bounded-at T.blocks n move_ready.ready.fit.blocks move_below, move_right)

  pub move_done : (rec : List ℕ) (T' : Tables) → rec ≡ block_record (map (shifted de dn) (corners (take (17 * n + 17 - 17 * n) (drop (17 * n) T.blocks))))
      → BlockEdited T n rec T' → Called (move_block n de dn) T 0 T'
  unfolding written
  move_done rec T' e b = done T (move_block n de dn) f T' (rw (book_block (records T) n move_below, ← (rw (part_is T.blocks n) at e)) b)
