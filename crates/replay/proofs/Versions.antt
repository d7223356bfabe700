-- A file and its other version hold the same edits, and replay alike.
use mathlib.Core.Path.{◌≡◌, refl, sym, ◌∙◌}
use mathlib.Core.List.{List, map}
use mathlib.Core.Bool.{true, cond}
use Prim.Native.Nat.{ℕ, zero, suc, ◌+◌, ◌≤◌}
use native.Mathlib.Omega.{arith}
use native.Mathlib.Decide.{dec_lt}
use lib.Dec.{eqb}
use lib.ListN.{length, get_or}
use Rattle.geometry.specs.Words.{point}
use Rattle.tables.specs.Tables.{Tables}
use Rattle.book.specs.Book.{Edit, add_block, remove_block, move_block, add_run, remove_run, move_run, set_charge}
use Rattle.file_words.specs.Words.{byte, fields_from, displacement}
use Rattle.yardfile.specs.File.{kind_of, plain_words, head_right, record_whole, item_at}
use Rattle.yardfile.proofs.Cases.{whole_kind, whole_fits, head_pieces}
use Rattle.fields.specs.Asked.{edit_for, edit_of}
use Rattle.file_records.specs.Records.{Rec, next_at, words_at, rec_at, records}
use Rattle.file_records.specs.Conversions.{converted, answer}
use Rattle.file_records.specs.inner.Asked.{asked}
use Rattle.file_records.proofs.Words.{Bytes}
use Rattle.file_records.proofs.Files.{recs_from, every, every_pieces, recs_next, recs_end, asked_whole, asked_inside}
use Rattle.file_records.proofs.Trip.{accepted, back_accepted, same_records, read_end, read_found}
use Rattle.replay.specs.Replay.{Reads, at_end, onward, Replayed, too_short, whole}
use Rattle.replay.proofs.Drawn.{reads_unique, same_edits}

-- the edit that a record asks for, in whatever version it is written
unfoldable pub rec_edit : Rec → Edit
rec_edit r =
    cond (eqb r.kind 1) (add_block r.number r.words)
    (cond (eqb r.kind 2) (remove_block r.number)
    (cond (eqb r.kind 3) (move_block r.number (displacement (get_or r.words 0 0)) (displacement (get_or r.words 1 0)))
    (cond (eqb r.kind 4) (add_run r.number (point (get_or r.words 0 0) (get_or r.words 1 0)) (point (get_or r.words 2 0) (get_or r.words 3 0)))
    (cond (eqb r.kind 5) (remove_run r.number)
    (cond (eqb r.kind 6) (move_run r.number (point (get_or r.words 0 0) (get_or r.words 1 0)) (point (get_or r.words 2 0) (get_or r.words 3 0)))
    (set_charge (get_or r.words 0 0)))))))

module _ (f : List ℕ) (at : ℕ) where
  third : at + 2 + 2 + 2 ≡ at + 2 + 4
  third = omega arith

  edit_by : (k : ℕ) → byte f at ≡ k → 1 ≤ k → k ≤ 7 → edit_of f (item_at f at) ≡ rec_edit (rec_at f at)
  unfolding edit_for kind_of rec_edit words_at plain_words fields_from
  edit_by zero e l h = absurd (omega arith)
  edit_by (suc zero) e l h = rw e
  edit_by (suc (suc zero)) e l h = rw e
  edit_by (suc (suc (suc zero))) e l h = rw e
  edit_by (suc (suc (suc (suc zero)))) e l h = rw (e, third)
  edit_by (suc (suc (suc (suc (suc zero))))) e l h = rw e
  edit_by (suc (suc (suc (suc (suc (suc zero)))))) e l h = rw (e, third)
  edit_by (suc (suc (suc (suc (suc (suc (suc zero))))))) e l h = rw e
  edit_by (suc (suc (suc (suc (suc (suc (suc (suc k)))))))) e l h = absurd (omega arith)

  edit_is : record_whole f at ≡ true → edit_of f (item_at f at) ≡ rec_edit (rec_at f at)
  edit_is h = let k = whole_kind f at h in edit_by (byte f at) refl k.0 k.1

reads_none : (f : List ℕ) (n at : ℕ) → head_right f ≡ true → 5 ≤ at → at ≡ length f → Reads f at (map rec_edit (recs_from f n at)) 0 (length f)
reads_none f n at h l e = rw (recs_end f n at (omega arith), ← e) (at_end (read_end f at h l e))

-- whole records with corners inside are read to the end
reads_from : (f : List ℕ) (n at : ℕ) → head_right f ≡ true → 5 ≤ at → at ≤ length f → length f ≤ at + n
    → every (asked 10) f n at ≡ true → every (asked 22) f n at ≡ true → Reads f at (map rec_edit (recs_from f n at)) 0 (length f)
reads_from f zero at hd l h m w i = reads_none f 0 at hd l (omega arith)
reads_from f (suc n) at hd l h m w i =
    elim (dec_lt at (length f)) [
      | yes s ↦
          let p = every_pieces (asked 10) f n at s w in
          let q = every_pieces (asked 22) f n at s i in
          let k = sym (asked_whole f at) ∙ p.0 in
          rw (recs_next f n at s, ← edit_is f at k)
          (onward (read_found f at hd l s k (sym (asked_inside f at) ∙ q.0)) (reads_from f n (next_at f at) hd (omega arith) (whole_fits f at k) (omega arith) p.1 q.1))
      | no s ↦ reads_none f (suc n) at hd l (omega arith)
    ]

-- a file that can be converted is read to its end
pub reads_records : (v w : ℕ) (f : List ℕ) → answer v w f ≡ 0 → Reads f 5 (map rec_edit (records f)) 0 (length f)
reads_records v w f ok =
    let a = accepted v w f ok in
    reads_from f (length f) 5 a.head (omega arith) (head_pieces f a.head).low (omega arith) a.whole a.within

module _ (v w : ℕ) (other : v ≡ w → ⊥) (low : 1 ≤ w) (high : w ≤ 2) (f : List ℕ) (bs : Bytes f) (ok : answer v w f ≡ 0) where
  -- the edits read from the result are those of the source
  result_reads : {n at : ℕ} {es : List Edit} → Reads f 5 es n at → Reads (converted w f) 5 es 0 (length (converted w f))
  result_reads r =
      let u = reads_unique r (reads_records v w f ok) in
      rw (u.0, ← same_records v w other low high f bs ok) (reads_records w v (converted w f) (back_accepted v w other low high f bs ok))

  result_replays : {T : Tables} {old ws ws' : List ℕ} {count count' number number' at at' : ℕ} {U U' : Tables}
      → Replayed f T old ws count number at U → Replayed (converted w f) T old ws' count' number' at' U'
      → (count ≡ count') × (number ≡ number') × (ws ≡ ws') × (U ≡ U')
  result_replays (too_short s) (too_short s') = (refl, refl, refl, refl)
  result_replays (too_short s) (whole l q) = absurd (omega arith)
  result_replays (whole l p) (too_short s) = absurd (omega arith)
  result_replays (whole l p) (whole l' q) =
      let a = reads_unique p.reads (reads_records v w f ok) in
      let b = reads_unique (result_reads p.reads) q.reads in
      let s = same_edits p q b.0 in
      (s.0, a.1 ∙ b.1, s.1, s.2)

-- the edits of a shortened and of a lengthened file are those of its source, and both replay alike: the same answers, number and tables
module _ (f : List ℕ) (bs : Bytes f) where
  pub shortened_edits : {n at : ℕ} {es : List Edit} → answer 1 2 f ≡ 0 → Reads f 5 es n at → Reads (converted 2 f) 5 es 0 (length (converted 2 f))
  shortened_edits ok = result_reads 1 2 (λ e. omega arith) (omega arith) (omega arith) f bs ok

  pub lengthened_edits : {n at : ℕ} {es : List Edit} → answer 2 1 f ≡ 0 → Reads f 5 es n at → Reads (converted 1 f) 5 es 0 (length (converted 1 f))
  lengthened_edits ok = result_reads 2 1 (λ e. omega arith) (omega arith) (omega arith) f bs ok

  pub shortened_replays : {T : Tables} {old ws ws' : List ℕ} {count count' number number' at at' : ℕ} {U U' : Tables} → answer 1 2 f ≡ 0
      → Replayed f T old ws count number at U → Replayed (converted 2 f) T old ws' count' number' at' U'
      → (count ≡ count') × (number ≡ number') × (ws ≡ ws') × (U ≡ U')
  shortened_replays ok = result_replays 1 2 (λ e. omega arith) (omega arith) (omega arith) f bs ok

  pub lengthened_replays : {T : Tables} {old ws ws' : List ℕ} {count count' number number' at at' : ℕ} {U U' : Tables} → answer 2 1 f ≡ 0
      → Replayed f T old ws count number at U → Replayed (converted 1 f) T old ws' count' number' at' U'
      → (count ≡ count') × (number ≡ number') × (ws ≡ ws') × (U ≡ U')
  lengthened_replays ok = result_replays 2 1 (λ e. omega arith) (omega arith) (omega arith) f bs ok
