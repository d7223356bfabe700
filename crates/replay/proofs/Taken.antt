-- What is known of a record that was read, and how a reading that is no record ends the list of edits.
use mathlib.Core.Path.{◌≡◌, refl, sym, ap, ◌∙◌}
use mathlib.Core.List.{List, [], ◌∷◌}
use mathlib.Core.Bool.{Bool, true, false, ◌&&◌, cond}
use Prim.Native.Nat.{ℕ, ◌+◌, ◌*◌, ◌≤◌}
use native.Mathlib.Omega.{arith}
use lib.Dec.{leb, eqb}
use lib.ListN.{length}
use borrow.Author.Tests.{ne_eqb}
use Rattle.yardfile.specs.declared.Item.{Item}
use Rattle.std.proofs.Common.{Option, Some, None, Result, Ok, Err}
use Rattle.refusals.specs.declared.Refusal.{Refusal}
use Rattle.refusals.specs.declared.Refusal.TheVariants.{NoYardFile, BrokenRecord, CornerOffTheYard}
use Rattle.refusals.specs.Numbers.{number_of, answer_of}
use Rattle.refusals.proofs.Numbers.{number_of_one}
use Rattle.yardfile.specs.declared.Kind.{Kind}
use Rattle.yardfile.specs.declared.Kind.TheVariants.{AddBlock, MoveBlock, AddRun, MoveRun, SetCharge}
use Rattle.yardfile.proofs.Cases.{kind_of_back}
use Rattle.file_words.specs.Words.{byte}
use Rattle.yardfile.specs.File.{head_right, plain_words, body_size, record_whole, corners_right, item_at, read_at, kind_of, kind_byte}
use Rattle.yardfile.proofs.Cases.{head_small, whole_kind, whole_fits, body_block, body_fields, plain_three, plain_four, plain_six, plain_seven}
use Rattle.replay.specs.Replay.{Reads, at_end, at_stop, stop_at}
use Rattle.apply.specs.inner.Whole.{Whole}

pub record Taken (f : List ℕ) (at : ℕ) (i : Item) : Type 0 where
  pub small : length f ≤ 8192
  pub low : 1 ≤ byte f at
  pub high : byte f at ≤ 7
  pub fits : at + 2 + body_size f at ≤ length f
  pub kind : i.kind ≡ kind_of (byte f at)
  pub fields : i.fields ≡ at + 2
  pub next : i.next ≡ at + 2 + body_size f at

picked : (h b e w t : Bool) (r i : Item)
    → ◌≡◌ {A = Result (Option Item) Refusal} (cond h (cond b (cond e (Ok None) (cond w (cond t (Ok (Some r)) (Err CornerOffTheYard)) (Err BrokenRecord))) (Err BrokenRecord)) (Err NoYardFile)) (Ok (Some i))
    → (h ≡ true) × (w ≡ true) × (r ≡ i)
picked true true false true true r i q = (refl, refl, cc)
picked true true false true false r i q = let z : ◌≡◌ {A = ℕ} 0 1 = cc in absurd (omega arith)
picked true true false false t r i q = let z : ◌≡◌ {A = ℕ} 0 1 = cc in absurd (omega arith)
picked true true true w t r i q = let z : ◌≡◌ {A = ℕ} 0 1 = cc in absurd (omega arith)
picked true false e w t r i q = let z : ◌≡◌ {A = ℕ} 0 1 = cc in absurd (omega arith)
picked false b e w t r i q = let z : ◌≡◌ {A = ℕ} 0 1 = cc in absurd (omega arith)

pub taken : (f : List ℕ) (at : ℕ) (i : Item) → read_at f at ≡ Ok (Some i) → Taken f at i
unfolding read_at
taken f at i h =
    let p = picked (head_right f) (leb 5 at && leb at (length f)) (eqb at (length f)) (record_whole f at) (corners_right f at) (item_at f at) i h in
    let k = whole_kind f at p.1 in
    record {
      small = head_small f p.0;
      low = k.0;
      high = k.1;
      fits = whole_fits f at p.1;
      kind = sym (ap (λ (x : Item). x.kind) p.2);
      fields = sym (ap (λ (x : Item). x.fields) p.2);
      next = sym (ap (λ (x : Item). x.next) p.2);
    }

pub taken_whole : (f : List ℕ) (at : ℕ) (i : Item) → Taken f at i → Whole f i
taken_whole f at i t =
    record {
      small = t.small;
      block = λ k. rw t.fields (omega (arith, t.fits, body_block f at (kind_is AddBlock k)));
      shift = λ k. inside MoveBlock 2 k (λ e. omega arith) (plain_three 3 refl);
      ends = λ k. inside AddRun 4 k (λ e. omega arith) (plain_four 4 refl);
      new_ends = λ k. inside MoveRun 4 k (λ e. omega arith) (plain_six 6 refl);
      figure = λ k. inside SetCharge 1 k (λ e. omega arith) (plain_seven 7 refl);
    }
  where
    kind_is : (k : Kind) → i.kind ≡ k → byte f at ≡ kind_byte k
    kind_is k e = sym (kind_of_back (byte f at) t.low t.high) ∙ ap kind_byte (sym t.kind ∙ e)

    -- a record of kind k has n fields
    inside : (k : Kind) (n : ℕ) → i.kind ≡ k → (kind_byte k ≡ 1 → ⊥) → n ≡ plain_words (kind_byte k) → i.fields + 2 * n ≤ length f
    inside k n e other m =
        let b : byte f at ≡ kind_byte k = kind_is k e in
        rw t.fields (omega (arith, t.fits, body_fields f at n (λ z. other (sym b ∙ z)) (rw b m)))

-- a reading that found no record: the list of edits ends
pub ended : (f : List ℕ) (at : ℕ) (x : Result (Option Item) Refusal) → ((i : Item) → x ≡ Ok (Some i) → ⊥) → read_at f at ≡ x
    → Reads f at [] (answer_of x) (stop_at (answer_of x) at)
unfolding stop_at
ended f at (Ok (Some i)) h e = absurd (h i refl)
ended f at (Ok None) h e = at_end e
ended f at (Err r) h e = at_stop e

-- the two positions of a stop
stop_nine : (at : ℕ) → 0 ≡ stop_at 9 at
unfolding stop_at
stop_nine at = refl

pub stop_none : (r : Refusal) (at : ℕ) → r ≡ NoYardFile → 0 ≡ stop_at (number_of r) at
stop_none r at e = rw e (stop_nine at)

pub stop_there : (r : Refusal) (at : ℕ) → (r ≡ NoYardFile → ⊥) → at ≡ stop_at (number_of r) at
unfolding stop_at
stop_there r at h = rw (ne_eqb (number_of r) 9 (λ e. h (number_of_one r NoYardFile e)))
