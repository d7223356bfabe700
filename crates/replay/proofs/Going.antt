-- A replay on its way: the edits called so far, and how the rest of the file goes on from there.
use mathlib.Core.Path.{◌≡◌, refl, sym, ap, ◌∙◌}
use mathlib.Core.List.{List, [], ◌∷◌, ◌++◌, append_assoc, append-nil}
use Prim.Native.Nat.{ℕ, ◌+◌, ◌*◌, ◌<◌, ◌≤◌}
use native.Mathlib.Numerals.{add-one}
use native.Mathlib.Omega.{arith}
use lib.ListN.{length, set, take, drop, length-append, length-set}
use lib.Seq.{take-suc-set, drop-set-lt, drop-drop}
use Rattle.tables.specs.Tables.{Tables}
use Rattle.book.specs.Book.{Edit}
use Rattle.book.specs.Edits.{Called}
use Rattle.book.specs.History.{Calls, no_calls, call}
use Rattle.yardfile.specs.declared.Item.{Item}
use Rattle.std.proofs.Common.{Option, Some, None, Result, Ok, Err}
use Rattle.refusals.specs.declared.Refusal.{Refusal}
use Rattle.refusals.specs.Numbers.{number_of, answer_of}
use Rattle.yardfile.specs.File.{read_at}
use Rattle.replay.specs.Replay.{Reads, at_end, at_stop, onward, stop_at, EditsCalled}
use Rattle.fields.specs.Asked.{edit_of}
use Rattle.replay.proofs.Taken.{taken, ended}

calls_more : {es : List Edit} {T T₁ T₂ : Tables} {rs : List ℕ} {e : Edit} {r : ℕ} → Calls es T rs T₁ → Called e T₁ r T₂ → Calls (es ++ (e ∷ [])) T (rs ++ (r ∷ [])) T₂
calls_more no_calls c = call c no_calls
calls_more (call d cs) c = call d (calls_more cs c)

-- what the reader found, said of the file
pub read_is : (f : List ℕ) (at : ℕ) (r : Result (Option Item) Refusal) (o x : Option Item) → r ≡ read_at f at → r ≡ Ok o → o ≡ x → read_at f at ≡ Ok x
read_is f at r o x e q s = cc

pub record Going (f : List ℕ) (T₀ : Tables) (old answers : List ℕ) (count at : ℕ) (T : Tables) : Type 0 where
  pub edits : List Edit
  pub rest : (es : List Edit) (n stop : ℕ) → Reads f at es n stop → Reads f 5 (edits ++ es) n stop
  pub counted : count ≡ length edits
  pub calls : Calls edits T₀ (take count answers) T
  pub kept : drop count answers ≡ drop count old
  pub sized : length answers ≡ length old
  pub room : 5 + 2 * count ≤ at

pub going_none : (f : List ℕ) (T : Tables) (old : List ℕ) → Going f T old old 0 5 T
going_none f T old =
    record { edits = []; rest = λ es n stop r. r; counted = refl; calls = no_calls; kept = refl; sized = refl; room = omega arith }

module _ (f : List ℕ) (T₀ : Tables) (old answers : List ℕ) (count at : ℕ) (T : Tables) (g : Going f T₀ old answers count at T) where
  ends : (n stop : ℕ) → Reads f at [] n stop → EditsCalled f T₀ old answers count n stop T
  ends n stop r = record { edits = g.edits; reads = rw (← (append-nil g.edits)) (g.rest [] n stop r); counted = g.counted; calls = g.calls; kept = g.kept }

  pub going_end : (x : Result (Option Item) Refusal) (n stop : ℕ) → ((i : Item) → x ≡ Ok (Some i) → ⊥) → x ≡ read_at f at → n ≡ answer_of x → stop ≡ stop_at n at
      → EditsCalled f T₀ old answers count n stop T
  going_end x n stop h e q s = rw (s, q) (ends (answer_of x) (stop_at (answer_of x) at) (ended f at x h (sym e)))

  pub going_done : read_at f at ≡ Ok None → EditsCalled f T₀ old answers count 0 at T
  going_done e = ends 0 at (at_end e)

  pub going_stop : (r : Refusal) (stop : ℕ) → read_at f at ≡ Err r → stop ≡ stop_at (number_of r) at → EditsCalled f T₀ old answers count (number_of r) stop T
  going_stop r stop e s = rw s (ends (number_of r) (stop_at (number_of r) at) (at_stop e))

  module _ (i : Item) (found : read_at f at ≡ Ok (Some i)) where
    -- 4,093 records at most
    pub going_room : count < 4096
    going_room = let t = taken f at i found in omega (arith, g.room, t.small, t.fits)

    pub going_on : (at < length f) × (at + 2 ≤ i.next)
    going_on = let t = taken f at i found in (omega (arith, t.fits), omega (arith, t.next))

    pub going_next : (r : ℕ) (T' : Tables) → 4096 ≤ length old → Called (edit_of f i) T r T' → Going f T₀ old (set answers count r) (count + 1) i.next T'
    going_next r T' l c =
        record {
          edits = g.edits ++ (edit_of f i ∷ []);
          rest = λ es n stop reads. rw append_assoc (g.rest (edit_of f i ∷ es) n stop (onward found reads));
          counted = rw (length-append g.edits (edit_of f i ∷ [])) (omega (arith, g.counted));
          calls = rw (add-one count, take-suc-set answers count r (omega (arith, g.sized, going_room))) (calls_more g.calls c);
          kept =
              drop-set-lt (count + 1) answers count r (omega arith)
              ∙ (sym (drop-drop 1 count answers) ∙ (ap (drop 1) g.kept ∙ drop-drop 1 count old));
          sized = length-set answers count r ∙ g.sized;
          room = omega (arith, g.room, going_on);
        }
