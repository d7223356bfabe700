-- Bytes put into a buffer one after the other, up to the whole listing.
use mathlib.Core.Path.{◌≡◌, refl, sym, ap, ap₂, ◌∙◌, subst}
use mathlib.Core.List.{List, [], ◌++◌, append_assoc}
use Prim.Native.Nat.{ℕ, ◌+◌, ◌*◌, ◌-◌, ◌≤◌}
use native.Mathlib.Numerals.{add-one}
use native.Mathlib.Omega.{arith}
use lib.ListN.{length, take, drop, length-append, take-append-drop}
use lib.Seq.{length-take-le, take_at, drop_at, drop-drop}
use borrow.Rule.Slice.PartMut.{put_mid}
use Rattle.lists.specs.Lists.{splice}
use Rattle.lists.proofs.Copies.{put_back}
use Rattle.tables.proofs.Splices.{splice_length}
use Rattle.listing.specs.Lines.{joined, listing, Listed}
use Rattle.listing.specs.inner.Put.{Put}

-- ---- a part of a list replaced: nothing, what stands up to its end and from there on, and the part behind it replaced too
splice_none : (old : List ℕ) (at : ℕ) → old ≡ splice old at []
unfolding splice
splice_none old at = let q : at + 0 ≡ at = omega arith in rw q (sym (take-append-drop at old))

splice_take : (old : List ℕ) (at : ℕ) (a : List ℕ) → at ≤ length old → take (at + length a) (splice old at a) ≡ take at old ++ a
unfolding splice
splice_take old at a l =
    rw (sym (append_assoc (take at old) a (drop (at + length a) old)))
    (take_at (take at old ++ a) (drop (at + length a) old) (at + length a) (length-append (take at old) a ∙ ap (λ (n : ℕ). n + length a) (length-take-le at old l)))

splice_drop : (old : List ℕ) (at : ℕ) (a : List ℕ) → at ≤ length old → drop (at + length a) (splice old at a) ≡ drop (at + length a) old
unfolding splice
splice_drop old at a l =
    rw (sym (append_assoc (take at old) a (drop (at + length a) old)))
    (drop_at (take at old ++ a) (drop (at + length a) old) (at + length a) (length-append (take at old) a ∙ ap (λ (n : ℕ). n + length a) (length-take-le at old l)))

splice_splice : (old : List ℕ) (at : ℕ) (a b : List ℕ) → at ≤ length old → splice (splice old at a) (at + length a) b ≡ splice old at (a ++ b)
unfolding splice
splice_splice old at a b l =
    let w : at + length a + length b ≡ at + length (a ++ b) = rw (length-append a b) (omega arith) in
    ap₂ (λ (x y : List ℕ). x ++ (b ++ y)) (splice_take old at a l) (sym (drop-drop (length b) (at + length a) _) ∙ ap (λ (y : List ℕ). drop (length b) y) (splice_drop old at a l) ∙ drop-drop (length b) (at + length a) old ∙ ap (λ (n : ℕ). drop n old) w)
    ∙ append_assoc (take at old) a _
    ∙ ap (λ (y : List ℕ). take at old ++ y) (sym (append_assoc a b _))

-- ---- bytes put into a buffer
pub put_none : {old : List ℕ} {at : ℕ} → at ≤ length old → Put 0 old at [] old at
put_none {old} {at} l = record { few = omega arith; ends = omega arith; inside = l; sized = refl; is = splice_none old at }

-- room for more
pub put_loose : {m n : ℕ} {old : List ℕ} {at : ℕ} {a new : List ℕ} {end : ℕ} → m ≤ n → Put m old at a new end → Put n old at a new end
put_loose l p = record { few = omega (arith, p.few); ends = p.ends; inside = p.inside; sized = p.sized; is = p.is }

pub put_as : {m : ℕ} {old : List ℕ} {at : ℕ} {a b new : List ℕ} {end : ℕ} → a ≡ b → Put m old at a new end → Put m old at b new end
put_as {m} {old} {at} {a} {b} {new} {end} e p = subst (λ (x : List ℕ). Put m old at x new end) e p

-- bytes, then others
pub put_then : {m n : ℕ} {old : List ℕ} {at : ℕ} {a mid : List ℕ} {end : ℕ} {b new : List ℕ} {end' : ℕ}
    → Put m old at a mid end → Put n mid end b new end' → Put (m + n) old at (a ++ b) new end'
put_then {m} {n} {old} {at} {a} {mid} {end} {b} {new} {end'} p q =
    record {
      few = rw (length-append a b) (omega (arith, p.few, q.few));
      ends = rw (length-append a b) (omega (arith, p.ends, q.ends));
      inside = omega (arith, q.inside, p.sized);
      sized = q.sized ∙ p.sized;
      is = q.is ∙ ap₂ (λ (x : List ℕ) (e : ℕ). splice x e b) p.is p.ends ∙ splice_splice old at a b (omega (arith, p.ends, p.inside));
    }

-- the text of one more number
pub put_next : {most : ℕ} (i : ℕ) (f : ℕ → List ℕ) {old : List ℕ} {at : ℕ} {mid : List ℕ} {end : ℕ} {new : List ℕ} {end' : ℕ}
    → Put (most * i) old at (joined i f) mid end → Put most mid end (f i) new end' → Put (most * (i + 1)) old at (joined (i + 1) f) new end'
unfolding joined
put_next {most} i f {old} {at} {mid} {end} {new} {end'} p q =
    put_loose (omega arith) (put_as (ap (λ (k : ℕ). joined k f) (sym (add-one i))) (put_then p q))

pub put_all : (most i n : ℕ) (f : ℕ → List ℕ) {room : ℕ} {old : List ℕ} {at : ℕ} {new : List ℕ} {end : ℕ}
    → i ≡ n → most * i ≤ room → Put (most * i) old at (joined i f) new end → Put room old at (joined n f) new end
put_all most i n f e l p = put_loose l (put_as (ap (λ (k : ℕ). joined k f) e) p)

pub put_joined : (most : ℕ) (f : ℕ → List ℕ) {old : List ℕ} {at : ℕ} → at ≤ length old → Put (most * 0) old at (joined 0 f) old at
unfolding joined
put_joined most f l = put_loose (omega arith) (put_none l)

-- what `copy_from_slice` leaves in the part of the buffer that a text is copied to
pub put_copied : (old text part : List ℕ) (at : ℕ) → at + length text ≤ length old → part ≡ text
    → Put (length text) old at text (put_mid at (at + length text - at) old part) (at + length text)
put_copied old text part at l e =
    record {
      few = omega arith;
      ends = refl;
      inside = l;
      sized = ap length here ∙ splice_length old at text l;
      is = here;
    }
  where
    here : put_mid at (at + length text - at) old part ≡ splice old at text
    here = put_back old text part at e

-- the listing, put at the start of the buffer
pub put_listed : (answers : List ℕ) (count number at : ℕ) (routes old new : List ℕ) (most r : ℕ) → Put most old 0 (listing answers count number at routes) new r → Listed answers count number at routes old new r
put_listed answers count number at routes old new most r p =
    record {
      counts = (within, sym (length-take-le r new within));
      listed = ap₂ take p.ends p.is ∙ splice_take old 0 text (omega arith);
      kept = ap₂ drop p.ends p.is ∙ splice_drop old 0 text (omega arith) ∙ ap (λ (k : ℕ). drop k old) (sym p.ends);
    }
  where
    text : List ℕ
    text = listing answers count number at routes

    within : r ≤ length new
    within = omega (arith, p.inside, p.sized)
