-- Which straights are left when some blocks have been passed, and when the seams have.
use mathlib.Core.Path.{◌≡◌, refl, sym, ap, ◌∙◌}
use mathlib.Core.Bool.{Bool, true, false, not, ◌&&◌, true≢false}
use mathlib.Core.List.{List}
use Prim.Native.Nat.{ℕ, ◌+◌, ◌*◌, ◌-◌, ◌/◌, ◌%◌, ◌<◌, ◌≤◌, min}
use native.Mathlib.Decide.{ℕ_discrete}
use native.Mathlib.Omega.{arith}
use lib.Dec.{eqb}
use lib.ListN.{length, take, drop}
use borrow.Author.Tests.{not-true, not-false, eqb-true}
use denote.Enum.Bare.{sameb}
use Rattle.codes.specs.contracts.Meeting.{the_type}
use Rattle.codes.specs.declared.Meeting.{Meeting}
use Rattle.codes.specs.declared.Meeting.TheVariants.{Misses, Touches, Hides}
use Rattle.lists.specs.Lists.{all_below}
use Rattle.lists.specs.inner.Tells.{Tells}
use Rattle.lists.proofs.Below.{all_at}
use Rattle.geometry.specs.Words.{Point, word, block_words, corners}
use Rattle.geometry.proofs.Searching.{part_is}
use Rattle.geometry.proofs.Obstructing.{obstructs_sym}
use Rattle.bits.specs.inner.Bits.{bit}
use Rattle.bits.proofs.Counting.{bit_and_lem, bit_small, bit_zero}
use Rattle.seams.specs.Seam.{Shared, Disjoint}
use Rattle.seams.proofs.Seams.{disjoint_unshared}
use Rattle.seam_search.specs.inner.Masks.{TouchedIn}
use Rattle.tables.specs.Tables.{Records, stored, present, place_of}
use Rattle.tables.proofs.Marks.{present_corner}
use Rattle.codes.specs.inner.Codes.{RightRecord, Upright, CodesAre, Hiding, Met}
use Rattle.codes.proofs.Coded.{shared}
use Rattle.code_table.specs.inner.Lines.{mark_at, PlacesOf}
use Rattle.visibility.specs.Visibility.{Hides as HidesBlock}
use Rattle.adjacency.specs.inner.Adjacent.{Shows}
use Rattle.corner_words.specs.inner.Corners.{Lower, Lefts, OpenWord}
use Rattle.clear_rows.specs.inner.Sparing.{Spared, Seen, WordFor, AllSay, Sifts, Changed, HidBy, InTwo, Against}
use Rattle.clear_rows.proofs.Sifting.{Sifting, sifting_from}

-- a bit says the same of what is the same
shows_as : {P Q : Type 0} {b : ℕ} → (P → Q) → (Q → P) → Shows P b → Shows Q b
shows_as f g s = record { small = s.small; yes' = λ e. f (s.yes' e); no' = λ x. s.no' (g x) }

-- words that say P, without the corners that have H
module _ {P Q H : ℕ → ℕ → Type 0} (f : (v u : ℕ) → v < 240 → u < 240 → P v u → (H v u → ⊥) → Q v u) (g : (v u : ℕ) → v < 240 → u < 240 → Q v u → P v u × (H v u → ⊥)) where
  sifted : {old new : List ℕ} → AllSay P old → Changed (Sifts H) old new 720 → AllSay Q new
  sifted {new = new} a c = record { sized = c.sized; each = λ k h i l. at k h i l (omega arith) (omega arith) }
    where
      at : (k : ℕ) → k < 720 → (i : ℕ) → i < 64 → k / 3 < 240 → 64 * (k % 3) + i < 240 → Shows (Q (k / 3) (64 * (k % 3) + i)) (bit i (word new k))
      at k h i l hv hu =
          let s = a.each k h i l in
          shows_as (λ x. f _ _ hv hu (s.yes' x.0) x.1) (λ y. let z = g _ _ hv hu y in (s.no' z.0, z.1)) ((c.done k h).each i l)

-- ---- before any block is passed
module _ (R : Records) (k : ℕ) (t : Bool) (e : t ≡ present R (k / 3)) where
  pub first_absent : not t ≡ true → WordFor (Spared R 0) k 0
  first_absent h i l =
      record {
        small = bit_small i 0;
        yes' = λ x. absurd (omega (arith, x, bit_zero i));
        no' = λ s. absurd (true≢false (sym s.there ∙ sym e ∙ not-true t h));
      }

  pub first_there : (w : ℕ) → not t ≡ false → ((i : ℕ) → i < 64 → Shows (Lower R.blocks (k / 3) (64 * (k % 3) + i)) (bit i w)) → WordFor (Spared R 0) k w
  first_there w h f i l =
      shows_as (λ o. record { lower = o; there = sym e ∙ not-false t h; seen = λ j m. absurd (omega arith) }) (λ s. s.lower) (f i l)

-- ---- one straight, by the codes of both ends
module _ (ws east north codes : List ℕ) (g : Against ws east north codes) (u v : ℕ) (hu : u < 240) (hv : v < 240) where
  codes_at : CodesAre ws (word codes u) (word codes v) (mark_at east north u) (mark_at east north v)
  codes_at = record { right = g.right; first = g.row.each u hu; last = g.row.each v hv }

  -- the straight is looked along from v, whose code serves every corner
  module _ (a b : Point) (p : a ≡ mark_at east north u) (q : b ≡ mark_at east north v) where
    pub codes_from : (c : ℕ) → c ≡ word codes v → CodesAre ws c (word codes u) b a
    codes_from c e = record { right = g.right; first = e ∙ g.row.each v hv ∙ rw q; last = g.row.each u hu ∙ rw p }

    hid : Hiding ws b a → HidBy ws east north v u
    hid h = let k : Hiding ws a b = (h.0, obstructs_sym (corners ws) b a h.1) in rw (p, q) at k

    spares : (Hiding ws b a → ⊥) → HidBy ws east north v u → ⊥
    spares f h = let k = rw (← p, ← q) at h in f (k.0, obstructs_sym (corners ws) a b k.1)

    pub hidden_told : (r : Meeting) → Met ws b a r → Tells (HidBy ws east north v u) (sameb the_type r Hides)
    hidden_told Hides m = record { yes' = λ e. hid m; no' = λ e h. cc }
    hidden_told Touches m = record { yes' = λ e. cc; no' = λ e. spares m }
    hidden_told Misses m = record { yes' = λ e. cc; no' = λ e. spares m.0 }

  -- a side that neither end is strictly left of
  pub side_spares : (b : ℕ) → bit b (word codes u) ≡ 1 → bit b (word codes v) ≡ 1 → HidBy ws east north v u → ⊥
  side_spares b x y =
      shared codes_at
      (λ z. let w : min (bit b (word codes u)) (bit b (word codes v)) ≡ 0 = sym (bit_and_lem b (word codes u) (word codes v)) ∙ ap (bit b) z ∙ bit_zero b in absurd (omega arith))

pub sifting_open : (ws east north codes lefts : List ℕ) (v q w rest : ℕ) → Against ws east north codes → Lefts codes lefts 24 → v < 240 → q < 3 → OpenWord lefts (word codes v) q w rest
    → Sifting (HidBy ws east north v) q w w rest
sifting_open ws east north codes lefts v q w rest g f hv hq o = sifting_from (HidBy ws east north v) q w rest (λ i l x y. beside i l (o.rest i x y))
  where
    beside : (i : ℕ) → i < 64 → (b : ℕ) × (b < 8) × (bit b (word codes v) ≡ 1) × (bit i (word lefts (3 * b + q)) ≡ 0) → HidBy ws east north v (64 * q + i) → ⊥
    beside i l (b, m, x, y) =
        let d : (3 * b + q) / 3 ≡ b = omega arith in
        let e : (3 * b + q) % 3 ≡ q = omega arith in
        side_spares ws east north codes g (64 * q + i) v (omega arith) hv b (rw (d, e) at (f.each (3 * b + q) (omega arith) i l y)) x

-- ---- a block that is absent hides nothing
pub absent_changed : (ws east north rows : List ℕ) → word ws 0 ≡ 0 → length rows ≡ 720 → Changed (Sifts (HidBy ws east north)) rows rows 720
absent_changed ws east north rows z l =
    record {
      sized = l;
      done = λ k h. record { each = λ i m. record { small = bit_small i (word rows k); yes' = λ x. (x, none (k / 3) (64 * (k % 3) + i)); no' = λ x. x.0 } };
      due = λ k h m. refl;
    }
  where
    none : (v u : ℕ) → HidBy ws east north v u → ⊥
    none v u h = omega (arith, h.0)

-- ---- one block more
pub part_right : (blocks runs : List ℕ) (n : ℕ) → Upright (stored blocks runs) → n < 24 → RightRecord (take (17 * n + 17 - 17 * n) (drop (17 * n) blocks))
part_right blocks runs n u h = rw (part_is blocks n) (u.each n h)

module _ (R : Records) (east north : List ℕ) (p : PlacesOf R east north) where
  hides_as : (n v u : ℕ) → v < 240 → u < 240 → HidesBlock R n u v → HidBy (block_words R.blocks n) east north v u
  hides_as n v u hv hu h = rw (p.each u hu, p.each v hv) (h.stands, h.across)

  as_hides : (n v u : ℕ) → v < 240 → u < 240 → HidBy (block_words R.blocks n) east north v u → HidesBlock R n u v
  as_hides n v u hv hu h = let g = rw (p.each u hu, p.each v hv) at h in record { stands = g.0; across = g.1 }

  more : (n v u : ℕ) → v < 240 → u < 240 → Spared R n v u → (HidBy (block_words R.blocks n) east north v u → ⊥) → Spared R (n + 1) v u
  more n v u hv hu s f = record { lower = s.lower; there = s.there; seen = λ k l. go k l (ℕ_discrete k n) }
    where
      go : (k : ℕ) → k < n + 1 → Dec (k ≡ n) → HidesBlock R k u v → ⊥
      go k l (yes e) h = f (hides_as n v u hv hu (rw e at h))
      go k l (no e) h = s.seen k (omega arith) h

  fewer : (n v u : ℕ) → v < 240 → u < 240 → Spared R (n + 1) v u → Spared R n v u × (HidBy (block_words R.blocks n) east north v u → ⊥)
  fewer n v u hv hu s = (
    record { lower = s.lower; there = s.there; seen = λ k l. s.seen k (omega arith) },
    λ h. s.seen n (omega arith) (as_hides n v u hv hu h),
  )

pub spared_next : (blocks runs east north old new : List ℕ) (n : ℕ) → PlacesOf (stored blocks runs) east north → AllSay (Spared (stored blocks runs) n) old
    → Changed (Sifts (HidBy (take (17 * n + 17 - 17 * n) (drop (17 * n) blocks)) east north)) old new 720 → AllSay (Spared (stored blocks runs) (n + 1)) new
spared_next blocks runs east north old new n p a c =
    sifted {P = Spared (stored blocks runs) n} {Q = Spared (stored blocks runs) (n + 1)} {H = HidBy (block_words blocks n) east north}
    (more (stored blocks runs) east north p n) (fewer (stored blocks runs) east north p n) a (rw (part_is blocks n) at c)

pub spared_all : (R : Records) (rows : List ℕ) (n : ℕ) → n ≤ 24 → 24 ≤ n → AllSay (Spared R n) rows → AllSay (Spared R 24) rows
spared_all R rows n l m a = let e : n ≡ 24 = omega arith in rw e at a

-- ---- the seams
all_ones : all_below 24 (λ n. eqb (bit n 16777215) 1) ≡ true
unfolding all_below bit
all_ones = refl

pub touched_every : (blocks masks : List ℕ) (a b : Point) → TouchedIn blocks masks a b 16777215
touched_every blocks masks a b =
    record { each = λ n h e. absurd (omega (arith, e, eqb-true (bit n 16777215) 1 (all_at (λ n. eqb (bit n 16777215) 1) 24 n all_ones h))) }

pub shared_told : (blocks east north : List ℕ) (v u : ℕ) (a b : Point) (t : Bool) → a ≡ mark_at east north u → b ≡ mark_at east north v → Tells (Shared blocks a b) t → Tells (InTwo blocks east north v u) t
shared_told blocks east north v u a b t p q h = rw (p, q) at h

and_last : (a b : Bool) → a && b ≡ true → b ≡ true
and_last true b e = e
and_last false b e = absurd (true≢false (sym e))

module _ (R : Records) where
  seen_of : (v u : ℕ) → Spared R 24 v u → (Shared R.blocks (place_of R u) (place_of R v) → ⊥) → Seen R v u
  seen_of v u s f = (
    record {
      present = s.lower.corner;
      differ = λ q. omega (arith, q, s.lower.below);
      clear = (rw (sym (present_corner R.blocks R.runs u true (sym s.lower.corner) refl), s.there), record { seen = s.seen; unshared = f });
    },
    s.lower.below,
  )

  of_seen : (v u : ℕ) → Seen R v u → Spared R 24 v u
  of_seen v u a =
      record {
        lower = record { corner = a.0.present; below = a.1 };
        there = and_last (present R u) (present R v) a.0.clear.0;
        seen = a.0.clear.1.seen;
      }

pub seen_apart : (blocks runs rows : List ℕ) (t : Bool) → (t ≡ true → Disjoint blocks) → t ≡ true → AllSay (Spared (stored blocks runs) 24) rows → AllSay (Seen (stored blocks runs)) rows
seen_apart blocks runs rows t d e a =
    record {
      sized = a.sized;
      each = λ k h i l. shows_as (λ s. seen_of (stored blocks runs) _ _ s (disjoint_unshared blocks _ _ (d e))) (of_seen (stored blocks runs) _ _) (a.each k h i l);
    }

pub seen_sifted : (blocks runs east north old new : List ℕ) → PlacesOf (stored blocks runs) east north → AllSay (Spared (stored blocks runs) 24) old
    → Changed (Sifts (InTwo blocks east north)) old new 720 → AllSay (Seen (stored blocks runs)) new
seen_sifted blocks runs east north old new p a c =
    sifted {P = Spared (stored blocks runs) 24} {Q = Seen (stored blocks runs)} {H = InTwo blocks east north}
    (λ v u hv hu s f. seen_of (stored blocks runs) v u s (λ h. f (rw (p.each u hu, p.each v hv) h)))
    (λ v u hv hu x. (of_seen (stored blocks runs) v u x, λ h. x.0.clear.1.unshared (rw (p.each u hu, p.each v hv) at h)))
    a c
