-- Writing into a lent buffer: what stands already, with what is still to come, is the whole.
use mathlib.Core.Path.{◌≡◌, refl, sym, ap, ◌∙◌}
use mathlib.Core.List.{List, [], ◌∷◌, ◌++◌, append_assoc, append-nil}
use Prim.Native.Nat.{ℕ, ◌+◌, ◌*◌, ◌-◌, ◌/◌, ◌%◌, ◌<◌, ◌≤◌}
use native.Mathlib.Omega.{arith}
use native.Mathlib.Numerals.{add-one}
use lib.ListN.{length, get_or, set, take, drop, length-append, length-set, length-drop, drop_of_length-le}
use lib.Seq.{take-suc-set, append_snoc, drop-cons}
use Rattle.file_records.specs.Records.{word_bytes, step_byte, step_bytes}
use Rattle.file_records.proofs.Words.{words_size, steps_size}
use Rattle.file_writing.specs.inner.Written.{Written}

pub record Writing (old out : List ℕ) (p : ℕ) (rest whole : List ℕ) : Type 0 where
  pub sized : length out ≡ length old
  pub fits : p + length rest ≤ length out
  pub so : take p out ++ rest ≡ whole

pub writing_from : (old : List ℕ) (p : ℕ) (bytes : List ℕ) → p + length bytes ≤ length old → Writing old old p bytes (take p old ++ bytes)
writing_from old p bytes h = record { sized = refl; fits = h; so = refl }

module _ (old out : List ℕ) (p : ℕ) (rest whole : List ℕ) where
  pub writing_one : (a : ℕ) → Writing old out p (a ∷ rest) whole → Writing old (set out p a) (p + 1) rest whole
  writing_one a w =
      let h : p < length out = omega (arith, w.fits) in
      record {
        sized = length-set out p a ∙ w.sized;
        fits = omega (arith, length-set out p a, w.fits);
        so = rw (add-one p, take-suc-set out p a h, append_snoc (take p out) a) w.so;
      }

  pub writing_call : (bytes new : List ℕ) (next : ℕ) → length new ≡ length out → Written bytes out new p next → Writing old out p (bytes ++ rest) whole → Writing old new next rest whole
  writing_call bytes new next e g w =
      record {
        sized = e ∙ w.sized;
        fits = omega (arith, e, g.moved, w.fits, length-append bytes rest);
        so = rw g.reads (append_assoc (take p out) bytes rest ∙ w.so);
      }

pub writing_end : (old out : List ℕ) (p : ℕ) (rest whole : List ℕ) → rest ≡ [] → Writing old out p rest whole → take p out ≡ whole
writing_end old out p rest whole e w = sym (append-nil (take p out)) ∙ rw e at w.so

-- pieces one after the other
pub written_none : (out : List ℕ) (p : ℕ) → Written [] out out p p
written_none out p = record { moved = omega arith; reads = sym (append-nil (take p out)) }

pub written_then : (xs ys a b c : List ℕ) (p q r : ℕ) → Written xs a b p q → Written ys b c q r → Written (xs ++ ys) a c p r
written_then xs ys a b c p q r g h =
    record {
      moved = omega (arith, g.moved, h.moved, length-append xs ys);
      reads = h.reads ∙ (rw g.reads (append_assoc (take p a) xs ys));
    }

pub written_cons : (a : ℕ) (xs out new : List ℕ) (p r : ℕ) → p < length out → Written xs (set out p a) new (p + 1) r → Written (a ∷ xs) out new p r
written_cons a xs out new p r l g =
    record {
      moved = omega (arith, g.moved);
      reads = g.reads ∙ (rw (add-one p, take-suc-set out p a l, append_snoc (take p out) a));
    }

-- the high byte of a word
pub high_byte : (w : ℕ) → w < 65536 → w / 256 % 256 ≡ w / 256
high_byte w h = omega arith

-- words in full, one by one
words_drop : (ws : List ℕ) (i : ℕ) → i < length ws → word_bytes (drop i ws) ≡ get_or ws i 0 % 256 ∷ get_or ws i 0 / 256 ∷ word_bytes (drop (i + 1) ws)
unfolding word_bytes
words_drop ws i h = rw (add-one i, drop-cons ws i 0 h)

words_nil : word_bytes [] ≡ []
unfolding word_bytes
words_nil = refl

pub record WordsOut (ws old out : List ℕ) (to at i : ℕ) : Type 0 where
  pub low : i ≤ length ws
  pub moved : at ≡ to + 2 * i
  pub writing : Writing old out at (word_bytes (drop i ws)) (take to old ++ word_bytes ws)

module _ (ws old : List ℕ) (to : ℕ) where
  pub words_out_none : to + 2 * length ws ≤ length old → WordsOut ws old old to to 0
  words_out_none h = record { low = omega arith; moved = omega arith; writing = writing_from old to (word_bytes ws) (omega (arith, words_size ws)) }

  module _ (out : List ℕ) (at i : ℕ) (w : WordsOut ws old out to at i) where
    words_out_both : i < length ws → WordsOut ws old (set (set out at (get_or ws i 0 % 256)) (at + 1) (get_or ws i 0 / 256)) to (at + 2) (i + 1)
    words_out_both h =
        let e : at + 1 + 1 ≡ at + 2 = omega arith in
        record {
          low = omega arith;
          moved = omega (arith, w.moved);
          writing =
              rw e at
              (writing_one old (set out at (get_or ws i 0 % 256)) (at + 1) (word_bytes (drop (i + 1) ws)) (take to old ++ word_bytes ws) (get_or ws i 0 / 256)
              (writing_one old out at (get_or ws i 0 / 256 ∷ word_bytes (drop (i + 1) ws)) (take to old ++ word_bytes ws) (get_or ws i 0 % 256)
              (rw (words_drop ws i h) at w.writing)));
        }

    pub words_out_next : (a b : ℕ) → i < length ws → a ≡ get_or ws i 0 % 256 → b ≡ get_or ws i 0 / 256 → WordsOut ws old (set (set out at a) (at + 1) b) to (at + 2) (i + 1)
    words_out_next a b h p q = rw (p, q) (words_out_both h)

    pub words_out_end : length ws ≤ i → Written (word_bytes ws) old out to at
    words_out_end h =
        record {
          moved = omega (arith, w.low, w.moved, words_size ws);
          reads = writing_end old out at (word_bytes (drop i ws)) (take to old ++ word_bytes ws) (ap word_bytes (drop_of_length-le ws h) ∙ words_nil) w.writing;
        }

-- words by steps, one by one
steps_drop : (ws : List ℕ) (i : ℕ) → 2 ≤ i → i < length ws
    → step_bytes (get_or ws (i - 2) 0) (get_or ws (i - 1) 0) (drop i ws) ≡ step_byte (get_or ws (i - 2) 0) (get_or ws i 0) ∷ step_bytes (get_or ws (i + 1 - 2) 0) (get_or ws (i + 1 - 1) 0) (drop (i + 1) ws)
unfolding step_bytes
steps_drop ws i l h =
    let e₃ : i + 1 - 2 ≡ i - 1 = omega arith in
    let e₄ : i + 1 - 1 ≡ i = omega arith in
    rw (e₃, e₄, add-one i, drop-cons ws i 0 h)

steps_nil : (a b : ℕ) → step_bytes a b [] ≡ []
unfolding step_bytes
steps_nil a b = refl

pub record StepsOut (ws old out : List ℕ) (to at i : ℕ) : Type 0 where
  pub low : 2 ≤ i
  pub high : i ≤ length ws
  pub moved : at + 2 ≡ to + i
  pub writing : Writing old out at (step_bytes (get_or ws (i - 2) 0) (get_or ws (i - 1) 0) (drop i ws)) (take to old ++ step_bytes (get_or ws 0 0) (get_or ws 1 0) (drop 2 ws))

module _ (ws old : List ℕ) (to : ℕ) where
  pub steps_out_none : 2 ≤ length ws → to + length ws ≤ length old + 2 → StepsOut ws old old to to 2
  steps_out_none l h =
      record {
        low = omega arith;
        high = l;
        moved = refl;
        writing = writing_from old to (step_bytes (get_or ws 0 0) (get_or ws 1 0) (drop 2 ws)) (omega (arith, steps_size (get_or ws 0 0) (get_or ws 1 0) (drop 2 ws), length-drop 2 ws));
      }

  module _ (out : List ℕ) (at i : ℕ) (w : StepsOut ws old out to at i) where
    pub steps_out_next : (v : ℕ) → i < length ws → v ≡ step_byte (get_or ws (i - 2) 0) (get_or ws i 0) → StepsOut ws old (set out at v) to (at + 1) (i + 1)
    steps_out_next v h e =
        record {
          low = omega (arith, w.low);
          high = omega arith;
          moved = omega (arith, w.moved);
          writing =
              writing_one old out at (step_bytes (get_or ws (i + 1 - 2) 0) (get_or ws (i + 1 - 1) 0) (drop (i + 1) ws)) (take to old ++ step_bytes (get_or ws 0 0) (get_or ws 1 0) (drop 2 ws)) v
              (rw (steps_drop ws i w.low h, ← e) at w.writing);
        }

    pub steps_out_end : length ws ≤ i → Written (step_bytes (get_or ws 0 0) (get_or ws 1 0) (drop 2 ws)) old out to at
    steps_out_end h =
        record {
          moved = omega (arith, w.high, w.low, w.moved, steps_size (get_or ws 0 0) (get_or ws 1 0) (drop 2 ws), length-drop 2 ws);
          reads =
              writing_end old out at (step_bytes (get_or ws (i - 2) 0) (get_or ws (i - 1) 0) (drop i ws)) (take to old ++ step_bytes (get_or ws 0 0) (get_or ws 1 0) (drop 2 ws))
              (ap (λ (l : List ℕ). step_bytes (get_or ws (i - 2) 0) (get_or ws (i - 1) 0) l) (drop_of_length-le ws h) ∙ steps_nil (get_or ws (i - 2) 0) (get_or ws (i - 1) 0)) w.writing;
        }
