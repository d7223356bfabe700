-- One question to a record and to all, and the size of the result, for each way out of the code.
use mathlib.Core.Path.{◌≡◌, refl, sym, ap, ◌∙◌}
use mathlib.Core.List.{List}
use mathlib.Core.Bool.{Bool, true, false}
use Prim.Native.Nat.{ℕ, ◌+◌, ◌*◌, ◌-◌, ◌<◌, ◌≤◌}
use native.Mathlib.Omega.{arith}
use native.Mathlib.Decide.{ℕ_discrete}
use lib.Dec.{eqb}
use lib.ListN.{length, length-append}
use borrow.Author.Tests.{eq-eqb, ne_eqb}
use Rattle.file_questions.specs.declared.Question.{Question}
use Rattle.file_questions.specs.declared.Question.TheVariants.{Whole, Near, Inside}
use Rattle.file_questions.specs.inner.Questions.{number_asked}
use Rattle.file_words.specs.Words.{byte, block_size, corner_words, inside}
use Rattle.yardfile.specs.File.{body_size, head_right, record_whole}
use Rattle.yardfile.proofs.Cases.{body_block, body_plain, whole_fits, head_pieces}
use Rattle.file_records.specs.Records.{Rec, next_at, words_at, rec_at, rec_bytes, bytes_of}
use Rattle.file_records.specs.Conversions.{near, steps_right, places_right, converted}
use Rattle.file_records.specs.inner.Asked.{asked, everyone, size_in}
use Rattle.file_records.proofs.Recs.{words_block, size_one, size_other, rec_size}
use Rattle.file_records.proofs.Files.{always, recs_from, every, every_end, recs_end, bytes_none, bytes_more, asked_whole}
use Rattle.file_records.proofs.Walks.{converted_is, Left, left_none, left_next, every_step, recs_step, whole_here}

-- the size of a record in a version
module _ (v : ℕ) (f : List ℕ) (at : ℕ) where
  pub in_block : (b c : ℕ) → byte f at ≡ 1 → c ≡ byte f (at + 2) → b ≡ block_size v c → 2 + b ≡ size_in v f at
  in_block b c one p q = rw (q, p) (sym (size_one v f at one))

  pub in_plain : (b : ℕ) → (byte f at ≡ 1 → ⊥) → b ≡ body_size f at → 2 + b ≡ size_in v f at
  in_plain b other q = rw (q ∙ sym (body_plain f at other)) (sym (size_other v f at other))

-- a question to one record, for each way out of the code
module _ (q : ℕ) (f : List ℕ) (at : ℕ) where
  pub asked_ten : (t : Bool) → q ≡ 10 → t ≡ record_whole f at → t ≡ asked q f at
  unfolding asked
  asked_ten t e h = rw (eq-eqb q 10 e) h

  module _ (ten : q ≡ 10 → ⊥) (k : ℕ) (e : k ≡ byte f at) where
    pub asked_other : (k ≡ 1 → ⊥) → true ≡ asked q f at
    unfolding asked steps_right places_right
    asked_other other = rw (ne_eqb q 10 ten, ne_eqb (byte f at) 1 (λ z. other (e ∙ z))) (sym (always (eqb q 21)))

    module _ (one : k ≡ 1) (ws : List ℕ) (w : ws ≡ corner_words f (at + 2)) (t : Bool) where
      words_here : ws ≡ words_at f at
      words_here = w ∙ sym (words_block f at (sym e ∙ one))

      pub asked_21 : q ≡ 21 → t ≡ near ws → t ≡ asked q f at
      unfolding asked steps_right
      asked_21 h r = rw (ne_eqb q 10 ten, eq-eqb q 21 h, eq-eqb (byte f at) 1 (sym e ∙ one)) (r ∙ ap near words_here)

      pub asked_22 : (q ≡ 21 → ⊥) → t ≡ inside ws → t ≡ asked q f at
      unfolding asked places_right
      asked_22 h r = rw (ne_eqb q 10 ten, ne_eqb q 21 h, eq-eqb (byte f at) 1 (sym e ∙ one)) (r ∙ ap inside words_here)

  pub asked_room : (k : ℕ) → k ≡ byte f at → k ≡ 1 → (q ≡ 10 → ⊥) → ((q ≡ 10 → ⊥) → next_at f at ≤ length f) → at + 2 + block_size (byte f 3) (byte f (at + 2)) ≤ length f
  asked_room k e one o h = omega (arith, h o, body_block f at (sym e ∙ one))

-- a question put to all
pub record Walked (f : List ℕ) (q at : ℕ) : Type 0 where
  pub fuel : ℕ
  pub enough : length f ≤ at + fuel
  pub low : 5 ≤ at
  pub high : at ≤ length f
  pub whole : (q ≡ 10 → ⊥) → every (asked 10) f fuel at ≡ true
  pub same : everyone q f ≡ every (asked q) f fuel at

pub walked_none : (f : List ℕ) (q : ℕ) → 5 ≤ length f → ((q ≡ 10 → ⊥) → everyone 10 f ≡ true) → Walked f q 5
walked_none f q h w = record { fuel = length f; enough = omega arith; low = omega arith; high = h; whole = w; same = refl }

module _ (f : List ℕ) (q at : ℕ) (w : Walked f q at) where
  pub walked_room : at < length f → (q ≡ 10 → ⊥) → next_at f at ≤ length f
  walked_room l k = whole_fits f at (whole_here f at w.fuel l w.enough (w.whole k))

  pub walked_end : length f ≤ at → true ≡ everyone q f
  walked_end h = sym (w.same ∙ every_end f (asked q) w.fuel at h)

  module _ (l : at < length f) (t : Bool) (e : t ≡ asked q f at) where
    pub walked_no : t ≡ false → false ≡ everyone q f
    walked_no n = sym (w.same ∙ (every_step f at w.fuel l w.enough (asked q) ∙ rw (sym e ∙ n)))

    module _ (y : t ≡ true) where
      whole_at : record_whole f at ≡ true
      whole_at = go (ℕ_discrete q 10)
        where
          go : Dec (q ≡ 10) → record_whole f at ≡ true
          go (yes k) = sym (asked_whole f at) ∙ (ap (λ (x : ℕ). asked x f at) (sym k) ∙ (sym e ∙ y))
          go (no k) = whole_here f at w.fuel l w.enough (w.whole k)

      pub walked_fits : next_at f at ≤ length f
      walked_fits = whole_fits f at whole_at

      pub walked_next : (b : ℕ) → b ≡ body_size f at → Walked f q (at + 2 + b)
      walked_next b h =
          rw h
          (record {
            fuel = w.fuel - 1;
            enough = omega (arith, w.enough);
            low = omega (arith, w.low);
            high = walked_fits;
            whole = λ k. (left_next f at w.fuel l w.enough w.low (w.whole k)).whole;
            same = w.same ∙ (every_step f at w.fuel l w.enough (asked q) ∙ rw (sym e ∙ y));
          })

-- the size of the result
pub record Summing (f : List ℕ) (v at total : ℕ) : Type 0 where
  pub fuel : ℕ
  pub left : Left f at fuel
  pub same : total + length (bytes_of v (recs_from f fuel at)) ≡ length (converted v f)
  pub small : total ≤ 1023 * at

pub summing_none : (f : List ℕ) (v : ℕ) → 5 ≤ length f → everyone 10 f ≡ true → Summing f v 5 5
summing_none f v h w = record { fuel = length f; left = left_none f h w; same = rw (converted_is v f) (omega arith); small = omega arith }

module _ (f : List ℕ) (v at total : ℕ) (g : Summing f v at total) where
  pub summing_end : length f ≤ at → total ≡ length (converted v f)
  summing_end h = omega (arith, g.same, ap length (ap (bytes_of v) (recs_end f g.fuel at h) ∙ bytes_none v))

  pub summing_next : (s b : ℕ) → at < length f → s ≡ size_in v f at → s ≤ 1023 → b ≡ body_size f at → Summing f v (at + 2 + b) (total + s)
  summing_next s b l e m h =
      let n = g.fuel in
      let r = ap (λ (rs : List Rec). length (bytes_of v rs)) (recs_step f at n l g.left.enough)
      ∙ (ap length (bytes_more v (rec_at f at) (recs_from f (n - 1) (next_at f at))) ∙ length-append (rec_bytes v (rec_at f at)) (bytes_of v (recs_from f (n - 1) (next_at f at)))) in
      rw h
      (record {
        fuel = n - 1;
        left = left_next f at n l g.left.enough g.left.low g.left.whole;
        same = omega (arith, r, g.same, rec_size v f at, e);
        small = omega (arith, g.small, m);
      })

-- the number of a question says which it is
pub not_ten : (q : Question) → (q ≡ Whole → ⊥) → number_asked q ≡ 10 → ⊥
not_ten Whole h e = h refl
not_ten Near h e = omega arith
not_ten Inside h e = omega arith

pub not_21 : (q : Question) → (q ≡ Near → ⊥) → number_asked q ≡ 21 → ⊥
not_21 Whole h e = omega arith
not_21 Near h e = h refl
not_21 Inside h e = omega arith

pub head_low : (f : List ℕ) (t : Bool) → t ≡ head_right f → t ≡ true → 5 ≤ length f
head_low f t e h = (head_pieces f (sym e ∙ h)).low

pub said : (t b : Bool) → t ≡ b → t ≡ true → b ≡ true
said t b e h = sym e ∙ h
