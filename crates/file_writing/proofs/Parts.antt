-- A record written part by part, for each way out of the code.
use mathlib.Core.Path.{◌≡◌, refl, sym, ap, ◌∙◌}
use mathlib.Core.List.{List, [], ◌∷◌, ◌++◌}
use Prim.Native.Nat.{ℕ, ◌+◌, ◌*◌, ◌/◌, ◌<◌, ◌≤◌}
use native.Mathlib.Omega.{arith}
use lib.ListN.{length, get_or, set, take, drop, length-append, length-drop, length-set}
use lib.Seq.{length-take-le}
use Rattle.file_words.specs.Words.{byte, block_size, fields_from, corner_words}
use Rattle.yardfile.specs.File.{plain_words}
use Rattle.file_words.proofs.Sizes.{block_one}
use Rattle.yardfile.proofs.Cases.{body_block, body_plain}
use Rattle.file_words.proofs.Corners.{fields_length, corners_length}
use Rattle.file_records.specs.Records.{next_at, words_at, rec_at, word_bytes, step_bytes, short_bytes, corner_bytes, body_bytes, rec_bytes}
use Rattle.file_records.specs.inner.Asked.{size_in}
use Rattle.file_records.proofs.Words.{words_size, steps_size}
use Rattle.file_records.proofs.Blocks.{bytes_full, bytes_short, corners_size}
use Rattle.file_records.proofs.Recs.{words_block, words_plain, body_one, body_other, size_one, size_other}
use Rattle.file_writing.specs.inner.Written.{Written}
use Rattle.file_writing.proofs.Writing.{written_none, written_then, written_cons}

pub head_out : (out : List ℕ) (t : ℕ) → 5 ≤ length out → take 5 (set (set (set (set (set out 0 89) 1 82) 2 68) 3 t) 4 0) ≡ 89 ∷ 82 ∷ 68 ∷ t ∷ 0 ∷ []
head_out [] t h = absurd (omega arith)
head_out (a ∷ []) t h = absurd (omega arith)
head_out (a ∷ b ∷ []) t h = absurd (omega arith)
head_out (a ∷ b ∷ c ∷ []) t h = absurd (omega arith)
head_out (a ∷ b ∷ c ∷ d ∷ []) t h = absurd (omega arith)
head_out (a ∷ b ∷ c ∷ d ∷ e ∷ xs) t h = refl

pub two_count : (ws : List ℕ) → 2 ≤ length ws → 2 ≡ length (take 2 ws)
two_count ws h = sym (length-take-le 2 ws h)

-- corners, for each way out of the code
module _ (v : ℕ) (ws : List ℕ) where
  pub corners_out_full : (out new : List ℕ) (p r : ℕ) → v ≡ 1 → Written (word_bytes ws) out new p r → Written (corner_bytes v ws) out new p r
  corners_out_full out new p r e g = rw (bytes_full v ws e) g

  pub room_full : (p n : ℕ) → v ≡ 1 → p + length (corner_bytes v ws) ≤ n → p + 2 * length ws ≤ n
  room_full p n e h = omega (arith, ap length (bytes_full v ws e), words_size ws)

  module _ (e : v ≡ 1 → ⊥) where
    pub corners_out_none : (out : List ℕ) (p : ℕ) → length ws < 2 → Written (corner_bytes v ws) out out p p
    unfolding short_bytes
    corners_out_none out p h = rw (bytes_short v ws e) (go ws h)
      where
        go : (ws : List ℕ) → length ws < 2 → Written (short_bytes ws) out out p p
        go [] h = written_none out p
        go (a ∷ []) h = written_none out p
        go (a ∷ b ∷ ws) h = absurd (omega arith)

    short_pieces : 2 ≤ length ws → corner_bytes v ws ≡ word_bytes (take 2 ws) ++ step_bytes (get_or ws 0 0) (get_or ws 1 0) (drop 2 ws)
    unfolding short_bytes
    short_pieces h = bytes_short v ws e ∙ go ws h
      where
        go : (ws : List ℕ) → 2 ≤ length ws → short_bytes ws ≡ word_bytes (take 2 ws) ++ step_bytes (get_or ws 0 0) (get_or ws 1 0) (drop 2 ws)
        go [] h = absurd (omega arith)
        go (a ∷ []) h = absurd (omega arith)
        go (a ∷ b ∷ ws) h = refl

    module _ (h : 2 ≤ length ws) where
      pub take_two : length (take 2 ws) ≡ 2
      take_two = length-take-le 2 ws h

      room_pieces : (p n : ℕ) → p + length (corner_bytes v ws) ≤ n → p + 2 + length ws ≤ n
      room_pieces p n k =
          omega (
            arith,
            ap length (short_pieces h),
            length-append (word_bytes (take 2 ws)) (step_bytes (get_or ws 0 0) (get_or ws 1 0) (drop 2 ws)),
            words_size (take 2 ws),
            take_two,
            steps_size (get_or ws 0 0) (get_or ws 1 0) (drop 2 ws),
            length-drop 2 ws,
          )

      pub corners_out_short : (out mid new : List ℕ) (p q r : ℕ) → Written (word_bytes (take 2 ws)) out mid p q
          → Written (step_bytes (get_or ws 0 0) (get_or ws 1 0) (drop 2 ws)) mid new q r → Written (corner_bytes v ws) out new p r
      corners_out_short out mid new p q r g k = rw (short_pieces h) (written_then (word_bytes (take 2 ws)) (step_bytes (get_or ws 0 0) (get_or ws 1 0) (drop 2 ws)) out mid new p q r g k)

      pub room_two : (p n : ℕ) → p + length (corner_bytes v ws) ≤ n → p + 2 * length (take 2 ws) ≤ n
      room_two p n k = omega (arith, room_pieces p n k, take_two)

      pub room_steps : (out mid : List ℕ) (p q : ℕ) → Written (word_bytes (take 2 ws)) out mid p q → p + length (corner_bytes v ws) ≤ length out → length mid ≡ length out → q + length ws ≤ length mid + 2
      room_steps out mid p q g k l = omega (arith, room_pieces p (length out) k, g.moved, words_size (take 2 ws), take_two)

-- lengths after stores
pub same_set : (x y : List ℕ) (i a : ℕ) → length y ≡ length (set x i a) → length y ≡ length x
same_set x y i a h = h ∙ length-set x i a

pub same_two : (x y : List ℕ) (i j a b : ℕ) → length y ≡ length (set (set x i a) j b) → length y ≡ length x
same_two x y i j a b h = h ∙ (length-set (set x i a) j b ∙ length-set x i a)

-- the front of the room for a block's words
pub corner_part : (f : List ℕ) (at n : ℕ) (room : List ℕ) → n ≡ byte f at → take (2 * byte f at) room ≡ corner_words f at → take (2 * n) room ≡ corner_words f at
corner_part f at n room e w = rw e w

-- a block: its count and its corners
module _ (f : List ℕ) (at v c : ℕ) (words : List ℕ) (e : c ≡ byte f at) (w : words ≡ corner_words f at) where
  pub block_room : (p : ℕ) (out : List ℕ) → p + block_size v (byte f at) ≤ length out → p + 1 + length (corner_bytes v words) ≤ length (set out p c)
  block_room p out h = rw w (omega (arith, length-set out p c, corners_size v (byte f at) (corner_words f at) (corners_length f at)))

  pub block_out : (out new : List ℕ) (p r : ℕ) → p + block_size v (byte f at) ≤ length out → Written (corner_bytes v words) (set out p c) new (p + 1) r
      → Written (length (corner_words f at) / 2 ∷ corner_bytes v (corner_words f at)) out new p r
  block_out out new p r h g =
      let k : length (corner_words f at) / 2 ≡ c = omega (arith, corners_length f at, e) in
      rw (k, ← w) (written_cons c (corner_bytes v words) out new p r (omega (arith, block_one v (byte f at))) g)

-- the fields of a record
module _ (f : List ℕ) (at k : ℕ) (e : k ≡ byte f at) where
  pub block_file : k ≡ 1 → next_at f at ≤ length f → at + 2 + block_size (byte f 3) (byte f (at + 2)) ≤ length f
  block_file one h = omega (arith, body_block f at (sym e ∙ one))

  pub block_buffer : (v p n : ℕ) → k ≡ 1 → p + size_in v f at ≤ n + 2 → p + block_size v (byte f (at + 2)) ≤ n
  block_buffer v p n one h = omega (arith, size_one v f at (sym e ∙ one))

  pub body_out_block : (v : ℕ) (out new : List ℕ) (p r : ℕ) → k ≡ 1
      → Written (length (corner_words f (at + 2)) / 2 ∷ corner_bytes v (corner_words f (at + 2))) out new p r → Written (body_bytes v (byte f at) (words_at f at)) out new p r
  body_out_block v out new p r one g = rw (body_one v (byte f at) (words_at f at) (sym e ∙ one), words_block f at (sym e ∙ one)) g

  module _ (other : k ≡ 1 → ⊥) (n : ℕ) (m : n ≡ plain_words k) where
    not_one : byte f at ≡ 1 → ⊥
    not_one z = other (e ∙ z)

    count : n ≡ plain_words (byte f at)
    count = m ∙ ap plain_words e

    pub plain_file : next_at f at ≤ length f → at + 2 + 2 * n ≤ length f
    plain_file h = omega (arith, body_plain f at not_one, count)

    module _ (words : List ℕ) (w : words ≡ fields_from f (at + 2) n) where
      plain_count : n ≡ length words
      plain_count = sym (ap length w ∙ fields_length f (at + 2) n)

      pub plain_buffer : (v p q : ℕ) → p + size_in v f at ≤ q + 2 → p + 2 * length words ≤ q
      plain_buffer v p q h = omega (arith, size_other v f at not_one, count, plain_count)

      pub body_out_plain : (v : ℕ) (out new : List ℕ) (p r : ℕ) → Written (word_bytes words) out new p r → Written (body_bytes v (byte f at) (words_at f at)) out new p r
      body_out_plain v out new p r g =
          rw (body_other v (byte f at) (words_at f at) not_one, words_plain f at not_one, ← count, ← w) g

pub size_low : (v : ℕ) (f : List ℕ) (at : ℕ) → 2 ≤ size_in v f at
unfolding size_in
size_low v f at = omega arith

pub block_first : (v c p n : ℕ) → p + block_size v c ≤ n → p < n
block_first v c p n h = omega (arith, block_one v c)

pub record_first : (v : ℕ) (f : List ℕ) (at p n : ℕ) → p + size_in v f at ≤ n → p < n
record_first v f at p n h = omega (arith, size_low v f at)

pub record_second : (v : ℕ) (f : List ℕ) (at p a : ℕ) (out : List ℕ) → p + size_in v f at ≤ length out → p + 1 < length (set out p a)
record_second v f at p a out h = omega (arith, size_low v f at, length-set out p a)

pub record_body : (v : ℕ) (f : List ℕ) (at p a b : ℕ) (out : List ℕ) → p + size_in v f at ≤ length out → p + 2 + size_in v f at ≤ length (set (set out p a) (p + 1) b) + 2
record_body v f at p a b out h = omega (arith, length-set (set out p a) (p + 1) b, length-set out p a)

pub record_out : (v : ℕ) (f : List ℕ) (at a b : ℕ) (out new : List ℕ) (p r : ℕ) → a ≡ byte f at → b ≡ byte f (at + 1) → p + size_in v f at ≤ length out
    → Written (body_bytes v (byte f at) (words_at f at)) (set (set out p a) (p + 1) b) new (p + 2) r → Written (rec_bytes v (rec_at f at)) out new p r
record_out v f at a b out new p r e h l g =
    let q : p + 1 + 1 ≡ p + 2 = omega arith in
    let two = size_low v f at in
    rw (← e, ← h)
    (written_cons a (b ∷ body_bytes v a (words_at f at)) out new p r (omega arith)
    (written_cons b (body_bytes v a (words_at f at)) (set out p a) new (p + 1) r (omega (arith, length-set out p a)) (rw q (rw (← e) at g))))

-- the part of the room that a record's fields take
pub four_room : (n : ℕ) → n ≤ 4 → length {A = ℕ} (take n (0 ∷ 0 ∷ 0 ∷ 0 ∷ [])) ≡ n
four_room n h = length-take-le n (0 ∷ 0 ∷ 0 ∷ 0 ∷ []) h
