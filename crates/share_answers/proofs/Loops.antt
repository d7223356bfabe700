-- What the loops over holders, shares and runs keep, and the answers of the tests.
use mathlib.Core.Path.{◌≡◌, refl, sym, ap, ◌∙◌}
use mathlib.Core.List.{List, []}
use mathlib.Core.Bool.{Bool, true, false, ◌&&◌, and-true, and_assoc}
use Prim.Native.Nat.{ℕ, zero, suc, ◌+◌, ◌*◌, ◌-◌, ◌<◌, ◌≤◌}
use native.Mathlib.Numerals.{add-one}
use native.Mathlib.Omega.{arith}
use lib.Dec.{eqb}
use mir.Val.{bool_byte}
use Rattle.std.specs.List.{range_with_len, list_all}
use Rattle.geometry.specs.Words.{word}
use Rattle.lists.specs.Lists.{all_below}
use Rattle.tables.specs.Tables.{stored}
use Rattle.book.specs.Book.{free}
use Rattle.book.proofs.Stored.{run_free}
use Rattle.shares.specs.Shares.{sum_below, one, held, free_numbers, unfilled_of, unfilled, unfilled_others, holder_right}
use Rattle.shares.proofs.Counts.{unfilled_split}
use Rattle.share_answers.specs.inner.Asked.{run_places}

-- n is the sum of f over the numbers below i
pub record SumTo (f : ℕ → ℕ) (i n : ℕ) : Type 0 where
  pub is : n ≡ sum_below i f

pub sum_none : (f : ℕ → ℕ) → SumTo f 0 0
unfolding sum_below
sum_none f = record { is = refl }

pub sum_next : (f : ℕ → ℕ) (i n v : ℕ) → v ≡ f i → SumTo f i n → SumTo f (i + 1) (n + v)
unfolding sum_below
sum_next f i n v e s = record { is = rw add-one (rw (s.is, e)) }

pub sum_done : (f : ℕ → ℕ) (k i n : ℕ) → i ≤ k → k ≤ i → SumTo f i n → n ≡ sum_below k f
sum_done f k i n a b s = let q : i ≡ k = omega arith in rw q at s.is

-- a test of every number of a range, as `all` makes it
all_same : (p q : ℕ → Bool) (n : ℕ) → ((k : ℕ) → k < n → p k ≡ q k) → all_below n p ≡ all_below n q
unfolding all_below
all_same p q zero h = refl
all_same p q (suc n) h = rw (all_same p q n (λ k l. h k (omega arith)), h n (omega arith)) refl

all_shifted : (p : ℕ → Bool) (n : ℕ) → p 0 && all_below n (λ k. p (k + 1)) ≡ all_below (suc n) p
unfolding all_below
all_shifted p zero = and-true (p 0)
all_shifted p (suc n) = sym (and_assoc (p 0) (all_below n (λ k. p (k + 1))) (p (n + 1))) ∙ rw (all_shifted p n, add-one) refl

all_from : (p : ℕ → Bool) (a n : ℕ) → list_all p (range_with_len a n) ≡ all_below n (λ k. p (a + k))
unfolding all_below
all_from p a zero = refl
all_from p a (suc n) =
    let z : a ≡ a + 0 = omega arith in
    rw (all_from p (a + 1) n)
    (ap (λ (t : Bool). p a && t) (all_same (λ k. p (a + 1 + k)) (λ k. p (a + (k + 1))) n (λ k l. ap p (omega arith)))
    ∙ ap (λ (m : ℕ). p m && all_below n (λ k. p (a + (k + 1)))) z ∙ all_shifted (λ k. p (a + k)) n)

pub all_range : (p q : ℕ → Bool) (n : ℕ) (r : Bool) → r ≡ list_all p (range_with_len 0 n) → ((k : ℕ) → k < n → p k ≡ q k) → r ≡ all_below n q
all_range p q n r e h = e ∙ all_from p 0 n ∙ all_same (λ k. p (0 + k)) q n (λ k l. let z : 0 + k ≡ k = omega arith in ap p z ∙ h k l)

-- the parts of the sums
bit_is : (b : Bool) → bool_byte b ≡ one b
bit_is true = refl
bit_is false = refl

pub bit_small : (b : Bool) → bool_byte b ≤ 1
bit_small true = omega arith
bit_small false = omega arith

pub counted : (w x c v : ℕ) → w ≡ x → v ≡ bool_byte (eqb w c) → v ≡ one (eqb x c)
counted w x c v e f = f ∙ rw (e) (bit_is (eqb x c))

pub free_at : (runs : List ℕ) (m : ℕ) → m < 24 → free (run_places runs) m ≡ eqb (word runs (5 * m)) 0
free_at runs m l = run_free (stored [] runs) m l

pub free_counted : (runs : List ℕ) (m v : ℕ) → m < 24 → v ≡ bool_byte (eqb (word runs (5 * m)) 0) → v ≡ one (free (run_places runs) m)
free_counted runs m v l e = rw (free_at runs m l) (e ∙ bit_is (eqb (word runs (5 * m)) 0))

pub left_counted : (hs shares : List ℕ) (c h v : ℕ) → h ≡ held hs c → v ≡ word shares c - h → v ≡ unfilled_of hs shares c
left_counted hs shares c h v e f = rw e at f

-- what they come to
pub held_is : (hs : List ℕ) (c m n : ℕ) → m ≤ 24 → 24 ≤ m → SumTo (λ k. one (eqb (word hs k) c)) m n → n ≡ held hs c
unfolding held
held_is hs c m n a b s = sum_done (λ k. one (eqb (word hs k) c)) 24 m n a b s

pub free_is : (runs : List ℕ) (m n : ℕ) → m ≤ 24 → 24 ≤ m → SumTo (λ k. one (free (run_places runs) k)) m n → n ≡ free_numbers (run_places runs)
unfolding free_numbers
free_is runs m n a b s = sum_done (λ k. one (free (run_places runs) k)) 24 m n a b s

pub unfilled_is : (hs shares : List ℕ) (c n : ℕ) → c ≤ 4 → 4 ≤ c → SumTo (λ k. unfilled_of hs shares k) c n → n ≡ unfilled hs shares
unfolding unfilled
unfilled_is hs shares c n a b s = sum_done (λ k. unfilled_of hs shares k) 4 c n a b s

-- the whole less one part is the others'
module _ (hs shares : List ℕ) (c u o h : ℕ) (l : c < 4) (a : u ≡ unfilled hs shares) (e : h ≡ held hs c) (b : o ≡ word shares c - h) where
  pub own_within : o ≤ u
  own_within = omega (arith, unfilled_split hs shares c l)

  pub others_are : u - o ≡ unfilled_others hs shares c
  others_are = omega (arith, unfilled_split hs shares c l)

-- a run's holder
pub holder_at : (runs hs : List ℕ) (m : ℕ) → m < 24 → holder_right (eqb (word runs (5 * m)) 0) (word hs m) ≡ holder_right (free (run_places runs) m) (word hs m)
holder_at runs hs m l = rw (free_at runs m l)
