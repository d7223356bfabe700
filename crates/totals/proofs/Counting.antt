-- Bytes counted one by one.
use mathlib.Core.Path.{◌≡◌, refl, sym, ◌∙◌}
use mathlib.Core.Logic.{◌≢◌}
use mathlib.Core.List.{List, [], ◌∷◌, ◌++◌}
use mathlib.Core.Bool.{Bool, true, false, cond}
use Prim.Native.Nat.{ℕ, zero, suc, ◌+◌, ◌<◌, ◌≤◌}
use native.Mathlib.Omega.{arith}
use native.Mathlib.Decide.{ℕ_discrete}
use native.Mathlib.Numerals.{add-one}
use lib.Dec.{eqb}
use lib.ListN.{length, set, take, drop, replicate, length-set, length-take, length-drop, length-append, get_or-append}
use Rattle.std.proofs.lemmas.List.{get_or-take}
use lib.Seq.{get_or-set_same, get_or-set_other}
use borrow.Author.Tests.{eq-eqb, ne_eqb}
use mir.Syntax.{w32}
use mir.Val.{Fits}
use Rattle.lists.specs.inner.Filled.{filled}
use Rattle.geometry.specs.Words.{word}
use Rattle.tables.proofs.Splices.{word_zeros}
use Rattle.totals.specs.Totals.{count}
use Rattle.totals.specs.inner.Addable.{Tallied, CopiedTo}

one_or_none : (t : Bool) → cond t 1 0 ≤ 1
one_or_none true = omega arith
one_or_none false = omega arith

-- no more than there are
pub count_few : (n : ℕ) (bs : List ℕ) → count n bs ≤ length bs
unfolding count
count_few n [] = omega arith
count_few n (b ∷ bs) = omega (arith, one_or_none (eqb b n), count_few n bs)

-- none of another number
pub count_none : (n k b : ℕ) → b ≢ n → count n (replicate k b) ≡ 0
unfolding count
count_none n zero b d = refl
count_none n (suc k) b d = let none : eqb b n ≡ false = ne_eqb b n d in rw none (omega (arith, count_none n k b d))

-- a byte that is no block's number counts for no block: 253, of a straight in a seam, among them
pub passed_by : (n b : ℕ) (bs : List ℕ) → n < 24 → 24 ≤ b → count n (b ∷ bs) ≡ count n bs
unfolding count
passed_by n b bs l h = let none : eqb b n ≡ false = ne_eqb b n (λ q. omega arith) in rw none (omega arith)

-- one byte more
count_suc : (n i : ℕ) (bs : List ℕ) → i < length bs → count n (take (suc i) bs) ≡ count n (take i bs) + cond (eqb (word bs i) n) 1 0
unfolding count
count_suc n i [] l = absurd (omega arith)
count_suc n zero (b ∷ bs) l = omega arith
count_suc n (suc i) (b ∷ bs) l = omega (arith, count_suc n i bs (omega arith))

count_next : (n i : ℕ) (bs : List ℕ) → i < length bs → count n (take (i + 1) bs) ≡ count n (take i bs) + cond (eqb (word bs i) n) 1 0
count_next n i bs l = rw add-one (count_suc n i bs l)

-- ---- the tally of the first i bytes
pub tally_none : (bs cs : List ℕ) → cs ≡ filled 256 0 → Tallied (take 0 bs) cs
unfolding filled count
tally_none bs cs e = record { sized = rw e refl; each = λ b l. rw e (word_zeros 256 b) }

pub zeros : replicate {A = ℕ} 256 0 ≡ filled 256 0
unfolding filled
zeros = refl

-- a count is at most the number of bytes
pub tally_room : (bs cs : List ℕ) (i : ℕ) → length bs ≡ 28680 → i < length bs → word bs i < 256 → Tallied (take i bs) cs → Fits w32 (word cs (word bs i) + 1)
tally_room bs cs i e l s t = omega (arith, t.each (word bs i) s, count_few (word bs i) (take i bs), length-take i bs)

pub tally_next : (bs cs : List ℕ) (i : ℕ) → i < length bs → word bs i < 256 → Tallied (take i bs) cs
    → Tallied (take (i + 1) bs) (set cs (word bs i) (word cs (word bs i) + 1))
tally_next bs cs i l s t = record { sized = length-set cs _ _ ∙ t.sized; each = λ b h. go b h (ℕ_discrete b (word bs i)) }
  where
    go : (b : ℕ) → b < 256 → Dec (b ≡ word bs i) → word (set cs (word bs i) (word cs (word bs i) + 1)) b ≡ count b (take (i + 1) bs)
    go b h (yes e) =
        let one : eqb (word bs i) b ≡ true = eq-eqb _ _ (sym e) in
        rw (count_next b i bs l, one, ← (t.each b h), e) (get_or-set_same cs (word bs i) (word cs (word bs i) + 1) 0 (omega (arith, t.sized)))
    go b h (no e) =
        let none : eqb (word bs i) b ≡ false = ne_eqb _ _ (λ q. e (sym q)) in
        rw (count_next b i bs l, none) (get_or-set_other cs (word bs i) b (word cs (word bs i) + 1) 0 e ∙ t.each b h ∙ omega arith)

-- ---- the counts that are copied
pub copied : (cs t new : List ℕ) → length cs ≡ 256 → length t ≡ 25 → new ≡ take 24 cs → CopiedTo cs (new ++ drop 24 t) 24
copied cs t new a b e =
    let size : length (take 24 cs) ≡ 24 = omega (arith, length-take 24 cs) in
    rw e
    (record {
      sized = length-append (take 24 cs) (drop 24 t) ∙ omega (arith, size, length-drop 24 t);
      each = λ k h. get_or-append (take 24 cs) (drop 24 t) 0 k (omega (arith, size)) ∙ get_or-take 24 cs k 0 h;
    })
