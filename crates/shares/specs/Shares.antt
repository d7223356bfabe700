-- Shares of the run numbers among four contractors, and who holds which run. Rules 48 and 49.
use Rattle.std.specs.Prelude.{List, Bool, ◌&&◌, cond, ℕ, zero, suc, ◌+◌, ◌-◌, ltb, leb, eqb, length}
use Rattle.lists.specs.Lists.{all_below}
use Rattle.geometry.specs.Words.{Point, word}
use Rattle.book.specs.Book.{free}

-- f summed over the numbers below n
unfoldable pub sum_below : ℕ → (ℕ → ℕ) → ℕ
sum_below zero f = 0
sum_below (suc n) f = sum_below n f + f n

-- what a yes counts for
abbrev pub one : Bool → ℕ
one b = cond b 1 0

-- how many numbers below n meet p
abbrev pub count_below : ℕ → (ℕ → Bool) → ℕ
count_below n p = sum_below n (λ k. one (p k))

-- what each of the four contractors is promised, and how many runs it may hold at the most
pub record Terms : Type 0 where
  pub shares : List ℕ
  pub ceilings : List ℕ

abbrev pub terms : List ℕ → List ℕ → Terms
terms shares ceilings = record { shares = shares; ceilings = ceilings }

-- how many runs a contractor holds; entry m of the holders is run m's, 0 to 3, or 255 for an absent run
unfoldable pub held : List ℕ → ℕ → ℕ
held holders c = count_below 24 (λ m. eqb (word holders m) c)

-- how many run numbers are free, of a book's 24 places for runs
unfoldable pub free_numbers : List (List Point) → ℕ
free_numbers runs = count_below 24 (λ m. free runs m)

-- what is left of a contractor's share: 0 where it holds as many runs or more
abbrev pub unfilled_of : List ℕ → List ℕ → ℕ → ℕ
unfilled_of holders shares c = word shares c - held holders c

-- of all shares together
unfoldable pub unfilled : List ℕ → List ℕ → ℕ
unfilled holders shares = sum_below 4 (λ c. unfilled_of holders shares c)

-- and of all but one contractor's
unfoldable pub unfilled_others : List ℕ → List ℕ → ℕ → ℕ
unfilled_others holders shares c = sum_below 4 (λ d. cond (eqb d c) 0 (unfilled_of holders shares d))

-- 1 of the lists that are lent besides the yard's tables
unfoldable pub lists_right : Terms → List ℕ → Bool
lists_right t holders = eqb (length holders) 24 && eqb (length t.shares) 4 && eqb (length t.ceilings) 4

-- no share is above its ceiling, and all shares together are at most 24
unfoldable pub terms_right : Terms → Bool
terms_right t = all_below 4 (λ c. leb (word t.shares c) (word t.ceilings c)) && leb (sum_below 4 (λ c. word t.shares c)) 24

-- a run's holder is a contractor, an absent run's is 255
abbrev pub holder_right : Bool → ℕ → Bool
holder_right absent h = cond absent (eqb h 255) (ltb h 4)

-- so it is of all 24
unfoldable pub holders_right : List (List Point) → List ℕ → Bool
holders_right runs holders = all_below 24 (λ m. holder_right (free runs m) (word holders m))

-- no contractor holds more runs than its ceiling
unfoldable pub holdings_right : Terms → List ℕ → Bool
holdings_right t holders = all_below 4 (λ c. leb (held holders c) (word t.ceilings c))

-- 18: terms, holders and holdings are right, and the free numbers suffice for what is left of all shares
unfoldable pub shares_right : List (List Point) → Terms → List ℕ → Bool
shares_right runs t holders = terms_right t && holders_right runs holders && holdings_right t holders && leb (unfilled holders t.shares) (free_numbers runs)

-- 19: the contractor is below its ceiling
abbrev pub below_ceiling : Terms → List ℕ → ℕ → Bool
below_ceiling t holders c = ltb (held holders c) (word t.ceilings c)

-- 20: more numbers are free than are left of the others' shares, so that with one fewer there are still enough
abbrev pub spares_others : List (List Point) → Terms → List ℕ → ℕ → Bool
spares_others runs t holders c = ltb (unfilled_others holders t.shares c) (free_numbers runs)
