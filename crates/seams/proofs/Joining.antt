-- The loops over blocks: what is kept of a segment meets a later block, and a block shares a point with a later one.
use mathlib.Core.Path.{◌≡◌, subst}
use mathlib.Core.Bool.{Bool, true, false}
use mathlib.Core.List.{List}
use Prim.Native.Nat.{ℕ, ◌+◌, ◌<◌, ◌≤◌}
use Rattle.std.specs.Prelude.{Option, Some, None, is_some}
use native.Mathlib.Decide.{dec_lt}
use native.Mathlib.Omega.{arith}
use lib.IntN.{ℤ, pos}
use Rattle.lists.specs.inner.Tells.{Tells}
use Rattle.lists.proofs.Telling.{tells_yes, tells_no, tells_as}
use Rattle.geometry.specs.Words.{Point, block_words}
use Rattle.geometry.specs.declared.Span.{Span}
use Rattle.seams.specs.Seam.{Shared}
use Rattle.seams.specs.inner.Near.{Alone}
use Rattle.seams.specs.inner.Reach.{Touched, Both, Common, Left, Reached, Meeting, Joined, SharedFrom, SharedBy}
use Rattle.seams.proofs.Rounds.{whole_both}
use Rattle.seams.proofs.Seams.{Sharing, shared_of, unshared, alone_unshared}

-- what the sides of a block leave tells whether it is met
pub reached_meets : {ws : List ℕ} {a b : Point} {s : Span} (o : Option Span) → Reached ws a b s o → Tells (Meeting ws a b s.l s.r s.p s.q) (is_some o)
unfolding Common
reached_meets (Some t) h =
    let c = h.some in
    let i = h.all c.0 c.1 c.2 c.3 in
    tells_yes (record { u = c.0; s = c.1; some = c.2; between = i.0; touched = i.1 })
reached_meets None h = tells_no (λ m. h m.u m.s m.some m.between m.touched)

module _ (blocks : List ℕ) (from : ℕ) (a b : Point) (l r p q : ℤ) where
  -- no block of the numbers from..n is met between the two kept sides
  pub record MissedTo (n : ℕ) : Type 0 where
    pub after : from ≤ n
    pub each : (k : ℕ) → from ≤ k → k < n → Meeting (block_words blocks k) a b l r p q → ⊥

module _ (blocks : List ℕ) (a b : Point) where
  -- what the sides of block n leave of the whole segment
  abbrev pub First : ℕ → ℤ → ℤ → ℤ → ℤ → Type 0
  First n l r p q = Left (block_words blocks n) a b (pos 1) (pos 1) (pos 1) (pos 1) l r p q

  -- or nothing
  abbrev pub Shut : ℕ → Type 0
  Shut n = (u s : ℕ) → 1 ≤ u + s → Both (pos 1) (pos 1) (pos 1) (pos 1) u s → Touched (block_words blocks n) a b u s → ⊥

  module _ {n : ℕ} {l r p q : ℤ} (h : First n l r p q) where
    -- a block that is met between the sides that it keeps shares a point with it
    pub by_meeting : {k : ℕ} → Meeting (block_words blocks k) a b l r p q → SharedBy blocks n k a b
    by_meeting m = record { u = m.u; s = m.s; some = m.some; here = (h.all m.u m.s m.some m.between).1; there = m.touched }

    pub meeting_by : {k : ℕ} → SharedBy blocks n k a b → Meeting (block_words blocks k) a b l r p q
    meeting_by f = record { u = f.u; s = f.s; some = f.some; between = h.only f.u f.s f.some (whole_both f.u f.s) f.here; touched = f.there }

    pub from_joined : {t : Bool} → Tells (Joined blocks (n + 1) a b l r p q) t → Tells (SharedFrom blocks n a b) t
    from_joined =
        tells_as
        (λ j. record { k = j.k; later = omega (arith, j.after); number = j.number; shared = by_meeting j.met })
        (λ f. record { k = f.k; after = omega (arith, f.later); number = f.number; met = meeting_by f.shared })

  pub by_shut : {n k : ℕ} → Shut n → SharedBy blocks n k a b → ⊥
  by_shut h f = h f.u f.s f.some (whole_both f.u f.s) f.here

  pub from_shut : {n : ℕ} → Shut n → Tells (SharedFrom blocks n a b) false
  from_shut h = tells_no (λ f. by_shut h f.shared)

  sharing : {n : ℕ} → n < 24 → (f : SharedFrom blocks n a b) → Sharing blocks a b n f.k f.shared.u f.shared.s
  sharing l f = let h = f.shared in record { some = h.some; first_number = l; second_number = f.number; first = h.here; second = h.there }

  -- no block below n shares a point with a later one
  pub record UnsharedTo (n : ℕ) : Type 0 where
    pub each : (k : ℕ) → k < n → SharedFrom blocks k a b → ⊥

  pub unshared_more : {n : ℕ} → UnsharedTo n → (SharedFrom blocks n a b → ⊥) → UnsharedTo (n + 1)
  unshared_more {n} f g = record { each = λ k l s. go k l s (dec_lt k n) }
    where
      go : (k : ℕ) → k < n + 1 → SharedFrom blocks k a b → Dec (k < n) → ⊥
      go k l s (yes z) = f.each k z s
      go k l s (no z) = let c : k ≡ n = omega arith in g (subst (λ (m : ℕ). SharedFrom blocks m a b) c s)

  pub unshared_alone : {n : ℕ} → UnsharedTo n → n < 24 → Alone blocks n → UnsharedTo (n + 1)
  unshared_alone f l o = unshared_more f (λ s. alone_unshared o s.later (sharing l s))

  pub shared_yes : {n : ℕ} → n < 24 → SharedFrom blocks n a b → Tells (Shared blocks a b) true
  shared_yes {n} l s =
      let d : (n ≡ s.k → ⊥) = (λ (e : n ≡ s.k). omega (arith, s.later)) in
      tells_yes (shared_of d (sharing l s))

  pub shared_no : {n : ℕ} → 24 ≤ n → UnsharedTo n → Tells (Shared blocks a b) false
  shared_no l f =
      tells_no (unshared (λ p q u s x h. f.each p (omega (arith, h.first_number)) (record { k = q; later = x; number = h.second_number; shared = record { u = u; s = s; some = h.some; here = h.first; there = h.second } })))
