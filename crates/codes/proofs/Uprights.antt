-- A right record written over another: the records stay upright.
use mathlib.Core.Path.{◌≡◌, sym, subst}
use mathlib.Core.List.{List}
use Prim.Native.Nat.{ℕ, ◌+◌, ◌*◌, ◌<◌, ◌≤◌}
use native.Mathlib.Decide.{ℕ_discrete}
use native.Mathlib.Omega.{arith}
use lib.ListN.{length}
use Rattle.lists.specs.Lists.{splice}
use Rattle.geometry.specs.Words.{block_words}
use Rattle.tables.specs.Tables.{stored}
use Rattle.tables.specs.inner.Fit.{Fit}
use Rattle.tables.proofs.Kept.{splice_off}
use Rattle.tables.proofs.Replacing.{block_fit}
use Rattle.tables.proofs.Splices.{splice_length, splice_here, part_ext}
use Rattle.codes.specs.inner.Codes.{RightRecord, Upright}

pub upright_replaced : (b r : List ℕ) (n : ℕ) (ws : List ℕ) {b' : List ℕ} → Upright (stored b r) → RightRecord ws → n < 24 → b' ≡ splice b (17 * n) ws → Upright (stored b' r)
upright_replaced b r n ws {b'} u w h e =
    record { fit = block_fit b r n ws u.fit w.bounded h e; each = λ k l. subst (λ (t : List ℕ). RightRecord (block_words t k)) (sym e) (at k l (ℕ_discrete k n)) }
  where
    fits : 17 * n + length ws ≤ length b
    fits = omega (arith, u.fit.blocks.sized, w.bounded.sized)

    here : block_words (splice b (17 * n) ws) n ≡ ws
    here = rw w.bounded.sized at (splice_here b (17 * n) ws fits)

    at : (k : ℕ) → k < 24 → Dec (k ≡ n) → RightRecord (block_words (splice b (17 * n) ws) k)
    at k l (yes q) = rw (q, here) w
    at k l (no q) =
        rw (part_ext (splice b (17 * n) ws) b (17 * k) 17 (splice_length b (17 * n) ws fits)
        (λ i (lo : 17 * k ≤ i) (hi : i < 17 * k + 17). splice_off b (17 * n) ws fits i (λ (f : 17 * n ≤ i). omega (arith, w.bounded.sized))))
        (u.each k l)

pub fit_replaced : (b r : List ℕ) (n : ℕ) (ws : List ℕ) {b' : List ℕ} → Upright (stored b r) → RightRecord ws → n < 24 → b' ≡ splice b (17 * n) ws → Fit (stored b' r)
fit_replaced b r n ws u w h e = block_fit b r n ws u.fit w.bounded h e
