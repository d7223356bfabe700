-- The calls that take their arguments out of a file.
use mathlib.Core.Path.{◌≡◌}
use mathlib.Core.List.{List}
use Prim.Native.Nat.{ℕ, ◌*◌, ◌^◌, ◌<◌}
use lib.ListN.{take}
use lib.IntN.{ℤ}
use lib.Signed.{mag}
use mir.Syntax.{w16}
use mir.Val.{to_z, of_z}
use mir.ValLaws.{to_z-of_z}
use Rattle.geometry.specs.Words.{Point}
use Rattle.tables.specs.Tables.{Tables}
use Rattle.book.specs.Book.{add_block, move_block, add_run, move_run, set_charge}
use Rattle.book.specs.Edits.{Called}
use Rattle.file_words.specs.Words.{byte, corner_words}

pub charge_called : (T T' : Tables) (r g g' : ℕ) → g ≡ g' → Called (set_charge g) T r T' → Called (set_charge g') T r T'
charge_called T T' r g g' e c = rw e at c

module _ (n : ℕ) (T T' : Tables) (r : ℕ) where
  pub block_called : (ws vs : List ℕ) → vs ≡ ws → Called (add_block n vs) T r T' → Called (add_block n ws) T r T'
  block_called ws vs w c = rw w at c

  pub run_called : (p q p' q' : Point) → p ≡ p' → q ≡ q' → Called (add_run n p q) T r T' → Called (add_run n p' q') T r T'
  run_called p q p' q' e f c = rw (e, f) at c

  pub moved_called : (p q p' q' : Point) → p ≡ p' → q ≡ q' → Called (move_run n p q) T r T' → Called (move_run n p' q') T r T'
  moved_called p q p' q' e f c = rw (e, f) at c

  -- a displacement goes through its bits to the call
  pub shift_called : (a b a' b' : ℤ) → mag a < 2 ^ 15 → mag b < 2 ^ 15 → a ≡ a' → b ≡ b'
      → Called (move_block n (to_z w16 (of_z w16 a)) (to_z w16 (of_z w16 b))) T r T' → Called (move_block n a' b') T r T'
  shift_called a b a' b' fa fb e f c =
      rw (e, f) at (rw (to_z-of_z w16 a (record { sfits = fa }), to_z-of_z w16 b (record { sfits = fb })) at c)
