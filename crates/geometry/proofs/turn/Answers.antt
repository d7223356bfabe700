-- `geometry::turn` meets its contract: the difference of two products of numbers below 2^16 fits.
use native.Mathlib.Omega.{arith}
use lib.Dec.{lit<, lit≤}
use Prim.Native.Nat.{ℕ, ◌≤◌}
use lib.IntN.{pos, ◌-ℤ◌, ◌*ℤ◌}
use mir.Syntax.{w64}
use mir.Val.{SFits}
use mir.ValLaws.{to_z-of_z}
use Rattle.geometry.proofs.Bound.{read, within_gap, within_mul, within_sub, within_fits}
use Rattle.geometry.proofs.Corners.{turn_one}
use Rattle.geometry.specs.inner.Sides.{Within}
use Rattle.geometry.proofs.turn.Goals as goal

flat : (a b c d : ℕ) → a ≤ 65535 → b ≤ 65535 → c ≤ 65535 → d ≤ 65535 → Within 4294836225 ((pos a -ℤ pos b) *ℤ (pos c -ℤ pos d))
flat a b c d h i j k = within_mul 4294836225 (within_gap 65535 a b h i) (within_gap 65535 c d j k) (lit≤ tt)

fits : (a b c d e f g h : ℕ) → a ≤ 65535 → b ≤ 65535 → c ≤ 65535 → d ≤ 65535 → e ≤ 65535 → f ≤ 65535 → g ≤ 65535 → h ≤ 65535
    → SFits w64 ((pos a -ℤ pos b) *ℤ (pos c -ℤ pos d) -ℤ (pos e -ℤ pos f) *ℤ (pos g -ℤ pos h))
fits a b c d e f g h i j k l m n o p = within_fits (within_sub 8589672450 (flat a b c d i j k l) (flat e f g h m n o p) (lit≤ tt)) (lit< tt)

pub overflow_sub-result : goal.overflow_sub-result
overflow_sub-result c =
    let a = c.args in
    rw (read c.area.type_inv c.area.ensures, read c.area-2.type_inv c.area-2.ensures)
    (fits a.q.east a.p.east a.x.north a.p.north a.q.north a.p.north a.x.east a.p.east (omega (arith, c)) (omega (arith, c)) (omega (arith, c)) (omega (arith, c)) (omega (arith, c)) (omega (arith, c)) (omega (arith, c)) (omega (arith, c)))

pub returns : goal.returns
returns c =
    let a = c.args in
    rw (turn_one _ _ _ _, read c.area.type_inv c.area.ensures, read c.area-2.type_inv c.area-2.ensures)
    (to_z-of_z w64 _ (fits a.q.east a.p.east a.x.north a.p.north a.q.north a.p.north a.x.east a.p.east (omega (arith, c)) (omega (arith, c)) (omega (arith, c)) (omega (arith, c)) (omega (arith, c)) (omega (arith, c)) (omega (arith, c)) (omega (arith, c))))
