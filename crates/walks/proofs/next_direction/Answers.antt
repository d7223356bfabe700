use mathlib.Core.Path.{◌≡◌, refl}
use Prim.Native.Nat.{ℕ}
use native.Mathlib.Omega.{arith}
use Rattle.std.proofs.Common.{below_more}
use Rattle.crossings.proofs.Sizes.{net_sized}
use Rattle.walks.proofs.Ending.{inside, mapped}
use Rattle.walks.proofs.Nexts.{next_found, next_last, in_order, before_small}
use Rattle.walks.proofs.next_direction.Goals as goal

pub loop-d-preserved : goal.loop-d-preserved
loop-d-preserved c =
    let l = c.loop-d-test.true in let p : ◌≡◌ {A = ℕ} 0 0 = refl in let q : ◌≡◌ {A = ℕ} 1 1 = refl in let r : ◌≡◌ {A = ℕ} 2 2 = refl in
    below_more _ _ c.loop-d.invariant (rw in_order at (c.leads.ensures.no' c.if-leads.false))

pub returns-then-leads : goal.returns-then-leads
returns-then-leads c = let p = c.requires.place in let k = c.requires.key in
    let l = c.loop-d-test.true in let p₀ : ◌≡◌ {A = ℕ} 0 0 = refl in let q : ◌≡◌ {A = ℕ} 1 1 = refl in let r : ◌≡◌ {A = ℕ} 2 2 = refl in
    rw in_order
    (next_found (mapped _ _ _ _ _ c.requires.tables.0 c.requires.tables.1) (net_sized _ _ _ _ _ c.requires.tables.0) c.requires.keys (inside c.requires.tables.0 p.0) _ _ _ (record { east = p.1; north = p.2 }) p.3 (before_small c.args.before) k.0 k.1 _ (omega (arith, c.loop-d-test.true)) c.loop-d.invariant (rw in_order at (c.leads.ensures.yes' c.if-leads.true)))

pub returns : goal.returns
returns c = let p = c.requires.place in let k = c.requires.key in
    next_last (mapped _ _ _ _ _ c.requires.tables.0 c.requires.tables.1) (net_sized _ _ _ _ _ c.requires.tables.0) c.requires.keys (inside c.requires.tables.0 p.0) _ _ _ (record { east = p.1; north = p.2 }) p.3 (before_small c.args.before) k.0 k.1 3 (omega arith) (omega arith) (λ j h. c.loop-d.invariant j (omega (arith, c.loop-d-test.false)))
