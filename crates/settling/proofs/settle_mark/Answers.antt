use Prim.Native.Nat.{◌-◌, ◌<◌}
use native.Mathlib.Omega.{arith}
use Rattle.geometry.specs.Words.{word}
use Rattle.search.specs.declared.Settled.{Settled}
use Rattle.settling.proofs.States.{settled_parted, settled_bends, turned, asked, answered}
use Rattle.settling.proofs.settle_mark.Goals as goal

pub swap-requires : goal.swap-requires
swap-requires g c =
    let p = c.requires.parted.0 in
    let l = c.requires.parted.2.before in
    let b : c.args.n - 1 < c.args.n = omega arith in
    record { waiting_len = (omega (arith, p.few), omega (arith, p.few), p.marks _ l, p.marks _ b); i_value = (p.inverse _ l, p.inverse _ b) }

pub relax-requires : goal.relax-requires
relax-requires g c =
    let p = c.requires.parted.0 in
    let d = c.requires.parted.1 in
    let a = c.requires.parted.2 in
    let by : Settled = record { mark = word c.args.list.now.order c.args.at; place = c.listed_place.result; key = word c.args.key.now (word c.args.list.now.order c.args.at); left = c.args.n - 1; figure = c.figure_of.result; goal = c.listed_place-2.result } in
    let q = asked c.requires.fit.1 c.requires.fit.2 by (omega (arith, a.corner)) c.figure_of.ensures c.listed_place.ensures c.listed_place-2.ensures (settled_parted p d a c.swap.ensures.list) in
    record { places_len = (c.requires.fit.1.sized, a.small, c.requires.told _ a.corner); first_bound = (omega (arith, c.requires.fit.2), omega (arith, a.corner), λ e. omega (arith, e, a.corner)); parted = (rw c.swap.ensures.sums q, settled_bends p d a c.swap.ensures.list) }

pub returns : goal.returns
returns g c =
    let a = c.requires.parted.2 in
    let by : Settled = record { mark = word c.args.list.now.order c.args.at; place = c.listed_place.result; key = word c.args.key.now (word c.args.list.now.order c.args.at); left = c.args.n - 1; figure = c.figure_of.result; goal = c.listed_place-2.result } in
    turned c.requires.parted.0 c.requires.parted.1 a c.swap.ensures.list
    (answered c.requires.fit.1 c.requires.fit.2 by (omega (arith, a.corner)) c.figure_of.ensures c.listed_place.ensures c.listed_place-2.ensures c.relax.ensures)
