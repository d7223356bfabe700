use mathlib.Core.Path.{sym, ◌∙◌}
use Prim.Native.Nat.{◌+◌, ◌*◌}
use native.Mathlib.Omega.{arith}
use Rattle.settling.proofs.States.{ranked_parted, ranked_bends, answered}
use Rattle.settling.proofs.settle_end.Goals as goal

pub relax-requires : goal.relax-requires
relax-requires g c =
    let f = c.requires.fit.0 in
    let b = c.requires.fit.2 in
    record { places_len = (c.requires.fit.1.sized, omega arith, c.requires.told); first_bound = (omega arith, omega arith, λ e. omega (arith, e)); parted = (ranked_parted f b c.requires.ranked.0 c.requires.ranked.1 c.requires.ranked.2, ranked_bends f b c.requires.ranked.0) }

pub shape_of-key : goal.shape_of-key
shape_of-key g c = c.relax.ensures.parted.keyed ∙ sym c.requires.ranked.1.sized

pub returns : goal.returns
returns g c =
    answered c.requires.fit.1 c.requires.fit.2 (record { mark = 193 + 2 * c.args.m; place = c.listed_place.result; key = 0; left = c.args.n; figure = c.figure_of.result; goal = c.listed_place-2.result }) (omega arith) c.figure_of.ensures c.listed_place.ensures c.listed_place-2.ensures c.relax.ensures
