use mathlib.Core.Path.{◌≡◌, refl, ap, ◌∙◌}
use Prim.Native.Nat.{◌+◌, ◌*◌, ◌-◌, ◌<◌, min}
use native.Mathlib.Omega.{arith}
use Rattle.geometry.specs.Words.{Point, word}
use Rattle.search.specs.inner.LowerBound.{at_least}
use Rattle.search.specs.inner.Parts.{way_by, via, ahead}
use Rattle.search.proofs.Parts.{sum_of, fresh_key, passed_settled, passed_kept, passed_reached, passed_fresh}
use Rattle.search.proofs.relax_mark.Goals as goal

pub returns-then-at-by : goal.returns-then-at-by
returns-then-at-by c = passed_settled _ c.requires.parted.0 c.requires.parted.1 c.if-at-by.true

pub returns-then-old-new : goal.returns-then-old-new
returns-then-old-new c = passed_kept _ c.requires.parted.0 c.requires.parted.1 (omega (arith, c.if-old-new.true, (let h : c.improved-new.result ≡ min (word c.args.key.now c.args.v) (via c.args.places.now c.args.by c.args.v) = c.improved-new.ensures ∙ ap (λ (p : Point). min (word c.args.key.now c.args.v) (way_by c.args.by p)) c.listed_place-here.ensures in h)))

pub overflow_sub-list-then-at-u : goal.overflow_sub-list-then-at-u
overflow_sub-list-then-at-u c = omega (arith, sum_of c.requires.parted.0 c.requires.parted.1 c.if-at-by.false c.if-at-u.true)

pub returns-then-at-u : goal.returns-then-at-u
returns-then-at-u c = passed_reached _ c.requires.parted.0 c.requires.parted.1 c.requires.places_len.2 ((let h : c.improved-new.result ≡ min (word c.args.key.now c.args.v) (via c.args.places.now c.args.by c.args.v) = c.improved-new.ensures ∙ ap (λ (p : Point). min (word c.args.key.now c.args.v) (way_by c.args.by p)) c.listed_place-here.ensures in h)) c.if-at-by.false c.if-at-u.true refl

pub swap-requires : goal.swap-requires
swap-requires c =
    let p = c.requires.parted.0 in
    let l = c.if-at-by.false in
    let b : c.args.u - 1 < c.args.by.left = omega (arith, p.low) in
    record { waiting_len = (omega (arith, p.few), omega (arith, p.few), p.marks _ l, p.marks _ b); i_value = (p.inverse _ l, p.inverse _ b) }

pub overflow_add-list : goal.overflow_add-list
overflow_add-list c =
    omega (arith, c.at_least.ensures.small, (let h : c.improved-new.result ≡ min (word c.args.key.now c.args.v) (via c.args.places.now c.args.by c.args.v) = c.improved-new.ensures ∙ ap (λ (p : Point). min (word c.args.key.now c.args.v) (way_by c.args.by p)) c.listed_place-here.ensures in h), fresh_key c.requires.parted.0 c.requires.parted.1 c.if-at-u.false)

pub returns : goal.returns
returns c =
    rw c.swap.ensures.sums
    (passed_fresh _ c.requires.parted.0 c.requires.parted.1 c.requires.places_len.2 ((let h : c.improved-new.result ≡ min (word c.args.key.now c.args.v) (via c.args.places.now c.args.by c.args.v) = c.improved-new.ensures ∙ ap (λ (p : Point). min (word c.args.key.now c.args.v) (way_by c.args.by p)) c.listed_place-here.ensures in h)) c.if-at-by.false c.if-at-u.false c.swap.ensures.list (ap (λ x. c.improved-new.result + x) ((let h : c.at_least.result ≡ 256 * ahead c.args.places.now c.args.by c.args.v = c.at_least.ensures.value ∙ ap (λ (p : Point). 256 * at_least (record { east = c.args.by.goal.east; north = c.args.by.goal.north }) p) c.listed_place-here.ensures in h))))
