-- The loop keeps: the marks near by the words before q are relaxed.
use mathlib.Core.Path.{sym, subst, ◌∙◌}
use Prim.Native.Nat.{ℕ}
use Rattle.search.specs.inner.Parts.{Marked}
use Rattle.search.proofs.Relaxing.{near_none, near_next, near_all, near_here}
use Rattle.search.proofs.relax.Goals as goal

pub loop-q-init : goal.loop-q-init
loop-q-init g c = near_none c.requires.parted.0

pub near-w-requires : goal.near-w-requires
near-w-requires g c = (c.requires.places_len.2, c.requires.first_bound.0, c.requires.first_bound.1, c.requires.first_bound.2, c.loop-q-test.true)

pub relax_word-low-requires : goal.relax_word-low-requires
relax_word-low-requires g c =
    let x = c.loop-q.invariant in
    record {
      places_len = (c.requires.places_len.0, c.requires.places_len.1);
      parted = (
        x.parted,
        λ v m.
            let n = c.near-w.ensures.only v (subst (λ (k : ℕ). Marked c.near-w.result k v) c.near_base-base.ensures m) in
            let h = near_here _ c.requires.parted.1 c.requires.first_bound.0 v n in
            (h.0, x.sorted.here v h.1),
      );
    }

pub loop-q-preserved : goal.loop-q-preserved
loop-q-preserved g c = near_next c.loop-q.invariant c.near_base-base.ensures c.near-w.ensures c.relax_word-low.ensures

pub shape_of-key : goal.shape_of-key
shape_of-key g c = c.loop-q.invariant.parted.keyed ∙ sym c.requires.parted.0.keyed

pub returns : goal.returns
returns g c = near_all c.loop-q.invariant c.loop-q-test.false c.requires.first_bound.2 c.requires.parted.1
