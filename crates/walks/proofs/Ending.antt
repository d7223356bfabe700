-- The net of the lines: its table of steps, the keys before the search, and what the search for a path answers.
use mathlib.Core.Path.{◌≡◌, sym, ap, ◌∙◌}
use mathlib.Core.Bool.{Bool, true, false, not}
use mathlib.Core.List.{List, [], ◌∷◌}
use Prim.Native.Nat.{ℕ, ◌+◌, ◌*◌, ◌/◌, ◌≤◌, ◌<◌}
use native.Mathlib.Omega.{arith}
use native.Mathlib.Decide.{ℕ_discrete}
use lib.ListN.{length, length-set, length-replicate, get_or-replicate}
use lib.Seq.{get_or-set_same, get_or-set_other}
use Rattle.geometry.specs.Words.{Point, word}
use Rattle.lists.specs.inner.Filled.{filled}
use Rattle.lists.specs.inner.Tells.{Tells}
use Rattle.lists.proofs.Telling.{told, denied}
use Rattle.visibility.specs.Visibility.{Clear}
use Rattle.nets.specs.Net.{Net, Path, arrive, onward}
use Rattle.nets.specs.inner.Keys.{weight, key_from, Attained}
use Rattle.nets.proofs.Sums.{turn_small, key_more}
use Rattle.nets.proofs.Labels.{least, within}
use Rattle.crossings.specs.Grid.{Grid, Crossing, Stepping, net}
use Rattle.crossings.specs.inner.Charts.{ruled, Ruled, spot, Charted}
use Rattle.crossings.proofs.Charts.{crossing_east, crossing_north, in_grid, place_of_crossing}
use Rattle.crossings.proofs.Sizes.{reach_most, net_sized}
use Rattle.crossings.proofs.Directions.{step_only, step_opposite}
use Rattle.sweeps.specs.inner.Keys.{key_at, unreached, lanes, Fair, Searched, Opened}
use Rattle.sweeps.proofs.Mapping.{leads_of}
use Rattle.std.specs.Prelude.{None, Some}
use Rattle.walks.specs.inner.Paths.{Outcoming}
use Rattle.walks.specs.inner.Labels.{label_at, Trailed}
use Rattle.walks.proofs.Labelling.{Inside, Mapped}
use Rattle.walks.proofs.Nexts.{relaxed_here}
use Rattle.walks.proofs.Trails.{path_stop}

filled_size : (n x : ℕ) → length (filled n x) ≡ n
unfolding filled
filled_size n x = length-replicate n x

filled_word : (n x i : ℕ) → i < n → word (filled n x) i ≡ x
unfolding filled
filled_word n x i h = get_or-replicate n i x 0 h

-- the keys before the search
module _ {end : ℕ} {top low : List ℕ} (o : Opened end top low) (l : end < 4356) where
  low_none : (i : ℕ) → i < 8712 → word low i ≡ 0
  low_none i h = rw o.low_is (filled_word 8712 0 i h)

  key_end : key_at top low end ≡ 0
  unfolding key_at
  key_end =
      let t : word top end ≡ 0 = rw o.top_is (get_or-set_same (filled {A = ℕ} 4356 65535) end 0 0 (omega (arith, filled_size 4356 65535))) in
      omega (arith, t, low_none (2 * end) (omega arith), low_none (2 * end + 1) (omega arith))

  key_far : (v : ℕ) → v < 4356 → (v ≡ end → ⊥) → key_at top low v ≡ unreached
  unfolding key_at
  key_far v h n =
      let t : word top v ≡ 65535 = rw o.top_is (get_or-set_other (filled {A = ℕ} 4356 65535) end v 0 0 n ∙ filled_word 4356 65535 v h) in
      omega (arith, t, low_none (2 * v) (omega arith), low_none (2 * v + 1) (omega arith))

  pub fair_start : {G : Net} → G.Stop end → Fair G end top low
  unfolding key_from
  fair_start {G} stop =
      record {
        top_sized = ap length o.top_is ∙ length-set (filled {A = ℕ} 4356 65535) end 0 ∙ filled_size 4356 65535;
        low_sized = ap length o.low_is ∙ filled_size 8712 0;
        capped = λ v h. cap v h (ℕ_discrete v end);
        at_end = key_end;
        attained = λ v vl h. got v vl h (ℕ_discrete v end);
      }
    where
      cap : (v : ℕ) → v < 4356 → Dec (v ≡ end) → key_at top low v ≤ unreached
      cap v h (yes e) = omega (arith, ap (key_at top low) e, key_end)
      cap v h (no n) = omega (arith, key_far v h n)

      got : (v : ℕ) → v < 4356 → key_at top low v < unreached → Dec (v ≡ end) → Attained G end 0 v (key_at top low v)
      got v vl h (yes e) = rw e (record { by = end ∷ []; path = arrive stop; within = omega arith })
      got v vl h (no n) = absurd (omega (arith, key_far v vl n))

pub inside : {xs : List ℕ} {nx : ℕ} {ys : List ℕ} {ny v : ℕ} → Ruled xs nx ys ny → Crossing (ruled xs nx ys ny) v → Inside nx ny v
inside {xs} {nx} {ys} {ny} {v} r c = record { east = crossing_east xs nx ys ny r v c; north = crossing_north xs nx ys ny r v c }

module _ (blocks xs : List ℕ) (nx : ℕ) (ys : List ℕ) (ny : ℕ) (rule : Ruled xs nx ys ny) where
  abbrev g : Grid
  g = ruled xs nx ys ny

  abbrev G : Net
  G = net blocks g

  pub mapped : {steps : List ℕ} {end : ℕ} → Charted blocks g steps 4356 → Mapped G (lanes xs ys steps end) nx ny
  unfolding net
  mapped {steps} ch =
      record {
        leads = leads_of rule ch;
        from = λ s. inside rule s.from;
        to = λ s. inside rule s.to;
        only = λ {v} {u} s. let h = step_only blocks xs nx ys ny rule steps ch v u s in (h.direction, h.small, h.leads);
        back = λ d v u dl vl ul e. step_opposite blocks xs nx ys ny rule steps ch d v u dl vl e ul;
        east_few = rule.xs_few;
        north_few = rule.ys_few;
      }

  module _ {end : ℕ} (ec : Crossing g end) where
    pub end_stop : {p : Point} {t : Bool} → p ≡ spot xs ys end → Tells (Clear blocks p p) t → not t ≡ false → G.Stop end
    unfolding net
    end_stop e k h = rw (place_of_crossing xs nx ys ny rule end ec ∙ sym e) (told k h)

    pub not_clear : {start : ℕ} {p : Point} {t : Bool} {trail : List ℕ} {size : ℕ} → p ≡ spot xs ys end → Tells (Clear blocks p p) t → not t ≡ true → size ≡ 8712 → length trail ≡ 4356
        → Outcoming G start end trail size None
    unfolding net
    not_clear e k h s u =
        record {
          list_size = s;
          trail_size = u;
          outcome = λ vs path. denied k h (rw (place_of_crossing xs nx ys ny rule end ec ∙ sym e) at (path_stop path));
        }

    weight_most : (a v u : ℕ) → Stepping blocks g v u → weight G a v u ≤ 2149056513
    unfolding weight net
    weight_most a v u s = omega (arith, reach_most blocks xs nx ys ny rule v u s, turn_small a (G.axis v u))

    key_most : (a : ℕ) {v : ℕ} {us : List ℕ} → Path G end v us → key_from G a us ≤ 2149056513 * length us
    unfolding net key_from
    key_most a (arrive s) = omega arith
    key_most a (onward {v} {u} s p) = omega (arith, key_more G end a v p, weight_most a v u s, key_most (G.axis v u) p)

    module _ {steps : List ℕ} (ch : Charted blocks g steps 4356) {top low : List ℕ} (se : Searched G (lanes xs ys steps end) nx ny top low) (start : ℕ) {key : ℕ}
        (ke : key ≡ label_at (lanes xs ys steps end) nx (key_at top low) 2 start) where
      abbrev L : ℕ → ℕ → ℕ
      L = label_at (lanes xs ys steps end) nx (key_at top low)

      pub not_reached : {trail : List ℕ} {size : ℕ} → unreached ≤ key → size ≡ 8712 → length trail ≡ 4356 → Outcoming G start end trail size None
      not_reached h s u = record { list_size = s; trail_size = u; outcome = λ vs path. none vs path }
        where
          none : (vs : List ℕ) → Path G end start vs → ⊥
          none vs path =
              let r = relaxed_here (mapped ch) (net_sized blocks xs nx ys ny rule) se (inside rule ec) in
              let z = net_sized blocks xs nx ys ny rule in
              let w = within G end 4356 z L r (in_grid xs nx ys ny rule end ec) path in
              let k = least G end 4356 z L r 2 (omega arith) w.1 in
              let m = key_most 2 w.1 in
              omega (arith, w.2)

      pub outcome : {n : ℕ} {trail : List ℕ} {size : ℕ} → Trailed G start end (L 2 start) trail n → size ≡ 8712 → Outcoming G start end trail size (Some (record { count = n; cost = key / 65536 }))
      outcome t s =
          record {
            list_size = s;
            trail_size = t.sized;
            outcome = record { some = t.some; fits = t.fits; best = t.best; price_is = t.price ∙ ap (λ (k : ℕ). k / 65536) (sym ke); within = t.within };
          }
