-- The words of a quote.
use mathlib.Core.Path.{◌≡◌, refl, sym, ap, ◌∙◌}
use mathlib.Core.List.{List, [], ◌∷◌, ◌++◌}
use Prim.Native.Nat.{ℕ, ◌*◌, ◌-◌, ◌/◌, ◌%◌, ◌≤◌}
use native.Mathlib.Omega.{arith}
use lib.ListN.{length, take}
use Rattle.lists.specs.inner.Filled.{filled}
use Rattle.geometry.specs.Words.{Point, word}
use Rattle.nets.specs.Net.{Net, Path, arrive, onward}
use Rattle.crossings.specs.Grid.{Grid, Crossing, place, net}
use Rattle.crossings.specs.inner.Charts.{ruled, Ruled, spot}
use Rattle.crossings.proofs.Charts.{place_of_crossing}
use Rattle.std.specs.Prelude.{None, Some}
use Rattle.walks.specs.declared.Found.{Found}
use Rattle.walks.specs.inner.Paths.{visits, Outcoming}
use Rattle.ducts.specs.Quote.{crossing_words, QuoteIs, found, no_way}
use Rattle.ducts.specs.inner.Written.{spot_words}
use Rattle.ducts.proofs.Visits.{path_length}

pub cleared : (size : ℕ) (list : List ℕ) → size ≡ 8712 → list ≡ filled size 0 → list ≡ filled 8712 0
cleared size list s e = e ∙ ap (λ (k : ℕ). filled k 0) s

module _ (blocks xs : List ℕ) (nx : ℕ) (ys : List ℕ) (ny : ℕ) (rule : Ruled xs nx ys ny) (start end : ℕ) (ec : Crossing (ruled xs nx ys ny) end) where
  abbrev g : Grid
  g = ruled xs nx ys ny

  abbrev G : Net
  G = net blocks g

  -- the words of a path by the lists are those of its crossings
  spot_is : (v : ℕ) (us ws : List ℕ) → Crossing g v → us ≡ ws → word xs (v / 66) ∷ word ys (v % 66) ∷ us ≡ (place g v).east ∷ (place g v).north ∷ ws
  unfolding spot
  spot_is v us ws c e =
      let q = place_of_crossing xs nx ys ny rule v c in
      ap (λ (l : List ℕ). word xs (v / 66) ∷ word ys (v % 66) ∷ l) e ∙ ap (λ (p : Point). p.east ∷ p.north ∷ ws) (sym q)

  spots_are : {v : ℕ} {us : List ℕ} → Path G end v us → spot_words xs ys us ≡ crossing_words g us
  unfolding spot_words crossing_words net
  spots_are (arrive s) = spot_is end [] [] ec refl
  spots_are (onward {v} {u} {us} s p) = spot_is v (spot_words xs ys us) (crossing_words g us) s.from (spots_are p)

  pub quote_none : (trail : List ℕ) (size : ℕ) (quote list : List ℕ) → Outcoming G start end trail size None → quote ≡ 2 ∷ 0 ∷ 0 ∷ [] → list ≡ filled size 0 → QuoteIs blocks g start end quote list
  unfolding filled
  quote_none trail size quote list o a b = rw (a, cleared size list o.list_size b) (no_way o.outcome)

  pub quote_found : (trail : List ℕ) (size : ℕ) (f : Found) (quote list : List ℕ) → Outcoming G start end trail size (Some f) → quote ≡ 1 ∷ f.cost ∷ f.count ∷ []
      → list ≡ spot_words xs ys (visits start (take (f.count - 1) trail)) ++ filled (8712 - 2 * f.count) 0 → QuoteIs blocks g start end quote list
  unfolding filled
  quote_found trail size f quote list o a b =
      let w = o.outcome in
      let us = visits start (take (f.count - 1) trail) in
      let c : length us ≡ f.count = path_length trail f.count start o.trail_size w.some w.fits in
      rw (a, b) (rw (w.price_is, c, sym (spots_are w.best.path)) at (found us w.best))
