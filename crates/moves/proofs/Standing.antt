-- A standing block that is moved stands.
use mathlib.Core.Path.{◌≡◌, refl, sym, ◌∙◌}
use mathlib.Core.List.{List, [], ◌∷◌, map}
use mathlib.Core.Bool.{true}
use lib.IntN.{ℤ}
use lib.ListN.{length-map}
use borrow.Author.Tests.{le-leb}
use Rattle.lists.specs.Lists.{all}
use Rattle.lists.proofs.Every.{both, and_yes, every_at}
use Rattle.geometry.specs.Words.{Point, point}
use Rattle.geometry.proofs.Translations.{Moved, convex_moved}
use Rattle.records.specs.Questions.{place_right, shift_right, shifted}
use Rattle.records.proofs.Places.{StandingCorners, BlockPlace, vacant, standing}
use Rattle.moves.proofs.Shifting.{lands_natural, lands_small}

module _ (de dn : ℤ) where
  shift_moved : (p : Point) → shift_right de dn p ≡ true → Moved de dn p (shifted de dn p) × (place_right (shifted de dn p) ≡ true)
  unfolding shift_right
  shift_moved p h =
      let l = both _ _ h in (
        record { east = sym (lands_natural p.east de l.0); north = sym (lands_natural p.north dn l.1) },
        and_yes _ _ (le-leb _ 32767 (lands_small p.east de l.0)) (le-leb _ 32767 (lands_small p.north dn l.1)),
      )

  pub shifted_right : (ps : List Point) → all (shift_right de dn) ps ≡ true → all place_right (map (shifted de dn) ps) ≡ true
  unfolding all
  shifted_right [] h = refl
  shifted_right (p ∷ ps) h =
      let parts = both (shift_right de dn p) (all (shift_right de dn) ps) h in
      and_yes (place_right (shifted de dn p)) (all place_right (map (shifted de dn) ps)) (shift_moved p parts.0).1 (shifted_right ps parts.1)

  pub shifted_standing : (ps : List Point) → StandingCorners ps → all (shift_right de dn) ps ≡ true → StandingCorners (map (shifted de dn) ps)
  shifted_standing ps f h =
      record {
        low = rw (length-map ps (shifted de dn)) f.low;
        high = rw (length-map ps (shifted de dn)) f.high;
        right = shifted_right ps h;
        turns = convex_moved de dn (shifted de dn) ps (λ k l. (shift_moved _ (every_at (shift_right de dn) ps k (point 0 0) h l)).0) ∙ f.turns;
      }

  pub shifted_place : (ps : List Point) → BlockPlace ps → all (shift_right de dn) ps ≡ true → BlockPlace (map (shifted de dn) ps)
  shifted_place ps vacant h = vacant
  shifted_place ps (standing f) h = standing (shifted_standing ps f h)
