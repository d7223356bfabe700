-- A polygon that is moved as a whole is convex where it was.
use mathlib.Core.Path.{◌≡◌, sym, ap, ◌∙◌}
use mathlib.Core.List.{List, map}
use Prim.Native.Nat.{ℕ, ◌+◌, ◌%◌, ◌<◌}
use native.Mathlib.Nat.{mod-lt}
use native.Mathlib.Omega.{arith}
use lib.IntN.{ℤ, pos, neg_ℤ, ◌+ℤ◌, ◌-ℤ◌, ◌*ℤ◌, neg_ℤ-+ℤ, +ℤ_comm, +ℤ_assoc, +ℤ-neg_ℤ_cancel}
use lib.ListN.{length, length-map}
use Rattle.lists.specs.Lists.{all_below}
use Rattle.lists.proofs.Below.{all_same}
use Rattle.geometry.specs.Words.{Point}
use Rattle.geometry.specs.Obstruction.{corner_at, turn, side_turn}
use Rattle.geometry.specs.Convexity.{side_test, convex}
use Rattle.geometry.proofs.Corners.{turn_one, corner_map}

-- q is p moved by (de, dn)
pub record Moved (de dn : ℤ) (p q : Point) : Type 0 where
  pub east : pos q.east ≡ pos p.east +ℤ de
  pub north : pos q.north ≡ pos p.north +ℤ dn

move_cancel : (a b d : ℤ) → (a +ℤ d) -ℤ (b +ℤ d) ≡ a -ℤ b
move_cancel a b d =
    ap (λ (x : ℤ). (a +ℤ d) +ℤ x) (neg_ℤ-+ℤ b d ∙ +ℤ_comm (neg_ℤ b) (neg_ℤ d))
    ∙ sym (+ℤ_assoc (a +ℤ d) (neg_ℤ d) (neg_ℤ b)) ∙ ap (λ (x : ℤ). x +ℤ neg_ℤ b) (+ℤ-neg_ℤ_cancel a d)

module _ (de dn : ℤ) where
  area_moved : (pe pn qe qn le ln : ℤ) → ((qe +ℤ de) -ℤ (pe +ℤ de)) *ℤ ((ln +ℤ dn) -ℤ (pn +ℤ dn)) -ℤ ((qn +ℤ dn) -ℤ (pn +ℤ dn)) *ℤ ((le +ℤ de) -ℤ (pe +ℤ de))
      ≡ (qe -ℤ pe) *ℤ (ln -ℤ pn) -ℤ (qn -ℤ pn) *ℤ (le -ℤ pe)
  area_moved pe pn qe qn le ln = rw (move_cancel qe pe de, move_cancel ln pn dn, move_cancel qn pn dn, move_cancel le pe de)

  turn_moved : (p q l p' q' l' : Point) → Moved de dn p p' → Moved de dn q q' → Moved de dn l l'
      → turn p' q' 1 (pos l'.east) (pos l'.north) ≡ turn p q 1 (pos l.east) (pos l.north)
  turn_moved p q l p' q' l' mp mq ml =
      turn_one p' q' (pos l'.east) (pos l'.north)
      ∙ (λ i. (mq.east i -ℤ mp.east i) *ℤ (ml.north i -ℤ mp.north i) -ℤ (mq.north i -ℤ mp.north i) *ℤ (ml.east i -ℤ mp.east i))
      ∙ area_moved (pos p.east) (pos p.north) (pos q.east) (pos q.north) (pos l.east) (pos l.north)
      ∙ sym (turn_one p q (pos l.east) (pos l.north))

  pub convex_moved : (f : Point → Point) (ps : List Point) → ((k : ℕ) → k < length ps → Moved de dn (corner_at ps k) (f (corner_at ps k)))
      → convex (map f ps) ≡ convex ps
  unfolding convex side_test side_turn
  convex_moved f ps at =
      ap (λ (c : ℕ). all_below c (λ k. all_below c (λ l. side_test (map f ps) k l))) (length-map ps f)
      ∙ (all_same (length ps) _ _ λ k hk. all_same (length ps) _ _ λ l hl. each k l hk hl)
    where
      each : (k l : ℕ) → k < length ps → l < length ps → side_test (map f ps) k l ≡ side_test ps k l
      each k l hk hl =
          let next : (k + 1) % length ps < length ps = mod-lt (k + 1) (omega arith) in
          rw (
            length-map ps f,
            corner_map f ps k hk,
            corner_map f ps l hl,
            corner_map f ps ((k + 1) % length ps) next,
            turn_moved (corner_at ps k) (corner_at ps ((k + 1) % length ps)) (corner_at ps l) _ _ _ (at k hk) (at ((k + 1) % length ps) next) (at l hl),
          )
