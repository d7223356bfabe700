-- The contracts leave no choice: a piece has one answer, and a call that fills lists leaves one content.
use mathlib.Core.Path.{◌≡◌, refl, sym, ap, ◌∙◌}
use mathlib.Core.Bool.{Bool}
use mathlib.Core.Logic.{◌⊎◌, inl, inr}
use mathlib.Core.List.{List}
use Prim.Native.Nat.{ℕ, ◌+◌, ◌*◌, ◌/◌, ◌%◌, ◌<◌}
use native.Mathlib.Decide.{ℕ_discrete}
use native.Mathlib.Omega.{arith}
use lib.Ieee.{Float, nan}
use lib.ListN.{get_or}
use lib.Seq.{ext_get_or}
use Rattle.geometry.specs.Words.{Point}
use Rattle.tables.specs.Tables.{Tables}
use Rattle.curves.specs.declared.Spot.{Spot}
use Rattle.pieces.specs.Pieces.{Shape}
use Rattle.pieces.specs.Showing.{Shows, shows_nothing, shows_straight, shows_bend, spot_in, Row}
use Rattle.drawn_routes.specs.Calls.{early, Asked, Pieced, Curved}
use Rattle.std.specs.Prelude.{Option, Some, Result, Ok, Err}
use Rattle.refusals.specs.declared.Refusal.{Refusal}
use Rattle.refusals.specs.Numbers.{answer_of}
use Rattle.refusals.proofs.Numbers.{number_of_some, number_of_one}
use Rattle.drawn_routes.specs.Lists.{Filled}
use Rattle.book.specs.Drawing.{Right}
use Rattle.curves.proofs.Unique.{at_unique}
use Rattle.pieces.specs.declared.DrawnPiece.{DrawnPiece}
use Rattle.pieces.specs.declared.DrawnPiece.TheVariants.{Straight, Bend}

drawn_unique : {p : Shape} (r r' : Option DrawnPiece) → Shows p r → Shows p r' → r ≡ r'
drawn_unique r r' shows_nothing shows_nothing = refl
drawn_unique r r' (shows_straight x y) (shows_straight x' y') = λ i. Some (Straight (at_unique _ _ _ x x' i) (at_unique _ _ _ y y' i))
drawn_unique r r' (shows_bend x y z) (shows_bend x' y' z') = λ i. Some (Bend (at_unique _ _ _ x x' i) (at_unique _ _ _ y y' i) (at_unique _ _ _ z z' i))

pub asked_unique : (own : Bool) (T : Tables) (m v v' : ℕ) → Asked own T m v → Asked own T m v' → v ≡ v'
asked_unique own T m v v' a b = go (ℕ_discrete (early own T m) 0)
  where
    pick : ((v ≡ 0) × Right T) ⊎ ((v ≡ 11) × (Right T → ⊥)) → ((v' ≡ 0) × Right T) ⊎ ((v' ≡ 11) × (Right T → ⊥)) → v ≡ v'
    pick (inl x) (inl y) = x.0 ∙ sym y.0
    pick (inl x) (inr y) = absurd (y.1 x.1)
    pick (inr x) (inl y) = absurd (x.1 y.1)
    pick (inr x) (inr y) = x.0 ∙ sym y.0

    go : Dec (early own T m ≡ 0) → v ≡ v'
    go (yes z) = pick (a.right z) (b.right z)
    go (no z) = a.refused z ∙ sym (b.refused z)

-- results of one number are both refused, by the same refusal, or both not
module _ {A : Type 0} where
  pub ok_of : (r : Result A Refusal) → answer_of r ≡ 0 → (x : A) × (r ≡ Ok x)
  ok_of (Ok x) z = (x, refl)
  ok_of (Err e) z = absurd (omega (arith, number_of_some e))

  pub same_refusal : (r r' : Result A Refusal) → answer_of r ≡ answer_of r' → (answer_of r ≡ 0 → ⊥) → r ≡ r'
  same_refusal (Ok x) r' q n = absurd (n refl)
  same_refusal (Err e) (Ok y) q n = absurd (n q)
  same_refusal (Err e) (Err f) q n = ap Err (number_of_one e f q)

pub pieced_unique : (T : Tables) (m k : ℕ) (r r' : Result (Option DrawnPiece) Refusal) → Pieced T m k r → Pieced T m k r' → r ≡ r'
pieced_unique T m k r r' a b = go (ℕ_discrete (answer_of r) 0)
  where
    same : answer_of r ≡ answer_of r'
    same = asked_unique _ T m _ _ a.asked b.asked

    shown : (x : Option DrawnPiece) × (r ≡ Ok x) → (y : Option DrawnPiece) × (r' ≡ Ok y) → r ≡ r'
    shown x y = x.1 ∙ ap Ok (drawn_unique x.0 y.0 (rw x.1 at a).drawn (rw y.1 at b).drawn) ∙ sym y.1

    go : Dec (answer_of r ≡ 0) → r ≡ r'
    go (yes z) = shown (ok_of r z) (ok_of r' (sym same ∙ z))
    go (no z) = same_refusal r r' same z

row_unique : (f : ℕ → Point) (n : ℕ) (xs ys : List Float) → Row f n xs → Row f n ys → xs ≡ ys
row_unique f n xs ys a b = ext_get_or nan xs ys (a.sized ∙ sym b.sized) (λ i h. each i (omega (arith, a.sized)) (ℕ_discrete (i % 2) 0))
  where
    spots : (j : ℕ) → j < n → spot_in xs j ≡ spot_in ys j
    spots j h = at_unique (f j) _ _ (a.each j h) (b.each j h)

    each : (i : ℕ) → i < 2 * n → Dec (i % 2 ≡ 0) → get_or xs i nan ≡ get_or ys i nan
    each i h (yes z) = let e : i ≡ 2 * (i / 2) = omega arith in rw e (ap (λ (s : Spot). s.east) (spots (i / 2) (omega arith)))
    each i h (no z) = let e : i ≡ 2 * (i / 2) + 1 = omega arith in rw e (ap (λ (s : Spot). s.north) (spots (i / 2) (omega arith)))

pub curved_unique : (T : Tables) (m k : ℕ) (xs ys zs : List Float) (r r' : Result Bool Refusal) → Curved T m k xs r ys → Curved T m k xs r' zs → (r ≡ r') × (ys ≡ zs)
curved_unique T m k xs ys zs r r' a b = go (ℕ_discrete (answer_of r) 0)
  where
    same : answer_of r ≡ answer_of r'
    same = asked_unique _ T m _ _ a.asked b.asked

    shown : (x : Bool) × (r ≡ Ok x) → (y : Bool) × (r' ≡ Ok y) → (r ≡ r') × (ys ≡ zs)
    shown x y =
        let c = (rw x.1 at a).done in
        let d = (rw y.1 at b).done in
        (x.1 ∙ ap Ok (c.answer ∙ sym d.answer) ∙ sym y.1, row_unique _ 9 ys zs c.row d.row)

    go : Dec (answer_of r ≡ 0) → (r ≡ r') × (ys ≡ zs)
    go (yes z) = shown (ok_of r z) (ok_of r' (sym same ∙ z))
    go (no z) = (same_refusal r r' same z, a.refused z ∙ sym (b.refused (λ e. z (same ∙ e))))

pub filled_unique : (n : ℕ) (kind : Shape → ℕ) (row : Shape → ℕ → Point) (T : Tables) (m k : ℕ) (w w₁ w₂ : List ℕ) (xs xs₁ xs₂ : List Float) (r r' : ℕ)
    → Filled n kind row T m k w xs r w₁ xs₁ → Filled n kind row T m k w xs r' w₂ xs₂ → (r ≡ r') × (w₁ ≡ w₂) × (xs₁ ≡ xs₂)
filled_unique n kind row T m k w w₁ w₂ xs xs₁ xs₂ r r' a b = go (ℕ_discrete r 0)
  where
    same : r ≡ r'
    same = asked_unique _ T m _ _ a.asked b.asked

    go : Dec (r ≡ 0) → (r ≡ r') × (w₁ ≡ w₂) × (xs₁ ≡ xs₂)
    go (yes z) =
        let c = a.done z in
        let d = b.done (sym same ∙ z) in
        (same, c.0 ∙ sym d.0, row_unique _ n xs₁ xs₂ c.1 d.1)
    go (no z) =
        let c = a.refused z in
        let d = b.refused (λ e. z (same ∙ e)) in
        (same, c.0 ∙ sym d.0, c.1 ∙ sym d.1)
