-- What the tests of the check mean, and start's answers.
use mathlib.Core.Path.{◌≡◌, refl, sym, ap, ◌∙◌}
use mathlib.Core.Bool.{Bool, true, false, not}
use mathlib.Core.Logic.{inl, inr}
use mathlib.Core.List.{List}
use Prim.Native.Nat.{ℕ}
use native.Mathlib.Omega.{arith}
use lib.ListN.{length, replicate}
use Rattle.std.specs.Prelude.{Result, IsErr, IsErrAnd}
use Rattle.refusals.specs.declared.Refusal.{Refusal}
use Rattle.refusals.specs.Numbers.{number_of, answer_of}
use Rattle.lists.specs.inner.Tells.{Tells}
use Rattle.lists.proofs.Telling.{told, denied}
use Rattle.tables.specs.Tables.{Tables, tables, stored, records}
use Rattle.tables.specs.inner.Fit.{Fit}
use Rattle.records.proofs.Fits.{records_fit}
use Rattle.visibility.specs.Visibility.{PairsRight}
use Rattle.routing.specs.Routes.{Routed}
use Rattle.totals.specs.Totals.{totals_of}
use Rattle.totals.specs.inner.Addable.{Addable}
use Rattle.totals.proofs.Summing.{routed_addable}
use Rattle.book.specs.Questions.{first_no, lengths_right}
use Rattle.book.specs.Edits.{fitness, started, Started, Checked}
use Rattle.book.proofs.Questions.{sized_of, fitting}
use Rattle.book.proofs.Rerouting.{route_right, route_bytes}
use Rattle.answers.proofs.Answers.{passed, some, yes_of, no_of}

-- ---- start
pub start_refused : (T : Tables) (t : Bool) → t ≡ lengths_right T → not t ≡ true → Started T 1 T
unfolding first_no
start_refused T t e n = record { answer = rw (no_of t _ e n); refused = λ z. refl; done = λ z. absurd (omega arith) }

pub start_done : (T : Tables) {b r p s w : List ℕ} (t : Bool) → t ≡ lengths_right T → not t ≡ false → b ≡ replicate (length T.blocks) 0 → r ≡ replicate (length T.runs) 0
    → p ≡ replicate (length T.pairs) 255 → s ≡ replicate (length T.routes) 0 → w ≡ replicate (length T.totals) 0 → Started T 0 (tables b r p s w)
unfolding first_no started
start_done T {b} {r} {p} {s} {w} t e y eb er ep es ew =
    let z = sized_of T (yes_of t _ e y) in
    let blocks : b ≡ replicate 408 0 = eb ∙ ap (λ (n : ℕ). replicate n 0) z.blocks in
    let runs : r ≡ replicate 121 0 = er ∙ ap (λ (n : ℕ). replicate n 0) z.runs in
    let pairs : p ≡ replicate 28680 255 = ep ∙ ap (λ (n : ℕ). replicate n 255) z.pairs in
    let routes : s ≡ replicate 4728 0 = es ∙ ap (λ (n : ℕ). replicate n 0) z.routes in
    let totals : w ≡ replicate 25 0 = ew ∙ ap (λ (n : ℕ). replicate n 0) z.totals in
    record {
      answer = rw (yes_of t _ e y);
      refused = λ n. absurd (n refl);
      done = λ n. λ i. tables (blocks i) (runs i) (pairs i) (routes i) (totals i);
    }

-- ---- the check: what its tests ask
module _ (b r p s t : List ℕ) (f : 0 ≡ fitness (tables b r p s t)) where
  pub check_fit : Fit (stored b r)
  check_fit = let g = fitting (tables b r p s t) (sym f) in records_fit (stored b r) g.sized.blocks g.sized.runs g.right

  pub check_pairs_size : length p ≡ 28680
  check_pairs_size = (fitting (tables b r p s t) (sym f)).sized.pairs

  pub check_routes_size : length s ≡ 4728
  check_routes_size = (fitting (tables b r p s t) (sym f)).sized.routes

  pub check_totals_size : length t ≡ 25
  check_totals_size = (fitting (tables b r p s t) (sym f)).sized.totals

  -- the sum of right routes does not wrap
  pub check_addable : (u : Bool) → Tells (Routed (stored b r) p s) u → not u ≡ false → Addable s
  check_addable u a y = routed_addable (stored b r) p s check_fit (told a y)

-- and what its answers mean
pub check_unfit : (T : Tables) {A : Type 0} (r : Result A Refusal) (x : Refusal) → IsErr r × IsErrAnd r (λ y. y ≡ x) → number_of x ≡ fitness T → Checked T (answer_of r)
check_unfit T r x h e = record { unfit = λ f. passed r x _ h e; fit = λ f. absurd (some x (e ∙ f)) }

module _ (T : Tables) (e : 0 ≡ fitness T) where
  pub check_pairs : (t : Bool) → Tells (PairsRight (records T) T.pairs) t → not t ≡ true → Checked T 11
  check_pairs t a n = record { unfit = λ f. absurd (f (sym e)); fit = λ f. inr (refl, λ r. denied a n r.pairs) }

  module _ (t : Bool) (a : Tells (PairsRight (records T) T.pairs) t) (y : not t ≡ false) (u : Bool) (b : Tells (Routed (records T) T.pairs T.routes) u) where
    pub check_routes : not u ≡ true → Checked T 11
    check_routes n =
        record {
          unfit = λ f. absurd (f (sym e));
          fit = λ f. inr (refl, λ r. denied b n (record { sized = (fitting T f).sized.routes; each = λ m l. route_bytes (records T) T.pairs r.pairs m _ l (r.routes m l) }));
        }

    module _ (k : not u ≡ false) (w : Bool) (o : Tells (T.totals ≡ totals_of T.pairs T.routes) w) where
      pub check_totals : not w ≡ true → Checked T 11
      check_totals n = record { unfit = λ f. absurd (f (sym e)); fit = λ f. inr (refl, λ r. denied o n r.totals) }

      pub check_done : not w ≡ false → Checked T 0
      check_done n =
          let p = told a y in
          record {
            unfit = λ f. absurd (f (sym e));
            fit = λ f. inl (refl, record { pairs = p; routes = λ m l. route_right (records T) T.pairs p m _ l ((told b k).each m l); totals = told o n });
          }
