-- Demand 3 with the edits in a contractor's name in the list, proved: by induction over the calls, the tables stay the drawing of the book.
use mathlib.Core.Path.{◌≡◌, refl, sym, ap, ◌∙◌, subst}
use mathlib.Core.List.{List}
use Prim.Native.Nat.{ℕ, zero, suc}
use native.Mathlib.Decide.{ℕ_discrete}
use Rattle.geometry.specs.Words.{word}
use Rattle.tables.specs.Tables.{Tables, pair_index}
use Rattle.book.specs.Book.{Book, target, empty_book, step}
use Rattle.book.specs.Drawing.{Drawn}
use Rattle.book.specs.History.{MayRewrite}
use Rattle.book.proofs.Sound.{Sound, empty_sound}
use Rattle.book.proofs.Demand3.{started_drawn, drawn_answer, call_drawn}
use Rattle.book.proofs.Rewrites.{rewrites_only}
use Rattle.shares.specs.History.{AnyEdit, any_answer, plain_of, any_step, after_any, any_answers, AnyCalled, called_plain, called_for, AnyCalls, none_called, next_called, AnyDemand3, AnyRewritesOnly}
use Rattle.shares.proofs.Going.{drawn_for}
use Rattle.shares.proofs.Alike.{any_done, any_refused}

step_made : (b : Book) (x : AnyEdit) → any_answer b x ≡ 0 → any_step b x ≡ step b (plain_of x)
unfolding any_step
step_made b x h = rw (h, any_step)

step_stays : (b : Book) (x : AnyEdit) → (any_answer b x ≡ 0 → ⊥) → any_step b x ≡ b
unfolding any_step
step_stays b x h = go (any_answer b x) refl
  where
    go : (r : ℕ) → any_answer b x ≡ r → any_step b x ≡ b
    go zero q = absurd (h q)
    go (suc r) q = rw (q, any_step)

-- one call: the book's answer, and the drawing of the book's next state
module _ (b : Book) (T T' : Tables) (r : ℕ) (s : Sound b) (w : Drawn b T) where
  any_answered : (x : AnyEdit) → AnyCalled x T r T' → r ≡ any_answer b x
  unfolding any_answer
  any_answered x (called_plain {e = e} c) = c.answer ∙ drawn_answer b T s w e
  any_answered x (called_for {d = d} {t = t} {hs = hs} c) = c.answer ∙ drawn_for b T t hs d s w

  any_drawn : (x : AnyEdit) → AnyCalled x T r T' → (r ≡ any_answer b x) × Sound (any_step b x) × Drawn (any_step b x) T'
  any_drawn x c = go (ℕ_discrete r 0)
    where
      same : r ≡ any_answer b x
      same = any_answered x c

      go : Dec (r ≡ 0) → (r ≡ any_answer b x) × Sound (any_step b x) × Drawn (any_step b x) T'
      go (yes z) =
          let e = step_made b x (sym same ∙ z) in
          let a = call_drawn b (plain_of x) T T' 0 s w (any_done (subst (λ (n : ℕ). AnyCalled x T n T') z c)) in
          (same, rw e a.1, rw e a.2)
      go (no z) = let e = step_stays b x (λ q. z (same ∙ q)) in (same, rw e s, rw (e, any_refused c z) w)

any_calls_drawn : (b : Book) (T T' : Tables) (xs : List AnyEdit) (rs : List ℕ) → Sound b → Drawn b T → AnyCalls xs T rs T'
    → (rs ≡ any_answers b xs) × Drawn (after_any b xs) T'
unfolding any_answers after_any
any_calls_drawn b T T' xs rs s d none_called = (refl, d)
any_calls_drawn b T T' xs rs s d (next_called {x = x} {xs = xs₁} {T₁ = T₁} {r = r} {rs = rs₁} c cs) =
    let one = any_drawn b T T₁ r s d x c in
    let rest = any_calls_drawn (any_step b x) T₁ T' xs₁ rs₁ one.1 one.2 cs in
    (rw (one.0, rest.0), rest.1)

pub any_demand3 : AnyDemand3
any_demand3 T₀ T T' xs rs st cs = any_calls_drawn empty_book T T' xs rs empty_sound (rw (st.done refl) started_drawn) cs

pub any_rewrites_only : AnyRewritesOnly
any_rewrites_only x T T' r c i j h l n = go (ℕ_discrete r 0)
  where
    go : Dec (r ≡ 0) → MayRewrite (target (plain_of x)) T T' i j
    go (yes z) = rewrites_only (plain_of x) T T' 0 (any_done (subst (λ (k : ℕ). AnyCalled x T k T') z c)) i j h l n
    go (no z) = absurd (n (ap (λ (S : Tables). word S.pairs (pair_index i j)) (any_refused c z)))
