-- The yard's tables depend on the edits that were made, never on who asked for them or holds a run.
use mathlib.Core.Path.{◌≡◌, refl, sym, subst}
use mathlib.Core.List.{List, ◌∷◌, map}
use Prim.Native.Nat.{ℕ, zero, suc}
use native.Mathlib.Omega.{arith}
use Rattle.tables.specs.Tables.{Tables}
use Rattle.book.specs.Book.{Edit}
use Rattle.book.specs.Edits.{Called}
use Rattle.book.specs.History.{Calls, no_calls, call}
use Rattle.book.proofs.Unique.{calls_unique}
use Rattle.shares.specs.Shares.{Terms}
use Rattle.shares.specs.History.{AnyEdit, plain_of, AnyCalled, called_plain, called_for, AnyCalls, none_called, next_called, made}
use Rattle.shares.specs.Promise.{CallsFor, no_calls_for, call_for, between}

-- calls that hand holders on are calls
pub calls_any : {t : Terms} {xs : List AnyEdit} {T T' : Tables} {hs hs' : List ℕ} {rs : List ℕ} → CallsFor t xs T hs rs T' hs' → AnyCalls xs T rs T'
calls_any no_calls_for = none_called
calls_any (call_for c cs) = next_called (called_for c) (calls_any cs)
calls_any (between o c cs) = next_called (called_plain c) (calls_any cs)

-- an accepted call leaves what the same edit in nobody's name leaves, a refused one nothing
pub any_done : {x : AnyEdit} {T T' : Tables} → AnyCalled x T 0 T' → Called (plain_of x) T 0 T'
any_done (called_plain c) = c
any_done (called_for c) = (c.done refl).0

pub any_refused : {x : AnyEdit} {T T' : Tables} {r : ℕ} → AnyCalled x T r T' → (r ≡ 0 → ⊥) → T' ≡ T
any_refused (called_plain c) n = c.refused n
any_refused (called_for c) n = (c.refused n).0

abbrev pub zeros : List Edit → List ℕ
zeros es = map (λ e. 0) es

-- so calls leave the tables that calls in nobody's name leave, of the edits that were made, each of which is answered 0
pub made_calls : {xs : List AnyEdit} {T T' : Tables} {rs : List ℕ} → AnyCalls xs T rs T' → Calls (made (map plain_of xs) rs) T (zeros (made (map plain_of xs) rs)) T'
unfolding made
made_calls none_called = no_calls
made_calls {T = T} {T' = T'} (next_called {x = x} {xs = xs} {T₁ = T₁} {r = r} {rs = rs} c cs) = first r c (made_calls cs)
  where
    first : (n : ℕ) → AnyCalled x T n T₁ → Calls (made (map plain_of xs) rs) T₁ (zeros (made (map plain_of xs) rs)) T'
        → Calls (made (map plain_of (x ∷ xs)) (n ∷ rs)) T (zeros (made (map plain_of (x ∷ xs)) (n ∷ rs))) T'
    first zero a rest = call (any_done a) rest
    first (suc n) a rest = rw (any_refused a (λ q. omega arith)) at rest

-- two histories that made the same edits leave the same tables, whoever asked for them, whoever holds the runs and whatever was promised
pub holders_alike : {xs xs' : List AnyEdit} {T T₁ T₂ : Tables} {rs rs' : List ℕ}
    → AnyCalls xs T rs T₁ → AnyCalls xs' T rs' T₂ → made (map plain_of xs) rs ≡ made (map plain_of xs') rs' → T₁ ≡ T₂
holders_alike {T = T} {T₂ = T₂} a b e =
    (calls_unique (made_calls a) (subst (λ (es : List Edit). Calls es T (zeros es) T₂) (sym e) (made_calls b))).1
