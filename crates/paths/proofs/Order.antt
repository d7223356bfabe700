-- The fixed rule orders chains totally, so a graph has at most one route.
use mathlib.Core.Path.{◌≡◌, refl, ap, subst}
use mathlib.Core.Logic.{◌⊎◌, inl, inr}
use mathlib.Core.List.{List, [], ◌∷◌}
use Prim.Native.Nat.{ℕ, ◌<◌}
use native.Mathlib.Omega.{arith}
use native.Mathlib.Decide.{dec_lt}
use lib.ListN.{length}
use Rattle.paths.specs.Path.{Graph, NoLater, same, less, then, NoWorse, cheaper, shorter, earlier, IsRoute, total}

pub no_later_trans : {us vs ws : List ℕ} → NoLater us vs → NoLater vs ws → NoLater us ws
no_later_trans same q = q
no_later_trans (less h) same = less h
no_later_trans (less {u = u} h) (less {v = w} k) = less {u = u} {v = w} (omega arith)
no_later_trans (less h) (then q) = less h
no_later_trans (then p) same = then p
no_later_trans (then p) (less k) = less k
no_later_trans (then p) (then q) = then (no_later_trans p q)

pub no_later_total : (us vs : List ℕ) → length us ≡ length vs → NoLater us vs ⊎ NoLater vs us
no_later_total [] [] e = inl same
no_later_total [] (v ∷ vs) e = absurd (omega arith)
no_later_total (u ∷ us) [] e = absurd (omega arith)
no_later_total (u ∷ us) (v ∷ vs) e = go (dec_lt u v) (dec_lt v u) (no_later_total us vs (omega arith))
  where
    go : Dec (u < v) → Dec (v < u) → NoLater us vs ⊎ NoLater vs us → NoLater (u ∷ us) (v ∷ vs) ⊎ NoLater (v ∷ vs) (u ∷ us)
    go (yes a) d ih = inl (less a)
    go (no a) (yes b) ih = inr (less b)
    go (no a) (no b) (inl h) = let q : u ≡ v = omega arith in inl (rw q (then h))
    go (no a) (no b) (inr h) = let q : u ≡ v = omega arith in inr (rw q (then h))

module _ (c : ℕ → ℕ → ℕ) where
  pub no_worse_refl : (us : List ℕ) → NoWorse c us us
  no_worse_refl us = earlier refl refl same

  pub no_worse_trans : {us vs ws : List ℕ} → NoWorse c us vs → NoWorse c vs ws → NoWorse c us ws
  no_worse_trans (cheaper a) (cheaper b) = cheaper (omega arith)
  no_worse_trans (cheaper a) (shorter b d) = cheaper (omega arith)
  no_worse_trans (cheaper a) (earlier b d e) = cheaper (omega arith)
  no_worse_trans (shorter a f) (cheaper b) = cheaper (omega arith)
  no_worse_trans (shorter a f) (shorter b d) = shorter (omega arith) (omega arith)
  no_worse_trans (shorter a f) (earlier b d e) = shorter (omega arith) (omega arith)
  no_worse_trans (earlier a f g) (cheaper b) = cheaper (omega arith)
  no_worse_trans (earlier a f g) (shorter b d) = shorter (omega arith) (omega arith)
  no_worse_trans (earlier a f g) (earlier b d e) = earlier (omega arith) (omega arith) (no_later_trans g e)

  pub no_worse_total : (us vs : List ℕ) → NoWorse c us vs ⊎ NoWorse c vs us
  no_worse_total us vs = go (dec_lt (total c us) (total c vs)) (dec_lt (total c vs) (total c us)) (dec_lt (length us) (length vs)) (dec_lt (length vs) (length us))
    where
      go : Dec (total c us < total c vs) → Dec (total c vs < total c us) → Dec (length us < length vs) → Dec (length vs < length us) → NoWorse c us vs ⊎ NoWorse c vs us
      go (yes a) d e f = inl (cheaper a)
      go (no a) (yes b) e f = inr (cheaper b)
      go (no a) (no b) (yes e) f = inl (shorter (omega arith) e)
      go (no a) (no b) (no e) (yes f) = inr (shorter (omega arith) f)
      go (no a) (no b) (no e) (no f) = last_resort (no_later_total us vs (omega arith))
        where
          last_resort : NoLater us vs ⊎ NoLater vs us → NoWorse c us vs ⊎ NoWorse c vs us
          last_resort (inl h) = inl (earlier (omega arith) (omega arith) h)
          last_resort (inr h) = inr (earlier (omega arith) (omega arith) h)

-- behind the same mark
no_later_tail : {xs ys : List ℕ} → NoLater xs ys → (u : ℕ) (us vs : List ℕ) → xs ≡ u ∷ us → ys ≡ u ∷ vs → NoLater us vs
no_later_tail same u us vs p q = let e : us ≡ vs = cc in subst (λ (l : List ℕ). NoLater us l) e same
no_later_tail (less {u = a} {v = b} h) u us vs p q = let e : a ≡ b = cc in absurd (omega arith)
no_later_tail (then {us = ms} {vs = ns} h) u us vs p q =
    let e : ms ≡ us = cc in
    let f : ns ≡ vs = cc in
    subst (λ (l : List ℕ). NoLater l vs) e (subst (λ (l : List ℕ). NoLater ms l) f h)

pub no_later_antisym : {us vs : List ℕ} → NoLater us vs → NoLater vs us → us ≡ vs
no_later_antisym same q = refl
no_later_antisym (less h) same = refl
no_later_antisym (less h) (less k) = absurd (omega arith)
no_later_antisym (less h) (then q) = absurd (omega arith)
no_later_antisym (then {u = u} p) q = ap (λ (l : List ℕ). u ∷ l) (no_later_antisym p (no_later_tail q u _ _ refl refl))

pub no_worse_antisym : (c : ℕ → ℕ → ℕ) (us vs : List ℕ) → NoWorse c us vs → NoWorse c vs us → us ≡ vs
no_worse_antisym c us vs (cheaper a) (cheaper b) = absurd (omega arith)
no_worse_antisym c us vs (cheaper a) (shorter b d) = absurd (omega arith)
no_worse_antisym c us vs (cheaper a) (earlier b d e) = absurd (omega arith)
no_worse_antisym c us vs (shorter a f) (cheaper b) = absurd (omega arith)
no_worse_antisym c us vs (shorter a f) (shorter b d) = absurd (omega arith)
no_worse_antisym c us vs (shorter a f) (earlier b d e) = absurd (omega arith)
no_worse_antisym c us vs (earlier a f g) (cheaper b) = absurd (omega arith)
no_worse_antisym c us vs (earlier a f g) (shorter b d) = absurd (omega arith)
no_worse_antisym c us vs (earlier a f g) (earlier b d e) = no_later_antisym g e

pub route_one : (G : Graph) (start end : ℕ) (us vs : List ℕ) → IsRoute G start end us → IsRoute G start end vs → us ≡ vs
route_one G start end us vs r s = no_worse_antisym G.cost us vs (r.best vs s.chain) (s.best us r.chain)
