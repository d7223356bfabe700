-- A route passes no vertex twice, so it has at most two vertices more than there are inner ones.
use mathlib.Core.Path.{◌≡◌, refl, sym, ap, ◌∙◌, subst}
use mathlib.Core.Logic.{◌≢◌}
use mathlib.Core.List.{List, [], ◌∷◌}
use Prim.Native.Nat.{ℕ, zero, suc, ◌+◌, ◌<◌, ◌≤◌}
use native.Mathlib.Omega.{arith}
use native.Mathlib.Decide.{ℕ_discrete}
use lib.ListN.{length}
use Rattle.paths.specs.Path.{Graph, Chain, last, more, NoWorse, cheaper, shorter, earlier, IsRoute, total}

-- w stands in the list
pub data Has (w : ℕ) : List ℕ → Type 0 where
  here : {u : ℕ} {us : List ℕ} → u ≡ w → Has w (u ∷ us)
  there : {u : ℕ} {us : List ℕ} → Has w us → Has w (u ∷ us)

-- different numbers below n
pub data Apart (n : ℕ) : List ℕ → Type 0 where
  nil : Apart n []
  cons : {x : ℕ} {xs : List ℕ} → x < n → (Has x xs → ⊥) → Apart n xs → Apart n (x ∷ xs)

record Without (n : ℕ) (xs : List ℕ) : Type 0 where
  rest : List ℕ
  apart : Apart n rest
  one_less : length xs ≤ suc (length rest)
  had : (w : ℕ) → Has w rest → Has w xs
  as_many : (Has n xs → ⊥) → length xs ≤ length rest

without : (n : ℕ) {xs : List ℕ} → Apart (suc n) xs → Without n xs
without n nil = record { rest = []; apart = nil; one_less = omega arith; had = λ w h. h; as_many = λ h. omega arith }
without n (cons {x = x} {xs = xs} b f a) = go (ℕ_discrete x n) (without n a)
  where
    go : Dec (x ≡ n) → Without n xs → Without n (x ∷ xs)
    go (yes e) w =
        record {
          rest = w.rest;
          apart = w.apart;
          one_less = let h : length xs ≤ length w.rest = w.as_many (λ h. f (rw e h)) in omega arith;
          had = λ v h. there (w.had v h);
          as_many = λ h. absurd (h (here e));
        }
    go (no e) w =
        record {
          rest = x ∷ w.rest;
          apart = cons {x = x} (omega arith) (λ h. f (w.had x h)) w.apart;
          one_less = let h : length xs ≤ suc (length w.rest) = w.one_less in omega arith;
          had = λ v h. keep v h;
          as_many = λ h. let k : length xs ≤ length w.rest = w.as_many (λ g. h (there g)) in omega arith;
        }
      where
        keep : (v : ℕ) → Has v (x ∷ w.rest) → Has v (x ∷ xs)
        keep v (here q) = here q
        keep v (there h) = there (w.had v h)

pub pigeon : (n : ℕ) {xs : List ℕ} → Apart n xs → length xs ≤ n
pigeon zero nil = omega arith
pigeon zero (cons b f a) = absurd (omega arith)
pigeon (suc n) a = let w = without n a in omega (arith, w.one_less, pigeon n w.apart)

pub has_none : (w : ℕ) → Has w [] → ⊥
has_none w h = count w h refl
  where
    count : (w : ℕ) {us : List ℕ} → Has w us → length us ≡ 0 → ⊥
    count w (here q) e = omega arith
    count w (there h) e = omega arith

apart_tail : (n x : ℕ) (xs : List ℕ) → Apart n (x ∷ xs) → Apart n xs
apart_tail n x xs (cons b f a) = a

pub has_dec : (w : ℕ) (us : List ℕ) → Dec (Has w us)
has_dec w [] = no (has_none w)
has_dec w (u ∷ us) = go (ℕ_discrete u w) (has_dec w us)
  where
    go : Dec (u ≡ w) → Dec (Has w us) → Dec (Has w (u ∷ us))
    go (yes e) d = yes (here e)
    go (no e) (yes h) = yes (there h)
    go (no e) (no h) = no (λ g. neither g)
      where
        neither : Has w (u ∷ us) → ⊥
        neither (here q) = e q
        neither (there g) = h g

-- all but the last
unfoldable pub body : List ℕ → List ℕ
body [] = []
body (x ∷ []) = []
body (x ∷ y ∷ ys) = x ∷ body (y ∷ ys)

pub body_has : (w : ℕ) (us : List ℕ) → Has w (body us) → Has w us
unfolding body
body_has w [] h = h
body_has w (x ∷ []) h = there h
body_has w (x ∷ y ∷ ys) (here q) = here q
body_has w (x ∷ y ∷ ys) (there h) = there (body_has w (y ∷ ys) h)

module _ (G : Graph) (end : ℕ) where
  pub chain_two : {v : ℕ} {us : List ℕ} → Chain G end v us → 2 ≤ length us
  chain_two (last e) = omega arith
  chain_two (more i e c) = omega (arith, chain_two c)

  pub total_more : (v : ℕ) {u : ℕ} {us : List ℕ} → Chain G end u us → total G.cost (v ∷ us) ≡ G.cost v u + total G.cost us
  total_more v (last e) = refl
  total_more v (more i e c) = refl

  pub body_more : (v : ℕ) {u : ℕ} {us : List ℕ} → Chain G end u us → body (v ∷ us) ≡ v ∷ body us
  unfolding body
  body_more v (last e) = refl
  body_more v (more i e c) = refl

  pub body_length : {u : ℕ} {us : List ℕ} → Chain G end u us → length us ≡ suc (length (body us))
  unfolding body
  body_length (last e) = refl
  body_length (more {v = v} {u = u} {us = us} i e c) = ap suc (body_length c) ∙ ap (λ (l : List ℕ). suc (length l)) (sym (body_more v c))

  -- no chain costs less, nor as much with fewer marks
  record Least (v : ℕ) (us : List ℕ) : Type 0 where
    no_less : (vs : List ℕ) → Chain G end v vs → total G.cost us ≤ total G.cost vs
    no_fewer : (vs : List ℕ) → Chain G end v vs → total G.cost us ≡ total G.cost vs → length us ≤ length vs

  least_of : (v : ℕ) (us : List ℕ) → IsRoute G v end us → Least v us
  least_of v us r = record { no_less = λ vs c. less vs (r.best vs c); no_fewer = λ vs c q. fewer vs q (r.best vs c) }
    where
      less : (vs : List ℕ) → NoWorse G.cost us vs → total G.cost us ≤ total G.cost vs
      less vs (cheaper a) = omega arith
      less vs (shorter a b) = omega arith
      less vs (earlier a b d) = omega arith

      fewer : (vs : List ℕ) → total G.cost us ≡ total G.cost vs → NoWorse G.cost us vs → length us ≤ length vs
      fewer vs q (cheaper a) = absurd (omega arith)
      fewer vs q (shorter a b) = omega arith
      fewer vs q (earlier a b d) = omega arith

  least_tail : {v u : ℕ} {us : List ℕ} → G.Inner u → G.Edge v u → Chain G end u us → Least v (v ∷ us) → Least u us
  least_tail {v} {u} {us} i e c l =
      record {
        no_less = λ vs d. omega (arith, l.no_less (v ∷ vs) (more i e d), total_more v c, total_more v d);
        no_fewer = λ vs d q.
            let s : total G.cost (v ∷ us) ≡ total G.cost (v ∷ vs) = omega (arith, total_more v c, total_more v d) in
            omega (arith, l.no_fewer (v ∷ vs) (more i e d) s);
      }

  pub record Suffix (w : ℕ) (us : List ℕ) : Type 0 where
    pub part : List ℕ
    pub chain : Chain G end w part
    pub no_dearer : total G.cost part ≤ total G.cost us
    pub no_longer : length part ≤ length us
    pub apart_too : (n : ℕ) → Apart n (body us) → Apart n (body part)

  pub suffix : (w : ℕ) → w ≢ end → {v : ℕ} {us : List ℕ} → Chain G end v us → Has w us → Suffix w us
  suffix w d (last {v = v} e) (here q) = record { part = w ∷ end ∷ []; chain = last (rw q at e); no_dearer = rw q (omega arith); no_longer = omega arith; apart_too = λ n a. rw q at a }
  suffix w d (last e) (there (here q)) = absurd (d (sym q))
  suffix w d (last {v = v} e) (there (there x10)) = elim x10 [ ]
  suffix w d (more {v = v} {us = us} i e c) (here q) = record { part = w ∷ us; chain = more i (rw q at e) c; no_dearer = subst (λ (x : ℕ). total G.cost (x ∷ us) ≤ total G.cost (v ∷ us)) q (omega arith); no_longer = omega arith; apart_too = λ n a. rw q at a }
  suffix w d (more {v = v} {us = us} i e c) (there h) =
      let s = suffix w d c h in
      record { part = s.part; chain = s.chain; no_dearer = omega (arith, s.no_dearer, total_more v c); no_longer = omega (arith, s.no_longer); apart_too = λ n a. s.apart_too n (apart_tail n v (body us) (rw (body_more v c) at a)) }

  not_again : {v u : ℕ} {us : List ℕ} → v ≢ end → Chain G end u us → Least v (v ∷ us) → Has v us → ⊥
  not_again {v} {us = us} d c l h =
      let s = suffix v d c h in
      let a = l.no_less s.part s.chain in
      let q : total G.cost (v ∷ us) ≡ total G.cost s.part = omega (arith, s.no_dearer, total_more v c) in
      omega (arith, l.no_fewer s.part s.chain q, s.no_longer)

  -- from an inner vertex on, the marks before the end are different numbers below the bound
  module _ (bound : ℕ) (inner_below : (u : ℕ) → G.Inner u → u < bound) (end_above : bound ≤ end) where
    apart_from : {v : ℕ} {us : List ℕ} → G.Inner v → Chain G end v us → Least v us → Apart bound (body us)
    unfolding body
    apart_from {v} iv (last e) l = cons (inner_below v iv) (has_none v) nil
    apart_from {v} iv (more {us = us} i e c) l =
        rw (body_more v c)
        (cons (inner_below v iv) (λ h. not_again (λ (q : v ≡ end). omega (arith, inner_below v iv)) c l (body_has v us h)) (apart_from i c (least_tail i e c l)))

    chain_short : {v : ℕ} {us : List ℕ} → Chain G end v us → Least v us → length us ≤ 2 + bound
    chain_short (last e) l = omega arith
    chain_short (more i e c) l = omega (arith, pigeon bound (apart_from i c (least_tail i e c l)), body_length c)

    pub route_short : (v : ℕ) (us : List ℕ) → IsRoute G v end us → length us ≤ 2 + bound
    route_short v us r = chain_short r.chain (least_of v us r)
