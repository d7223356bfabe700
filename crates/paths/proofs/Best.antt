-- Where edges and inner vertices can be decided and are finitely many, there is a route or there is no chain.
use mathlib.Core.Path.{◌≡◌, refl, ap, subst}
use mathlib.Core.Logic.{◌⊎◌, inl, inr, ⊎_elim}
use mathlib.Core.List.{List, [], ◌∷◌}
use Prim.Native.Nat.{ℕ, zero, suc, ◌<◌, ◌≤◌}
use native.Mathlib.Omega.{arith}
use native.Mathlib.Decide.{ℕ_discrete, dec_lt}
use lib.ListN.{length}
use Rattle.paths.specs.Path.{Graph, Chain, last, more, NoWorse, cheaper, shorter, earlier, IsRoute, NoChain, total, then}
use Rattle.paths.proofs.Order.{no_worse_refl, no_worse_trans, no_worse_total}
use Rattle.paths.proofs.Short.{Has, Apart, nil, cons, has_dec, has_none, pigeon, body, body_has, body_more, body_length, chain_two, total_more, suffix}

module _ (c : ℕ → ℕ → ℕ) where
  -- the best of those lists that have a property, or none has it
  pub record Best (P : List ℕ → Type 0) : Type 0 where
    pub list : List ℕ
    pub holds : P list
    pub best : (vs : List ℕ) → P vs → NoWorse c list vs

  abbrev pub Search : (List ℕ → Type 0) → Type 0
  Search P = Best P ⊎ ((vs : List ℕ) → P vs → ⊥)

  search_same : (P Q : List ℕ → Type 0) → ((vs : List ℕ) → P vs → Q vs) → ((vs : List ℕ) → Q vs → P vs) → Search P → Search Q
  search_same P Q f g (inl b) = inl (record { list = b.list; holds = f b.list b.holds; best = λ vs q. b.best vs (g vs q) })
  search_same P Q f g (inr n) = inr (λ vs q. n vs (g vs q))

  search_either : (P Q : List ℕ → Type 0) → Search P → Search Q → Search (λ vs. P vs ⊎ Q vs)
  search_either P Q (inl a) (inl b) = go (no_worse_total c a.list b.list)
    where
      go : NoWorse c a.list b.list ⊎ NoWorse c b.list a.list → Search (λ vs. P vs ⊎ Q vs)
      go (inl h) = inl (record { list = a.list; holds = inl a.holds; best = λ vs. ⊎_elim (λ p. a.best vs p) (λ q. no_worse_trans c h (b.best vs q)) })
      go (inr h) = inl (record { list = b.list; holds = inr b.holds; best = λ vs. ⊎_elim (λ p. no_worse_trans c h (a.best vs p)) (λ q. b.best vs q) })
  search_either P Q (inl a) (inr n) = inl (record { list = a.list; holds = inl a.holds; best = λ vs. ⊎_elim (λ p. a.best vs p) (λ q. absurd (n vs q)) })
  search_either P Q (inr m) (inl b) = inl (record { list = b.list; holds = inr b.holds; best = λ vs. ⊎_elim (λ p. absurd (m vs p)) (λ q. b.best vs q) })
  search_either P Q (inr m) (inr n) = inr (λ vs. ⊎_elim (m vs) (n vs))

  search_below : (n : ℕ) (P : ℕ → List ℕ → Type 0) → ((u : ℕ) → Search (P u)) → Search (λ vs. (u : ℕ) × (u < n) × P u vs)
  search_below zero P f = inr (λ vs h. omega (arith, h.1))
  search_below (suc n) P f =
      search_same _ _ (λ vs. ⊎_elim (λ h. (h.0, omega (arith, h.1), h.2)) (λ h. (n, omega arith, h))) (λ vs h. from vs h (ℕ_discrete h.0 n))
      (search_either _ _ (search_below n P f) (f n))
    where
      from : (vs : List ℕ) (h : (u : ℕ) × (u < suc n) × P u vs) → Dec (h.0 ≡ n) → ((u : ℕ) × (u < n) × P u vs) ⊎ P n vs
      from vs h (yes e) = inr (subst (λ (u : ℕ). P u vs) e h.2)
      from vs h (no e) = inl (h.0, omega (arith, h.1), h.2)

-- a vertex put before two chains from one vertex keeps their order
prefix : (G : Graph) (end v u : ℕ) (us vs : List ℕ) → Chain G end u us → Chain G end u vs → NoWorse G.cost us vs → NoWorse G.cost (v ∷ us) (v ∷ vs)
prefix G end v u us vs c d (cheaper a) = cheaper (omega (arith, total_more G end v c, total_more G end v d))
prefix G end v u us vs c d (shorter a b) = shorter (omega (arith, total_more G end v c, total_more G end v d)) (omega arith)
prefix G end v u us vs c d (earlier a b e) = earlier (omega (arith, total_more G end v c, total_more G end v d)) (omega arith) (then e)

module _ (G : Graph) (end bound : ℕ) (inner-dec : (u : ℕ) → Dec (G.Inner u)) (edge-dec : (v u : ℕ) → Dec (G.Edge v u))
    (inner_below : (u : ℕ) → G.Inner u → u < bound) (end_above : bound ≤ end) where
  -- the chains from v with at most k straights
  abbrev Within : ℕ → ℕ → List ℕ → Type 0
  Within k v us = Chain G end v us × (length us ≤ suc k)

  abbrev Direct : ℕ → List ℕ → Type 0
  Direct v us = (us ≡ v ∷ end ∷ []) × G.Edge v end

  -- those whose second mark is u
  record Via (k v u : ℕ) (us : List ℕ) : Type 0 where
    rest : List ℕ
    is : us ≡ v ∷ rest
    inner : G.Inner u
    edge : G.Edge v u
    within : Within k u rest

  search_direct : (v : ℕ) → Search G.cost (Direct v)
  search_direct v = go (edge-dec v end)
    where
      go : Dec (G.Edge v end) → Search G.cost (Direct v)
      go (yes e) = inl (record { list = v ∷ end ∷ []; holds = (refl, e); best = λ vs h. rw h.0 (no_worse_refl G.cost (v ∷ end ∷ [])) })
      go (no e) = inr (λ vs h. e h.1)

  search_via : (k v u : ℕ) → Search G.cost (Within k u) → Search G.cost (Via k v u)
  search_via k v u (inr n) = inr (λ vs h. n h.rest h.within)
  search_via k v u (inl b) = go (inner-dec u) (edge-dec v u)
    where
      go : Dec (G.Inner u) → Dec (G.Edge v u) → Search G.cost (Via k v u)
      go (no i) d = inr (λ vs h. i h.inner)
      go (yes i) (no e) = inr (λ vs h. e h.edge)
      go (yes i) (yes e) =
          inl
          (record {
            list = v ∷ b.list;
            holds = record { rest = b.list; is = refl; inner = i; edge = e; within = b.holds };
            best = λ vs h. rw h.is (prefix G end v u b.list h.rest b.holds.0 h.within.0 (b.best h.rest h.within));
          })

  apart_step : (k v : ℕ) (vs : List ℕ) → Within (suc k) v vs → Direct v vs ⊎ ((u : ℕ) × (u < bound) × Via k v u vs)
  apart_step k v vs (last e, l) = inl (refl, e)
  apart_step k v vs (more {u = u} {us = us} i e c, l) =
      inr (u, inner_below u i, record { rest = us; is = refl; inner = i; edge = e; within = (c, omega arith) })

  join_step : (k v : ℕ) (vs : List ℕ) → Direct v vs ⊎ ((u : ℕ) × (u < bound) × Via k v u vs) → Within (suc k) v vs
  join_step k v vs (inl h) = rw h.0 (last h.1, omega arith)
  join_step k v vs (inr h) = rw h.2.is (more h.2.inner h.2.edge h.2.within.0, omega (arith, h.2.within.1))

  -- round after round: the best chains with one more straight, from the best of the round before
  search_within : (k v : ℕ) → Search G.cost (Within k v)
  search_within zero v = inr (λ vs h. omega (arith, chain_two G end h.0, h.1))
  search_within (suc k) v =
      search_same G.cost _ _ (join_step k v) (apart_step k v)
      (search_either G.cost _ _ (search_direct v) (search_below G.cost bound (Via k v) (λ u. search_via k v u (search_within k u))))

  -- a chain from an inner vertex with each repeated part cut out
  record Cut (v : ℕ) (us : List ℕ) : Type 0 where
    list : List ℕ
    chain : Chain G end v list
    apart : Apart bound (body list)
    no_dearer : total G.cost list ≤ total G.cost us
    change : (list ≡ us) ⊎ (length list < length us)

  change_length : {xs ys : List ℕ} → (xs ≡ ys) ⊎ (length xs < length ys) → length xs ≤ length ys
  change_length (inl e) = rw e (omega arith)
  change_length (inr h) = omega arith

  cut : {v : ℕ} {us : List ℕ} → G.Inner v → Chain G end v us → Cut v us
  unfolding body
  cut {v} iv (last e) = record { list = v ∷ end ∷ []; chain = last e; apart = cons (inner_below v iv) (has_none v) nil; no_dearer = omega arith; change = inl refl }
  cut {v} iv (more {u = u} {us = us} i e c) = go (cut i c) (has_dec v (cut i c).list)
    where
      go : (s : Cut u us) → Dec (Has v s.list) → Cut v (v ∷ us)
      go s (yes h) =
          let t = suffix G end v (λ (q : v ≡ end). omega (arith, inner_below v iv)) s.chain h in
          record {
            list = t.part;
            chain = t.chain;
            apart = t.apart_too bound s.apart;
            no_dearer = omega (arith, t.no_dearer, s.no_dearer, total_more G end v c);
            change = inr (omega (arith, t.no_longer, change_length s.change));
          }
      go s (no h) =
          record {
            list = v ∷ s.list;
            chain = more i e s.chain;
            apart = rw (body_more G end v s.chain) (cons (inner_below v iv) (λ g. h (body_has v s.list g)) s.apart);
            no_dearer = omega (arith, s.no_dearer, total_more G end v c, total_more G end v s.chain);
            change = ⊎_elim (λ q. inl (ap (λ (l : List ℕ). v ∷ l) q)) (λ q. inr (omega arith)) s.change;
          }

  record Short (v : ℕ) (us : List ℕ) : Type 0 where
    list : List ℕ
    within : Within (suc bound) v list
    no_worse : NoWorse G.cost list us

  short : {v : ℕ} {us : List ℕ} → Chain G end v us → Short v us
  short {v} (last e) = record { list = v ∷ end ∷ []; within = (last e, omega arith); no_worse = no_worse_refl G.cost (v ∷ end ∷ []) }
  short {v} (more {u = u} {us = us} i e c) =
      let s = cut i c in
      record {
        list = v ∷ s.list;
        within = (more i e s.chain, omega (arith, pigeon bound s.apart, body_length G end s.chain));
        no_worse = prefix G end v u s.list us s.chain c (go s s.change (dec_lt (total G.cost s.list) (total G.cost us)));
      }
    where
      go : (s : Cut u us) → (s.list ≡ us) ⊎ (length s.list < length us) → Dec (total G.cost s.list < total G.cost us) → NoWorse G.cost s.list us
      go s (inl q) d = rw q (no_worse_refl G.cost us)
      go s (inr h) (yes l) = cheaper l
      go s (inr h) (no l) = shorter (omega (arith, s.no_dearer)) h

  -- there is a route or there is no chain
  pub route_search : (v : ℕ) → ((us : List ℕ) × IsRoute G v end us) ⊎ NoChain G v end
  route_search v = go (search_within (suc bound) v)
    where
      go : Search G.cost (Within (suc bound) v) → ((us : List ℕ) × IsRoute G v end us) ⊎ NoChain G v end
      go (inl b) =
          inl (b.list, record { chain = b.holds.0; best = λ vs c. no_worse_trans G.cost (b.best (short c).list (short c).within) (short c).no_worse })
      go (inr n) = inr (λ vs c. n (short c).list (short c).within)
