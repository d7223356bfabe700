-- The invariant of the loop that settles marks: how it begins, that a turn keeps it, and what it gives where the loop ends.
use mathlib.Core.Path.{◌≡◌, refl, sym, ap, ◌∙◌, subst}
use mathlib.Core.Logic.{◌⊎◌, inl, inr, ⊎_elim}
use mathlib.Core.Bool.{true, false, true≢false}
use mathlib.Core.List.{List, [], ◌∷◌}
use Prim.Native.Nat.{ℕ, ◌+◌, ◌*◌, ◌-◌, ◌≤◌, ◌<◌}
use native.Mathlib.Decide.{ℕ_discrete}
use native.Mathlib.Omega.{arith}
use lib.ListN.{length, set, length-set}
use lib.Seq.{get_or-set_same, get_or-set_other}
use Rattle.paths.specs.Path.{Graph, last, more, NoChain}
use Rattle.paths.specs.inner.LowerBound.{ConsistentBound}
use Rattle.paths.proofs.Short.{chain_two, total_more}
use Rattle.paths.proofs.Labels.{no_chain}
use Rattle.geometry.specs.Words.{word}
use Rattle.search.specs.inner.Keys.{unreached, Filled, weight, Open, Vertex, Reaching, Keyed, Searched}
use Rattle.search.specs.inner.Parts.{Lowered}
use Rattle.search.proofs.Network.{Sized, vertex_below, not_end, bound_small}
use Rattle.search.proofs.Steps.{open_dec}

-- all keys once s is settled: only those of the first n of the list change
abbrev pub Relaxed : Graph → List ℕ → ℕ → List ℕ → List ℕ → ℕ → ℕ → Type 0
Relaxed G waiting n key key' s ks = Lowered key key' (λ v. Open waiting n v × G.Edge v s) (λ v. weight G v s + ks)

-- a mark's key with 256 × its bound
abbrev pub sum_at : (ℕ → ℕ) → List ℕ → ℕ → ℕ
sum_at bound key v = word key v + 256 * bound v

-- r is the place in the list of the least sum of key and bound, or n where no mark is reached
pub record Picked (bound : ℕ → ℕ) (key waiting : List ℕ) (n r : ℕ) : Type 0 where
  pub within : r ≤ n
  pub reached : r < n → sum_at bound key (word waiting r) < unreached
  pub least : r < n → (j : ℕ) → j < n → sum_at bound key (word waiting r) ≤ sum_at bound key (word waiting j)
  pub rest : r ≡ n → (j : ℕ) → j < n → unreached ≤ sum_at bound key (word waiting j)

pub record Inv (G : Graph) (start end : ℕ) (bound : ℕ → ℕ) (waiting : List ℕ) (n : ℕ) (key : List ℕ) : Type 0 where
  pub sized : Sized G start end
  pub consistent : ConsistentBound G start bound
  pub keyed : length key ≡ 240
  pub only : (v : ℕ) → Open waiting n v → Vertex G start v
  pub target : Open waiting n start
  pub top : (v : ℕ) → v < 240 → word key v ≤ unreached
  pub end_zero : word key end ≡ 0
  pub order : (s v : ℕ) → Vertex G start s → (Open waiting n s → ⊥) → Open waiting n v → word key s + 256 * bound s ≤ word key v + 256 * bound v
  pub relaxed_last : (v : ℕ) → Vertex G start v → G.Edge v end → word key v ≤ weight G v end
  pub relaxed : (v s : ℕ) → Vertex G start v → G.Inner s → G.Edge v s → (Open waiting n s → ⊥) → word key v ≤ weight G v s + word key s
  pub attained : (v : ℕ) → v < 240 → (v ≡ end → ⊥) → word key v < unreached → Reaching G start end v (word key v) n

-- no key is above that of a mark that is not reached
pub key_top : (end : ℕ) (key : List ℕ) → Filled key 240 unreached → (v : ℕ) → v < 240 → word (set key end 0) v ≤ unreached
key_top end key e v b = go (ℕ_discrete v end)
  where
    go : Dec (v ≡ end) → word (set key end 0) v ≤ unreached
    go (yes q) = omega (arith, ap (word (set key end 0)) q, get_or-set_same key end 0 0 (omega (arith, e.sized)))
    go (no q) = omega (arith, get_or-set_other key end v 0 0 q, e.each v b)

module _ {G : Graph} {start end : ℕ} (z : Sized G start end) where
  -- at the beginning only the end is settled
  pub begin : {bound : ℕ → ℕ} → ConsistentBound G start bound → (waiting : List ℕ) (n : ℕ) (key key' : List ℕ) → n ≤ 193
      → ((v : ℕ) → Open waiting n v → Vertex G start v) → ((v : ℕ) → Vertex G start v → Open waiting n v) → Filled key 240 unreached
      → Relaxed G waiting n (set key end 0) key' end 0 → Inv G start end bound waiting n key'
  begin d waiting n key key' f only all e r =
      record {
        sized = z;
        consistent = d;
        keyed = r.same ∙ length-set key end 0 ∙ e.sized;
        only = only;
        target = all start (inl refl);
        top = λ v b. omega (arith, r.down v, key_top end key e v b);
        end_zero = omega (arith, r.down end, get_or-set_same key end 0 0 (omega (arith, e.sized, z.end_below)));
        order = λ s v x h o. absurd (h (all s x));
        relaxed_last = λ v x g. omega (arith, r.short v (all v x, g));
        relaxed = λ v s x i g h. absurd (h (all s (inr i)));
        attained = λ v b ne k.
            ⊎_elim (λ q. absurd (omega (arith, q, get_or-set_other key end v 0 0 ne, e.each v b))) (λ p. reaching v p.0.0 p.0.1 p.1) (r.came v);
      }
    where
      reaching : (v : ℕ) → Open waiting n v → G.Edge v end → word key' v ≡ weight G v end + 0 → Reaching G start end v (word key' v) n
      reaching v o g q =
          let c = z.cost_small v end (vertex_below z v (only v o)) z.end_below in
          record { vertex = only v o; by = v ∷ end ∷ []; chain = last g; exact = omega (arith, q); few = omega arith; short = omega (arith, c) }

module _ {G : Graph} {start end : ℕ} {bound : ℕ → ℕ} {waiting : List ℕ} {n : ℕ} {key : List ℕ} (i : Inv G start end bound waiting n key) where
  pub marks : (j : ℕ) → j < n → word waiting j < 240
  marks j l = vertex_below i.sized (word waiting j) (i.only (word waiting j) (record { place = j; within = l; is = refl }))

  pub key_bound : (v : ℕ) → v < 240 → (v ≡ end → ⊥) → word key v < unreached → word key v ≤ 2301429954
  key_bound v l e k = let t = i.attained v l e k in omega (arith, t.exact, t.few, t.short)

  module _ (r : ℕ) (p : Picked bound key waiting n r) where
    -- no mark that is waiting is reached
    none_left : n ≤ r → NoChain G start end
    none_left l =
        no_chain G start end (λ v. word key v < unreached)
        (λ v x g. omega (arith, i.relaxed_last v x g, i.sized.cost_small v end (vertex_below i.sized v x) i.sized.end_below))
        (λ v u x j g k.
        let b : u < 240 = omega (arith, i.sized.inner_below u j) in
        omega (arith, i.relaxed v u x j g (λ o. not_open u o k), key_bound u b (not_end i.sized u (inr j)) k, i.sized.cost_small v u (vertex_below i.sized v x) b))
        (not_open start i.target)
      where
        not_open : (u : ℕ) → Open waiting n u → word key u < unreached → ⊥
        not_open u o k =
            let x = i.only u o in
            let b = vertex_below i.sized u x in
            omega (
              arith,
              p.rest (omega (arith, p.within)) o.place o.within,
              ap (sum_at bound key) o.is,
              bound_small i.sized i.consistent u b,
              key_bound u b (not_end i.sized u x) k,
            )

    -- no mark that is waiting is before start
    start_done : r < n → word key start ≤ sum_at bound key (word waiting r) → Keyed G start end key
    start_done l q =
        record {
          sized = i.keyed;
          end_zero = i.end_zero;
          reached = omega (arith, p.reached l);
          relaxed_last = i.relaxed_last;
          bound = bound;
          consistent = i.consistent;
          relaxed = λ v u x j g k. i.relaxed v u x j g (λ o. above_start u o k);
          attained = λ v b e k.
              let t = i.attained v b e (⊎_elim (λ (h : v ≡ start). omega (arith, p.reached l, ap (word key) h)) (λ h. omega (arith, p.reached l)) k) in
              record { vertex = t.vertex; by = t.by; chain = t.chain; exact = t.exact; few = omega (arith, t.few) };
        }
      where
        above_start : (u : ℕ) → Open waiting n u → word key u + 256 * bound u < word key start → ⊥
        above_start u o k = omega (arith, p.least l o.place o.within, ap (sum_at bound key) o.is)

    pub answer_none : n ≤ r → Searched G start end key false
    answer_none l = record { way = λ e. absurd (true≢false (sym e)); no_way = λ e. none_left l }

    pub answer_found : r < n → word key start ≤ sum_at bound key (word waiting r) → Searched G start end key true
    answer_found l q = record { way = λ e. start_done l q; no_way = λ e. absurd (true≢false e) }

    -- one more mark is settled
    module _ (l : r < n) (before : sum_at bound key (word waiting r) < word key start) where
      abbrev u : ℕ
      u = word waiting r

      u_open : Open waiting n u
      u_open = record { place = r; within = l; is = refl }

      pub not_start : start ≡ u → ⊥
      not_start q = omega (arith, ap (word key) q)

      pub u_inner : G.Inner u
      u_inner = ⊎_elim (λ q. absurd (not_start (sym q))) (λ j. j) (i.only u u_open)

      pub u_below : u < 240
      u_below = vertex_below i.sized u (inr u_inner)

      u_reached : word key u < unreached
      u_reached = omega (arith, p.reached l)

      pub key_small : word key u ≤ 4294967293
      key_small = omega (arith, u_reached)

      -- what is waiting after was waiting before, and the other way round, but for u
      module _ {rest : List ℕ} (was_open : (v : ℕ) → Open rest (n - 1) v → Open waiting n v) (still_Open : (v : ℕ) → (v ≡ u → ⊥) → Open waiting n v → Open rest (n - 1) v) where
        settled_before : (s : ℕ) → (Open rest (n - 1) s → ⊥) → (s ≡ u) ⊎ (Open waiting n s → ⊥)
        settled_before s h = elim (ℕ_discrete s u) [ yes q ↦ inl q | no q ↦ inr (λ o. h (still_Open s q o)) ]

        module _ {key' : List ℕ} (x : Relaxed G rest (n - 1) key key' u (word key u)) where
          kept : (s : ℕ) → (Open rest (n - 1) s → ⊥) → word key' s ≡ word key s
          kept s h = ⊎_elim (λ q. q) (λ q. absurd (h q.0.0)) (x.came s)

          below_u : (s : ℕ) → Vertex G start s → (Open rest (n - 1) s → ⊥) → word key s + 256 * bound s ≤ word key u + 256 * bound u
          below_u s a h = ⊎_elim (λ q. omega (arith, ap (λ (k : ℕ). word key k + 256 * bound k) q)) (λ g. i.order s u a g u_open) (settled_before s h)

          above_u : (v : ℕ) → Open waiting n v → word key u + 256 * bound u ≤ word key v + 256 * bound v
          above_u v o = omega (arith, p.least l o.place o.within, ap (sum_at bound key) o.is)

          next_order : (s v : ℕ) → Vertex G start s → (Open rest (n - 1) s → ⊥) → Open rest (n - 1) v → word key' s + 256 * bound s ≤ word key' v + 256 * bound v
          next_order s v a h o =
              let ks = kept s h in
              let bs = below_u s a h in
              let bv = above_u v (was_open v o) in
              ⊎_elim (λ e. omega arith) (λ w. omega (arith, w.1, i.consistent.step v u)) (x.came v)

          next_relaxed : (v s : ℕ) → Vertex G start v → G.Inner s → G.Edge v s → (Open rest (n - 1) s → ⊥) → word key' v ≤ weight G v s + word key' s
          next_relaxed v s a j g h =
              let ks = kept s h in
              ⊎_elim
              (λ q.
              elim (open_dec rest (n - 1) v) [
                | yes o ↦
                    let g' : G.Edge v u = subst (λ (k : ℕ). G.Edge v k) q g in
                    omega (arith, x.short v (o, g'), ap (λ (k : ℕ). weight G v k + word key k) q)
                | no o ↦ omega (arith, kept v o, below_u v a o, i.consistent.step v u, ap (λ (k : ℕ). weight G v k + word key k) q)
              ])
              (λ b. omega (arith, x.down v, i.relaxed v s a j g b))
              (settled_before s h)

          next_attained : (v : ℕ) → v < 240 → (v ≡ end → ⊥) → word key' v < unreached → Reaching G start end v (word key' v) (n - 1)
          next_attained v b e k =
              ⊎_elim
              (λ q.
              let t = i.attained v b e (omega arith) in
              record { vertex = t.vertex; by = t.by; chain = t.chain; exact = t.exact ∙ sym q; few = omega (arith, t.few); short = t.short })
              (λ w.
              let t = i.attained u u_below (not_end i.sized u (inr u_inner)) u_reached in
              let two = chain_two G end t.chain in
              let c = i.sized.cost_small v u b u_below in
              record {
                vertex = i.only v (was_open v w.0.0);
                by = v ∷ t.by;
                chain = more u_inner w.0.1 t.chain;
                exact = omega (arith, t.exact, w.1, total_more G end v t.chain);
                few = omega (arith, t.few);
                short = omega (arith, t.short, total_more G end v t.chain);
              })
              (x.came v)

          pub next : Inv G start end bound rest (n - 1) key'
          next =
              record {
                sized = i.sized;
                consistent = i.consistent;
                keyed = x.same ∙ i.keyed;
                only = λ v o. i.only v (was_open v o);
                target = still_Open start not_start i.target;
                top = λ v b. omega (arith, x.down v, i.top v b);
                end_zero = kept end (λ o. not_end i.sized end (i.only end (was_open end o)) refl) ∙ i.end_zero;
                order = next_order;
                relaxed_last = λ v a g. omega (arith, x.down v, i.relaxed_last v a g);
                relaxed = next_relaxed;
                attained = next_attained;
              }
