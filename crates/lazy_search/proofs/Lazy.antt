-- The invariant of the lazy search, over any graph: how it begins, that trying a mark and settling one keep it, and what it gives where the search ends.
use mathlib.Core.Path.{◌≡◌, sym, ap, ◌∙◌, subst}
use mathlib.Core.Logic.{◌⊎◌, inl, inr, ⊎_elim}
use mathlib.Core.Bool.{true, false, true≢false}
use mathlib.Core.List.{List, [], ◌∷◌}
use Prim.Native.Nat.{ℕ, ◌+◌, ◌*◌, ◌-◌, ◌≤◌, ◌<◌}
use native.Mathlib.Decide.{ℕ_discrete}
use native.Mathlib.Omega.{arith}
use lib.ListN.{length, set, length-set}
use lib.Seq.{get_or-set_same, get_or-set_other}
use Rattle.paths.specs.Path.{Graph, last, more, NoChain}
use Rattle.paths.specs.inner.LowerBound.{ConsistentBound}
use Rattle.paths.proofs.Short.{chain_two, total_more}
use Rattle.paths.proofs.Labels.{no_chain}
use Rattle.geometry.specs.Words.{word}
use Rattle.search.specs.inner.Keys.{unreached, weight, Vertex, Reaching, Keyed, Searched}
use Rattle.search.proofs.Network.{Sized, vertex_below, not_end, bound_small}
use Rattle.lazy_search.specs.inner.Lazy.{By, Exact, Eased}

-- a lower bound of the cost from each vertex to the end, which no step makes less by more than it costs
pub record Backward (G : Graph) (end : ℕ) (back : ℕ → ℕ) : Type 0 where
  pub none : back end ≡ 0
  pub step : (v u : ℕ) → back v ≤ G.cost v u + back u

-- H are the marks hoped for, T those tried, D those settled; n of the first two kinds are left
pub record Inv (G : Graph) (start end : ℕ) (lead back : ℕ → ℕ) (H T D : ℕ → Type 0) (n : ℕ) (key : List ℕ) : Type 0 where
  pub sized : Sized G start end
  pub leads : ConsistentBound G start lead
  pub backs : Backward G end back
  pub keyed : length key ≡ 240
  pub few : n ≤ 193
  pub hoped_only : (v : ℕ) → H v → Vertex G start v
  pub tried_only : (v : ℕ) → T v → Vertex G start v
  pub target : H start ⊎ T start
  pub inner : (v : ℕ) → D v → (v ≡ end) ⊎ G.Inner v
  pub end_done : D end
  pub covered : (v : ℕ) → Vertex G start v → H v ⊎ (T v ⊎ D v)
  pub top : (v : ℕ) → v < 240 → word key v ≤ unreached
  pub end_zero : word key end ≡ 0
  pub reached : (v : ℕ) → v < 240 → (v ≡ end → ⊥) → word key v < unreached → Vertex G start v
  pub hope : (v : ℕ) → H v → word key v ≡ 256 * back v
  pub floor : (v : ℕ) → T v ⊎ D v → 256 * back v ≤ word key v
  pub order : (s v : ℕ) → G.Inner s → D s → H v ⊎ T v → word key s + 256 * lead s ≤ word key v + 256 * lead v
  pub relaxed : (v s : ℕ) → T v ⊎ D v → D s → G.Edge v s → word key v ≤ weight G v s + word key s
  pub attained : (v : ℕ) → T v → word key v < unreached → Reaching G start end v (word key v) n
  pub chained : (v : ℕ) → (v ≡ end → ⊥) → D v → Reaching G start end v (word key v) (n + 1)

-- u goes over from A to B
pub record Passes (A B A' B' : ℕ → Type 0) (u : ℕ) : Type 0 where
  pub was : A u
  pub lost : (v : ℕ) → A' v → A v × (v ≡ u → ⊥)
  pub kept : (v : ℕ) → A v → (v ≡ u → ⊥) → A' v
  pub got : (v : ℕ) → B' v → (v ≡ u) ⊎ B v
  pub has : B' u
  pub keeps : (v : ℕ) → B v → B' v

-- no mark is of both
abbrev pub Apart : (ℕ → Type 0) → (ℕ → Type 0) → Type 0
Apart A B = (v : ℕ) → A v → B v → ⊥

-- they have the same marks
pub record Same (A B : ℕ → Type 0) : Type 0 where
  pub to : (v : ℕ) → A v → B v
  pub back : (v : ℕ) → B v → A v

-- the invariant goes over to other ways to say which marks are hoped for, tried and settled
pub inv_same : {G : Graph} {start end : ℕ} {lead back : ℕ → ℕ} {H T D H' T' D' : ℕ → Type 0} {n : ℕ} {key : List ℕ} → Same H H' → Same T T' → Same D D'
    → Inv G start end lead back H T D n key → Inv G start end lead back H' T' D' n key
inv_same {H = H} {T} {D} {H'} {T'} {D'} h t d i =
    record {
      sized = i.sized;
      leads = i.leads;
      backs = i.backs;
      keyed = i.keyed;
      few = i.few;
      hoped_only = λ v a. i.hoped_only v (h.back v a);
      tried_only = λ v a. i.tried_only v (t.back v a);
      target = ⊎_elim (λ a. inl (h.to _ a)) (λ a. inr (t.to _ a)) i.target;
      inner = λ v a. i.inner v (d.back v a);
      end_done = d.to _ i.end_done;
      covered = λ v x. ⊎_elim (λ a. inl (h.to v a)) (λ w. inr (⊎_elim (λ a. inl (t.to v a)) (λ a. inr (d.to v a)) w)) (i.covered v x);
      top = i.top;
      end_zero = i.end_zero;
      reached = i.reached;
      hope = λ v a. i.hope v (h.back v a);
      floor = λ v w. i.floor v (behind v w);
      order = λ s v j a w. i.order s v j (d.back s a) (⊎_elim (λ b. inl (h.back v b)) (λ b. inr (t.back v b)) w);
      relaxed = λ v s w a. i.relaxed v s (behind v w) (d.back s a);
      attained = λ v a. i.attained v (t.back v a);
      chained = λ v e a. i.chained v e (d.back v a);
    }
  where
    behind : (v : ℕ) → T' v ⊎ D' v → T v ⊎ D v
    behind v (inl a) = inl (t.back v a)
    behind v (inr a) = inr (d.back v a)

-- a chain of more straights than are left is not needed
fewer : {G : Graph} {start end v k n m : ℕ} → m ≤ n → Reaching G start end v k n → Reaching G start end v k m
fewer l t = record { vertex = t.vertex; by = t.by; chain = t.chain; exact = t.exact; few = omega (arith, t.few); short = t.short }

-- a chain with one straight more in front
longer : {G : Graph} {start end : ℕ} → Sized G start end → (v u : ℕ) {k n m : ℕ} → v < 240 → Vertex G start v → G.Inner u → G.Edge v u → m < n → Reaching G start end u k n
    → Reaching G start end v (weight G v u + k) m
longer {G} {start} {end} z v u b x i g l t =
    let two = chain_two G end t.chain in
    let c = z.cost_small v u b (omega (arith, z.inner_below u i)) in
    let m = total_more G end v t.chain in
    record {
      vertex = x;
      by = v ∷ t.by;
      chain = more i g t.chain;
      exact = omega (arith, t.exact);
      few = omega (arith, t.few);
      short = omega (arith, t.short);
    }

module _ {G : Graph} {start end : ℕ} {lead back : ℕ → ℕ} {H T D : ℕ → Type 0} {n : ℕ} {key : List ℕ} (i : Inv G start end lead back H T D n key) where
  z : Sized G start end
  z = i.sized

  below : (v : ℕ) → Vertex G start v → v < 240
  below v x = vertex_below z v x

  reach_small : (v k m : ℕ) → Reaching G start end v k m → k ≤ 2301429954
  reach_small v k m t = omega (arith, t.exact, t.few, t.short)

  settled_below : (s : ℕ) → D s → s < 240
  settled_below s d = ⊎_elim (λ q. omega (arith, z.end_below)) (λ j. omega (arith, z.inner_below s j)) (i.inner s d)

  back_small : (v : ℕ) → v < 240 → back v ≤ 46340
  back_small v b = omega (arith, i.backs.step v end, i.backs.none, z.cost_small v end b z.end_below)

  -- the key of a settled mark is small
  pub settled_small : (s : ℕ) → D s → word key s ≤ 2301429954
  settled_small s d = elim (ℕ_discrete s end) [ yes q ↦ omega (arith, ap (word key) q, i.end_zero) | no q ↦ reach_small s (word key s) (n + 1) (i.chained s q d) ]

  pub waiting_below : (v : ℕ) → H v ⊎ T v → v < 240
  waiting_below v (inl h) = below v (i.hoped_only v h)
  waiting_below v (inr t) = below v (i.tried_only v t)

  -- a sum of key and bound stays a word
  pub whole_small : (v : ℕ) → H v ⊎ T v → word key v + 256 * lead v ≤ 4011863040
  whole_small v w = let b = waiting_below v w in omega (arith, i.top v b, bound_small z i.leads v b)

  -- a mark that is hoped for is reached
  pub hope_small : (v : ℕ) → H v → word key v + 256 * lead v < unreached
  hope_small v h = let b = below v (i.hoped_only v h) in omega (arith, i.hope v h, back_small v b, bound_small z i.leads v b)

  -- every key is at most that by a clear straight to a settled mark
  by_settled : (v s : ℕ) → Vertex G start v → D s → G.Edge v s → word key v ≤ weight G v s + word key s
  by_settled v s x d g = go (i.covered v x)
    where
      go : H v ⊎ (T v ⊎ D v) → word key v ≤ weight G v s + word key s
      go (inl h) = omega (arith, i.hope v h, i.backs.step v s, i.floor s (inr d))
      go (inr w) = i.relaxed v s w d g

  by_end : (v : ℕ) → Vertex G start v → G.Edge v end → word key v ≤ weight G v end
  by_end v x g = omega (arith, by_settled v end x i.end_done g, i.end_zero)

  -- no mark is left that is reached
  pub none_left : ((v : ℕ) → H v → ⊥) → ((v : ℕ) → T v → unreached ≤ word key v + 256 * lead v) → Searched G start end key false
  none_left no_hope no_way_lem = record { way = λ e. absurd (true≢false (sym e)); no_way = λ e. none }
    where
      not_tried : (v : ℕ) → T v → word key v < unreached → ⊥
      not_tried v t k = omega (arith, no_way_lem v t, bound_small z i.leads v (below v (i.tried_only v t)), reach_small v (word key v) n (i.attained v t k))

      none : NoChain G start end
      none =
          no_chain G start end (λ v. word key v < unreached)
          (λ v x g. omega (arith, by_end v x g, z.cost_small v end (below v x) z.end_below))
          (λ v u x j g k.
          let b : u < 240 = omega (arith, z.inner_below u j) in
          ⊎_elim (λ h. absurd (no_hope u h))
          (λ w. ⊎_elim (λ t. absurd (not_tried u t k)) (λ d. omega (arith, by_settled v u x d g, settled_small u d, z.cost_small v u (below v x) b)) w)
          (i.covered u (inr j)))
          (λ k. ⊎_elim (λ h. no_hope start h) (λ t. not_tried start t k) i.target)

  -- the first end is the next to be settled
  pub start_next : 1 ≤ n → T start → word key start < unreached → ((v : ℕ) → H v ⊎ T v → word key start ≤ word key v + 256 * lead v) → Searched G start end key true
  start_next some tried reached least = record { way = λ e. keys; no_way = λ e. absurd (true≢false e) }
    where
      settled : (v : ℕ) → Vertex G start v → word key v + 256 * lead v < word key start → D v
      settled v x k =
          ⊎_elim (λ h. absurd (omega (arith, least v (inl h)))) (λ w. ⊎_elim (λ t. absurd (omega (arith, least v (inr t)))) (λ d. d) w) (i.covered v x)

      final : (v : ℕ) → v < 240 → (v ≡ end → ⊥) → (v ≡ start) ⊎ (word key v + 256 * lead v < word key start) → Reaching G start end v (word key v) n
      final v b e (inl q) = subst (λ (w : ℕ). Reaching G start end w (word key w) n) (sym q) (i.attained start tried reached)
      final v b e (inr k) = fewer (omega arith) (i.chained v e (settled v (i.reached v b e (omega arith)) k))

      keys : Keyed G start end key
      keys =
          record {
            sized = i.keyed;
            end_zero = i.end_zero;
            reached = reached;
            relaxed_last = by_end;
            bound = lead;
            consistent = i.leads;
            relaxed = λ v u x j g k. by_settled v u x (settled u (inr j) k) g;
            attained = λ v b e k.
                let t = final v b e k in
                record { vertex = t.vertex; by = t.by; chain = t.chain; exact = t.exact; few = omega (arith, t.few) };
          }

  -- a mark that was hoped for is tried: its straights to settled marks are tested
  module _ {H' T' D' : ℕ → Type 0} {u k : ℕ} (p : Passes H T H' T' u) (s : Same D D') (not_tried : T u → ⊥) (not_done : D u → ⊥) (x : Exact G D key u k) where
    u_vertex : Vertex G start u
    u_vertex = i.hoped_only u p.was

    u_below : u < 240
    u_below = below u u_vertex

    abbrev key' : List ℕ
    key' = set key u k

    here : (v : ℕ) → v ≡ u → word key' v ≡ k
    here v q = ap (word key') q ∙ get_or-set_same key u k 0 (omega (arith, i.keyed, u_below))

    there : (v : ℕ) → (v ≡ u → ⊥) → word key' v ≡ word key v
    there v h = get_or-set_other key u v k 0 h

    done_there : (v : ℕ) → D v → word key' v ≡ word key v
    done_there v d = there v (λ q. not_done (subst D q d))

    -- the chain by which u is reached
    made : By G D key u k → Reaching G start end u k n
    made b = go (i.inner b.mark b.has)
      where
        go : (b.mark ≡ end) ⊎ G.Inner b.mark → Reaching G start end u k n
        go (inl q) =
            let g : G.Edge u end = subst (λ (w : ℕ). G.Edge u w) q b.edge in
            let e : k ≡ weight G u end = omega (arith, b.sum, ap (λ (w : ℕ). weight G u w + word key w) q, i.end_zero) in
            let c = z.cost_small u end u_below z.end_below in
            record { vertex = u_vertex; by = u ∷ end ∷ []; chain = last g; exact = omega arith; few = omega (arith, i.few); short = omega arith }
        go (inr j) =
            subst (λ (w : ℕ). Reaching G start end u w n) (sym b.sum)
            (longer z u b.mark u_below u_vertex j b.edge (omega arith) (i.chained b.mark (not_end z b.mark (inr j)) b.has))

    rise : 256 * back u ≤ k
    rise =
        ⊎_elim (λ e. omega (arith, back_small u u_below))
        (λ b. omega (arith, b.sum, i.backs.step u b.mark, i.floor b.mark (inr b.has))) x.came

    tried_before : (v : ℕ) → T' v → (v ≡ u → ⊥) → T v
    tried_before v t h = ⊎_elim (λ q. absurd (h q)) (λ w. w) (p.got v t)

    tried_or_done : (v : ℕ) → T' v ⊎ D' v → (v ≡ u → ⊥) → T v ⊎ D v
    tried_or_done v (inl t) h = inl (tried_before v t h)
    tried_or_done v (inr d) h = inr (s.back v d)

    next_order : (w v : ℕ) → G.Inner w → D' w → H' v ⊎ T' v → word key' w + 256 * lead w ≤ word key' v + 256 * lead v
    next_order w v j d o = go (ℕ_discrete v u)
      where
        old : (v ≡ u → ⊥) → H' v ⊎ T' v → H v ⊎ T v
        old h (inl a) = inl (p.lost v a).0
        old h (inr t) = inr (tried_before v t h)

        go : Dec (v ≡ u) → word key' w + 256 * lead w ≤ word key' v + 256 * lead v
        go (yes q) =
            omega (arith, done_there w (s.back w d), here v q, rise, i.hope u p.was, i.order w u j (s.back w d) (inl p.was), ap lead q)
        go (no q) = omega (arith, done_there w (s.back w d), there v q, i.order w v j (s.back w d) (old q o))

    pub tried_next : Inv G start end lead back H' T' D' n key'
    tried_next =
        record {
          sized = z;
          leads = i.leads;
          backs = i.backs;
          keyed = length-set key u k ∙ i.keyed;
          few = i.few;
          hoped_only = λ v h. i.hoped_only v (p.lost v h).0;
          tried_only = λ v t. elim (ℕ_discrete v u) [ yes q ↦ subst (Vertex G start) (sym q) u_vertex | no q ↦ i.tried_only v (tried_before v t q) ];
          target =
              elim (ℕ_discrete start u) [
                | yes q ↦ inr (subst T' (sym q) p.has)
                | no q ↦ ⊎_elim (λ h. inl (p.kept start h q)) (λ t. inr (p.keeps start t)) i.target
              ];
          inner = λ v d. i.inner v (s.back v d);
          end_done = s.to end i.end_done;
          covered = λ v y.
              elim (ℕ_discrete v u) [
                | yes q ↦ inr (inl (subst T' (sym q) p.has))
                | no q ↦ ⊎_elim (λ h. inl (p.kept v h q)) (λ w. inr (⊎_elim (λ t. inl (p.keeps v t)) (λ d. inr (s.to v d)) w)) (i.covered v y)
              ];
          top = λ v b. elim (ℕ_discrete v u) [ yes q ↦ omega (arith, here v q, x.down) | no q ↦ omega (arith, there v q, i.top v b) ];
          end_zero = done_there end i.end_done ∙ i.end_zero;
          reached = λ v b e h.
              elim (ℕ_discrete v u) [
                | yes q ↦ subst (Vertex G start) (sym q) u_vertex
                | no q ↦ let t = there v q in i.reached v b e (omega arith)
              ];
          hope = λ v h. there v (p.lost v h).1 ∙ i.hope v (p.lost v h).0;
          floor = λ v w. elim (ℕ_discrete v u) [ yes q ↦ omega (arith, here v q, rise, ap back q) | no q ↦ omega (arith, there v q, i.floor v (tried_or_done v w q)) ];
          order = next_order;
          relaxed = λ v w o d g.
              let old = s.back w d in
              elim (ℕ_discrete v u) [
                | yes q ↦
                    omega (arith, here v q, done_there w old, x.short w old (subst (λ (y : ℕ). G.Edge y w) q g), ap (λ (y : ℕ). weight G y w) q)
                | no q ↦ omega (arith, there v q, done_there w old, i.relaxed v w (tried_or_done v o q) old g)
              ];
          attained = λ v t h.
              elim (ℕ_discrete v u) [
                | yes q ↦
                    let e = here v q in
                    subst (λ (y : ℕ). Reaching G start end v y n) (sym e)
                    (subst (λ (y : ℕ). Reaching G start end y k n) (sym q) (⊎_elim (λ w. absurd (omega arith)) made x.came))
                | no q ↦
                    let e = there v q in
                    subst (λ (y : ℕ). Reaching G start end v y n) (sym e) (i.attained v (tried_before v t q) (omega arith))
              ];
          chained = λ v e d.
              let old = s.back v d in
              subst (λ (y : ℕ). Reaching G start end v y (n + 1)) (sym (done_there v old)) (i.chained v e old);
        }

  -- a mark that was tried, the least of all that are left, is settled
  module _ {H' T' D' : ℕ → Type 0} {u : ℕ} {key' : List ℕ} (p : Passes T D T' D' u) (s : Same H H') (ne : u ≡ start → ⊥) (reached : word key u < unreached)
      (least : (v : ℕ) → H v ⊎ T v → word key u + 256 * lead u ≤ word key v + 256 * lead v) (not-hoped : Apart H T) (not_done : Apart T D)
      (x : Eased G T' key key' u (word key u)) where
    t_vertex : Vertex G start u
    t_vertex = i.tried_only u p.was

    u_inner : G.Inner u
    u_inner = ⊎_elim (λ q. absurd (ne q)) (λ j. j) t_vertex

    t_below : u < 240
    t_below = below u t_vertex

    chain : Reaching G start end u (word key u) n
    chain = i.attained u p.was reached

    same_key : (v : ℕ) → (T' v → ⊥) → word key' v ≡ word key v
    same_key v h = ⊎_elim (λ q. q) (λ w. absurd (h w.0)) (x.came v)

    hope_key : (v : ℕ) → H v → word key' v ≡ word key v
    hope_key v h = same_key v (λ t. not-hoped v h (p.lost v t).0)

    done_key : (v : ℕ) → D' v → word key' v ≡ word key v
    done_key v d = same_key v (λ t. ⊎_elim (λ q. (p.lost v t).1 q) (λ w. not_done v (p.lost v t).0 w) (p.got v d))

    -- settled marks come before u
    before : (w : ℕ) → G.Inner w → D' w → word key w + 256 * lead w ≤ word key u + 256 * lead u
    before w j d = ⊎_elim (λ q. omega (arith, ap (λ (y : ℕ). word key y + 256 * lead y) q)) (λ o. i.order w u j o (inr p.was)) (p.got w d)

    waiting_before : (v : ℕ) → H' v ⊎ T' v → H v ⊎ T v
    waiting_before v (inl h) = inl (s.back v h)
    waiting_before v (inr t) = inr (p.lost v t).0

    settle_order : (w v : ℕ) → G.Inner w → D' w → H' v ⊎ T' v → word key' w + 256 * lead w ≤ word key' v + 256 * lead v
    settle_order w v j d o =
        let a = done_key w d in
        let b = before w j d in
        ⊎_elim (λ q. omega (arith, least v (waiting_before v o))) (λ y. omega (arith, y.2, i.leads.step v u)) (x.came v)

    -- a settled mark has no better way by u
    done_by_u : (v : ℕ) → D v → word key v ≤ weight G v u + word key u
    done_by_u v d = ⊎_elim (λ q. omega (arith, ap (word key) q, i.end_zero)) (λ j. omega (arith, i.order v u j d (inr p.was), i.leads.step v u)) (i.inner v d)

    by_u : (v : ℕ) → T' v ⊎ D' v → G.Edge v u → word key' v ≤ weight G v u + word key u
    by_u v (inl t) g = x.short v t g
    by_u v (inr d) g =
        ⊎_elim (λ q. omega (arith, x.down v, ap (word key) q)) (λ w. omega (arith, x.down v, done_by_u v w)) (p.got v d)

    old_either : (v : ℕ) → T' v ⊎ D' v → T v ⊎ D v
    old_either v (inl t) = inl (p.lost v t).0
    old_either v (inr d) = ⊎_elim (λ q. inl (subst T (sym q) p.was)) (λ w. inr w) (p.got v d)

    settle_relaxed : (v w : ℕ) → T' v ⊎ D' v → D' w → G.Edge v w → word key' v ≤ weight G v w + word key' w
    settle_relaxed v w o d g =
        let a = done_key w d in
        ⊎_elim
        (λ q. omega (arith, by_u v o (subst (λ (y : ℕ). G.Edge v y) q g), ap (λ (y : ℕ). weight G v y + word key y) q))
        (λ e. omega (arith, x.down v, i.relaxed v w (old_either v o) e g))
        (p.got w d)

    settle_attained : 1 ≤ n → (v : ℕ) → T' v → word key' v < unreached → Reaching G start end v (word key' v) (n - 1)
    settle_attained l v t h =
        ⊎_elim
        (λ q. subst (λ (y : ℕ). Reaching G start end v y (n - 1)) (sym q) (fewer (omega arith) (i.attained v (p.lost v t).0 (omega arith))))
        (λ y. subst (λ (k : ℕ). Reaching G start end v k (n - 1)) (sym y.2)
        (longer z v u (below v (i.tried_only v (p.lost v t).0)) (i.tried_only v (p.lost v t).0) u_inner y.1 (omega arith) chain))
        (x.came v)

    settle_chained : 1 ≤ n → (v : ℕ) → (v ≡ end → ⊥) → D' v → Reaching G start end v (word key' v) (n - 1 + 1)
    settle_chained l v e d =
        subst (λ (y : ℕ). Reaching G start end v y (n - 1 + 1)) (sym (done_key v d))
        (⊎_elim (λ q. subst (λ (y : ℕ). Reaching G start end y (word key y) (n - 1 + 1)) (sym q) (fewer (omega arith) chain)) (λ w. fewer (omega arith) (i.chained v e w)) (p.got v d))

    settle_floor : (v : ℕ) → T' v ⊎ D' v → 256 * back v ≤ word key' v
    settle_floor v o =
        ⊎_elim (λ q. omega (arith, i.floor v (old_either v o)))
        (λ y. omega (arith, y.2, i.backs.step v u, i.floor u (inl p.was))) (x.came v)

    pub settled_next : 1 ≤ n → Inv G start end lead back H' T' D' (n - 1) key'
    settled_next l =
        record {
          sized = z;
          leads = i.leads;
          backs = i.backs;
          keyed = x.sized ∙ i.keyed;
          few = omega (arith, i.few);
          hoped_only = λ v h. i.hoped_only v (s.back v h);
          tried_only = λ v t. i.tried_only v (p.lost v t).0;
          target = ⊎_elim (λ h. inl (s.to start h)) (λ t. inr (p.kept start t (λ q. ne (sym q)))) i.target;
          inner = λ v d. ⊎_elim (λ q. inr (subst G.Inner (sym q) u_inner)) (λ w. i.inner v w) (p.got v d);
          end_done = p.keeps end i.end_done;
          covered = λ v y.
              ⊎_elim (λ h. inl (s.to v h))
              (λ w.
              inr
              (⊎_elim
              (λ t. elim (ℕ_discrete v u) [ yes q ↦ inr (subst D' (sym q) p.has) | no q ↦ inl (p.kept v t q) ])
              (λ d. inr (p.keeps v d)) w))
              (i.covered v y);
          top = λ v b. omega (arith, x.down v, i.top v b);
          end_zero = done_key end (p.keeps end i.end_done) ∙ i.end_zero;
          reached = λ v b e h. ⊎_elim (λ q. i.reached v b e (omega arith)) (λ y. i.tried_only v (p.lost v y.0).0) (x.came v);
          hope = λ v h. hope_key v (s.back v h) ∙ i.hope v (s.back v h);
          floor = settle_floor;
          order = settle_order;
          relaxed = settle_relaxed;
          attained = settle_attained l;
          chained = settle_chained l;
        }
