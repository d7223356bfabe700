-- Labels of vertices, by which a search backwards from the end that may stop early finds the route.
use mathlib.Core.Path.{◌≡◌, refl, sym, ap, ◌∙◌, subst}
use mathlib.Core.Logic.{◌⊎◌, inl, inr, ⊎_elim}
use mathlib.Core.List.{List, [], ◌∷◌}
use Prim.Native.Nat.{ℕ, ◌+◌, ◌-◌, ◌≤◌, ◌<◌}
use native.Mathlib.Decide.{dec_lt}
use native.Mathlib.Omega.{arith}
use lib.ListN.{length}
use Rattle.paths.specs.Path.{Graph, Chain, last, more, NoLater, same, less, then, NoWorse, cheaper, shorter, earlier, IsRoute, NoChain, total}
use Rattle.paths.specs.inner.LowerBound.{ConsistentBound}
use Rattle.paths.proofs.Short.{chain_two, total_more}

-- a chain's cost with its number of edges, ordered by cost and then by edges
pub record Label : Type 0 where
  pub len : ℕ
  pub hops : ℕ

abbrev pub label : ℕ → ℕ → Label
label l h = record { len = l; hops = h }

pub label_eq : {a b : Label} → a.len ≡ b.len → a.hops ≡ b.hops → a ≡ b
label_eq p q = λ i. record { len = p i; hops = q i }

-- one edge of cost c, and then a
abbrev pub hop : ℕ → Label → Label
hop c a = label (c + a.len) (1 + a.hops)

infix 50 ◌≼◌
pub data ◌≼◌ (a b : Label) : Type 0 where
  lower : a.len < b.len → a ≼ b
  tied : a.len ≡ b.len → a.hops ≤ b.hops → a ≼ b

pub ≼_trans : {a b c : Label} → a ≼ b → b ≼ c → a ≼ c
≼_trans (lower p) (lower q) = lower (omega arith)
≼_trans (lower p) (tied q r) = lower (omega arith)
≼_trans (tied p r) (lower q) = lower (omega arith)
≼_trans (tied p r) (tied q s) = tied (omega arith) (omega arith)

pub ≼-antisym : {a b : Label} → a ≼ b → b ≼ a → a ≡ b
≼-antisym (lower p) (lower q) = absurd (omega arith)
≼-antisym (lower p) (tied q r) = absurd (omega arith)
≼-antisym (tied p r) (lower q) = absurd (omega arith)
≼-antisym (tied p r) (tied q s) = label_eq p (omega arith)

pub hop_mono : {a b : Label} (c : ℕ) → a ≼ b → hop c a ≼ hop c b
hop_mono c (lower p) = lower (omega arith)
hop_mono c (tied p q) = tied (omega arith) (omega arith)

pub hop_cancel : {a b : Label} (c : ℕ) → hop c a ≡ hop c b → a ≡ b
hop_cancel {a} {b} c e =
    let p : c + a.len ≡ c + b.len = ap (λ (x : Label). x.len) e in
    let q : 1 + a.hops ≡ 1 + b.hops = ap (λ (x : Label). x.hops) e in
    label_eq (omega arith) (omega arith)

-- a with k more to go
abbrev pub raise : ℕ → Label → Label
raise k a = label (k + a.len) a.hops

raise_mono : {a b : Label} (k : ℕ) → a ≼ b → raise k a ≼ raise k b
raise_mono k (lower p) = lower (omega arith)
raise_mono k (tied p q) = tied (omega arith) q

raise_none : {a b : Label} (k : ℕ) → k ≡ 0 → a ≼ raise k b → a ≼ b
raise_none k e (lower p) = lower (omega arith)
raise_none k e (tied p q) = tied (omega arith) q

-- an edge makes a label strictly larger, also with what is still to go
raise_up : (j k c : ℕ) (a : Label) → k ≤ c + j → raise k a ≼ raise j (hop c a)
raise_up j k c a l = elim (dec_lt (k + a.len) (j + (c + a.len))) [ yes h ↦ lower h | no h ↦ tied (omega arith) (omega arith) ]

raise_above : {a : Label} (j k c : ℕ) (b : Label) → k ≤ c + j → a ≼ raise k b → raise j (hop c b) ≼ a → ⊥
raise_above j k c b l (lower p) (lower q) = omega arith
raise_above j k c b l (lower p) (tied q r) = omega arith
raise_above j k c b l (tied p s) (lower q) = omega arith
raise_above j k c b l (tied p s) (tied q r) = omega arith

-- the label of a list of vertices, its first and last counted
abbrev pub label_of : (ℕ → ℕ → ℕ) → List ℕ → Label
label_of cost us = label (total cost us) (length us - 1)

module _ (G : Graph) (end : ℕ) where
  pub label_more : (v : ℕ) {u : ℕ} {us : List ℕ} → Chain G end u us → label_of G.cost (v ∷ us) ≡ hop (G.cost v u) (label_of G.cost us)
  label_more v c = label_eq (total_more G end v c) (omega (arith, chain_two G end c))

  -- a chain's list begins with its first vertex
  abbrev Begins : ℕ → List ℕ → Type 0
  Begins v us = (rest : List ℕ) × (us ≡ v ∷ rest)

  begins : {v : ℕ} {us : List ℕ} → Chain G end v us → Begins v us
  begins (last e) = (end ∷ [], refl)
  begins (more {us} i e c) = (us, refl)

  later : {u w : ℕ} {us ws : List ℕ} → Begins u us → Begins w ws → u < w → NoLater us ws
  later b c l = rw (b.1, c.1) (less l)

module _ (G : Graph) (start end : ℕ) where
  -- the vertices that a chain from start leaves
  abbrev pub Source : ℕ → Type 0
  Source v = (v ≡ start) ⊎ G.Inner v

  -- where start is not among the vertices that reach the end there is no chain
  pub no_chain : (Reached : ℕ → Type 0) → ((v : ℕ) → Source v → G.Edge v end → Reached v)
      → ((v u : ℕ) → Source v → G.Inner u → G.Edge v u → Reached u → Reached v) → (Reached start → ⊥) → NoChain G start end
  no_chain Reached l m n vs c = n (reach (inl refl) c)
    where
      reach : {v : ℕ} {us : List ℕ} → Source v → Chain G end v us → Reached v
      reach s (last {v} e) = l v s e
      reach s (more {v} {u} i e c) = m v u s i e (reach (inr i) c)

  -- labels of which those of settled vertices have been passed on: with the bound, no vertex that is not settled has a label below start's
  pub record Settled (Done : ℕ → Type 0) (L : ℕ → Label) : Type 0 where
    pub end_zero : L end ≡ label 0 0
    pub relaxed_last : (v : ℕ) → Source v → G.Edge v end → L v ≼ hop (G.cost v end) (L end)
    pub relaxed : (v u : ℕ) → Source v → G.Inner u → G.Edge v u → Done u → L v ≼ hop (G.cost v u) (L u)
    pub bound : ℕ → ℕ
    pub consistent : ConsistentBound G start bound
    pub open' : (u : ℕ) → G.Inner u → Done u ⊎ (L start ≼ raise (bound u) (L u))

  module _ (Done : ℕ → Type 0) (L : ℕ → Label) (ls : Settled Done L) where
    last_label : (v : ℕ) → label_of G.cost (v ∷ end ∷ []) ≡ hop (G.cost v end) (L end)
    last_label v = ap (hop (G.cost v end)) (sym ls.end_zero)

    abbrev far : ℕ → Label → Label
    far v a = raise (ls.bound v) a

    further : (v u : ℕ) (a : Label) → far u a ≼ far v (hop (G.cost v u) a)
    further v u a = raise_up (ls.bound v) (ls.bound u) (G.cost v u) a (ls.consistent.step v u)

    -- no chain is below the label of its first vertex, but those that, with the bound, start is not above
    pub least_or : {v : ℕ} {us : List ℕ} → Source v → Chain G end v us → (L v ≼ label_of G.cost us) ⊎ (L start ≼ far v (label_of G.cost us))
    least_or s (last {v} e) = inl (rw (last_label v) (ls.relaxed_last v s e))
    least_or s (more {v} {u} {us} i e c) =
        subst (λ (l : Label). (L v ≼ l) ⊎ (L start ≼ far v l)) (sym (label_more G end v c)) (go (ls.open' u i) (least_or (inr i) c))
      where
        go : Done u ⊎ (L start ≼ far u (L u)) → (L u ≼ label_of G.cost us) ⊎ (L start ≼ far u (label_of G.cost us))
            → (L v ≼ hop (G.cost v u) (label_of G.cost us)) ⊎ (L start ≼ far v (hop (G.cost v u) (label_of G.cost us)))
        go d (inr h) = inr (≼_trans h (further v u (label_of G.cost us)))
        go (inl d) (inl h) = inl (≼_trans (ls.relaxed v u s i e d) (hop_mono (G.cost v u) h))
        go (inr o) (inl h) = inr (≼_trans (≼_trans o (raise_mono (ls.bound u) h)) (further v u (label_of G.cost us)))

    pub least : {us : List ℕ} → Chain G end start us → L start ≼ label_of G.cost us
    least c = ⊎_elim (λ h. h) (λ h. raise_none (ls.bound start) ls.consistent.none h) (least_or (inl refl) c)

    -- a next vertex by which the labels add up
    pub record Tight (v u : ℕ) : Type 0 where
      pub next : (u ≡ end) ⊎ (G.Inner u × Done u)
      pub edge : G.Edge v u
      pub sum : L v ≡ hop (G.cost v u) (L u)

    -- the first edge of a chain that has its vertex's label is tight, and the rest has the label of the next vertex
    pub record First (v u : ℕ) (us : List ℕ) : Type 0 where
      pub tight : Tight v u
      pub rest : label_of G.cost us ≡ L u

    pub first_last : {v : ℕ} → G.Edge v end → label_of G.cost (v ∷ end ∷ []) ≡ L v → Tight v end
    first_last {v} e q = record { next = inl refl; edge = e; sum = sym q ∙ last_label v }

    pub first_more : {v u : ℕ} {us : List ℕ} → Source v → far v (L v) ≼ L start → G.Inner u → G.Edge v u → Chain G end u us
        → label_of G.cost (v ∷ us) ≡ L v → First v u us
    first_more {v} {u} {us} s b i e c q = go (least_or (inr i) c)
      where
        whole : hop (G.cost v u) (label_of G.cost us) ≡ L v
        whole = sym (label_more G end v c) ∙ q

        not_start : L start ≼ far u (label_of G.cost us) → ⊥
        not_start h = raise_above (ls.bound v) (ls.bound u) (G.cost v u) (label_of G.cost us) (ls.consistent.step v u) h (subst (λ (l : Label). far v l ≼ L start) (sym whole) b)

        go : (L u ≼ label_of G.cost us) ⊎ (L start ≼ far u (label_of G.cost us)) → First v u us
        go (inr h) = absurd (not_start h)
        go (inl h) = with_done (ls.open' u i)
          where
            with_done : Done u ⊎ (L start ≼ far u (L u)) → First v u us
            with_done (inr o) = absurd (not_start (≼_trans o (raise_mono (ls.bound u) h)))
            with_done (inl d) =
                let r : label_of G.cost us ≡ L u =
                hop_cancel (G.cost v u)
                (≼-antisym
                (subst (λ (l : Label). l ≼ hop (G.cost v u) (L u)) (sym whole) (ls.relaxed v u s i e d))
                (hop_mono (G.cost v u) h)) in
                record { tight = record { next = inr (i, d); edge = e; sum = sym whole ∙ ap (hop (G.cost v u)) r }; rest = r }

    -- the walk that takes the lowest tight next vertex each time
    pub data Walk : ℕ → List ℕ → Type 0 where
      arrive : {v : ℕ} → Tight v end → ((w : ℕ) → Tight v w → end ≤ w) → Walk v (v ∷ end ∷ [])
      onward : {v u : ℕ} {us : List ℕ} → G.Inner u → Tight v u → ((w : ℕ) → Tight v w → u ≤ w) → Walk u us → Walk v (v ∷ us)

    pub walk_chain : {v : ℕ} {us : List ℕ} → Walk v us → Chain G end v us
    walk_chain (arrive t m) = last t.edge
    walk_chain (onward i t m w) = more i t.edge (walk_chain w)

    pub walk_label : {v : ℕ} {us : List ℕ} → Walk v us → label_of G.cost us ≡ L v
    walk_label (arrive {v} t m) = last_label v ∙ sym t.sum
    walk_label (onward {v} {u} i t m w) = label_more G end v (walk_chain w) ∙ ap (hop (G.cost v u)) (walk_label w) ∙ sym t.sum

    -- no chain from the end has the end's label
    not_zero : {us : List ℕ} → Chain G end end us → label_of G.cost us ≡ L end → ⊥
    not_zero c q = omega (arith, chain_two G end c, ap (λ (l : Label). l.hops) (q ∙ ls.end_zero))

    -- a label along the walk, with the bound, is at most start's
    tight_below : {v u : ℕ} → Tight v u → far v (L v) ≼ L start → far u (L u) ≼ L start
    tight_below {v} {u} t b = ≼_trans (further v u (L u)) (subst (λ (l : Label). far v l ≼ L start) t.sum b)

    start_below : far start (L start) ≼ L start
    start_below = tied (omega (arith, ls.consistent.none)) (omega arith)

    -- of the chains with its label, the walk is the first in order
    pub walk_first : {v : ℕ} {us ws : List ℕ} → Source v → far v (L v) ≼ L start → Walk v us → Chain G end v ws → label_of G.cost ws ≡ L v → NoLater us ws
    walk_first s b (arrive t m) (last e) q = same
    walk_first s b (arrive t m) (more {v} {u} {us} i e c) q =
        let f = first_more s b i e c q in
        let h = m u f.tight in
        elim (dec_lt end u) [
          | yes l ↦ then (later G end ([], refl) (begins G end c) l)
          | no l ↦
              let z : u ≡ end = omega arith in
              absurd (not_zero (subst (λ (k : ℕ). Chain G end k us) z c) (f.rest ∙ ap L z))
        ]
    walk_first s b (onward {v} {u} {us} i t m w) (last e) q =
        let h = m end (first_last e q) in
        elim (dec_lt u end) [
          | yes l ↦ then (later G end (begins G end (walk_chain w)) ([], refl) l)
          | no l ↦
              let z : u ≡ end = omega arith in
              absurd (not_zero (subst (λ (k : ℕ). Chain G end k us) z (walk_chain w)) (walk_label w ∙ ap L z))
        ]
    walk_first s b (onward {v} {u} {us} i t m w) (more {u = x} {us = ws} j e c) q =
        let f = first_more s b j e c q in
        let h = m x f.tight in
        elim (dec_lt u x) [
          | yes l ↦ then (later G end (begins G end (walk_chain w)) (begins G end c) l)
          | no l ↦
              let z : x ≡ u = omega arith in
              then (walk_first (inr i) (tight_below t b) w (subst (λ (k : ℕ). Chain G end k ws) z c) (f.rest ∙ ap L z))
        ]

    pub walk_route : {us : List ℕ} → Walk start us → IsRoute G start end us
    walk_route {us} w = record { chain = walk_chain w; best = λ vs c. go vs c (subst (λ (l : Label). l ≼ label_of G.cost vs) (sym (walk_label w)) (least c)) }
      where
        go : (vs : List ℕ) → Chain G end start vs → label_of G.cost us ≼ label_of G.cost vs → NoWorse G.cost us vs
        go vs c (lower l) = cheaper l
        go vs c (tied l h) =
            let two = chain_two G end c in
            let also = chain_two G end (walk_chain w) in
            elim (dec_lt (length us) (length vs)) [
              | yes k ↦ shorter l k
              | no k ↦
                  let n : length us ≡ length vs = omega arith in
                  let q : label_of G.cost vs ≡ label_of G.cost us = label_eq (sym l) (omega arith) in
                  earlier l n (walk_first (inl refl) start_below w c (q ∙ walk_label w))
            ]
