-- Keys that are relaxed are least, and the walk by them that takes the lowest next crossing is the best path.
use mathlib.Core.Path.{◌≡◌, refl, sym, ap, ◌∙◌, subst}
use mathlib.Core.Logic.{⊎_elim}
use mathlib.Core.List.{List, [], ◌∷◌}
use Prim.Native.Nat.{ℕ, ◌+◌, ◌*◌, ◌≤◌, ◌<◌}
use native.Mathlib.Omega.{arith}
use native.Mathlib.Decide.{dec_lt}
use lib.ListN.{length}
use Rattle.paths.specs.Path.{NoLater, same, less, then}
use Rattle.paths.proofs.Short.{Apart, pigeon}
use Rattle.paths.proofs.Order.{no_later_antisym}
use Rattle.nets.specs.inner.Keys.{weight, key_from, Attained, Relaxed, Tight}
use Rattle.nets.specs.Net.{Net, Path, arrive, onward, unmoved, turn, changes, cost, NoWorse, cheaper, straighter, earlier, IsBest}
use Rattle.nets.proofs.Sums.{turn_between, key_is, key_cost, key_more, changes_few}
use Rattle.nets.proofs.Cuts.{Sized, Cut, cut}

-- there is at most one best path
pub no_worse_antisym : (G : Net) {us vs : List ℕ} → NoWorse G us vs → NoWorse G vs us → us ≡ vs
no_worse_antisym G (cheaper a) (cheaper b) = absurd (omega arith)
no_worse_antisym G (cheaper a) (straighter b c) = absurd (omega arith)
no_worse_antisym G (cheaper a) (earlier b c d) = absurd (omega arith)
no_worse_antisym G (straighter a b) (cheaper c) = absurd (omega arith)
no_worse_antisym G (straighter a b) (straighter c d) = absurd (omega arith)
no_worse_antisym G (straighter a b) (earlier c d e) = absurd (omega arith)
no_worse_antisym G (earlier a b c) (cheaper d) = absurd (omega arith)
no_worse_antisym G (earlier a b c) (straighter d e) = absurd (omega arith)
no_worse_antisym G (earlier a b c) (earlier d e f) = no_later_antisym c f

pub best_one : (G : Net) (start end : ℕ) {us vs : List ℕ} → IsBest G start end us → IsBest G start end vs → us ≡ vs
best_one G start end {us} {vs} r s = no_worse_antisym G (r.best vs s.path) (s.best us r.path)

-- the walk that takes the lowest tight next crossing each time
pub data Walk (G : Net) (end : ℕ) (L : ℕ → ℕ → ℕ) : ℕ → ℕ → List ℕ → Type 0 where
  stop : {a : ℕ} → G.Stop end → Walk G end L a end (end ∷ [])
  move : {a v u : ℕ} {us : List ℕ} → Tight G L a v u → ((w : ℕ) → Tight G L a v w → u ≤ w) → Walk G end L (G.axis v u) u us → Walk G end L a v (v ∷ us)

-- the step before a path changes its key by no more than a change of direction
pub key_turn : (G : Net) (end a b : ℕ) → b ≤ 1 → {v : ℕ} {us : List ℕ} → Path G end v us → key_from G a us ≤ 1638401 * turn a b + key_from G b us
unfolding key_from weight
key_turn G end a b l (arrive s) = omega arith
key_turn G end a b l (onward {v} {u} s p) = omega (arith, key_more G end a v p, key_more G end b v p, turn_between a b (G.axis v u) l)

module _ (G : Net) (end bound : ℕ) (z : Sized G bound) (L : ℕ → ℕ → ℕ) (r : Relaxed G end L) where
  pub weight_up : (a v u : ℕ) → G.Step v u → 65536 ≤ weight G a v u
  unfolding weight
  weight_up a v u s = omega (arith, z.far v u s)

  flat : (v u : ℕ) → G.axis v u ≤ 2
  flat v u = omega (arith, z.flat v u)

  -- no path is below its key
  pub least : (a : ℕ) → a ≤ 2 → {v : ℕ} {us : List ℕ} → Path G end v us → L a v ≤ key_from G a us
  least a l (arrive s) = omega (arith, r.at_end a l)
  least a l (onward {v} {u} s p) = omega (arith, r.by_step a v u l s, least (G.axis v u) (flat v u) p, key_more G end a v p)

  -- a path of at most its crossing's key has it
  pub reached : (a v : ℕ) → a ≤ 2 → (h : Attained G end a v (L a v)) → key_from G a h.by ≡ L a v
  reached a v l h = omega (arith, least a l h.path)

  pub walk_path : {a v : ℕ} {us : List ℕ} → Walk G end L a v us → Path G end v us
  walk_path (stop s) = arrive s
  walk_path (move t m w) = onward t.step (walk_path w)

  pub walk_key : {a v : ℕ} {us : List ℕ} → a ≤ 2 → Walk G end L a v us → key_from G a us ≡ L a v
  unfolding key_from
  walk_key {a} l (stop s) = sym (r.at_end a l)
  walk_key {a} l (move {v = v} {u = u} t m w) = omega (arith, key_more G end a v (walk_path w), walk_key (flat v u) w, t.sum)

  -- the first step of a path that has its crossing's key is tight, and the rest has the key of the next crossing
  pub record First (a v u : ℕ) (us : List ℕ) : Type 0 where
    pub tight : Tight G L a v u
    pub rest : key_from G (G.axis v u) us ≡ L (G.axis v u) u

  pub first : (a : ℕ) → a ≤ 2 → {v u : ℕ} {us : List ℕ} → G.Step v u → Path G end u us → key_from G a (v ∷ us) ≡ L a v → First a v u us
  first a l {v} {u} s p q =
      let h = least (G.axis v u) (flat v u) p in
      let k = r.by_step a v u l s in
      let m = key_more G end a v p in
      record { tight = record { step = s; sum = omega arith }; rest = omega arith }

  -- nothing is tight after the end
  pub end_loose : (a : ℕ) → a ≤ 2 → (v u : ℕ) → v ≡ end → Tight G L a v u → ⊥
  end_loose a l v u q t = let e : L a v ≡ 0 = ap (L a) q ∙ r.at_end a l in omega (arith, t.sum, weight_up a v u t.step)

  begins : {v : ℕ} {us : List ℕ} → Path G end v us → (rest : List ℕ) × (us ≡ v ∷ rest)
  begins (arrive s) = ([], refl)
  begins (onward {us = us} s p) = (us, refl)

  later : {u w : ℕ} {us ws : List ℕ} → Path G end u us → Path G end w ws → u < w → NoLater us ws
  later p q l = rw ((begins p).1, (begins q).1) (less l)

  -- of the paths with its key from the same crossing, the walk is the first in order
  first_from : (a : ℕ) → a ≤ 2 → {v t : ℕ} {us ws : List ℕ} → v ≡ t → Walk G end L a v us → Path G end t ws → key_from G a ws ≡ L a t → NoLater us ws
  first_from a l e (stop s) (arrive s') q = same
  first_from a l e (stop s) (onward {v = t} {u = x} s' p) q = absurd (end_loose a l t x (sym e) (first a l s' p q).tight)
  first_from a l e (move {v = v} {u = u} t m w) (arrive s) q = absurd (end_loose a l v u e t)
  first_from a l e (move {v = v} {u = u} {us = us} t m w) (onward {v = y} {u = x} {us = ws} s p) q =
      let f : First a v x ws = subst (λ (n : ℕ). First a n x ws) (sym e) (first a l s p q) in
      let h = m x f.tight in
      subst
      (λ (n : ℕ). NoLater (v ∷ us) (n ∷ ws))
      e
      (elim (dec_lt u x) [
        | yes k ↦ then (later (walk_path w) p k)
        | no k ↦
            let i : x ≡ u = omega arith in
            then (first_from (G.axis v u) (flat v u) (sym i) w p
            (subst (λ (n : ℕ). key_from G (G.axis v n) ws ≡ L (G.axis v n) x) i f.rest))
      ])

  pub walk_first : (a : ℕ) → a ≤ 2 → {v : ℕ} {us ws : List ℕ} → Walk G end L a v us → Path G end v ws → key_from G a ws ≡ L a v → NoLater us ws
  walk_first a l w p q = first_from a l refl w p q

  module _ (end_Below : end < bound) where
    cut_least : (a : ℕ) {v : ℕ} {us : List ℕ} → (c : Cut G end bound z end_Below v us) → key_from G a us ≤ key_from G a c.list → c.list ≡ us
    cut_least a {us = us} c h =
        ⊎_elim (λ q. q) (λ l. absurd (omega (arith, key_is G a c.list, key_is G a us, c.changes a))) c.change

    -- a path of the least key passes no crossing twice
    pub short : (a : ℕ) → a ≤ 2 → {v : ℕ} {us : List ℕ} → Path G end v us → key_from G a us ≡ L a v → length us ≤ bound
    short a l {us = us} p q =
        let c = cut G end bound z end_Below p in
        let e : c.list ≡ us = cut_least a c (omega (arith, least a l c.path)) in
        pigeon bound (subst (Apart bound) e c.apart)

    -- where there is a path there is one of at most bound crossings
    pub within : {v : ℕ} {us : List ℕ} → Path G end v us → (vs : List ℕ) × Path G end v vs × (length vs ≤ bound)
    within p = let c = cut G end bound z end_Below p in (c.list, c.path, pigeon bound c.apart)

    pub walk_best : bound < 65536 → (start : ℕ) {us : List ℕ} → Walk G end L unmoved start us → IsBest G start end us
    unfolding cost changes
    walk_best small start {us} w = record { path = walk_path w; best = λ vs p. go vs p (cut G end bound z end_Below p) }
      where
        few : changes G us < 65536
        few = omega (arith, changes_few G unmoved us, short unmoved (omega arith) (walk_path w) (walk_key (omega arith) w))

        go : (vs : List ℕ) → Path G end start vs → Cut G end bound z end_Below start vs → NoWorse G us vs
        go vs p c = choose (dec_lt (cost G us) (cost G vs)) (dec_lt (changes G us) (changes G vs))
          where
            ks : key_from G unmoved us ≤ key_from G unmoved c.list
            ks = omega (arith, walk_key (omega arith) w, least unmoved (omega arith) c.path)

            fewer : changes G c.list < 65536
            fewer = omega (arith, changes_few G unmoved c.list, pigeon bound c.apart)

            dear : cost G c.list ≤ cost G vs
            dear = omega (arith, c.lengths, c.changes unmoved)

            choose : Dec (cost G us < cost G vs) → Dec (changes G us < changes G vs) → NoWorse G us vs
            choose (yes k) d = cheaper k
            choose (no k) (yes h) = straighter (omega (arith, key_cost G us, key_cost G c.list, few, fewer, dear, ks)) h
            choose (no k) (no h) =
                let e : cost G us ≡ cost G vs = omega (arith, key_cost G us, key_cost G c.list, few, fewer, dear, ks) in
                let f : changes G us ≡ changes G vs = omega (arith, key_cost G us, key_cost G c.list, few, fewer, dear, ks, c.changes unmoved) in
                earlier e f (walk_first unmoved (omega arith) w p (omega (arith, key_cost G us, key_cost G vs, walk_key (omega arith) w)))
