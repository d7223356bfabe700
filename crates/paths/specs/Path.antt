-- Chains in a graph on numbered vertices, and the one that the fixed rule picks. Rules 12 to 14: marks are vertices, clear straights are edges.
use Rattle.std.specs.Prelude.{◌≡◌, List, [], ◌∷◌, ℕ, ◌+◌, ◌<◌, length}

-- the graph that one route is sought in: the vertices that a chain may bend at, the edges that it may use, and what each costs
pub record Graph : Type 1 where
  pub Inner : ℕ → Type 0
  pub Edge : ℕ → ℕ → Type 0
  pub cost : ℕ → ℕ → ℕ

-- a chain to the end: its first vertex, and its vertices in order, all between the first and the end inner
pub data Chain (G : Graph) (end : ℕ) : ℕ → List ℕ → Type 0 where
  last : {v : ℕ} → G.Edge v end → Chain G end v (v ∷ end ∷ [])
  more : {v u : ℕ} {us : List ℕ} → G.Inner u → G.Edge v u → Chain G end u us → Chain G end v (v ∷ us)

-- the summed cost of a chain's edges
abbrev pub total : (ℕ → ℕ → ℕ) → List ℕ → ℕ
total cost [] = 0
total cost (v ∷ []) = 0
total cost (v ∷ u ∷ us) = cost v u + total cost (u ∷ us)

-- the first list comes no later than the second, compared as numbers from the start
pub data NoLater : List ℕ → List ℕ → Type 0 where
  same : {us : List ℕ} → NoLater us us
  less : {u v : ℕ} {us vs : List ℕ} → u < v → NoLater (u ∷ us) (v ∷ vs)
  then : {u : ℕ} {us vs : List ℕ} → NoLater us vs → NoLater (u ∷ us) (u ∷ vs)

-- the first chain is at least as good: it costs less; or as much, with fewer edges; or with as many, and no later in order
pub data NoWorse (cost : ℕ → ℕ → ℕ) (us vs : List ℕ) : Type 0 where
  cheaper : total cost us < total cost vs → NoWorse cost us vs
  shorter : total cost us ≡ total cost vs → length us < length vs → NoWorse cost us vs
  earlier : total cost us ≡ total cost vs → length us ≡ length vs → NoLater us vs → NoWorse cost us vs

-- the route from start to end: a chain that is at least as good as every chain
pub record IsRoute (G : Graph) (start end : ℕ) (us : List ℕ) : Type 0 where
  pub chain : Chain G end start us
  pub best : (vs : List ℕ) → Chain G end start vs → NoWorse G.cost us vs

-- "no way": no chain leads from start to end
abbrev pub NoChain : Graph → ℕ → ℕ → Type 0
NoChain G start end = (vs : List ℕ) → Chain G end start vs → ⊥
