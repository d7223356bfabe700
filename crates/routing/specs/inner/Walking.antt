-- What the walk by the keys says of each step, and of the record that it writes.
use Rattle.std.specs.Prelude.{◌≡◌, ◌⊎◌, List, ◌∷◌, ◌++◌, ℕ, ◌+◌, ◌-◌, ◌/◌, ◌≤◌, ◌<◌, length, replicate}
use Rattle.geometry.specs.Words.{word}
use Rattle.paths.specs.Path.{Graph, total, IsRoute}
use Rattle.search.specs.inner.Keys.{weight}

-- the straight from v to u is clear, and the keys differ by what it adds
pub record TightKey (G : Graph) (v u kv ku : ℕ) : Type 0 where
  pub edge : G.Edge v u
  pub sum : kv ≡ weight G v u + ku

-- the lowest such mark after v, or the end where no corner is one
pub record Hop (G : Graph) (end : ℕ) (key : List ℕ) (v r : ℕ) : Type 0 where
  pub within : (r < 192) ⊎ (r ≡ end)
  pub tight : r < 192 → TightKey G v r (word key v) (word key r)
  pub least : (w : ℕ) → w < r → w < 192 → TightKey G v w (word key v) (word key w) → ⊥

-- a record whose marks alone are written
abbrev pub marks_only : List ℕ → List ℕ
marks_only us = 0 ∷ 0 ∷ 0 ∷ (us ++ replicate (194 - length us) 0)

-- the route's n marks stand in the record, and its length is the key's
pub record Walked (G : Graph) (start end : ℕ) (key part : List ℕ) (n : ℕ) : Type 0 where
  pub marks : List ℕ
  pub route : IsRoute G start end marks
  pub count : length marks ≡ n
  pub fits : n ≤ 194
  pub length_is : total G.cost marks ≡ word key start / 256
  pub written : part ≡ marks_only marks
