-- A chain of one graph is one of another that has its inner vertices and, between bounded vertices, its edges.
use mathlib.Core.List.{List}
use Prim.Native.Nat.{ℕ}
use Rattle.paths.specs.Path.{Graph, Chain, last, more}

module _ (G H : Graph) (end : ℕ) (B : ℕ → Type 0) (at_end : B end) (inner : (u : ℕ) → G.Inner u → (H.Inner u) × B u)
    (edge : (v u : ℕ) → B v → B u → G.Edge v u → H.Edge v u) where
  pub chain_map : {v : ℕ} {us : List ℕ} → B v → Chain G end v us → Chain H end v us
  chain_map {v} bv (last e) = last (edge v end bv at_end e)
  chain_map {v} bv (more {u = u} i e c) = more (inner u i).0 (edge v u bv (inner u i).1 e) (chain_map (inner u i).1 c)
