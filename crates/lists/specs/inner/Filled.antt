use Rattle.std.specs.Prelude.{List, ℕ, replicate}

-- n times v; shut, so that no goal writes 28,680 numbers out
unfoldable pub filled : {A : Type 0} → ℕ → A → List A
filled n v = replicate n v
