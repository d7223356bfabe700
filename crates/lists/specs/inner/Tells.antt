use Rattle.std.specs.Prelude.{◌≡◌, Bool, true, false}

-- what every test in the code promises: t says whether P holds
pub record Tells (P : Type 0) (t : Bool) : Type 0 where
  pub yes' : t ≡ true → P
  pub no' : t ≡ false → P → ⊥
