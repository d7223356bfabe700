-- The words of a path by the lists of lines.
use Rattle.std.specs.Prelude.{List, [], ◌∷◌, ℕ, ◌/◌, ◌%◌}
use Rattle.geometry.specs.Words.{word}

unfoldable pub spot_words : List ℕ → List ℕ → List ℕ → List ℕ
spot_words xs ys [] = []
spot_words xs ys (v ∷ vs) = word xs (v / 66) ∷ word ys (v % 66) ∷ spot_words xs ys vs
