-- The definition computed: the listing of examples/document.yrd, one with a stop and a run that has no way, and that of no yard file.
use mathlib.Core.Path.{◌≡◌, refl}
use mathlib.Core.List.{[], ◌∷◌, ◌++◌}
use lib.ListN.{replicate}
use Rattle.listing.specs.Lines.{bytes, digits_within, decimal, labelled, joined, edit_line, stop_line, way_text, run_line, listing}

example : listing (replicate 4096 0) 3 0 49 (1 ∷ 30 ∷ 3 ∷ 192 ∷ 10 ∷ 193 ∷ replicate 4722 0) ≡ bytes "edit 1 answer 0\nedit 2 answer 0\nedit 3 answer 0\nrun 0 length 30 marks 192 10 193\n"
unfolding digits_within decimal labelled joined edit_line stop_line way_text run_line listing
example = refl

no_way_lem : listing (8 ∷ []) 1 10 18 (replicate 4531 0 ++ 2 ∷ replicate 196 0) ≡ bytes "edit 1 answer 8\nstop 10 at 18\nrun 23 no way\n"
unfolding digits_within decimal labelled joined edit_line stop_line way_text run_line listing
no_way_lem = refl

no_yard : listing [] 0 9 0 (replicate 4728 0) ≡ bytes "stop 9 at 0\n"
unfolding digits_within decimal labelled joined edit_line stop_line way_text run_line listing
no_yard = refl
