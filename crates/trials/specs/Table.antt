-- The table of trial yards, in the order of rule 38.
use Rattle.std.specs.Prelude.{List, [], ◌∷◌, ℕ}
use Rattle.geometry.specs.Words.{point}
use Rattle.book.specs.Book.{add_block, add_run, set_charge}
use Rattle.trials.specs.Rows.{Blocks, Row, sight, straight, way, charged, shut, answered}

-- square S, and the block that shares its east side
abbrev pub square : List ℕ
square = 10 ∷ 10 ∷ 20 ∷ 10 ∷ 20 ∷ 20 ∷ 10 ∷ 20 ∷ []

abbrev pub beside : List ℕ
beside = 20 ∷ 10 ∷ 30 ∷ 10 ∷ 30 ∷ 20 ∷ 20 ∷ 20 ∷ []

-- S alone; both
abbrev pub S : Blocks
S = square ∷ []

abbrev pub seam : Blocks
seam = square ∷ beside ∷ []

-- the block that shares S's corner (20,20), and one inside S that shares a part of its south side
abbrev pub diagonal : List ℕ
diagonal = 20 ∷ 20 ∷ 30 ∷ 20 ∷ 30 ∷ 30 ∷ 20 ∷ 30 ∷ []

abbrev pub inner : List ℕ
inner = 12 ∷ 10 ∷ 18 ∷ 10 ∷ 15 ∷ 15 ∷ []

-- the blocks of the listed yard
abbrev pub tall : List ℕ
tall = 10 ∷ 6 ∷ 14 ∷ 7 ∷ 14 ∷ 40 ∷ 10 ∷ 40 ∷ []

abbrev pub small : List ℕ
small = 11 ∷ 1 ∷ 13 ∷ 1 ∷ 12 ∷ 5 ∷ []

-- a block round which one way has two short straights where the other has one long one
abbrev pub slim : List ℕ
slim = 8 ∷ 4 ∷ 10 ∷ 16 ∷ 8 ∷ 16 ∷ []

unfoldable pub rows : List Row
rows =
    -- along a side of S
    sight S (point 0 10) (point 30 10) 254
    -- just inside
    ∷ sight S (point 0 11) (point 30 11) 0
    -- from corner to corner
    ∷ sight S (point 10 10) (point 20 20) 0
    -- touches a corner
    ∷ sight S (point 0 20) (point 20 0) 254
    -- hidden, though no whole point of it is inside
    ∷ sight S (point 0 21) (point 21 0) 0
    -- a place to itself: inside S, and on its side
    ∷ sight S (point 15 15) (point 15 15) 0
    ∷ sight S (point 10 15) (point 10 15) 254
    -- lengths
    ∷ straight (point 0 0) (point 0 0) 0
    ∷ straight (point 0 0) (point 1 1) 2
    ∷ straight (point 0 0) (point 3 4) 5
    ∷ straight (point 0 0) (point 32767 32767) 46340
    -- round S: 12, 10 and 12, each rounded up
    ∷ way S (point 0 15) (point 30 15) 34 (192 ∷ 0 ∷ 1 ∷ 193 ∷ [])
    -- an end inside S
    ∷ shut S (point 15 15)
    -- along the seam of two blocks that touch, and an end in it
    ∷ sight seam (point 20 0) (point 20 30) 253
    ∷ shut seam (point 20 15)
    -- past a corner that two blocks share, along the side of two equal blocks, of a block and one inside it
    ∷ sight (square ∷ diagonal ∷ []) (point 10 30) (point 30 10) 253
    ∷ sight (square ∷ square ∷ []) (point 0 10) (point 30 10) 253
    ∷ sight (square ∷ inner ∷ []) (point 0 10) (point 30 10) 253
    -- the listed yard before block 1, and with it
    ∷ way (tall ∷ []) (point 0 10) (point 27 13) 31 (192 ∷ 0 ∷ 1 ∷ 193 ∷ [])
    ∷ way (tall ∷ small ∷ []) (point 0 10) (point 27 13) 30 (192 ∷ 10 ∷ 193 ∷ [])
    -- round it 10, 2 and 4, charged 10, 4 and 4 under 4; under 5 the other way, 10 and 10, costs as much and has fewer straights, under 6 it costs less
    ∷ way (slim ∷ []) (point 0 10) (point 11 13) 16 (192 ∷ 2 ∷ 1 ∷ 193 ∷ [])
    ∷ charged 4 (slim ∷ []) (point 0 10) (point 11 13) 18 (192 ∷ 2 ∷ 1 ∷ 193 ∷ [])
    ∷ charged 5 (slim ∷ []) (point 0 10) (point 11 13) 20 (192 ∷ 0 ∷ 193 ∷ [])
    ∷ charged 6 (slim ∷ []) (point 0 10) (point 11 13) 20 (192 ∷ 0 ∷ 193 ∷ [])
    -- a straight of length 0 is free, one of length 1 is charged the figure
    ∷ charged 1000 [] (point 5 5) (point 5 5) 0 (192 ∷ 193 ∷ [])
    ∷ charged 1000 [] (point 5 5) (point 5 6) 1000 (192 ∷ 193 ∷ [])
    -- the five-corner star turns left at each corner and is not convex
    ∷ answered (add_block 0 (10 ∷ 0 ∷ 16 ∷ 20 ∷ 0 ∷ 8 ∷ 20 ∷ 8 ∷ 4 ∷ 20 ∷ []) ∷ []) (8 ∷ [])
    -- coordinate 32,767 and 32,768; number 23 and 24
    ∷ answered (add_run 0 (point 0 0) (point 32767 0) ∷ add_run 1 (point 0 0) (point 32768 0) ∷ []) (0 ∷ 7 ∷ [])
    ∷ answered (add_block 23 square ∷ add_block 24 square ∷ []) (0 ∷ 3 ∷ [])
    -- the figure 1,000 and 1,001
    ∷ answered (set_charge 1000 ∷ set_charge 1001 ∷ []) (0 ∷ 13 ∷ [])
    ∷ []
