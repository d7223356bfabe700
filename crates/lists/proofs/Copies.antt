-- A part of a table that comes back with other words.
use mathlib.Core.Path.{◌≡◌}
use mathlib.Core.List.{List}
use Prim.Native.Nat.{ℕ, ◌+◌, ◌-◌}
use native.Mathlib.Omega.{arith}
use lib.ListN.{length}
use borrow.Rule.Slice.PartMut.{put_mid, Post-is}
use Rattle.lists.specs.Lists.{splice}

pub put_back : (t ws part : List ℕ) (at : ℕ) → part ≡ ws → put_mid at (at + length ws - at) t part ≡ splice t at ws
unfolding splice
put_back t ws part at e = rw (Post-is at (at + length ws) t (omega arith), e)
