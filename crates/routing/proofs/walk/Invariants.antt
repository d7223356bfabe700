use Rattle.geometry.specs.Words.{word}
use Rattle.tables.specs.Tables.{stored, first_end, second_end}
use Rattle.search.specs.Network.{ByBytes, graph}
use Rattle.routing.proofs.Walks.{Going}
use Rattle.routing.proofs.walk.Given as goal

abbrev pub invariant-loop-m : goal.invariant-loop-m
invariant-loop-m l = Going (graph (stored l.blocks l.runs) (ByBytes l.pairs)) (first_end l.m) (second_end l.m) l.key l.part l.v l.n

abbrev pub decreases-loop-m : goal.decreases-loop-m
decreases-loop-m l = word l.key l.v
