-- The last sentence of demand 3: which entries an edit rewrites, over any tables.
use mathlib.Core.Path.{◌≡◌, ap}
use mathlib.Core.Logic.{inl, inr}
use mathlib.Core.List.{List}
use mathlib.Core.Bool.{true, Bool-discrete}
use Prim.Native.Nat.{ℕ, ◌<◌}
use native.Mathlib.Decide.{dec_lt, ℕ_discrete}
use Rattle.geometry.specs.Words.{Point, word}
use Rattle.tables.specs.Tables.{Tables, records, pair_index, OnRun}
use Rattle.visibility.specs.Visibility.{Hides, both_present, Afresh, BlockPair, RunPair}
use Rattle.visibility.proofs.Lasting.{on_run_dec, hides_dec, afresh_dec}
use Rattle.book.specs.Book.{Target, the_block, the_run, the_figure, target}
use Rattle.book.specs.Edits.{Edited}
use Rattle.book.specs.History.{MayRewrite, RewritesOnly}

block_rewrites : (T T' : Tables) (n i j : ℕ) → BlockPair (records T') n i j (word T.pairs (pair_index i j)) (word T'.pairs (pair_index i j))
    → (word T'.pairs (pair_index i j) ≡ word T.pairs (pair_index i j) → ⊥) → MayRewrite (the_block n) T T' i j
block_rewrites T T' n i j p d = go (afresh_dec n i j (word T.pairs (pair_index i j)))
  where
    above : (Afresh n i j (word T.pairs (pair_index i j)) → ⊥) → Dec (both_present (records T') i j ≡ true)
        → Dec (n < word T.pairs (pair_index i j)) → Dec (Hides (records T') n i j) → MayRewrite (the_block n) T T' i j
    above a (no e) l h = absurd (d (p.kept a (λ t m x. e t)))
    above a (yes e) (no l) h = absurd (d (p.kept a (λ t m x. l m)))
    above a (yes e) (yes l) (no h) = absurd (d (p.kept a (λ t m x. h x)))
    above a (yes e) (yes l) (yes h) = inr (e, l, h)

    go : Dec (Afresh n i j (word T.pairs (pair_index i j))) → MayRewrite (the_block n) T T' i j
    go (yes a) = inl a
    go (no a) = above a (Bool-discrete (both_present (records T') i j) true) (dec_lt n (word T.pairs (pair_index i j))) (hides_dec (records T') n i j)

run_rewrites : (T T' : Tables) (m i j : ℕ) → RunPair (records T') m i j (word T.pairs (pair_index i j)) (word T'.pairs (pair_index i j))
    → (word T'.pairs (pair_index i j) ≡ word T.pairs (pair_index i j) → ⊥) → MayRewrite (the_run m) T T' i j
run_rewrites T T' m i j p d = go (on_run_dec m i) (on_run_dec m j)
  where
    go : Dec (OnRun m i) → Dec (OnRun m j) → MayRewrite (the_run m) T T' i j
    go (yes a) b = inl a
    go (no a) (yes b) = inr b
    go (no a) (no b) = absurd (d (p.kept a b))

pub rewrites_only : RewritesOnly
rewrites_only e T T' r c i j h l d = go (ℕ_discrete r 0)
  where
    done : (t : Target) (ps : List Point) → Edited t T ps T' → MayRewrite t T T' i j
    done (the_block n) ps x = block_rewrites T T' n i j (x.pairs.each i j h l) d
    done (the_run m) ps x = run_rewrites T T' m i j (x.pairs.each i j h l) d
    done (the_figure f) ps x = d (ap (λ (ws : List ℕ). word ws (pair_index i j)) x.pairs)

    go : Dec (r ≡ 0) → MayRewrite (target e) T T' i j
    go (yes z) = done (target e) _ (c.done z)
    go (no z) = absurd (d (ap (λ (S : Tables). word S.pairs (pair_index i j)) (c.refused z)))
