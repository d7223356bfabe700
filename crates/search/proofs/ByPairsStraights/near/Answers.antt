use mathlib.Core.Path.{◌≡◌, refl, sym, ◌∙◌, subst}
use Prim.Native.Nat.{ℕ, ◌+◌, ◌*◌, ◌^◌, ◌<◌}
use native.Mathlib.Omega.{arith}
use lib.ListN.{replicate}
use Rattle.std.proofs.lemmas.List.{get_or-replicate}
use Rattle.geometry.specs.Words.{word}
use Rattle.bits.specs.inner.Bits.{bit}
use Rattle.adjacency.specs.inner.Adjacent.{Adjacent, Shows}
use Rattle.search.proofs.Relaxing.{row_lent, row_word, near_told}
use Rattle.search.proofs.ByPairsStraights.near.Goals as goal

pub returns-then-mark-lt192 : goal.returns-then-mark-lt192
returns-then-mark-lt192 c =
    let low : c.near_word.result < 2 ^ 64 = omega (arith, c.near_word.type_inv) in
    near_told _ _ (λ h. (row_lent _ _ _ _ c.requires.0.2 c.if-mark-lt192.true).each c.args.q h) low c.near_word.ensures refl c.requires.4

pub returns-then-q-lt3 : goal.returns-then-q-lt3
returns-then-q-lt3 c =
    let w = c.adjacent_word.result in
    let low : w < 2 ^ 64 = omega (arith, c.adjacent_word.type_inv) in
    let e : word (replicate 3 w) c.args.q ≡ w = get_or-replicate 3 c.args.q w 0 c.if-q-lt3.true in
    near_told c.args.self.now.pairs.now (replicate 3 w) (λ h i b. subst (λ (k : ℕ). Shows (Adjacent c.args.blocks.now c.args.self.now.pairs.now c.args.mark (64 * c.args.q + i)) (bit i k)) (sym e) (c.adjacent_word.ensures i b))
    low (sym e ∙ row_word c.args.self.now.pairs.now (replicate 3 w) c.args.first c.args.mark c.args.q c.if-q-lt3.true) refl c.requires.4

pub returns : goal.returns
returns c =
    let low : c.near_word-2.result < 2 ^ 64 = omega (arith, c.near_word-2.type_inv) in
    near_told _ _ (λ h. absurd (omega (arith, h, c.if-q-lt3.false))) low c.near_word-2.ensures refl c.requires.4
