-- What each turn of the loops shows.
use mathlib.Core.Path.{◌≡◌, refl, sym, ap, ◌∙◌, subst}
use mathlib.Core.Logic.{◌⊎◌, inl, inr, ⊎_elim}
use mathlib.Core.Bool.{Bool, true, false}
use mathlib.Core.List.{List}
use Prim.Native.Nat.{ℕ, ◌+◌, ◌*◌, ◌-◌, ◌/◌, ◌≤◌, ◌<◌}
use native.Mathlib.Decide.{ℕ_discrete, dec_lt}
use native.Mathlib.Omega.{arith}
use lib.Dec.{ltb}
use borrow.Author.Tests.{ltb-true}
use lib.ListN.{length, set, length-set}
use lib.Seq.{get_or-set_same, get_or-set_other}
use Rattle.paths.specs.Path.{Graph}
use Rattle.geometry.specs.Words.{word}
use Rattle.tables.specs.Tables.{Records}
use Rattle.search.specs.Network.{cost, graph}
use Rattle.search.specs.inner.Keys.{unreached, weight}
use Rattle.search.proofs.Steps.{below_old}
use Rattle.heaps.specs.inner.Marks.{Among}
use Rattle.lazy_search.specs.inner.Lazy.{Improved, Exact, Eased, Taken}

-- the key of a mark after a straight is tested
module _ (R : Records) (Clear : ℕ → ℕ → Type 0) (v s ks old : ℕ) where
  pub improved_near : old < ks + 2 → Improved (graph R Clear) v s ks old old
  improved_near l = record { down = omega arith; short = λ e. omega arith; came = inl refl }

  pub improved_hidden : (Clear v s → ⊥) → Improved (graph R Clear) v s ks old old
  improved_hidden h = record { down = omega arith; short = λ x. absurd (h x.1); came = inl refl }

  -- by the straight's cost x, and whether that is more than the key allows
  pub improved_dear : (x : ℕ) (t : Bool) → ks + 2 ≤ old → cost R v s ≡ x → t ≡ ltb ((old - ks - 2) / 256) x → t ≡ true → Improved (graph R Clear) v s ks old old
  improved_dear x t l e d h =
      let g = ltb-true ((old - ks - 2) / 256) x (sym d ∙ h) in
      record { down = omega arith; short = λ y. omega arith; came = inl refl }

  pub improved_new : (x : ℕ) (t : Bool) → (v ≡ s → old ≡ ks) → ks + 2 ≤ old → Clear v s → cost R v s ≡ x → t ≡ ltb ((old - ks - 2) / 256) x → t ≡ false
      → Improved (graph R Clear) v s ks old (256 * x + 1 + ks)
  improved_new x t d l e k j h =
      let g = below_old ks old x t l j h in
      record {
        down = omega arith;
        short = λ x. omega arith;
        came = inr ((λ (q : v ≡ s). omega (arith, d q), e), omega arith);
      }

-- one place more at the end of a part, and at its beginning
pub among_more : {order : List ℕ} {lo j v : ℕ} → Among order lo (j + 1) v → Among order lo j v ⊎ (v ≡ word order j)
among_more {order} {lo} {j} a =
    elim (ℕ_discrete a.place j) [
      | yes q ↦ inr (sym a.is ∙ ap (word order) q)
      | no q ↦ inl (record { place = a.place; from = a.from; before = omega (arith, a.before); is = a.is })
    ]

pub among_less : {order : List ℕ} {lo hi i j : ℕ} {v : ℕ} → lo ≤ i → j ≤ hi → Among order i j v → Among order lo hi v
among_less l h a = record { place = a.place; from = omega (arith, a.from); before = omega (arith, a.before); is = a.is }

among_first : {order : List ℕ} {i hi v : ℕ} → Among order (i - 1) hi v → Among order i hi v ⊎ (v ≡ word order (i - 1))
among_first {order} {i} {hi} a =
    elim (ℕ_discrete a.place (i - 1)) [
      | yes q ↦ inr (sym a.is ∙ ap (word order) q)
      | no q ↦ inl (record { place = a.place; from = omega (arith, a.from); before = a.before; is = a.is })
    ]

module _ {words order : List ℕ} {key₀ : List ℕ} where
  pub taken_none : Taken words order 0 key₀ key₀
  taken_none = record { sized = refl; each = λ j l. absurd (omega arith); others = λ v h. refl }

  pub taken_next : {key : List ℕ} {j : ℕ} → word order j < length key₀ → Taken words order j key₀ key → Taken words order (j + 1) key₀ (set key (word order j) (word words (word order j)))
  taken_next {key} {j} b t =
      record {
        sized = length-set key (word order j) (word words (word order j)) ∙ t.sized;
        each = λ i l.
            elim (ℕ_discrete (word order i) (word order j)) [
              | yes q ↦ ap (word new) q ∙ here ∙ ap (word words) (sym q)
              | no q ↦
                  get_or-set_other key (word order j) (word order i) (word words (word order j)) 0 q
                  ∙ t.each i (elim (dec_lt i j) [ yes d ↦ d | no d ↦ let e : i ≡ j = omega arith in absurd (q (ap (word order) e)) ])
            ];
        others = λ v h.
            get_or-set_other key (word order j) v (word words (word order j)) 0 (λ q. h (record { place = j; from = omega arith; before = omega arith; is = sym q }))
            ∙ t.others v (λ a. h (among_less (omega arith) (omega arith) a));
      }
    where
      new : List ℕ
      new = set key (word order j) (word words (word order j))

      here : word new (word order j) ≡ word words (word order j)
      here = get_or-set_same key (word order j) (word words (word order j)) 0 (omega (arith, t.sized))

module _ {G : Graph} {order key : List ℕ} {hi v : ℕ} where
  pub exact_none : Exact G (Among order hi hi) key v unreached
  exact_none = record { down = omega arith; short = λ s a g. absurd (omega (arith, a.from, a.before)); came = inl refl }

  pub exact_next : {i best new : ℕ} → 0 < i → i ≤ hi → Exact G (Among order i hi) key v best → Improved G v (word order (i - 1)) (word key (word order (i - 1))) best new
      → Exact G (Among order (i - 1) hi) key v new
  exact_next {i} {best} {new} l h e m =
      record {
        down = omega (arith, e.down, m.down);
        short = λ s a g.
            ⊎_elim (λ b. omega (arith, e.short s b g, m.down))
            (λ q. omega (arith, m.short (subst (λ (x : ℕ). G.Edge v x) q g), ap (λ (x : ℕ). weight G v x + word key x) q)) (among_first a);
        came =
            ⊎_elim
            (λ q. ⊎_elim (λ n. inl (q ∙ n)) (λ b. inr (record { mark = b.mark; has = among_less (omega arith) (omega arith) b.has; edge = b.edge; sum = q ∙ b.sum })) e.came)
            (λ w. inr (record { mark = word order (i - 1); has = record { place = i - 1; from = omega arith; before = omega arith; is = refl }; edge = w.0; sum = w.1 }))
            m.came;
      }

module _ {G : Graph} {order key : List ℕ} {lo s ks : ℕ} where
  pub eased_none : Eased G (Among order lo lo) key key s ks
  eased_none = record { sized = refl; down = λ v. omega arith; short = λ v a g. absurd (omega (arith, a.from, a.before)); came = λ v. inl refl }

  pub eased_next : {key' : List ℕ} {j new : ℕ} → lo ≤ j → word order j < length key → Eased G (Among order lo j) key key' s ks
      → Improved G (word order j) s ks (word key' (word order j)) new → Eased G (Among order lo (j + 1)) key (set key' (word order j) new) s ks
  eased_next {key'} {j} {new} l b e m =
      record {
        sized = length-set key' u new ∙ e.sized;
        down = λ v. elim (ℕ_discrete v u) [ yes q ↦ omega (arith, here v q, m.down, e.down u, ap (word key) q) | no q ↦ omega (arith, there v q, e.down v) ];
        short = λ v a g.
            elim (ℕ_discrete v u) [
              | yes q ↦ omega (arith, here v q, m.short (subst (λ (x : ℕ). G.Edge x s) q g), ap (λ (x : ℕ). weight G x s) q)
              | no q ↦ ⊎_elim (λ c. omega (arith, there v q, e.short v c g)) (λ r. absurd (q r)) (among_more a)
            ];
        came = λ v.
            elim (ℕ_discrete v u) [
              | yes q ↦
                  ⊎_elim
                  (λ r. ⊎_elim (λ c. inl (here v q ∙ r ∙ c ∙ ap (word key) (sym q))) (λ c. inr (mine v q, subst (λ (x : ℕ). G.Edge x s) (sym q) c.1, here v q ∙ r ∙ c.2 ∙ ap (λ (x : ℕ). weight G x s + ks) (sym q))) (e.came u))
                  (λ w. inr (mine v q, subst (λ (x : ℕ). G.Edge x s) (sym q) w.0, here v q ∙ w.1 ∙ ap (λ (x : ℕ). weight G x s + ks) (sym q)))
                  m.came
              | no q ↦ ⊎_elim (λ c. inl (there v q ∙ c)) (λ c. inr (among_less (omega arith) (omega arith) c.0, c.1, there v q ∙ c.2)) (e.came v)
            ];
      }
    where
      u : ℕ
      u = word order j

      here : (v : ℕ) → v ≡ u → word (set key' u new) v ≡ new
      here v q = ap (word (set key' u new)) q ∙ get_or-set_same key' u new 0 (omega (arith, e.sized))

      there : (v : ℕ) → (v ≡ u → ⊥) → word (set key' u new) v ≡ word key' v
      there v q = get_or-set_other key' u v new 0 q

      mine : (v : ℕ) → v ≡ u → Among order lo (j + 1) v
      mine v q = record { place = j; from = l; before = omega arith; is = sym q }
