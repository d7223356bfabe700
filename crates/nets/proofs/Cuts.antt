-- Each path can be cut to one that passes no crossing twice and is no worse.
use mathlib.Core.Path.{◌≡◌, refl, sym, ap}
use mathlib.Core.Logic.{◌⊎◌, inl, inr, ⊎_elim}
use mathlib.Core.List.{List, [], ◌∷◌}
use Prim.Native.Nat.{ℕ, ◌+◌, ◌≤◌, ◌<◌}
use native.Mathlib.Omega.{arith}
use Rattle.paths.specs.Path.{total}
use Rattle.paths.proofs.Short.{Has, here, there, Apart, nil, cons, has_dec, has_none}
use Rattle.nets.specs.Net.{Net, Path, arrive, onward, turn, changes_from}
use Rattle.nets.proofs.Sums.{turn_between, changes_more, length_more}

-- what a net of a given number of crossings has: its steps lead between them and are no shorter than 1
pub record Sized (G : Net) (bound : ℕ) : Type 0 where
  pub from_below : (v u : ℕ) → G.Step v u → v < bound
  pub to_below : (v u : ℕ) → G.Step v u → u < bound
  pub far : (v u : ℕ) → G.Step v u → 1 ≤ G.len v u
  pub flat : (v u : ℕ) → G.axis v u ≤ 1

module _ (G : Net) (end bound : ℕ) (z : Sized G bound) (end_Below : end < bound) where
  record Suffix (w : ℕ) (us : List ℕ) : Type 0 where
    part : List ℕ
    path : Path G end w part
    lengths : total G.len part ≤ total G.len us
    changes : (a b : ℕ) → b ≤ 1 → changes_from G a part ≤ turn a b + changes_from G b us
    apart : Apart bound us → Apart bound part

  -- from w on
  again : (a b : ℕ) → b ≤ 1 → {v : ℕ} {us : List ℕ} → Path G end v us → changes_from G a us ≤ turn a b + changes_from G b us
  unfolding changes_from
  again a b l (arrive s) = omega arith
  again a b l (onward {v} {u} s p) = omega (arith, changes_more G end a v p, changes_more G end b v p, turn_between a b (G.axis v u) l)

  apart_tail : {x : ℕ} {xs : List ℕ} → Apart bound (x ∷ xs) → Apart bound xs
  apart_tail (cons b f a) = a

  suffix : (w : ℕ) {v : ℕ} {us : List ℕ} → Path G end v us → Has w us → Suffix w us
  suffix w (arrive s) (here q) =
      record { part = end ∷ []; path = rw (sym q) (arrive s); lengths = omega arith; changes = λ a b l. again a b l (arrive s); apart = λ h. h }
  suffix w (arrive s) (there h) = absurd (has_none w h)
  suffix w (onward {v} {u} {us} s p) (here q) =
      record { part = v ∷ us; path = rw (sym q) (onward s p); lengths = omega arith; changes = λ a b l. again a b l (onward s p); apart = λ h. h }
  suffix w (onward {v} {u} {us} s p) (there h) =
      let t = suffix w p h in
      record {
        part = t.part;
        path = t.path;
        lengths = omega (arith, t.lengths, length_more G end v p);
        changes = λ a b l. omega (arith, t.changes a (G.axis v u) (z.flat v u), changes_more G end b v p, turn_between a b (G.axis v u) l);
        apart = λ h. t.apart (apart_tail h);
      }

  pub record Cut (v : ℕ) (us : List ℕ) : Type 0 where
    pub list : List ℕ
    pub path : Path G end v list
    pub apart : Apart bound list
    pub lengths : total G.len list ≤ total G.len us
    pub changes : (a : ℕ) → changes_from G a list ≤ changes_from G a us
    pub change : (list ≡ us) ⊎ (total G.len list < total G.len us)

  pub cut : {v : ℕ} {us : List ℕ} → Path G end v us → Cut v us
  cut (arrive s) =
      record { list = end ∷ []; path = arrive s; apart = cons end_Below (has_none end) nil; lengths = omega arith; changes = λ a. omega arith; change = inl refl }
  cut (onward {v} {u} {us} s p) = go (cut p) (has_dec v (cut p).list)
    where
      go : (c : Cut u us) → Dec (Has v c.list) → Cut v (v ∷ us)
      go c (yes h) =
          let t = suffix v c.path h in
          record {
            list = t.part;
            path = t.path;
            apart = t.apart c.apart;
            lengths = omega (arith, t.lengths, c.lengths, length_more G end v p);
            changes = λ a. omega (arith, t.changes a (G.axis v u) (z.flat v u), c.changes (G.axis v u), changes_more G end a v p);
            change = inr (omega (arith, t.lengths, c.lengths, length_more G end v p, z.far v u s));
          }
      go c (no h) =
          record {
            list = v ∷ c.list;
            path = onward s c.path;
            apart = cons (z.from_below v u s) h c.apart;
            lengths = omega (arith, c.lengths, length_more G end v p, length_more G end v c.path);
            changes = λ a. omega (arith, c.changes (G.axis v u), changes_more G end a v p, changes_more G end a v c.path);
            change = ⊎_elim (λ q. inl (ap (λ (l : List ℕ). v ∷ l) q)) (λ q. inr (omega (arith, length_more G end v p, length_more G end v c.path))) c.change;
          }
