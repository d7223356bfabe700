-- The walk by the keys is the route.
use mathlib.Core.Path.{◌≡◌, refl, sym, ap, ◌∙◌, subst}
use mathlib.Core.Logic.{◌⊎◌, inl, inr, ⊎_elim}
use mathlib.Core.List.{List, [], ◌∷◌, ◌++◌, append_assoc}
use Prim.Native.Nat.{ℕ, suc, ◌+◌, ◌*◌, ◌-◌, ◌/◌, ◌%◌, ◌≤◌, ◌<◌}
use native.Mathlib.Decide.{ℕ_discrete, dec_lt}
use native.Mathlib.Numerals.{add-three}
use native.Mathlib.Omega.{arith}
use lib.ListN.{length, set, replicate, length-append, length-replicate}
use Rattle.lists.specs.inner.Filled.{filled}
use Rattle.paths.specs.Path.{Graph, Chain, last, more}
use Rattle.paths.proofs.Labels.{Label, label, label_eq, hop, raise, ◌≼◌, lower, tied, label_of, Settled, Tight, first_last, first_more, Walk, arrive, onward, walk_label, walk_route}
use Rattle.geometry.specs.Words.{word}
use Rattle.search.specs.inner.Keys.{Attained, Keyed}
use Rattle.search.proofs.Network.{Sized}
use Rattle.routing.specs.inner.Walking.{TightKey, Hop, marks_only, Walked}

-- the label that a key stands for
abbrev pub key_label : ℕ → Label
key_label k = label (k / 256) (k % 256)

-- the order of two keys, one of them with its bound
key_below : (a b k : ℕ) → a + 256 * k ≤ b → raise k (key_label a) ≼ key_label b
key_below a b k h = elim (dec_lt (k + a / 256) (b / 256)) [ yes l ↦ lower l | no l ↦ tied (omega arith) (omega arith) ]

key_above : (a b k : ℕ) → b ≤ a + 256 * k → key_label b ≼ raise k (key_label a)
key_above a b k h = elim (dec_lt (b / 256) (k + a / 256)) [ yes l ↦ lower l | no l ↦ tied (omega arith) (omega arith) ]

-- a key that an edge passes on, of few straights
key_hop : (a b c : ℕ) → a ≤ 256 * c + 1 + b → b % 256 ≤ 193 → key_label a ≼ hop c (key_label b)
key_hop a b c h f = elim (dec_lt (a / 256) (c + b / 256)) [ yes l ↦ lower l | no l ↦ tied (omega arith) (omega arith) ]

-- a mark on the way
pub record On (G : Graph) (start end : ℕ) (key : List ℕ) (k : Keyed G start end key) (v : ℕ) : Type 0 where
  pub below : v < 240
  pub not_end : v ≡ end → ⊥
  pub near : (v ≡ start) ⊎ (word key v + 256 * k.bound v < word key start)

module _ (G : Graph) (start end : ℕ) (key : List ℕ) (z : Sized G start end) (k : Keyed G start end key) where
  -- the marks whose keys are final
  abbrev pub Final : ℕ → Type 0
  Final u = word key u + 256 * k.bound u < word key start

  abbrev pub L : ℕ → Label
  L v = key_label (word key v)

  few : (v : ℕ) → v < 240 → (v ≡ end → ⊥) → (v ≡ start) ⊎ Final v → word key v % 256 ≤ 193
  few v b e h = let t = k.attained v b e h in omega (arith, t.exact, t.few)

  inner_few : (u : ℕ) → G.Inner u → Final u → word key u % 256 ≤ 193
  inner_few u i h =
      let b = z.inner_below u i in
      few u (omega arith) (λ (q : u ≡ end). omega (arith, z.end_above)) (inr h)

  pub settled : Settled G start end Final L
  settled =
      record {
        end_zero = label_eq (omega (arith, k.end_zero)) (omega (arith, k.end_zero));
        relaxed_last = λ v x g. key_hop (word key v) (word key end) (G.cost v end) (omega (arith, k.relaxed_last v x g)) (omega (arith, k.end_zero));
        relaxed = λ v u x i g d. key_hop (word key v) (word key u) (G.cost v u) (k.relaxed v u x i g d) (inner_few u i d);
        bound = k.bound;
        consistent = k.consistent;
        open' = λ u i.
            elim (dec_lt (word key u + 256 * k.bound u) (word key start)) [
              | yes l ↦ inl l
              | no l ↦ inr (key_above (word key u) (word key start) (k.bound u) (omega arith))
            ];
      }

  abbrev pub Tightly : ℕ → ℕ → Type 0
  Tightly v u = Tight G start end Final L settled v u

  abbrev pub Way : ℕ → List ℕ → Type 0
  Way v us = Walk G start end Final L settled v us

  tight_key : (v u : ℕ) → Tightly v u → TightKey G v u (word key v) (word key u)
  tight_key v u t =
      let l : word key v / 256 ≡ G.cost v u + word key u / 256 = ap (λ (x : Label). x.len) t.sum in
      let h : word key v % 256 ≡ 1 + word key u % 256 = ap (λ (x : Label). x.hops) t.sum in
      record { edge = t.edge; sum = omega arith }

  module _ (v : ℕ) (o : On G start end key k v) where
    near_start : word key v + 256 * k.bound v ≤ word key start
    near_start =
        ⊎_elim (λ (q : v ≡ start). omega (arith, ap (λ (x : ℕ). word key x + 256 * k.bound x) q, k.consistent.none)) (λ l. omega arith) o.near

    -- a tight straight leads to a mark whose key is final
    tight_final : (u : ℕ) → TightKey G v u (word key v) (word key u) → Final u
    tight_final u t = omega (arith, t.sum, near_start, k.consistent.step v u)

    key_tight : (u : ℕ) → u < 192 → TightKey G v u (word key v) (word key u) → G.Inner u × Tightly v u
    key_tight u l t =
        let f : Final u = tight_final u t in
        let i : G.Inner u =
        ⊎_elim (λ (q : u ≡ start). absurd (omega (arith, z.start_above))) (λ j. j)
        (k.attained u (omega arith) (λ (q : u ≡ end). omega (arith, z.end_above)) (inr f)).vertex in
        let h = inner_few u i f in (
          i,
          record { next = inr (i, f); edge = t.edge; sum = label_eq (omega (arith, t.sum)) (omega (arith, t.sum)) },
        )

    -- some next mark is tight
    some : (u : ℕ) × Tightly v u
    unfolding settled
    some = go t.by t.chain (label_eq (omega (arith, t.exact, t.few)) (omega (arith, t.exact, t.few)))
      where
        t : Attained G start end v (word key v)
        t = k.attained v o.below o.not_end o.near

        go : (us : List ℕ) → Chain G end v us → label_of G.cost us ≡ L v → (u : ℕ) × Tightly v u
        go us (last e) q = (end, first_last G start end Final L settled e q)
        go us (more {u = u} i e c) q =
            (u, (first_more G start end Final L settled t.vertex (key_below (word key v) (word key start) (k.bound v) near_start) i e c q).tight)

    lowest : (r : ℕ) → Hop G end key v r → (w : ℕ) → Tightly v w → r ≤ w
    lowest r h w t =
        ⊎_elim
        (λ (q : w ≡ end). ⊎_elim (λ l. omega (arith, z.end_above)) (λ e. omega arith) h.within)
        (λ d.
        let b = z.inner_below w d.0 in
        elim (dec_lt w r) [ yes l ↦ absurd (h.least w l b (tight_key v w t)) | no l ↦ omega arith ])
        t.next

    -- where no corner is the next mark the end is
    end_next : Hop G end key v end → Tightly v end
    end_next h =
        ⊎_elim
        (λ q. subst (λ (u : ℕ). Tightly v u) q some.1)
        (λ d. absurd (h.least some.0 (omega (arith, z.inner_below some.0 d.0, z.end_above)) (z.inner_below some.0 d.0) (tight_key v some.0 some.1)))
        some.1.next

    pub end_way : Hop G end key v end → Way v (v ∷ end ∷ [])
    end_way h = arrive (end_next h) (lowest end h)

    -- one straight is left at least
    pub end_straight : Hop G end key v end → 1 ≤ word key v % 256
    end_straight h = omega (arith, (tight_key v end (end_next h)).sum, k.end_zero)

    module _ (r : ℕ) (h : Hop G end key v r) (ne : r ≡ end → ⊥) where
      corner : r < 192
      corner = ⊎_elim (λ l. l) (λ q. absurd (ne q)) h.within

      pub next_way : (us : List ℕ) → Way r us → Way v (v ∷ us)
      next_way us w = let t = key_tight r corner (h.tight corner) in onward t.0 t.1 (lowest r h) w

      pub next_on : On G start end key k r
      next_on = record { below = omega (arith, corner); not_end = ne; near = inr (tight_final r (h.tight corner)) }

      pub next_falls : word key r < word key v
      next_falls = omega (arith, (h.tight corner).sum)

      -- and one straight less is left
      pub next_straights : word key v % 256 ≡ 1 + word key r % 256
      next_straights =
          let b = corner in
          let t = (h.tight corner).sum in
          let f = few r (omega arith) ne (inr (tight_final r (h.tight corner))) in
          omega arith

-- a mark put behind the others
put : (us : List ℕ) (n u : ℕ) → set (us ++ replicate (suc n) 0) (length us) u ≡ (us ++ (u ∷ [])) ++ replicate n 0
put [] n u = refl
put (x ∷ us) n u = ap (λ (l : List ℕ). x ∷ l) (put us n u)

put_mark : (us : List ℕ) (u : ℕ) → length us < 194 → set (marks_only us) (length us + 3) u ≡ marks_only (us ++ (u ∷ []))
put_mark us u l =
    let n = 194 - (length us + 1) in
    let e : 194 - length us ≡ suc n = omega arith in
    let f : n ≡ 194 - length (us ++ (u ∷ [])) = omega (arith, length-append us (u ∷ [])) in
    ap (λ (k : ℕ). set (marks_only us) k u) (add-three (length us))
    ∙ ap (λ (xs : List ℕ). 0 ∷ 0 ∷ 0 ∷ xs)
    (ap (λ (k : ℕ). set (us ++ replicate k 0) (length us) u) e ∙ put us n u ∙ ap (λ (k : ℕ). (us ++ (u ∷ [])) ++ replicate k 0) f)

-- at v, n marks written
pub record Going (G : Graph) (start end : ℕ) (key part : List ℕ) (v n : ℕ) : Type 0 where
  pub sized : Sized G start end
  pub keyed : Keyed G start end key
  pub on : On G start end key keyed v
  pub past : List ℕ
  pub count : n ≡ length past + 1
  pub room : n + word key v % 256 ≤ 194
  pub written : part ≡ marks_only (past ++ (v ∷ []))
  pub goes : (us : List ℕ) → Way G start end key sized keyed v us → Way G start end key sized keyed start (past ++ us)

pub going_none : {G : Graph} {start end : ℕ} {key part : List ℕ} → Sized G start end → Keyed G start end key → part ≡ filled 197 0
    → Going G start end key (set part 3 start) start 1
unfolding filled
going_none {G} {start} {end} {key} z k e =
    record {
      sized = z;
      keyed = k;
      on = record { below = z.start_below; not_end = z.apart; near = inl refl };
      past = [];
      count = refl;
      room = omega (arith, few G start end key z k start z.start_below z.apart (inl refl));
      written = ap (λ (p : List ℕ). set p 3 start) e;
      goes = λ us w. w;
    }

module _ {G : Graph} {start end : ℕ} {key part : List ℕ} {v n : ℕ} (g : Going G start end key part v n) where
  marks_length : length (g.past ++ (v ∷ [])) ≡ n
  marks_length = omega (arith, length-append g.past (v ∷ []), g.count)

  pub part_length : length part ≡ 197
  part_length = rw g.written (simp (length-append, length-replicate) (omega (arith, g.count, g.room)))

  module _ {r : ℕ} (h : Hop G end key v r) where
    written_next : n < 194 → set part (n + 3) r ≡ marks_only ((g.past ++ (v ∷ [])) ++ (r ∷ []))
    written_next l =
        ap (λ (p : List ℕ). set p (n + 3) r) g.written
        ∙ ap (λ (i : ℕ). set (marks_only (g.past ++ (v ∷ []))) (i + 3) r) (sym marks_length)
        ∙ put_mark (g.past ++ (v ∷ [])) r (omega (arith, marks_length))

    straight_left : Dec (r ≡ end) → 1 ≤ word key v % 256
    straight_left (yes q) = end_straight G start end key g.sized g.keyed v g.on (subst (Hop G end key v) q h)
    straight_left (no q) = omega (arith, next_straights G start end key g.sized g.keyed v g.on r h q)

    pub next_below : r < 240
    next_below = ⊎_elim (λ l. omega arith) (λ e. omega (arith, g.sized.end_below)) h.within

    pub next_room : n < 194
    next_room = omega (arith, g.room, straight_left (ℕ_discrete r end))

    pub going_falls : (r ≡ end → ⊥) → word key r < word key v
    going_falls ne = next_falls G start end key g.sized g.keyed v g.on r h ne

    pub going_next : (r ≡ end → ⊥) → Going G start end key (set part (n + 3) r) r (n + 1)
    going_next ne =
        record {
          sized = g.sized;
          keyed = g.keyed;
          on = next_on G start end key g.sized g.keyed v g.on r h ne;
          past = g.past ++ (v ∷ []);
          count = omega (arith, marks_length);
          room = omega (arith, g.room, next_straights G start end key g.sized g.keyed v g.on r h ne);
          written = written_next next_room;
          goes = λ us w. rw append_assoc (g.goes (v ∷ us) (next_way G start end key g.sized g.keyed v g.on r h ne us w));
        }

    pub arrived : r ≡ end → Walked G start end key (set part (n + 3) r) (n + 1)
    arrived q =
        let w = g.goes (v ∷ end ∷ []) (end_way G start end key g.sized g.keyed v g.on (subst (Hop G end key v) q h)) in
        let s = settled G start end key g.sized g.keyed in
        record {
          marks = g.past ++ (v ∷ end ∷ []);
          route = walk_route G start end (Final G start end key g.sized g.keyed) (L G start end key g.sized g.keyed) s w;
          count = omega (arith, length-append g.past (v ∷ end ∷ []), g.count);
          fits = omega (arith, next_room);
          length_is = ap (λ (l : Label). l.len) (walk_label G start end (Final G start end key g.sized g.keyed) (L G start end key g.sized g.keyed) s w);
          written = written_next next_room ∙ ap marks_only (append_assoc g.past (v ∷ []) (r ∷ []) ∙ ap (λ (u : ℕ). g.past ++ (v ∷ u ∷ [])) q);
        }
