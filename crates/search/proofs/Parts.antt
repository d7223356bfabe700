-- The list of three parts: two of its marks exchanged, keys lowered, and one pass after another.
use mathlib.Core.Path.{◌≡◌, refl, sym, ap, ◌∙◌, subst}
use mathlib.Core.Logic.{◌⊎◌, inl, inr, ⊎_elim}
use mathlib.Core.List.{List}
use Prim.Native.Nat.{ℕ, ◌+◌, ◌*◌, ◌-◌, ◌<◌, ◌≤◌, min}
use native.Mathlib.Decide.{ℕ_discrete, dec_lt}
use native.Mathlib.Omega.{arith}
use lib.ListN.{length, set, length-set}
use lib.Seq.{get_or-set_same, get_or-set_other}
use Rattle.geometry.specs.Words.{word}
use Rattle.heaps.specs.inner.Marks.{Swapped}
use Rattle.heaps.proofs.Marks.{swapped}
use Rattle.search.specs.inner.Keys.{unreached, Open}
use Rattle.search.specs.inner.Parts.{Here, Parted, Exchanged, Resorted, Lowered, Passed}

-- what stands among the first n
pub here_open : (waiting spot : List ℕ) (n v : ℕ) → Here waiting spot v → word spot v < n → Open waiting n v
here_open waiting spot n v h l = record { place = word spot v; within = l; is = h }

pub spot_is : (waiting spot : List ℕ) (n v : ℕ) → ((j : ℕ) → j < n → word spot (word waiting j) ≡ j) → (o : Open waiting n v) → word spot v ≡ o.place
spot_is waiting spot n v i o = ap (word spot) (sym o.is) ∙ i o.place o.within

open_swapped : {o o' : List ℕ} {i j n v : ℕ} → Swapped o o' i j → i < n → j < n → Open o n v → Open o' n v
open_swapped {o} {o'} {i} {j} {n} {v} x a b p = go (ℕ_discrete p.place i) (ℕ_discrete p.place j)
  where
    go : Dec (p.place ≡ i) → Dec (p.place ≡ j) → Open o' n v
    go (yes q) d = record { place = j; within = b; is = x.second ∙ ap (word o) (sym q) ∙ p.is }
    go (no q) (yes r) = record { place = i; within = a; is = x.first ∙ ap (word o) (sym r) ∙ p.is }
    go (no q) (no r) = record { place = p.place; within = p.within; is = x.others p.place q r ∙ p.is }

swapped_back : {o o' : List ℕ} {i j : ℕ} → Swapped o o' i j → Swapped o' o i j
swapped_back x = record { sized = sym x.sized; first = sym x.second; second = sym x.first; others = λ k a b. sym (x.others k a b) }

-- two of the first n exchanged
module _ {W S W' S' : List ℕ} {i j n : ℕ} (x : Exchanged W S W' S' i j) (inverse : (k : ℕ) → k < n → word S (word W k) ≡ k) (a : i < n) (b : j < n) where
  once : (k l : ℕ) → k < n → l < n → word W k ≡ word W l → k ≡ l
  once k l c d e = sym (inverse k c) ∙ ap (word S) e ∙ inverse l d

  pub swapped_inverse : (k : ℕ) → k < n → word S' (word W' k) ≡ k
  swapped_inverse k l = go (ℕ_discrete k i) (ℕ_discrete k j)
    where
      go : Dec (k ≡ i) → Dec (k ≡ j) → word S' (word W' k) ≡ k
      go (yes q) d = ap (word S') (ap (word W') q ∙ x.list.first) ∙ x.first ∙ sym q
      go (no q) (yes r) = ap (word S') (ap (word W') r ∙ x.list.second) ∙ x.second ∙ sym r
      go (no q) (no r) =
          ap (word S') (x.list.others k q r) ∙ x.others (word W k) (λ e. q (once k i l a e)) (λ e. r (once k j l b e)) ∙ inverse k l

  pub swapped_marks : ((k : ℕ) → k < n → word W k < 240) → (k : ℕ) → k < n → word W' k < 240
  swapped_marks f k l =
      let o = open_swapped (swapped_back x.list) a b (record { place = k; within = l; is = refl }) in
      omega (arith, o.is, f o.place o.within)

  swapped_here : (v : ℕ) → Here W S v → Here W' S' v
  swapped_here v h = go (ℕ_discrete (word S v) i) (ℕ_discrete (word S v) j)
    where
      mark : (k : ℕ) → word S v ≡ k → v ≡ word W k
      mark k q = sym h ∙ ap (word W) q

      go : Dec (word S v ≡ i) → Dec (word S v ≡ j) → Here W' S' v
      go (yes q) d = ap (word W') (ap (word S') (mark i q) ∙ x.second) ∙ x.list.second ∙ sym (mark i q)
      go (no q) (yes r) = ap (word W') (ap (word S') (mark j r) ∙ x.first) ∙ x.list.first ∙ sym (mark j r)
      go (no q) (no r) =
          let e : word S' v ≡ word S v = x.others v (λ e. q (ap (word S) e ∙ inverse i a)) (λ e. r (ap (word S) e ∙ inverse j b)) in
          ap (word W') e ∙ x.list.others (word S v) q r ∙ h

  pub swapped_resorted : Resorted W S W' S' n
  swapped_resorted = record { onward = λ v. open_swapped x.list a b; back = λ v. open_swapped (swapped_back x.list) a b; here = swapped_here }

pub resorted_none : {W S : List ℕ} {n : ℕ} → Resorted W S W S n
resorted_none = record { onward = λ v o. o; back = λ v o. o; here = λ v h. h }

resorted_both : {W S W' S' W'' S'' : List ℕ} {n : ℕ} → Resorted W S W' S' n → Resorted W' S' W'' S'' n → Resorted W S W'' S'' n
resorted_both a b = record { onward = λ v o. b.onward v (a.onward v o); back = λ v o. a.back v (b.back v o); here = λ v h. b.here v (a.here v h) }

-- keys lowered

lowered_none : {key : List ℕ} {P : ℕ → Type 0} {most : ℕ → ℕ} → ((v : ℕ) → P v → ⊥) → Lowered key key P most
lowered_none h = record { same = refl; down = λ v. omega arith; short = λ v p. absurd (h v p); came = λ v. inl refl }

pub lowered_under : {key key' : List ℕ} {P Q : ℕ → Type 0} {most : ℕ → ℕ} → ((v : ℕ) → P v → Q v) → ((v : ℕ) → Q v → P v) → Lowered key key' P most → Lowered key key' Q most
lowered_under to from l =
    record { same = l.same; down = l.down; short = λ v q. l.short v (from v q); came = λ v. ⊎_elim (λ e. inl e) (λ p. inr (to v p.0, p.1)) (l.came v) }

lowered_both : {key key' key'' : List ℕ} {P Q : ℕ → Type 0} {most : ℕ → ℕ} → Lowered key key' P most → Lowered key' key'' Q most → Lowered key key'' (λ v. P v ⊎ Q v) most
lowered_both {key} {key'} {key''} {P} {Q} {most} a b =
    record {
      same = b.same ∙ a.same;
      down = λ v. omega (arith, a.down v, b.down v);
      short = λ v p. ⊎_elim (λ q. omega (arith, a.short v q, b.down v)) (λ q. b.short v q) p;
      came = λ v. ⊎_elim (λ e. ⊎_elim (λ d. inl (e ∙ d)) (λ p. inr (inl p.0, e ∙ p.1)) (a.came v)) (λ p. inr (inr p.0, p.1)) (b.came v);
    }

lowered_one : {key : List ℕ} {P : ℕ → Type 0} {most : ℕ → ℕ} {v new : ℕ} → v < length key → new ≡ min (word key v) (most v) → P v → ((x : ℕ) → P x → x ≡ v)
    → Lowered key (set key v new) P most
lowered_one {key} {P} {most} {v} {new} l e p only =
    record { same = length-set key v new; down = λ w. down w (ℕ_discrete w v); short = λ w q. omega (arith, here w (only w q), e, ap most (only w q)); came = λ w. came w (ℕ_discrete w v) }
  where
    here : (w : ℕ) → w ≡ v → word (set key v new) w ≡ new
    here w q = ap (word (set key v new)) q ∙ get_or-set_same key v new 0 l

    there : (w : ℕ) → (w ≡ v → ⊥) → word (set key v new) w ≡ word key w
    there w h = get_or-set_other key v w new 0 h

    down : (w : ℕ) → Dec (w ≡ v) → word (set key v new) w ≤ word key w
    down w (yes q) = omega (arith, here w q, e, ap (word key) q)
    down w (no q) = omega (arith, there w q)

    Came : ℕ → Type 0
    Came w = (word (set key v new) w ≡ word key w) ⊎ (P w × (word (set key v new) w ≡ most w))

    at_v : Dec (most v < word key v) → Came v
    at_v (yes h) = inr (p, omega (arith, here v refl, e))
    at_v (no h) = inl (omega (arith, here v refl, e))

    came : (w : ℕ) → Dec (w ≡ v) → Came w
    came w (yes q) = subst Came (sym q) (at_v (dec_lt (most v) (word key v)))
    came w (no q) = inl (there w q)

lowered_kept : {key : List ℕ} {P : ℕ → Type 0} {most : ℕ → ℕ} {v : ℕ} → word key v ≤ most v → ((x : ℕ) → P x → x ≡ v) → Lowered key key P most
lowered_kept {key} {P} {most} {v} l only =
    record { same = refl; down = λ x. omega arith; short = λ x q. omega (arith, l, ap (word key) (only x q), ap most (only x q)); came = λ x. inl refl }

-- one pass after another

module _ {bound most : ℕ → ℕ} {W S K : List ℕ} {n : ℕ} where
  pub passed_none : {P : ℕ → Type 0} {T : List ℕ} {u : ℕ} → Parted bound W S K T u n → ((v : ℕ) → Open W n v → P v → ⊥) → Passed bound most P W S K W S K T u n
  passed_none p h = record { parted = p; sorted = resorted_none; keys = lowered_none (λ v q. h v q.0 q.1) }

  pub passed_both : {P Q : ℕ → Type 0} {W' S' K' T' W'' S'' K'' T'' : List ℕ} {u u' : ℕ} → Passed bound most P W S K W' S' K' T' u n → Passed bound most Q W' S' K' W'' S'' K'' T'' u' n
      → Passed bound most (λ v. P v ⊎ Q v) W S K W'' S'' K'' T'' u' n
  passed_both a b =
      record {
        parted = b.parted;
        sorted = resorted_both a.sorted b.sorted;
        keys = lowered_under (λ v p. ⊎_elim (λ q. (q.0, inl q.1)) (λ q. (a.sorted.back v q.0, inr q.1)) p)
            (λ v q. ⊎_elim (λ p. inl (q.0, p)) (λ p. inr (a.sorted.onward v q.0, p)) q.1) (lowered_both a.keys b.keys);
      }

  pub passed_under : {P Q : ℕ → Type 0} {W' S' K' T' : List ℕ} {u : ℕ} → ((v : ℕ) → P v → Q v) → ((v : ℕ) → Open W n v → Q v → P v) → Passed bound most P W S K W' S' K' T' u n
      → Passed bound most Q W S K W' S' K' T' u n
  passed_under to from a =
      record { parted = a.parted; sorted = a.sorted; keys = lowered_under (λ v p. (p.0, to v p.1)) (λ v q. (q.0, from v q.0 q.1)) a.keys }

-- a mark that is waiting has its sum, or is not reached
module _ {bound : ℕ → ℕ} {W S K T : List ℕ} {u n v : ℕ} (p : Parted bound W S K T u n) (h : Here W S v) where
  pub sum_of : word S v < n → u ≤ word S v → word T (word S v) ≡ word K v + 256 * bound v
  sum_of l g = omega (arith, p.sum (word S v) g l, ap (word K) h, ap bound h)

  pub fresh_key : word S v < u → word K v ≡ unreached
  fresh_key g = ap (word K) (sym h) ∙ p.fresh (word S v) g

-- one mark is relaxed
module _ {bound : ℕ → ℕ} (most : ℕ → ℕ) {W S K T : List ℕ} {u n v : ℕ} (p : Parted bound W S K T u n) (h : Here W S v) where
  pub passed_settled : n ≤ word S v → Passed bound most (λ x. x ≡ v) W S K W S K T u n
  passed_settled l = passed_none p (λ x o e. omega (arith, spot_is W S n x p.inverse o, o.within, ap (word S) e))

  pub passed_kept : word K v ≤ most v → Passed bound most (λ x. x ≡ v) W S K W S K T u n
  passed_kept l = record { parted = p; sorted = resorted_none; keys = lowered_kept l (λ x q. q.1) }

  module _ {new : ℕ} (below : v < 240) (e : new ≡ min (word K v) (most v)) (l : word S v < n) where
    keys : Lowered K (set K v new) (λ x. Open W n x × (x ≡ v)) most
    keys = lowered_one (omega (arith, p.keyed)) e (here_open W S n v h l, refl) (λ x q. q.1)

    -- the key of v is new, those of the other marks stay
    key_new : (x : ℕ) → x ≡ v → word (set K v new) x ≡ new
    key_new x q = ap (word (set K v new)) q ∙ get_or-set_same K v new 0 (omega (arith, p.keyed))

    key_kept : (j : ℕ) → j < n → (j ≡ word S v → ⊥) → word (set K v new) (word W j) ≡ word K (word W j)
    key_kept j b ne = get_or-set_other K v (word W j) new 0 (λ q. ne (sym (p.inverse j b) ∙ ap (word S) q))

    still_fresh : (j : ℕ) → j < u → (j ≡ word S v → ⊥) → word (set K v new) (word W j) ≡ unreached
    still_fresh j b ne = key_kept j (omega (arith, p.low)) ne ∙ p.fresh j b

    -- the sum at a place is written, for a mark x there
    abbrev Sum : List ℕ → ℕ → ℕ → Type 0
    Sum T' j x = word T' j ≡ word (set K v new) x + 256 * bound x

    pub passed_reached : {sum : ℕ} → u ≤ word S v → sum ≡ word T (word S v) - (word K v - new) → Passed bound most (λ x. x ≡ v) W S K W S (set K v new) (set T (word S v) sum) u n
    passed_reached {sum} g s =
        record {
          parted =
              record {
                sized = p.sized;
                spots = p.spots;
                keyed = length-set K v new ∙ p.keyed;
                low = p.low;
                few = p.few;
                marks = p.marks;
                inverse = p.inverse;
                fresh = λ j b. still_fresh j b (omega arith);
                summed = length-set T (word S v) sum ∙ p.summed;
                sum = λ j a b. sums j a b (ℕ_discrete j (word S v));
              };
          sorted = resorted_none;
          keys = keys;
        }
      where
        sums : (j : ℕ) → u ≤ j → j < n → Dec (j ≡ word S v) → Sum (set T (word S v) sum) j (word W j)
        sums j a b (yes q) =
            let w : word W j ≡ v = ap (word W) q ∙ h in
            let t : word (set T (word S v) sum) j ≡ sum = ap (word (set T (word S v) sum)) q ∙ get_or-set_same T (word S v) sum 0 (omega (arith, p.summed, p.few)) in
            omega (arith, t, s, e, sum_of p h l g, key_new (word W j) w, ap bound w)
        sums j a b (no q) = get_or-set_other T (word S v) j sum 0 q ∙ p.sum j a b ∙ ap (λ (k : ℕ). k + 256 * bound (word W j)) (sym (key_kept j b q))

    pub passed_fresh : {W' S' : List ℕ} {sum : ℕ} → word S v < u → Exchanged W S W' S' (word S v) (u - 1) → sum ≡ new + 256 * bound v
        → Passed bound most (λ x. x ≡ v) W S K W' S' (set K v new) (set T (u - 1) sum) (u - 1) n
    passed_fresh {W'} {S'} {sum} g x s =
        record {
          parted =
              record {
                sized = x.list.sized ∙ p.sized;
                spots = x.spots ∙ p.spots;
                keyed = length-set K v new ∙ p.keyed;
                low = omega (arith, p.low);
                few = p.few;
                marks = swapped_marks x p.inverse l last p.marks;
                inverse = swapped_inverse x p.inverse l last;
                fresh = λ j b. fresh j b (ℕ_discrete j (word S v));
                summed = length-set T (u - 1) sum ∙ p.summed;
                sum = λ j a b. sums j a b (ℕ_discrete j (u - 1));
              };
          sorted = swapped_resorted x p.inverse l last;
          keys = keys;
        }
      where
        last : u - 1 < n
        last = omega (arith, p.low)

        fresh : (j : ℕ) → j < u - 1 → Dec (j ≡ word S v) → word (set K v new) (word W' j) ≡ unreached
        fresh j b (yes q) = ap (word (set K v new)) (ap (word W') q ∙ x.list.first) ∙ still_fresh (u - 1) (omega arith) (omega arith)
        fresh j b (no q) = ap (word (set K v new)) (x.list.others j q (omega arith)) ∙ still_fresh j (omega arith) q

        sums : (j : ℕ) → u - 1 ≤ j → j < n → Dec (j ≡ u - 1) → Sum (set T (u - 1) sum) j (word W' j)
        sums j a b (yes q) =
            let w : word W' j ≡ v = ap (word W') q ∙ x.list.second ∙ h in
            let t : word (set T (u - 1) sum) j ≡ sum = ap (word (set T (u - 1) sum)) q ∙ get_or-set_same T (u - 1) sum 0 (omega (arith, p.summed, p.few)) in
            omega (arith, t, s, key_new (word W' j) w, ap bound w)
        sums j a b (no q) =
            let i : word W' j ≡ word W j = x.list.others j (omega arith) q in
            let t = p.sum j (omega arith) b in
            omega (arith, get_or-set_other T (u - 1) j sum 0 q, t, key_kept j b (omega arith), ap (word (set K v new)) i, ap bound i)

-- the same under other bounds and other keys by the way, where those of marks are the same
pub parted_as : {bound bound' : ℕ → ℕ} {W S K T : List ℕ} {u n : ℕ} → ((v : ℕ) → v < 240 → bound v ≡ bound' v) → Parted bound W S K T u n → Parted bound' W S K T u n
parted_as {W = W} {K = K} b p =
    record {
      sized = p.sized;
      spots = p.spots;
      keyed = p.keyed;
      low = p.low;
      few = p.few;
      marks = p.marks;
      inverse = p.inverse;
      fresh = p.fresh;
      summed = p.summed;
      sum = λ j f h. p.sum j f h ∙ ap (λ (k : ℕ). word K (word W j) + 256 * k) (b (word W j) (p.marks j h));
    }

pub passed_as : {bound bound' most most' : ℕ → ℕ} {P : ℕ → Type 0} {W S K W' S' K' T' : List ℕ} {u n : ℕ} → ((v : ℕ) → v < 240 → bound v ≡ bound' v) → ((v : ℕ) → v < 240 → most v ≡ most' v)
    → Passed bound most P W S K W' S' K' T' u n → Passed bound' most' P W S K W' S' K' T' u n
passed_as {most = most} {most' = most'} {P = P} {W = W} {n = n} b m x =
    record {
      parted = parted_as b x.parted;
      sorted = x.sorted;
      keys =
          record {
            same = x.keys.same;
            down = x.keys.down;
            short = λ v p. omega (arith, x.keys.short v p, here v p);
            came = λ v. ⊎_elim (λ e. inl e) (λ p. inr (p.0, p.1 ∙ here v p.0)) (x.keys.came v);
          };
    }
  where
    here : (v : ℕ) → Open W n v × P v → most v ≡ most' v
    here v p = let o = x.sorted.onward v p.0 in m v (omega (arith, x.parted.marks o.place o.within, o.is))

-- what the code of an exchange does
pub exchanged : (W S : List ℕ) (i j : ℕ) → i < length W → j < length W → word W i < length S → word W j < length S → word S (word W i) ≡ i → word S (word W j) ≡ j
    → Exchanged W S (set (set W i (word W j)) j (word W i)) (set (set S (word W j) i) (word W i) j) i j
exchanged W S i j a b c d e f =
    record {
      list = swapped W i j a b;
      spots = length-set (set S (word W j) i) (word W i) j ∙ length-set S (word W j) i;
      first = first (ℕ_discrete (word W j) (word W i));
      second = second;
      others = λ v g h. get_or-set_other (set S (word W j) i) (word W i) v j 0 g ∙ get_or-set_other S (word W j) v i 0 h;
    }
  where
    second : word (set (set S (word W j) i) (word W i) j) (word W i) ≡ j
    second = get_or-set_same (set S (word W j) i) (word W i) j 0 (omega (arith, length-set S (word W j) i))

    first : Dec (word W j ≡ word W i) → word (set (set S (word W j) i) (word W i) j) (word W j) ≡ i
    first (yes q) = ap (word (set (set S (word W j) i) (word W i) j)) q ∙ second ∙ sym f ∙ ap (word S) q ∙ e
    first (no q) = get_or-set_other (set S (word W j) i) (word W i) (word W j) j 0 q ∙ get_or-set_same S (word W j) i 0 d
