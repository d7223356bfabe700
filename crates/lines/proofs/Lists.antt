-- Increasing lists of lines.
use mathlib.Core.Path.{◌≡◌, refl, sym, ap, ◌∙◌, subst}
use mathlib.Core.Bool.{cond}
use mathlib.Core.List.{List, [], ◌∷◌, ◌++◌, append_assoc}
use Prim.Native.Nat.{ℕ, suc, ◌+◌, ◌≤◌, ◌<◌, min, max}
use native.Mathlib.Numerals.{add-one}
use native.Mathlib.Omega.{arith}
use native.Mathlib.Decide.{dec_lt}
use lib.ListN.{length, take, drop, set, length-set, length-take, take-append-drop, drop_of_length-le}
use lib.Dec.{eqb}
use Rattle.std.specs.Option.{unwrap_or}
use Rattle.std.specs.Prelude.{Option, position}
use Rattle.std.specs.List.{position_or_len}
use Rattle.std.proofs.lemmas.List.Recursion.{is_position_or_len}
use Rattle.std.proofs.lemmas.List.Sums.{prefix_len-le-length}
use lib.Seq.{drop-cons, take-suc-set, drop-set-lt, take-set-lt, get_or-take, take-take}
use borrow.Author.Tests.{eq-eqb, ne_eqb, lt-ltb, le-ltb}
use Rattle.geometry.specs.Words.{word}
use Rattle.lines.specs.Lines.{insert, index_of}
use Rattle.lines.specs.inner.Lined.{Rising, none, then, Lined}

insert_less : (x y : ℕ) (ys : List ℕ) → x < y → insert x (y ∷ ys) ≡ x ∷ y ∷ ys
unfolding insert
insert_less x y ys l = rw (lt-ltb x y l)

insert_same : (x y : ℕ) (ys : List ℕ) → x ≡ y → insert x (y ∷ ys) ≡ y ∷ ys
unfolding insert
insert_same x y ys e = rw (le-ltb x y (omega arith), eq-eqb x y e)

insert_more : (x y : ℕ) (ys : List ℕ) → y < x → insert x (y ∷ ys) ≡ y ∷ insert x ys
unfolding insert
insert_more x y ys l = rw (le-ltb x y (omega arith), ne_eqb x y (λ (e : x ≡ y). omega arith))

-- which of the three a split of two numbers is
data Order (x y : ℕ) : Type 0 where
  below : x < y → Order x y
  equal : x ≡ y → Order x y
  above : y < x → Order x y

order : (x y : ℕ) → Order x y
order x y = elim (dec_lt x y) [ yes l ↦ below l | no l ↦ elim (dec_lt y x) [ yes k ↦ above k | no k ↦ equal (omega arith) ] ]

rising_from : {b c : ℕ} {l : List ℕ} → c ≤ b → Rising b l → Rising c l
rising_from h none = none
rising_from {b} {c} h (then {x = x} k r) = let m : c ≤ x = omega arith in then m r

-- how a number comes to stand in a list
pub data Placed (x : ℕ) : List ℕ → List ℕ → Type 0 where
  put_last : Placed x [] (x ∷ [])
  put_before : {y : ℕ} {ys : List ℕ} → x < y → Placed x (y ∷ ys) (x ∷ y ∷ ys)
  put_same : {y : ℕ} {ys : List ℕ} → x ≡ y → Placed x (y ∷ ys) (y ∷ ys)
  put_after : {y : ℕ} {ys zs : List ℕ} → y < x → Placed x ys zs → Placed x (y ∷ ys) (y ∷ zs)

pub placed : (x : ℕ) (l : List ℕ) → Placed x l (insert x l)
unfolding insert
placed x [] = put_last
placed x (y ∷ ys) = go (order x y) (placed x ys)
  where
    go : Order x y → Placed x ys (insert x ys) → Placed x (y ∷ ys) (insert x (y ∷ ys))
    go (below l) p = rw (insert_less x y ys l) (put_before l)
    go (equal e) p = rw (insert_same x y ys e) (put_same e)
    go (above l) p = rw (insert_more x y ys l) (put_after l p)

rising_placed : {x b : ℕ} {l k : List ℕ} → b ≤ x → Rising b l → Placed x l k → Rising b k
rising_placed h r put_last = then h none
rising_placed {x} h (then {x = y} k r) (put_before l) = let m : suc x ≤ y = omega arith in then h (then m r)
rising_placed h r (put_same e) = r
rising_placed h (then k r) (put_after l p) = then k (rising_placed (omega arith) r p)

pub rising_insert : (x : ℕ) {b : ℕ} {l : List ℕ} → b ≤ x → Rising b l → Rising b (insert x l)
rising_insert x {l = l} h r = rising_placed h r (placed x l)

rising_tail : {b y : ℕ} {l : List ℕ} → Rising b (y ∷ l) → Rising 0 l
rising_tail (then k r) = rising_from (omega arith) r

insert_least : {y : ℕ} {l : List ℕ} → Rising (suc y) l → insert y l ≡ y ∷ l
unfolding insert
insert_least none = refl
insert_least {y} (then {x = x} {xs = xs} k r) = insert_less y x xs (omega arith)

-- a number carried past one that it is not
insert_past : {b : ℕ} (x y : ℕ) (ys : List ℕ) → Rising b (y ∷ ys) → (x ≡ y → ⊥) → insert x (y ∷ ys) ≡ min x y ∷ insert (max x y) ys
insert_past x y ys (then k r) n = go (order x y)
  where
    go : Order x y → insert x (y ∷ ys) ≡ min x y ∷ insert (max x y) ys
    go (below l) =
        let p : min x y ≡ x = omega arith in
        let q : max x y ≡ y = omega arith in
        rw (insert_less x y ys l, p, q, insert_least r)
    go (equal e) = absurd (n e)
    go (above l) =
        let p : min x y ≡ y = omega arith in
        let q : max x y ≡ x = omega arith in
        rw (insert_more x y ys l, p, q)

-- the list from j on, of the first n
drop_at : (l : List ℕ) (n j : ℕ) → j < n → n ≤ length l → drop j (take n l) ≡ word l j ∷ drop (j + 1) (take n l)
drop_at l n j h k =
    let s : j < length (take n l) = simp length-take (omega arith) in
    drop-cons (take n l) j 0 s ∙ ap (λ (x : ℕ). x ∷ drop (suc j) (take n l)) (get_or-take n l j 0 h) ∙ ap (λ (i : ℕ). word l j ∷ drop i (take n l)) (sym (add-one j))

drop_all : (l : List ℕ) (n j : ℕ) → n ≤ j → drop j (take n l) ≡ []
drop_all l n j h = let s : length (take n l) ≤ j = simp length-take (omega arith) in drop_of_length-le (take n l) s

-- x is put among the first n of the old list: j are passed and c is carried
pub record Inserting (old : List ℕ) (n x : ℕ) (list : List ℕ) (c j : ℕ) : Type 0 where
  pub sized : length list ≡ length old
  pub within : j ≤ n
  pub made : insert x (take n old) ≡ take j list ++ insert c (drop j (take n list))
  pub rising : Rising 0 (drop j (take n list))

module _ (old : List ℕ) (n x : ℕ) (list : List ℕ) (c j : ℕ) (small : n < length old) (i : Inserting old n x list c j) where
  abbrev rest : List ℕ
  rest = drop (j + 1) (take n list)

  fits : n ≤ length list
  fits = omega (arith, i.sized)

  pub inserting_had : j < n → c ≡ word list j → Lined old n x list n
  inserting_had l e =
      let d = drop_at list n j l fits in
      record {
        sized = i.sized;
        count = omega arith;
        is =
            sym
            (i.made ∙ ap (λ (k : List ℕ). take j list ++ insert c k) d ∙ ap (λ (k : List ℕ). take j list ++ k) (insert_same c (word list j) rest e)
            ∙ ap (λ (k : List ℕ). take j list ++ k) (sym d) ∙ ap (λ (k : List ℕ). k ++ drop j (take n list)) (sym (take-take j n list i.within))
            ∙ take-append-drop j (take n list));
      }

  passed : j < n → (c ≡ word list j → ⊥) → Inserting old n x (set list j (min c (word list j))) (max c (word list j)) (j + 1)
  passed l e =
      let y = word list j in
      let d = drop_at list n j l fits in
      let r : Rising 0 (y ∷ rest) = subst (Rising 0) d i.rising in
      let t : take (j + 1) (set list j (min c y)) ≡ take j list ++ (min c y ∷ []) =
      ap (λ (k : ℕ). take k (set list j (min c y))) (add-one j) ∙ take-suc-set list j (min c y) (omega (arith, i.sized)) in
      let q : drop (j + 1) (take n (set list j (min c y))) ≡ rest =
      ap (drop (j + 1)) (take-set-lt n list j (min c y) l) ∙ drop-set-lt (j + 1) (take n list) j (min c y) (omega arith) in
      record {
        sized = length-set list j (min c y) ∙ i.sized;
        within = omega arith;
        made =
            i.made ∙ ap (λ (k : List ℕ). take j list ++ insert c k) d ∙ ap (λ (k : List ℕ). take j list ++ k) (insert_past c y rest r e)
            ∙ sym (append_assoc (take j list) (min c y ∷ []) (insert (max c y) rest))
            ∙ ap (λ (k : List ℕ). k ++ insert (max c y) rest) (sym t) ∙ ap (λ (k : List ℕ). take (j + 1) (set list j (min c y)) ++ insert (max c y) k) (sym q);
        rising = rw q (rising_tail r);
      }

  pub inserting_next : (lo hi : ℕ) → lo ≡ min c (word list j) → hi ≡ max c (word list j) → j < n → (c ≡ word list j → ⊥) → Inserting old n x (set list j lo) hi (j + 1)
  inserting_next lo hi p q l e = rw (p, q) (passed l e)

  pub inserting_last : n ≤ j → Lined old n x (set list n c) (n + 1)
  unfolding insert
  inserting_last l =
      let e : j ≡ n = omega (arith, i.within) in
      record {
        sized = length-set list n c ∙ i.sized;
        count = omega arith;
        is =
            ap (λ (k : ℕ). take k (set list n c)) (add-one n) ∙ take-suc-set list n c (omega (arith, i.sized))
            ∙ sym (i.made ∙ ap (λ (k : List ℕ). take j list ++ insert c k) (drop_all list n j l) ∙ ap (λ (k : ℕ). take k list ++ (c ∷ [])) e);
      }

-- looking for x
pub index_here : (x y : ℕ) (ys : List ℕ) → y ≡ x → index_of x (y ∷ ys) ≡ 0
unfolding index_of
index_here x y ys e = rw (eq-eqb x y (sym e))

pub index_past : (x y : ℕ) (ys : List ℕ) → (y ≡ x → ⊥) → index_of x (y ∷ ys) ≡ suc (index_of x ys)
unfolding index_of
index_past x y ys n = rw (ne_eqb x y (λ (e : x ≡ y). n (sym e)))

-- the position of x, by the library's search
pub index_is : (l : List ℕ) (n x r : ℕ) {o : Option ℕ} → n ≤ length l → r ≡ unwrap_or o n → o ≡ position (λ (y : ℕ). eqb x y) (take n l) → r ≡ index_of x (take n l)
unfolding index_of
index_is l n x r h e f = e ∙ ap (λ (o : Option ℕ). unwrap_or o n) f ∙ go (dec_lt P n)
  where
    P : ℕ
    P = position_or_len (λ (y : ℕ). eqb x y) (take n l)

    len : length (take n l) ≡ n
    len = simp length-take (omega arith)

    same : index_of x (take n l) ≡ P
    same = is_position_or_len (index_of x) (λ (y : ℕ). eqb x y) refl (λ y ys. ap (cond (eqb x y) 0) (omega arith)) (take n l)

    most : P ≤ length (take n l)
    most = prefix_len-le-length _ (take n l)

    go : Dec (P < n) → unwrap_or (position (λ (y : ℕ). eqb x y) (take n l)) n ≡ index_of x (take n l)
    go (yes b) = rw (len, lt-ltb P n b, same) refl
    go (no b) = rw (len, le-ltb P n (omega arith), same) (omega (arith, most, len))
