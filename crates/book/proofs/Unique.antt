-- The definitions leave no choice: a pair's byte, a route's record, the drawing of a book and what a call leaves are each one thing.
use mathlib.Core.Path.{◌≡◌, refl, sym, ◌∙◌, subst}
use mathlib.Core.Logic.{◌⊎◌, inl, inr}
use mathlib.Core.List.{List}
use Prim.Native.Nat.{ℕ}
use native.Mathlib.Decide.{ℕ_discrete}
use Rattle.geometry.specs.Words.{Point, word}
use Rattle.tables.specs.Tables.{Records, Tables, pair_index, records, route_words, stored, tables}
use Rattle.visibility.specs.Visibility.{ByPlaces, PairIs}
use Rattle.routing.specs.Routes.{RouteIs, Routed}
use Rattle.totals.specs.Totals.{totals_of}
use Rattle.book.specs.Book.{Book, Edit, Target, target, the_block, the_figure, the_run, written}
use Rattle.book.specs.Drawing.{Drawn, Right}
use Rattle.book.specs.Edits.{Called, Checked, Edited, Started, book_of, fitness}
use Rattle.book.specs.History.{Calls, call, no_calls}
use Rattle.tables.proofs.Splices.{blocks_ext, routes_ext, runs_ext}
use Rattle.tables.proofs.Pairs.{pairs_ext}
use Rattle.visibility.proofs.Unique.{block_redrawn_unique, pair_unique, run_redrawn_unique}
use Rattle.routing.proofs.Unique.{route_unique, routed_unique}

pub drawn_unique : (b : Book) (T T' : Tables) → Drawn b T → Drawn b T' → T ≡ T'
drawn_unique b T T' d d' = λ i. tables (blocks i) (runs i) (pairs i) (routes i) (totals i)
  where
    blocks : T.blocks ≡ T'.blocks
    blocks = blocks_ext T.blocks T'.blocks d.sizes.0 d'.sizes.0 (λ n l. d.blocks n l ∙ sym (d'.blocks n l))

    runs : T.runs ≡ T'.runs
    runs = runs_ext T.runs T'.runs d.sizes.1 d'.sizes.1 (λ m l. d.runs m l ∙ sym (d'.runs m l)) (d.figure ∙ sym d'.figure)

    same : records T ≡ records T'
    same = λ i. stored (blocks i) (runs i)

    pairs : T.pairs ≡ T'.pairs
    pairs = pairs_ext T.pairs T'.pairs d.sizes.2 d'.sizes.2
        (λ i j h l. pair_unique (records T') i j _ _ (subst (λ (R : Records). PairIs R i j (word T.pairs (pair_index i j))) same (d.right.pairs.each i j h l)) (d'.right.pairs.each i j h l))

    routes : T.routes ≡ T'.routes
    routes = routes_ext T.routes T'.routes d.sizes.3 d'.sizes.3
        (λ m l. route_unique (records T') (ByPlaces (records T')) m
        (subst (λ (R : Records). RouteIs R (ByPlaces R) m (route_words T.routes m)) same (d.right.routes m l)) (d'.right.routes m l))

    totals : T.totals ≡ T'.totals
    totals = d.right.totals ∙ (λ i. totals_of (pairs i) (routes i)) ∙ sym d'.right.totals

-- What a call answers and leaves is determined, over any tables.

-- tables with the same records are the same where the pairs are, since the routes follow, and the totals
tables_same : (T T' : Tables) → T.blocks ≡ T'.blocks → T.runs ≡ T'.runs → (records T ≡ records T' → T.pairs ≡ T'.pairs)
    → Routed (records T) T.pairs T.routes → Routed (records T') T'.pairs T'.routes
    → T.totals ≡ totals_of T.pairs T.routes → T'.totals ≡ totals_of T'.pairs T'.routes → T ≡ T'
tables_same T T' b r p q q' t t' =
    let s : records T ≡ records T' = λ i. stored (b i) (r i) in
    let e : T.pairs ≡ T'.pairs = p s in
    let f : T.routes ≡ T'.routes = routed_unique (records T') T'.pairs T.routes T'.routes (rw (s, e) at q) q' in
    let g : T.totals ≡ T'.totals = t ∙ (λ i. totals_of (e i) (f i)) ∙ sym t' in
    λ i. tables (b i) (r i) (e i) (f i) (g i)

edited_unique : (pl : Target) (T : Tables) (ps : List Point) (T₁ T₂ : Tables) → Edited pl T ps T₁ → Edited pl T ps T₂ → T₁ ≡ T₂
edited_unique (the_block n) T ps T₁ T₂ e f =
    tables_same T₁ T₂ (e.blocks ∙ sym f.blocks) (e.runs ∙ sym f.runs)
    (λ s. block_redrawn_unique (records T₂) n T.pairs T₁.pairs T₂.pairs (rw s at e.pairs) f.pairs) e.routes f.routes e.totals f.totals
edited_unique (the_run m) T ps T₁ T₂ e f =
    tables_same T₁ T₂ (e.blocks ∙ sym f.blocks) (e.runs ∙ sym f.runs)
    (λ s. run_redrawn_unique (records T₂) m T.pairs T₁.pairs T₂.pairs (rw s at e.pairs) f.pairs) e.routes f.routes e.totals f.totals
edited_unique (the_figure k) T ps T₁ T₂ e f =
    tables_same T₁ T₂ (e.blocks ∙ sym f.blocks) (e.runs ∙ sym f.runs) (λ s. e.pairs ∙ sym f.pairs) (rw e.pairs e.routes) (rw f.pairs f.routes) e.totals f.totals

pub called_unique : (e : Edit) (T : Tables) (r r' : ℕ) (T₁ T₂ : Tables) → Called e T r T₁ → Called e T r' T₂ → (r ≡ r') × (T₁ ≡ T₂)
called_unique e T r r' T₁ T₂ c d = (same_answer, go (ℕ_discrete r 0))
  where
    same_answer : r ≡ r'
    same_answer = c.answer ∙ sym d.answer

    go : Dec (r ≡ 0) → T₁ ≡ T₂
    go (yes z) = edited_unique (target e) T (written (book_of (records T)) e) T₁ T₂ (c.done z) (d.done (sym same_answer ∙ z))
    go (no z) = c.refused z ∙ sym (d.refused (λ q. z (same_answer ∙ q)))

-- so is what a list of calls answers and leaves
pub calls_unique : {es : List Edit} {T : Tables} {rs rs' : List ℕ} {T₁ T₂ : Tables} → Calls es T rs T₁ → Calls es T rs' T₂ → (rs ≡ rs') × (T₁ ≡ T₂)
calls_unique no_calls no_calls = (refl, refl)
calls_unique (call {e = e} {T = T} {T₁ = U} {r = r} c cs) (call {T₁ = U'} {r = r'} {rs = rs'} d ds) =
    let one = called_unique e T r r' U U' c d in
    let rest = calls_unique cs (rw (← one.1) at ds) in
    (rw (one.0, rest.0), rest.1)

pub started_unique : (T : Tables) (r r' : ℕ) (T₁ T₂ : Tables) → Started T r T₁ → Started T r' T₂ → (r ≡ r') × (T₁ ≡ T₂)
started_unique T r r' T₁ T₂ c d = (same_answer, go (ℕ_discrete r 0))
  where
    same_answer : r ≡ r'
    same_answer = c.answer ∙ sym d.answer

    go : Dec (r ≡ 0) → T₁ ≡ T₂
    go (yes z) = c.done z ∙ sym (d.done (sym same_answer ∙ z))
    go (no z) = c.refused z ∙ sym (d.refused (λ q. z (same_answer ∙ q)))

pub checked_unique : (T : Tables) (r r' : ℕ) → Checked T r → Checked T r' → r ≡ r'
checked_unique T r r' c d = go (ℕ_discrete (fitness T) 0)
  where
    pick : ((r ≡ 0) × Right T) ⊎ ((r ≡ 11) × (Right T → ⊥)) → ((r' ≡ 0) × Right T) ⊎ ((r' ≡ 11) × (Right T → ⊥)) → r ≡ r'
    pick (inl a) (inl b) = a.0 ∙ sym b.0
    pick (inl a) (inr b) = absurd (b.1 a.1)
    pick (inr a) (inl b) = absurd (a.1 b.1)
    pick (inr a) (inr b) = a.0 ∙ sym b.0

    go : Dec (fitness T ≡ 0) → r ≡ r'
    go (yes z) = pick (c.fit z) (d.fit z)
    go (no z) = c.unfit z ∙ sym (d.unfit z)
