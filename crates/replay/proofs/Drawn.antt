-- A replay after a start leaves the drawing of its file's book, and its contract leaves no choice.
use mathlib.Core.Path.{◌≡◌, refl, sym, ap, ◌∙◌}
use mathlib.Core.List.{List, ◌++◌}
use Prim.Native.Nat.{ℕ, ◌≤◌}
use native.Mathlib.Omega.{arith}
use lib.ListN.{length, take, drop, take-append-drop}
use Rattle.tables.specs.Tables.{Tables}
use Rattle.book.specs.Book.{Edit, empty_book, answers, after_all}
use Rattle.book.specs.Drawing.{Drawn}
use Rattle.book.specs.Edits.{Started}
use Rattle.book.proofs.Demand3.{demand3}
use Rattle.book.proofs.Unique.{calls_unique}
use Rattle.replay.specs.Replay.{Reads, at_end, at_stop, onward, EditsCalled, Replayed, too_short, whole}

-- where enough words are lent, the file's edits are called
pub replayed_whole : {f : List ℕ} {T T' : Tables} {old ws : List ℕ} {count number at : ℕ} → 4096 ≤ length old
    → Replayed f T old ws count number at T' → EditsCalled f T old ws count number at T'
replayed_whole l (too_short s) = absurd (omega arith)
replayed_whole l (whole _ p) = p

-- and over a started yard answers and tables are those of their book
pub replay_drawn : {f : List ℕ} {T₀ T T' : Tables} {old ws : List ℕ} {count number at : ℕ}
    → Started T₀ 0 T → (l : 4096 ≤ length old) (p : Replayed f T old ws count number at T')
    → (take count ws ≡ answers empty_book (replayed_whole l p).edits) × Drawn (after_all empty_book (replayed_whole l p).edits) T'
replay_drawn {T₀ = T₀} {T = T} {T' = T'} {ws = ws} {count = count} st l p =
    let e = replayed_whole l p in
    demand3 T₀ T T' e.edits (take count ws) st e.calls

pub reads_unique : {f : List ℕ} {at n n' stop stop' : ℕ} {es es' : List Edit} → Reads f at es n stop → Reads f at es' n' stop'
    → (es ≡ es') × (n ≡ n') × (stop ≡ stop')
reads_unique (at_end e) (at_end e') = (refl, refl, refl)
reads_unique (at_end e) (at_stop e') = let z : ◌≡◌ {A = ℕ} 0 1 = cc in absurd (omega arith)
reads_unique (at_end e) (onward e' q) = let z : ◌≡◌ {A = ℕ} 0 1 = cc in absurd (omega arith)
reads_unique (at_stop e) (at_end e') = let z : ◌≡◌ {A = ℕ} 0 1 = cc in absurd (omega arith)
reads_unique (at_stop {r = r} e) (at_stop {r = r'} e') = let s : r ≡ r' = cc in (refl, rw s, rw s)
reads_unique (at_stop e) (onward e' q) = let z : ◌≡◌ {A = ℕ} 0 1 = cc in absurd (omega arith)
reads_unique (onward e q) (at_end e') = let z : ◌≡◌ {A = ℕ} 0 1 = cc in absurd (omega arith)
reads_unique (onward e q) (at_stop e') = let z : ◌≡◌ {A = ℕ} 0 1 = cc in absurd (omega arith)
reads_unique {f = f} (onward {r = i} e q) (onward {r = j} {es = es} e' q') =
    let s : j ≡ i = cc in
    let u = reads_unique q (rw s at q') in
    (rw (s, u.0), u.1, u.2)

-- the same edits, over the same tables and the same lent words
pub same_edits : {f g : List ℕ} {T : Tables} {old ws ws' : List ℕ} {count count' number number' at at' : ℕ} {U U' : Tables}
    → (p : EditsCalled f T old ws count number at U) (q : EditsCalled g T old ws' count' number' at' U') → p.edits ≡ q.edits
    → (count ≡ count') × (ws ≡ ws') × (U ≡ U')
same_edits {T = T} {old} {ws} {ws'} {count} {count'} {U = U} {U'} p q e =
    let c : count ≡ count' = p.counted ∙ (ap length e ∙ sym q.counted) in
    let v = calls_unique (rw e at p.calls) q.calls in
    let rest : drop count ws ≡ drop count' ws' = p.kept ∙ (ap (λ (k : ℕ). drop k old) c ∙ sym q.kept) in
    let words : ws ≡ ws' = sym (take-append-drop count ws) ∙ ((λ i. v.0 i ++ rest i) ∙ take-append-drop count' ws') in
    (c, words, v.1)

pub called_edits_unique : {f : List ℕ} {T : Tables} {old ws ws' : List ℕ} {count count' number number' at at' : ℕ} {U U' : Tables}
    → EditsCalled f T old ws count number at U → EditsCalled f T old ws' count' number' at' U'
    → (count ≡ count') × (number ≡ number') × (at ≡ at') × (ws ≡ ws') × (U ≡ U')
called_edits_unique p q =
    let u = reads_unique p.reads q.reads in
    let s = same_edits p q u.0 in
    (s.0, u.1, u.2, s.1, s.2)

-- two replays of one file, over the same tables and the same lent words, end alike and leave the same
pub replayed_unique : {f : List ℕ} {T : Tables} {old ws ws' : List ℕ} {count count' number number' at at' : ℕ} {U U' : Tables}
    → Replayed f T old ws count number at U → Replayed f T old ws' count' number' at' U'
    → (count ≡ count') × (number ≡ number') × (at ≡ at') × (ws ≡ ws') × (U ≡ U')
replayed_unique (too_short s) (too_short s') = (refl, refl, refl, refl, refl)
replayed_unique (too_short s) (whole l q) = absurd (omega arith)
replayed_unique (whole l p) (too_short s) = absurd (omega arith)
replayed_unique (whole l p) (whole l' q) = called_edits_unique p q
