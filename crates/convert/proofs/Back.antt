-- One conversion and then the other, as calls over lent buffers: the bytes that came in.
use mathlib.Core.Path.{◌≡◌, refl, sym, ◌∙◌}
use mathlib.Core.List.{List}
use mathlib.Core.Bool.{Bool, true, false, cond}
use Prim.Native.Nat.{ℕ, ◌-◌}
use native.Mathlib.Omega.{arith}
use lib.Dec.{eqb}
use lib.ListN.{length, take, replicate}
use lib.Seq.{take_at}
use borrow.Author.Tests.{eq-eqb}
use Rattle.file_records.specs.Conversions.{converted, answer}
use Rattle.file_records.proofs.Words.{Bytes}
use Rattle.file_records.proofs.Trip.{shorten_lengthen, lengthen_shorten}
use Rattle.convert.specs.Convert.{padded, Converted}

-- the result is what the first bytes of the buffer are
pub result : {v w : ℕ} {f old new : List ℕ} {size : ℕ} → Converted v w f old new 0 size → take size new ≡ converted w f
unfolding padded
result {w = w} {f} p =
    let d = p.done refl in
    rw (d.0, d.1) (take_at (converted w f) (replicate (8192 - length (converted w f)) 0) (length (converted w f)) refl)

accepted_answer : (b : Bool) (n : ℕ) → 0 ≡ cond b n 1 → n ≡ 0
accepted_answer true n h = sym h
accepted_answer false n h = absurd (omega arith)

answered : {v w : ℕ} {f old new : List ℕ} {size : ℕ} → Converted v w f old new 0 size → answer v w f ≡ 0
answered {v} {w} {f} {old} p = accepted_answer (eqb (length old) 8192) (answer v w f) p.answered

back : {v w : ℕ} {f old new old' new' : List ℕ} {size n size' : ℕ} → (answer w v (converted w f) ≡ 0) × (converted v (converted w f) ≡ f)
    → Converted v w f old new 0 size → length old' ≡ 8192 → Converted w v (take size new) old' new' n size' → (n ≡ 0) × (take size' new' ≡ f)
back {v} {w} {f} {old} {new} {old'} {new'} {size} {n} {size'} t p l q =
    let r : Converted w v (converted w f) old' new' n size' = rw (result p) at q in
    let z : n ≡ 0 = r.answered ∙ rw (eq-eqb (length old') 8192 l) t.0 in
    let s : Converted w v (converted w f) old' new' 0 size' = rw z at r in
    (z, result s ∙ t.1)

-- shortened and lengthened again
pub shortened_back : {f old new old' new' : List ℕ} {size n size' : ℕ} → Bytes f
    → Converted 1 2 f old new 0 size → length old' ≡ 8192 → Converted 2 1 (take size new) old' new' n size' → (n ≡ 0) × (take size' new' ≡ f)
shortened_back {f} bs p l q = back (shorten_lengthen f bs (answered p)) p l q

-- lengthened and shortened again
pub lengthened_back : {f old new old' new' : List ℕ} {size n size' : ℕ} → Bytes f
    → Converted 2 1 f old new 0 size → length old' ≡ 8192 → Converted 1 2 (take size new) old' new' n size' → (n ≡ 0) × (take size' new' ≡ f)
lengthened_back {f} bs p l q = back (lengthen_shorten f bs (answered p)) p l q
