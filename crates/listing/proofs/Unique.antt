-- The contract of listing leaves no choice.
use mathlib.Core.Path.{◌≡◌, sym, ap, ap₂, ◌∙◌}
use mathlib.Core.List.{List, ◌++◌}
use Prim.Native.Nat.{ℕ}
use lib.ListN.{length, drop, take-append-drop}
use Rattle.listing.specs.Lines.{listing, Listed}

module _ {answers : List ℕ} {count number at : ℕ} {routes old : List ℕ} where
  many : {new : List ℕ} {r : ℕ} → Listed answers count number at routes old new r → r ≡ length (listing answers count number at routes)
  many p = p.counts.1 ∙ ap length p.listed

  whole : {new : List ℕ} {r : ℕ} → Listed answers count number at routes old new r → new ≡ listing answers count number at routes ++ drop (length (listing answers count number at routes)) old
  whole {new} {r} p = sym (take-append-drop r new) ∙ ap₂ (λ (a b : List ℕ). a ++ b) p.listed (p.kept ∙ ap (λ (n : ℕ). drop n old) (many p))

  pub listed_unique : {new new' : List ℕ} {r r' : ℕ} → Listed answers count number at routes old new r → Listed answers count number at routes old new' r' → (r ≡ r') × (new ≡ new')
  listed_unique p q = (many p ∙ sym (many q), whole p ∙ sym (whole q))
