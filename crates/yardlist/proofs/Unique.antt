-- What is written for a file leaves no choice.
use mathlib.Core.Path.{◌≡◌, transport}
use mathlib.Core.List.{List}
use Prim.Native.Nat.{ℕ}
use Rattle.replay.proofs.Drawn.{replayed_unique}
use Rattle.listing.specs.Lines.{Listed}
use Rattle.listing.proofs.Unique.{listed_unique}
use Rattle.yardlist.specs.Printed.{Printed}

pub printed_unique : {f old new new' : List ℕ} {r r' : ℕ} → Printed f old new r → Printed f old new' r' → (r ≡ r') × (new ≡ new')
printed_unique {old = old} {new = new} {r = r} p q =
    let u = replayed_unique p.replayed q.replayed in
    listed_unique (transport (λ i. Listed (u.3 i) (u.0 i) (u.1 i) (u.2 i) (u.4 i).routes old new r) p.listed) q.listed
