-- What the exported read and the exported replay answer and leave is determined.
use mathlib.Core.Path.{◌≡◌, refl, ap}
use Rattle.refusals.specs.Numbers.{number_of}
use mathlib.Core.List.{List}
use Prim.Native.Nat.{ℕ}
use native.Mathlib.Omega.{arith}
use Rattle.tables.specs.Tables.{Tables}
use Rattle.replay.proofs.Drawn.{called_edits_unique}
use Rattle.file_calls.specs.Reading.{ReadInto, wrong_length, a_record, the_end, refusal}
use Rattle.file_calls.specs.Replaying.{ReplayedInto, wrong_lengths, the_replay}

pub read_into_unique : {f : List ℕ} {at : ℕ} {old ws ws' : List ℕ} {n n' : ℕ} → ReadInto f at old n ws → ReadInto f at old n' ws'
    → (n ≡ n') × (ws ≡ ws')
read_into_unique (wrong_length h) (wrong_length h') = (refl, refl)
read_into_unique (wrong_length h) (a_record l e) = absurd (h l)
read_into_unique (wrong_length h) (the_end l e) = absurd (h l)
read_into_unique (wrong_length h) (refusal l e) = absurd (h l)
read_into_unique (a_record l e) (wrong_length h) = absurd (h l)
read_into_unique (a_record {r = r} l e) (a_record {r = r'} l' e') = let s : r ≡ r' = cc in (refl, rw s)
read_into_unique (a_record l e) (the_end l' e') = let z : ◌≡◌ {A = ℕ} 0 1 = cc in absurd (omega arith)
read_into_unique (a_record l e) (refusal l' e') = let z : ◌≡◌ {A = ℕ} 0 1 = cc in absurd (omega arith)
read_into_unique (the_end l e) (wrong_length h) = absurd (h l)
read_into_unique (the_end l e) (a_record l' e') = let z : ◌≡◌ {A = ℕ} 0 1 = cc in absurd (omega arith)
read_into_unique (the_end l e) (the_end l' e') = (refl, refl)
read_into_unique (the_end l e) (refusal l' e') = let z : ◌≡◌ {A = ℕ} 0 1 = cc in absurd (omega arith)
read_into_unique (refusal l e) (wrong_length h) = absurd (h l)
read_into_unique (refusal l e) (a_record l' e') = let z : ◌≡◌ {A = ℕ} 0 1 = cc in absurd (omega arith)
read_into_unique (refusal l e) (the_end l' e') = let z : ◌≡◌ {A = ℕ} 0 1 = cc in absurd (omega arith)
read_into_unique (refusal {r = r} l e) (refusal {r = r'} l' e') = let s : r ≡ r' = cc in (ap number_of s, refl)

pub replayed_into_unique : {f : List ℕ} {T U U' : Tables} {old end ws ws' end₁ end₂ : List ℕ} {n n' : ℕ}
    → ReplayedInto f T old end n ws end₁ U → ReplayedInto f T old end n' ws' end₂ U'
    → (n ≡ n') × (ws ≡ ws') × (end₁ ≡ end₂) × (U ≡ U')
replayed_into_unique (wrong_lengths h) (wrong_lengths h') = (refl, refl, refl, refl)
replayed_into_unique (wrong_lengths h) (the_replay r l q) = absurd (h (r, l))
replayed_into_unique (the_replay r l p) (wrong_lengths h) = absurd (h (r, l))
replayed_into_unique (the_replay r l p) (the_replay r' l' q) =
    let u = called_edits_unique p q in
    (u.1, u.3, rw (u.0, u.2), u.4)
