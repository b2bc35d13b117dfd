-- Fields of records, and refusals for them.
use Rattle.std.proofs.Common.{◌≡◌, ◌≤◌, ℕ, zero, suc, Bool, true, false, List, [], ◌∷◌, length, Option, Some, None, refl, arith}
use Rattle.std.specs.Prelude.{if◌then◌else◌}
use Rattle.csv.specs.Records.{field_at}
use Rattle.text_scan.specs.declared.limits.Limits.{Limits}
use Rattle.text_scan.specs.declared.refusal.FileRefusal.{FileRefusal}
use Rattle.text_scan.specs.declared.refusal.FileRefusal.TheVariants as refusals
use Rattle.file_rules.specs.Kept.{name_within}
use Rattle.file_rules.specs.Names.{is_name_within}
use Rattle.file_rules.specs.Told.{TellsSome}
use Rattle.csv_records.specs.Fields.{first_of, named, unless}

-- a field that isn't there is past the end
pub at_none : (xs : List (List ℕ)) (i : ℕ) → field_at xs i ≡ None → length xs ≤ i
unfolding field_at
at_none [] i e = omega arith
at_none (x ∷ xs) zero e = cc e
at_none (x ∷ xs) (suc i) e = let h : length xs ≤ i = at_none xs i e in omega (arith, h)

pub tells : (e : FileRefusal) (o : Option FileRefusal) → o ≡ Some e → TellsSome e o
tells refusals.NoMemory o h = tt
tells (refusals.Syntax line column) o h = h
tells (refusals.TooMany kind number) o h = h
tells (refusals.DoubleName name line) o h = h

pub first_none : (a b : Option FileRefusal) → first_of a b ≡ None → (a ≡ None) × (b ≡ None)
first_none None b h = (refl, h)
first_none (Some e) b h = cc h

pub unless_none : (ok : Bool) (line column : ℕ) → unless ok line column ≡ None → ok ≡ true
unless_none true line column h = refl
unless_none false line column h = cc h

pub not_some : (b : Bool) (e : FileRefusal) (o : Option FileRefusal) → (if b then Some e else o) ≡ None → (b ≡ false) × (o ≡ None)
not_some true e o h = cc h
not_some false e o h = (refl, h)

pub named_none : (limits : Limits) (line column : ℕ) (field : List ℕ) → named limits line column field ≡ None → is_name_within limits field ≡ true
unfolding named
named_none limits line column field h =
    let parts = not_some _ _ _ h in
    name_within limits field (unless_none _ line column parts.1) parts.0
