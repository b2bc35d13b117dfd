-- What the records of a text are answered.
use Rattle.std.specs.Prelude.{◌≡◌, ℕ, nat_le, if◌then◌else◌, List, [], ◌∷◌, ◌++◌, length, Option, Some, None, Result, Ok, Err}
use Rattle.text_scan.specs.declared.limits.Limits.{Limits}
use Rattle.text_scan.specs.declared.limits.LimitKind.TheVariants as limit_kinds
use Rattle.text_scan.specs.declared.refusal.FileRefusal.{FileRefusal}
use Rattle.file_rules.specs.Refusals.{too_many}
use Rattle.file_rules.specs.Told.{TellsSome}
use Rattle.csv_records.specs.Fields.{first_of}

-- the fields of a record
abbrev pub Row : Type 0
Row = List (List ℕ)

-- a record that comes after as many as the limit allows is one too many; another is refused for itself
unfoldable pub refusal_after : Limits → (List Row → Row → Option FileRefusal) → List Row → Row → Option FileRefusal
refusal_after limits refuses before row =
    if nat_le limits.records (length before) then Some (too_many limits limit_kinds.Records) else refuses before row

-- the first refusal of the records that come after these
unfoldable pub first_refusal : Limits → (List Row → Row → Option FileRefusal) → List Row → List Row → Option FileRefusal
first_refusal limits refuses before [] = None
first_refusal limits refuses before (row ∷ rows) =
    first_of (refusal_after limits refuses before row) (first_refusal limits refuses (before ++ row ∷ []) rows)

-- the refusal where there is one, else the value
abbrev pub answer : {X : Type 0} → Option FileRefusal → X → Result X FileRefusal
answer None value = Ok value
answer (Some refusal) value = Err refusal

-- the refusal that was given, if any
abbrev pub refusal_of : {X : Type 0} → Result X FileRefusal → Option FileRefusal
refusal_of (Ok x) = None
refusal_of (Err refusal) = Some refusal

-- a record that is not refused is held with those before it
abbrev pub Entered : {X : Type 0} → (X → List Row → Type 0) → (List Row → Row → Option FileRefusal) → List Row → Row → X → Result (Unit {0}) FileRefusal → Type 0
Entered holds refuses before row made (Ok u) = (refuses before row ≡ None) × holds made (before ++ row ∷ [])
Entered holds refuses before row made (Err e) = TellsSome e (refuses before row)

-- all records are held and none is refused, or the first refusal is told
abbrev pub IsRead : {X : Type 0} → (X → List Row → Type 0) → Limits → (List Row → Row → Option FileRefusal) → List Row → Result X FileRefusal → Type 0
IsRead holds limits refuses rows (Ok made) = (first_refusal limits refuses [] rows ≡ None) × holds made rows
IsRead holds limits refuses rows (Err e) = TellsSome e (first_refusal limits refuses [] rows)
