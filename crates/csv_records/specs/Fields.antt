-- What is wrong with a field of a record.
use Rattle.std.specs.Prelude.{ℕ, Bool, if◌then◌else◌, List, Option, Some, None}
use Rattle.text_scan.specs.declared.limits.Limits.{Limits}
use Rattle.text_scan.specs.declared.limits.LimitKind.TheVariants as limit_kinds
use Rattle.text_scan.specs.declared.refusal.FileRefusal.{FileRefusal}
use Rattle.text_scan.specs.declared.refusal.FileRefusal.TheVariants as refusals
use Rattle.file_rules.specs.Names.{is_name, is_too_long}
use Rattle.file_rules.specs.Refusals.{too_many}

abbrev pub first_of : Option FileRefusal → Option FileRefusal → Option FileRefusal
first_of None next = next
first_of (Some refusal) next = Some refusal

-- nothing where the field in this column is right, else Syntax there
abbrev pub unless : Bool → ℕ → ℕ → Option FileRefusal
unless ok line column = if ok then None else Some (refusals.Syntax line column)

-- nothing where the field is a name; its length is judged first
unfoldable pub named : Limits → ℕ → ℕ → List ℕ → Option FileRefusal
named limits line column field =
    if is_too_long limits field then Some (too_many limits limit_kinds.Name)
    else unless (is_name field) line column
