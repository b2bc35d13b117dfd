-- What readers of files answer, unless memory runs out.
use Rattle.std.specs.Prelude.{◌≡◌, Option, Some, Result, Ok, Err}
use Rattle.text_scan.specs.declared.refusal.FileRefusal.{FileRefusal}
use Rattle.text_scan.specs.declared.refusal.FileRefusal.TheVariants as refusals

-- the answer is this one
abbrev pub Agrees : {X : Type 0} → Result X FileRefusal → Result X FileRefusal → Type 0
Agrees (Ok x) y = y ≡ Ok x
Agrees (Err refusals.NoMemory) y = Unit {0}
Agrees (Err (refusals.Syntax line column)) y = y ≡ Err (refusals.Syntax line column)
Agrees (Err (refusals.TooMany kind number)) y = y ≡ Err (refusals.TooMany kind number)
Agrees (Err (refusals.DoubleName name line)) y = y ≡ Err (refusals.DoubleName name line)

-- the step leads to the new value, or to this refusal
abbrev pub Steps : {U X : Type 0} → Result U FileRefusal → X → Result X FileRefusal → Type 0
Steps (Ok u) new y = y ≡ Ok new
Steps (Err refusals.NoMemory) new y = Unit {0}
Steps (Err (refusals.Syntax line column)) new y = y ≡ Err (refusals.Syntax line column)
Steps (Err (refusals.TooMany kind number)) new y = y ≡ Err (refusals.TooMany kind number)
Steps (Err (refusals.DoubleName name line)) new y = y ≡ Err (refusals.DoubleName name line)

-- the refusal is this one
abbrev pub Tells : FileRefusal → FileRefusal → Type 0
Tells refusals.NoMemory y = Unit {0}
Tells (refusals.Syntax line column) y = refusals.Syntax line column ≡ y
Tells (refusals.TooMany kind number) y = refusals.TooMany kind number ≡ y
Tells (refusals.DoubleName name line) y = refusals.DoubleName name line ≡ y

-- there is a refusal, and it is this one
abbrev pub TellsSome : FileRefusal → Option FileRefusal → Type 0
TellsSome refusals.NoMemory o = Unit {0}
TellsSome (refusals.Syntax line column) o = o ≡ Some (refusals.Syntax line column)
TellsSome (refusals.TooMany kind number) o = o ≡ Some (refusals.TooMany kind number)
TellsSome (refusals.DoubleName name line) o = o ≡ Some (refusals.DoubleName name line)
