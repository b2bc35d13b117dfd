-- What the parts of a reader answer, unless memory runs out.
use Rattle.std.specs.Prelude.{◌≡◌, Result, Ok, Err}
use Rattle.verilog_looks.specs.declared.halt.Refusal.{Refusal}
use Rattle.verilog_looks.specs.declared.halt.Halt.{Halt}
use Rattle.verilog_looks.specs.declared.halt.Halt.TheVariants as halts

-- the action gives the new value, or this refusal
abbrev pub Does : {U X : Type 0} → Result U Halt → X → Result X Refusal → Type 0
Does (Ok u) new action = action ≡ Ok new
Does (Err halts.NoMemory) new action = Unit {0}
Does (Err halts.Syntax) new action = ⊥
Does (Err (halts.Refused e)) new action = action ≡ Err e

-- the item leads to the new state, or stops the reading for this reason
abbrev pub Leads : {U X : Type 0} → Result U Halt → X → Result X Halt → Type 0
Leads (Ok u) new step = step ≡ Ok new
Leads (Err halts.NoMemory) new step = Unit {0}
Leads (Err halts.Syntax) new step = step ≡ Err halts.Syntax
Leads (Err (halts.Refused e)) new step = step ≡ Err (halts.Refused e)
