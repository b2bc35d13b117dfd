-- What the parts of the reader answer, unless memory runs out.
use Rattle.std.specs.Prelude.{◌≡◌, ℕ, [], None, Result, Ok, Err}
use Rattle.text_scan.specs.declared.token.Token.{Token}
use Rattle.text_scan.specs.declared.token.Kind.TheVariants as kinds
use Rattle.liberty_statements.specs.declared.halt.Refusal.{Refusal}
use Rattle.liberty_statements.specs.declared.halt.Halt.{Halt}
use Rattle.liberty_statements.specs.declared.halt.Halt.TheVariants as halts
use Rattle.liberty_tokens.specs.declared.kinds.GroupKind.TheVariants as groups
use Rattle.liberty_statements.specs.declared.machine.Machine.{Machine}
use Rattle.liberty_statements.specs.declared.machine.Phase.TheVariants as phases
use Rattle.liberty_statements.specs.declared.statements.Level.TheVariants as levels
use Rattle.liberty_statements.specs.declared.statements.Statements.{Statements}
use Rattle.liberty_statements.specs.Steps.{Moved}

-- the action gives the new value, or this refusal
abbrev pub Does : {U X : Type 0} → Result U Halt → X → Result X Refusal → Type 0
Does (Ok u) new action = action ≡ Ok new
Does (Err halts.NoMemory) new action = Unit {0}
Does (Err halts.Syntax) new action = ⊥
Does (Err (halts.Refused e)) new action = action ≡ Err e

-- the token leads to the new state, or stops the reading for this reason
abbrev pub Leads : {U : Type 0} → Result U Halt → Machine → Moved → Type 0
Leads (Ok u) new step = step ≡ Ok new
Leads (Err halts.NoMemory) new step = Unit {0}
Leads (Err halts.Syntax) new step = step ≡ Err halts.Syntax
Leads (Err (halts.Refused e)) new step = step ≡ Err (halts.Refused e)

abbrev pub no_token : Token
no_token = record { kind = kinds.End; span = record { line = 0; column = 0; start = 0; end = 0 } }

-- nothing is read
abbrev pub nothing : Statements
nothing = record {
  name = None;
  cells = [];
  cell_names = [];
  level = levels.Library;
  passed = 0;
  word = no_token;
  args = [];
  value = None;
  cell_word = no_token;
  cell_name = no_token;
  groups = [];
  pin_names = [];
  group_kind = groups.Other;
  group_word = no_token;
  group_args = [];
  attributes = [];
}

abbrev pub beginning : ℕ → Machine
beginning nesting = record { phase = phases.Title; depth = 0; room = nesting; statements = nothing }
