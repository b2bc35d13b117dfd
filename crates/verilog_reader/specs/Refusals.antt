-- How a refusal of the file is told.
use Rattle.std.specs.Prelude.{ℕ, List, [], ◌∷◌}
use Rattle.text_scan.specs.declared.token.Token.{Token}
use Rattle.text_scan.specs.declared.limits.Limits.{Limits}
use Rattle.text_scan.specs.declared.limits.LimitKind.TheVariants as limit_kinds
use Rattle.text_scan.specs.declared.refusal.FileRefusal.{FileRefusal}
use Rattle.text_scan.specs.declared.refusal.FileRefusal.TheVariants as told
use Rattle.file_rules.specs.Refusals.{at_token, too_many}
use Rattle.grammar.specs.Reading.{Stop, syntax, refusal}
use Rattle.verilog_directives.specs.declared.left.Left.{Left}
use Rattle.verilog_directives.specs.declared.left.Role.{Role}
use Rattle.verilog_directives.specs.declared.left.Role.TheVariants as roles
use Rattle.verilog_looks.specs.declared.halt.Refusal.{Refusal}
use Rattle.verilog_looks.specs.declared.halt.Refusal.TheVariants as refusals
use Rattle.verilog_looks.specs.Names.{content}

abbrev pub role_refusal : Limits → Role → Token → FileRefusal
role_refusal limits roles.Plain t = at_token t
role_refusal limits roles.Macro t = at_token t
role_refusal limits roles.Misplaced t = at_token t
role_refusal limits roles.TooDeep t = too_many limits limit_kinds.Nesting
role_refusal limits roles.LongName t = too_many limits limit_kinds.Name

-- an item that may not stand where it stands
abbrev pub item_refusal : Limits → Left → FileRefusal
item_refusal limits t = role_refusal limits t.role t.token

abbrev pub first_refusal : Limits → List Left → FileRefusal
first_refusal limits [] = told.Syntax 0 0
first_refusal limits (t ∷ ts) = item_refusal limits t

abbrev pub double_name : List ℕ → Token → FileRefusal
double_name source t = told.DoubleName (content source t) t.span.line

-- what an action refuses at the first of these items
abbrev pub told_refusal : List ℕ → Limits → Refusal → List Left → FileRefusal
told_refusal source limits (refusals.TooMany kind) ts = too_many limits kind
told_refusal source limits (refusals.BadName t) ts = at_token t
told_refusal source limits (refusals.DoubleName t) ts = double_name source t
told_refusal source limits refusals.Here ts = first_refusal limits ts
told_refusal source limits (refusals.NoDirection name) ts = first_refusal limits ts

abbrev pub told_stop : List ℕ → Limits → Stop Left Refusal → FileRefusal
told_stop source limits (syntax ts) = first_refusal limits ts
told_stop source limits (refusal e ts) = told_refusal source limits e ts
