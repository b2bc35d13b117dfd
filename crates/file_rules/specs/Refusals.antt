-- How a passed limit and a token at which a file goes wrong are told.
use Rattle.std.specs.Prelude.{ℕ}
use Rattle.text_scan.specs.declared.token.Token.{Token}
use Rattle.text_scan.specs.declared.limits.Limits.{Limits}
use Rattle.text_scan.specs.declared.limits.LimitKind.{LimitKind}
use Rattle.text_scan.specs.declared.limits.LimitKind.TheVariants as limit_kinds
use Rattle.text_scan.specs.declared.refusal.FileRefusal.{FileRefusal}
use Rattle.text_scan.specs.declared.refusal.FileRefusal.TheVariants as refusals

-- the limits of files; other kinds have none
abbrev pub limit_of : Limits → LimitKind → ℕ
limit_of limits limit_kinds.Name = limits.name
limit_of limits limit_kinds.Cells = limits.cells
limit_of limits limit_kinds.Nesting = limits.nesting
limit_of limits limit_kinds.Records = limits.records
limit_of limits _ = 0

abbrev pub too_many : Limits → LimitKind → FileRefusal
too_many limits kind = refusals.TooMany kind (limit_of limits kind)

-- a token's place
abbrev pub at_token : Token → FileRefusal
at_token t = refusals.Syntax t.span.line t.span.column
