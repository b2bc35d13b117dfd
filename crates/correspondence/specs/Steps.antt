-- What parts of the reader answer, and what a line leads to.
use Rattle.std.specs.Prelude.{◌≡◌, false, if◌then◌else◌, List, Option, None, Result, Ok, Err}
use Rattle.text_scan.specs.declared.limits.Limits.{Limits}
use Rattle.text_scan.specs.declared.refusal.FileRefusal.{FileRefusal}
use Rattle.text_scan.specs.declared.refusal.FileRefusal.TheVariants as refusals
use Rattle.file_rules.specs.Told.{TellsSome}
use Rattle.grammar.specs.Rule.{before, seq}
use Rattle.grammar.specs.Answers.{read_all}
use Rattle.correspondence.specs.Lines.{Line, PlacedWord}
use Rattle.correspondence.specs.Kinds.{follows, kind_of_line}
use Rattle.correspondence.specs.Actions.{enter}
use Rattle.correspondence.specs.Grammar.{Answer, LineRule, at_line, from_nodes, from_pins, from_state, from_udps, from_xpins, rows, tables}
use Rattle.correspondence.specs.declared.kinds.LineKind.{LineKind}
use Rattle.correspondence.specs.declared.kinds.LineKind.TheVariants.{Table, Pins, Xpins, State, Udps, Nodes, Row, End, Other}
use Rattle.correspondence.specs.declared.parts.Parts.{Parts}
use Rattle.correspondence.specs.declared.parts.Reader.{Reader}

-- there is no refusal, or it is this one
abbrev pub Unless : {U : Type 0} → Result U FileRefusal → Option FileRefusal → Type 0
Unless (Ok u) o = o ≡ None
Unless (Err e) o = TellsSome e o

-- the value of the next words was read, and these are left; or this is the refusal
abbrev pub Took : {V : Type 0} → Result V FileRefusal → List PlacedWord → Result (V × List PlacedWord) FileRefusal → Type 0
Took (Ok v) rest y = y ≡ Ok (v, rest)
Took (Err refusals.NoMemory) rest y = Unit {0}
Took (Err (refusals.Syntax line column)) rest y = y ≡ Err (refusals.Syntax line column)
Took (Err (refusals.TooMany kind number)) rest y = y ≡ Err (refusals.TooMany kind number)
Took (Err (refusals.DoubleName name line)) rest y = y ≡ Err (refusals.DoubleName name line)

-- what is still to come after a line of this kind
abbrev pub to_come : Limits → LineKind → LineRule
to_come limits End = tables limits
to_come limits Table = seq (from_pins limits) (tables limits)
to_come limits Pins = seq (from_xpins limits) (tables limits)
to_come limits Xpins = seq (from_state limits) (tables limits)
to_come limits State = seq (from_udps limits) (tables limits)
to_come limits Udps = seq (from_nodes limits) (tables limits)
to_come limits Nodes = seq (rows limits) (tables limits)
to_come limits Row = seq (rows limits) (tables limits)
to_come limits Other = before (λ l. false)

-- what reading on gives
abbrev pub reads : Limits → Reader → List Line → Answer
reads limits m ls = read_all (to_come limits m.last) m.parts ls

abbrev pub moved : LineKind → Result Parts FileRefusal → Result Reader FileRefusal
moved kind (Ok s) = Ok (record { last = kind; parts = s })
moved kind (Err e) = Err e

-- what a line leads to
unfoldable pub taken : Limits → Line → Reader → Result Reader FileRefusal
taken limits l m = if follows m.last (kind_of_line l) then moved (kind_of_line l) (enter limits l m.parts) else Err (at_line l)
