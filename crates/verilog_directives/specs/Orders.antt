-- What a directive asks for, and what comes of it.
use Rattle.std.specs.Prelude.{◌≡◌, ℕ, ◌<◌, ◌≤◌, true, List, ◌∷◌, length, drop, Option, None, Some}
use Rattle.std.specs.FinSet as set
use Rattle.text_scan.specs.declared.token.Token.{Token}
use Rattle.text_scan.specs.Left.{IsSliceOf}
use Rattle.verilog_directives.specs.declared.left.Left.{Left}
use Rattle.verilog_directives.specs.declared.left.Role.TheVariants.{Macro}
use Rattle.verilog_directives.specs.declared.line.Line.TheVariants.{Passed, Text}
use Rattle.verilog_directives.specs.declared.order.Order.{Order}
use Rattle.verilog_directives.specs.declared.order.Order.TheVariants.{End, Pass, Show, ShowAlone, ShowText, PassLine, Define, Undefine, Open, OpenUnread, Elsif, Else, Close}
use Rattle.verilog_directives.specs.Left.{State, Turn, Ends, Shows, Goes, item, is_last}
use Rattle.verilog_directives.specs.Regions.{line_behind}

-- the tokens that are gone over, from the ` on
abbrev pub size : Order → ℕ
size (End i) = 0
size Pass = 1
size Show = 2
size ShowAlone = 1
size ShowText = 1
size PassLine = 1
size (Define name) = 3
size (Undefine name) = 3
size (Open c) = 3
size (OpenUnread c) = 2
size (Elsif c) = 3
size (Else c) = 2
size Close = 2

abbrev pub shown : Token → Order → Option Left
shown mark (End i) = Some i
shown mark Show = Some (item Macro mark)
shown mark ShowAlone = Some (item Macro mark)
shown mark ShowText = Some (item Macro mark)
shown mark Pass = None
shown mark PassLine = None
shown mark (Define name) = None
shown mark (Undefine name) = None
shown mark (Open c) = None
shown mark (OpenUnread c) = None
shown mark (Elsif c) = None
shown mark (Else c) = None
shown mark Close = None

-- the state after it
abbrev pub state_after : State → Token → Order → State
state_after s mark (End i) = s
state_after s mark Pass = s
state_after s mark Show = record s { line = line_behind s.region mark.span.line }
state_after s mark ShowAlone = record s { line = line_behind s.region mark.span.line }
state_after s mark ShowText = record s { line = Text mark.span.line }
state_after s mark PassLine = record s { line = Passed mark.span.line }
state_after s mark (Define name) = record s { names = set.insert s.names name.now }
state_after s mark (Undefine name) = record s { names = set.remove s.names name.now }
state_after s mark (Open c) = record s { conditions = c ∷ s.conditions }
state_after s mark (OpenUnread c) = record s { conditions = c ∷ s.conditions }
state_after s mark (Elsif c) = record s { conditions = c ∷ drop 1 s.conditions }
state_after s mark (Else c) = record s { conditions = c ∷ drop 1 s.conditions }
state_after s mark Close = record s { conditions = drop 1 s.conditions }

-- the directive's turn
abbrev pub turn_by : State → Token → Order → Turn
turn_by s mark (End i) = Ends i
turn_by s mark Pass = Goes 0 (state_after s mark Pass)
turn_by s mark Show = Shows (item Macro mark) 1 (state_after s mark Show)
turn_by s mark ShowAlone = Shows (item Macro mark) 0 (state_after s mark ShowAlone)
turn_by s mark ShowText = Shows (item Macro mark) 0 (state_after s mark ShowText)
turn_by s mark PassLine = Goes 0 (state_after s mark PassLine)
turn_by s mark (Define name) = Goes 2 (state_after s mark (Define name))
turn_by s mark (Undefine name) = Goes 2 (state_after s mark (Undefine name))
turn_by s mark (Open c) = Goes 2 (state_after s mark (Open c))
turn_by s mark (OpenUnread c) = Goes 1 (state_after s mark (OpenUnread c))
turn_by s mark (Elsif c) = Goes 2 (state_after s mark (Elsif c))
turn_by s mark (Else c) = Goes 1 (state_after s mark (Else c))
turn_by s mark Close = Goes 1 (state_after s mark Close)

-- an item that ends the list is a last one and stands in the text, and only where a condition is open it is changed
abbrev pub IsLawful : List ℕ → State → Order → Type 0
IsLawful text s (End i) = (is_last i ≡ true) × IsSliceOf text i.token
IsLawful text s (Elsif c) = 0 < length s.conditions
IsLawful text s (Else c) = 0 < length s.conditions
IsLawful text s Pass = Unit {0}
IsLawful text s Show = Unit {0}
IsLawful text s ShowAlone = Unit {0}
IsLawful text s ShowText = Unit {0}
IsLawful text s PassLine = Unit {0}
IsLawful text s (Define name) = Unit {0}
IsLawful text s (Undefine name) = Unit {0}
IsLawful text s (Open c) = Unit {0}
IsLawful text s (OpenUnread c) = Unit {0}
IsLawful text s Close = Unit {0}

-- the order gives this turn in this state, and its tokens are among so many
pub record Asks (text : List ℕ) (s : State) (mark : Token) (many : ℕ) (order : Order) (asked : Turn) : Type 0 where
  pub turn : turn_by s mark order ≡ asked
  pub lawful : IsLawful text s order
  pub held : size order ≤ many
