-- What is left of a text's tokens when its directives are obeyed.
use Rattle.std.specs.Prelude.{ℕ, zero, suc, Bool, true, false, not, ◌+◌, ◌==◌, ◌&&◌, ◌||◌, nat_lt, nat_le, is_some, if◌then◌else◌, List, [], ◌∷◌, length, Option, None, Some, Result, Ok, Err}
use Rattle.std.specs.List.{slice_index_or}
use Rattle.std.specs.Ordering.{nat_cmp}
use Rattle.std.specs.Cmp.Lexicographic.{slice_cmp}
use Rattle.std.specs.FinSet as set
use Rattle.text_scan.specs.declared.token.Token.{Token}
use Rattle.text_scan.specs.declared.token.Style.TheVariants.{Verilog}
use Rattle.text_scan.specs.declared.limits.Limits.{Limits}
use Rattle.text_scan.specs.Left.{is_end}
use Rattle.text_scan.specs.Tokens.{tokens_of}
use Rattle.verilog_directives.specs.declared.left.Left.{Left}
use Rattle.verilog_directives.specs.declared.left.Role.{Role}
use Rattle.verilog_directives.specs.declared.left.Role.TheVariants.{Plain, Macro, Misplaced, TooDeep, LongName}
use Rattle.verilog_directives.specs.declared.line.Line.{Line}
use Rattle.verilog_directives.specs.declared.line.Line.TheVariants.{Free, Passed, Kept, Text}
use Rattle.verilog_directives.specs.declared.region.Region.{Region}
use Rattle.verilog_directives.specs.declared.region.Region.TheVariants.{Outside}
use Rattle.verilog_directives.specs.declared.condition.Condition.{Condition}
use Rattle.verilog_directives.specs.declared.word.Directive.{Directive}
use Rattle.verilog_directives.specs.declared.word.Directive.TheVariants as directives
use Rattle.verilog_directives.specs.Words.{directive_of}
use Rattle.verilog_directives.specs.Signs.{is_wrong, is_mark, is_lone, word_after, name_of}
use Rattle.verilog_directives.specs.Regions.{after_token, after_kept, line_behind}
use Rattle.verilog_directives.specs.Conditions.{is_read, opened, at_elsif, at_else}

abbrev pub Names : Type 0
Names = set.FinSet (slice_cmp nat_cmp)

-- what holds between two tokens: the names that are defined, the open conditions, the innermost first, what becomes of
-- the rest of a line, and where the text stands
pub record State : Type 0 where
  pub names : Names
  pub conditions : List Condition
  pub line : Line
  pub region : Region

abbrev pub start : State
start = record { names = set.empty; conditions = []; line = Free; region = Outside }

-- what comes of a token
pub data Turn : Type 0 where
  -- the last item
  Ends : Left → Turn
  -- an item; so many tokens after this one belong to it
  Shows : Left → ℕ → State → Turn
  -- no item; so many tokens after this one belong to it
  Goes : ℕ → State → Turn

abbrev pub item : Role → Token → Left
item role t = record { token = t; role = role }

-- the text's end may not stand in an open condition
abbrev pub end_item : List Condition → Token → Left
end_item [] t = item Plain t
end_item (c ∷ cs) t = item Misplaced t

-- a turn where text is read; elsewhere nothing is left
abbrev pub where_read : State → Turn → Turn
where_read s turn = if is_read s.conditions then turn else Goes 0 s

-- the token at this place after the `
abbrev pub after : ℕ → Token → List Token → Token
after place mark ts = slice_index_or ts place mark

abbrev pub judged : Limits → Token → Option (List ℕ) → Result (List ℕ) Left
judged limits t None = Err (item Misplaced t)
judged limits t (Some name) = if nat_le (length name) limits.name then Ok name else Err (item LongName t)

-- the name of the token in a directive's name's place, or the last item
unfoldable pub name_in_place : List ℕ → Limits → Token → Result (List ℕ) Left
name_in_place source limits t = judged limits t (name_of source t)

abbrev pub with_name : Result (List ℕ) Left → (List ℕ → Turn) → Turn
with_name (Ok name) turn = turn name
with_name (Err last) turn = Ends last

-- the second token after the ` is in the name's place
abbrev pub named : List ℕ → Limits → Token → List Token → (List ℕ → Turn) → Turn
named source limits mark ts turn = with_name (name_in_place source limits (after 1 mark ts)) turn

-- a test of `ifdef wants that the name is defined, one of `ifndef that it isn't
abbrev pub holds : Bool → Bool → Bool
holds true is_defined = is_defined
holds false is_defined = not is_defined

-- A condition opens. Where text isn't read its test isn't looked at, and no branch of it is read.
unfoldable pub opening : List ℕ → Limits → State → Token → List Token → Bool → Turn
opening source limits s mark ts wanted =
    if nat_lt (length s.conditions) limits.nesting
    then (if is_read s.conditions
    then named source limits mark ts (λ name. Goes 2 (record s { conditions = opened (holds wanted (set.contains s.names name)) ∷ s.conditions }))
    else Goes 1 (record s { conditions = opened false ∷ s.conditions }))
    else Ends (item TooDeep mark)

-- Another branch of the innermost condition. Where the text around that isn't read the test isn't looked at.
unfoldable pub elsif_turn : List ℕ → Limits → State → Token → List Token → List Condition → Turn
elsif_turn source limits s mark ts [] = Ends (item Misplaced mark)
elsif_turn source limits s mark ts (c ∷ cs) =
    if c.is_else then Ends (item Misplaced mark)
    else (if is_read cs
    then named source limits mark ts (λ name. Goes 2 (record s { conditions = at_elsif (set.contains s.names name) c ∷ cs }))
    else Goes 1 (record s { conditions = at_elsif false c ∷ cs }))

-- its last branch
unfoldable pub else_turn : State → Token → List Condition → Turn
else_turn s mark [] = Ends (item Misplaced mark)
else_turn s mark (c ∷ cs) = if c.is_else then Ends (item Misplaced mark) else Goes 1 (record s { conditions = at_else c ∷ cs })

-- its end
unfoldable pub endif_turn : State → Token → List Condition → Turn
endif_turn s mark [] = Ends (item Misplaced mark)
endif_turn s mark (c ∷ cs) = Goes 1 (record s { conditions = cs })

-- a directive or macro that isn't obeyed, with the word that touches the `, if one does; within a part the rest of its
-- line is read, and elsewhere it stands as it is
abbrev pub macro_turn : State → Token → ℕ → Turn
macro_turn s mark words = Shows (item Macro mark) words (record s { line = line_behind s.region mark.span.line })

-- a definition with a text, which isn't obeyed: from the ` on the line is its text
abbrev pub text_turn : State → Token → Turn
text_turn s mark = Shows (item Macro mark) 0 (record s { line = Text mark.span.line })

-- a token that begins on the `'s line
abbrev pub is_beside : Token → Token → Bool
is_beside mark t = t.span.line == mark.span.line && not (is_end t.kind)

-- a name stands on the line after the word of `define
unfoldable pub is_defined : List ℕ → Token → List Token → Bool
is_defined source mark ts = is_beside mark (after 1 mark ts) && is_some (name_of source (after 1 mark ts))

-- a text for it stands on the line
unfoldable pub has_text : Token → List Token → Bool
has_text mark ts = is_beside mark (after 2 mark ts)

-- a name without a text is defined
unfoldable pub define_turn : List ℕ → Limits → State → Token → List Token → Turn
define_turn source limits s mark ts =
    if is_defined source mark ts
    then (if has_text mark ts
    then text_turn s mark
    else named source limits mark ts (λ name. Goes 2 (record s { names = set.insert s.names name })))
    else macro_turn s mark 1

unfoldable pub undef_turn : List ℕ → Limits → State → Token → List Token → Turn
undef_turn source limits s mark ts = named source limits mark ts (λ name. Goes 2 (record s { names = set.remove s.names name }))

-- Conditions are obeyed everywhere, the other directives where text is read.
unfoldable pub directive_turn : List ℕ → Limits → State → Token → List Token → Directive → Turn
directive_turn source limits s mark ts directives.Ifdef = opening source limits s mark ts true
directive_turn source limits s mark ts directives.Ifndef = opening source limits s mark ts false
directive_turn source limits s mark ts directives.Elsif = elsif_turn source limits s mark ts s.conditions
directive_turn source limits s mark ts directives.Else = else_turn s mark s.conditions
directive_turn source limits s mark ts directives.Endif = endif_turn s mark s.conditions
directive_turn source limits s mark ts directives.Define = where_read s (define_turn source limits s mark ts)
directive_turn source limits s mark ts directives.Undef = where_read s (undef_turn source limits s mark ts)
directive_turn source limits s mark ts directives.PassedOver = where_read s (Goes 0 (record s { line = Passed mark.span.line }))
directive_turn source limits s mark ts directives.Other = where_read s (macro_turn s mark 1)
directive_turn source limits s mark ts directives.Alone = where_read s (macro_turn s mark 0)

-- the token begins on a line that is passed over
abbrev pub is_passed : Line → Token → Bool
is_passed Free t = false
is_passed (Passed line) t = t.span.line == line
is_passed (Kept line) t = false
is_passed (Text line) t = t.span.line == line

-- the token begins on a line that stands as it is
abbrev pub is_kept : Line → Token → Bool
is_kept Free t = false
is_kept (Passed line) t = false
is_kept (Kept line) t = t.span.line == line
is_kept (Text line) t = false

-- the next token begins on the line after this one's
abbrev pub is_next_line : Token → Token → Bool
is_next_line t next = next.span.line == t.span.line + 1

-- A definition's text goes on with the next line where the last token of its line is a lone \. (IEEE 1364-2005, 19.3.1)
unfoldable pub text_line : List ℕ → ℕ → Token → Token → Line
text_line source line t next = if is_lone source t && is_next_line t next then Text next.span.line else Text line

-- the line after a token that was passed over, where this one is next
abbrev pub line_after : List ℕ → Line → Token → Token → Line
line_after source (Text line) t next = text_line source line t next
line_after source Free t next = Free
line_after source (Passed line) t next = Passed line
line_after source (Kept line) t next = Kept line

-- the line of which the rest is passed over or stands as it is, if there is one
abbrev pub line_of : Line → ℕ
line_of Free = 0
line_of (Passed line) = line
line_of (Kept line) = line
line_of (Text line) = line

-- a token that is read
abbrev pub read_turn : List ℕ → State → Token → Turn
read_turn source s t = Shows (item Plain t) 0 (record s { region = after_token source s.region t })

-- the turn of a token before others
unfoldable pub turn : List ℕ → Limits → State → Token → List Token → Turn
turn source limits s t ts =
    if is_end t.kind then Ends (end_item s.conditions t) else
    if is_wrong source t then Shows (item Plain t) 0 s else
    if is_passed s.line t then Goes 0 (record s { line = line_after source s.line t (after 0 t ts) }) else
    if is_kept s.line t then Shows (item Plain t) 0 (record s { region = after_kept source s.region t }) else
    if is_mark source t then directive_turn source limits s t ts (directive_of (word_after source t (after 0 t ts))) else
    where_read s (read_turn source s t)

-- the items of a turn, and then those of the rest
abbrev pub taken : Turn → (State → ℕ → List Left) → List Left
taken (Ends last) rest = last ∷ []
taken (Shows shown inside s) rest = shown ∷ rest s inside
taken (Goes inside s) rest = rest s inside

-- What is left of these tokens, of which the first, so many as inside says, belong to a directive.
unfoldable pub left_from : List ℕ → Limits → State → ℕ → List Token → List Left
left_from source limits s inside [] = []
left_from source limits s (suc inside) (t ∷ ts) = left_from source limits s inside ts
left_from source limits s zero (t ∷ ts) = taken (turn source limits s t ts) (λ next inside. left_from source limits next inside ts)

-- what is left of a text's tokens
unfoldable pub left_of : List ℕ → Limits → List Left
left_of source limits = left_from source limits start 0 (tokens_of Verilog source)

abbrev pub is_last_role : Role → Bool
is_last_role Plain = false
is_last_role Macro = false
is_last_role Misplaced = true
is_last_role TooDeep = true
is_last_role LongName = true

-- nothing is left after the item: the text can't be read further, or ends
abbrev pub is_last : Left → Bool
is_last i = is_last_role i.role || is_end i.token.kind

-- an item and those after it; after the last one there are none
unfoldable pub followed : Left → List Left → List Left
followed i items = if is_last i then i ∷ [] else i ∷ items
