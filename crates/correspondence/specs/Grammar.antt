-- A file of tables as a rule over its lines.
use Rattle.std.specs.Prelude.{ℕ, List, [], ◌∷◌, Result, Ok, Err}
use Rattle.text_scan.specs.Tokens.{after, start}
use Rattle.text_scan.specs.declared.limits.Limits.{Limits}
use Rattle.text_scan.specs.declared.refusal.FileRefusal.{FileRefusal}
use Rattle.text_scan.specs.declared.refusal.FileRefusal.TheVariants as refusals
use Rattle.file_rules.specs.Told.{Agrees}
use Rattle.grammar.specs.Rule.{Rule, none, one, seq, alt, many}
use Rattle.grammar.specs.Reading.{Stop, syntax, refusal}
use Rattle.grammar.specs.Answers.{IsAnswer}
use Rattle.table_source.specs.declared.Tables.{Tables}
use Rattle.correspondence.specs.Lines.{PlacedWord, Line, lines_of}
use Rattle.correspondence.specs.Kinds.{is_kind, kind_of_line}
use Rattle.correspondence.specs.Words.{at_word}
use Rattle.correspondence.specs.Parts.{nothing}
use Rattle.correspondence.specs.Actions.{enter}
use Rattle.correspondence.specs.declared.kinds.LineKind.{LineKind}
use Rattle.correspondence.specs.declared.kinds.LineKind.TheVariants.{Table, Pins, Xpins, State, Udps, Nodes, Row, End}
use Rattle.correspondence.specs.declared.parts.Parts.{Parts}

abbrev pub LineRule : Type 0
LineRule = Rule Line Parts FileRefusal

-- a line of this kind, and then the rest
abbrev pub line : Limits → LineKind → LineRule → LineRule
line limits kind rest = one (λ l. is_kind kind (kind_of_line l)) (enter limits) (λ l. rest)

-- any number of rows, and the end
unfoldable pub rows : Limits → LineRule
rows limits = seq (many (line limits Row none)) (line limits End none)

unfoldable pub from_nodes : Limits → LineRule
from_nodes limits = line limits Nodes (rows limits)

unfoldable pub from_udps : Limits → LineRule
from_udps limits = line limits Udps (from_nodes limits)

unfoldable pub from_state : Limits → LineRule
from_state limits = line limits State (from_udps limits)

-- with a line of pins that may be X, or without
unfoldable pub from_xpins : Limits → LineRule
from_xpins limits = alt (line limits Xpins (from_state limits)) (from_state limits)

unfoldable pub from_pins : Limits → LineRule
from_pins limits = line limits Pins (from_xpins limits)

abbrev pub table : Limits → LineRule
table limits = line limits Table (from_pins limits)

-- any number of tables
unfoldable pub tables : Limits → LineRule
tables limits = many (table limits)

-- ---- what is told of a text

-- what the grammar says of it: what is read, or where and why it stops
abbrev pub Answer : Type 0
Answer = Result Parts (Stop Line FileRefusal)

-- the first word of a line
abbrev pub at_words : List PlacedWord → FileRefusal
at_words [] = refusals.Syntax 0 0
at_words (w ∷ ws) = at_word w

abbrev pub at_line : Line → FileRefusal
at_line l = at_words l.words

-- the first line that can't follow, or the place after the last byte
abbrev pub at_first : List ℕ → List Line → FileRefusal
at_first text [] = refusals.Syntax (after start text).line (after start text).column
at_first text (l ∷ ls) = at_line l

unfoldable pub told : List ℕ → Answer → Result Tables FileRefusal
told text (Ok s) = Ok (record { tables = s.tables })
told text (Err (syntax rest)) = Err (at_first text rest)
told text (Err (refusal e rest)) = Err e

-- the grammar gives the text an answer, which is told unless memory ran out
pub record IsAnswered (text : List ℕ) (limits : Limits) (result : Result Tables FileRefusal) : Type 0 where
  pub answer : Answer
  pub is : IsAnswer (tables limits) nothing (lines_of text) answer
  pub agrees : Agrees result (told text answer)
