-- What is told of a text.
use Rattle.std.specs.Prelude.{ℕ, List, [], ◌∷◌, Result, Ok, Err}
use Rattle.text_scan.specs.Tokens.{after, start}
use Rattle.text_scan.specs.declared.token.Place.{Place}
use Rattle.text_scan.specs.declared.limits.Limits.{Limits}
use Rattle.text_scan.specs.declared.refusal.FileRefusal.{FileRefusal}
use Rattle.text_scan.specs.declared.refusal.FileRefusal.TheVariants as refusals
use Rattle.grammar.specs.Reading.{Stop, syntax, refusal}
use Rattle.grammar.specs.Answers.{IsAnswer}
use Rattle.circuit.specs.declared.netlist.Netlist.{Netlist}
use Rattle.cdl_cards.specs.Cards.{Card, cards_of}
use Rattle.cdl_reader.specs.Actions.{at_word}
use Rattle.cdl_reader.specs.Grammar.{netlist, nothing}
use Rattle.cdl_reader.specs.declared.parts.Parts.{Parts}
use Rattle.file_rules.specs.Told.{Agrees}

-- what the grammar says of a text: what is read, or where and why it stops
abbrev pub Answer : Type 0
Answer = Result Parts (Stop Card FileRefusal)

abbrev pub at_place : Place → FileRefusal
at_place p = refusals.Syntax p.line p.column

-- the first word of a card
abbrev pub at_card : Card → FileRefusal
at_card [] = refusals.Syntax 0 0
at_card (w ∷ ws) = at_word w

-- the first card that can't follow, or the place after the last byte
abbrev pub at_first : List ℕ → List Card → FileRefusal
at_first text [] = at_place (after start text)
at_first text (c ∷ cs) = at_card c

unfoldable pub told : List ℕ → Answer → Result Netlist FileRefusal
told text (Ok s) = Ok (record { parts = s.parts })
told text (Err (syntax rest)) = Err (at_first text rest)
told text (Err (refusal e rest)) = Err e

-- the grammar gives the text an answer, which is told unless memory ran out
pub record IsAnswered (text : List ℕ) (limits : Limits) (result : Result Netlist FileRefusal) : Type 0 where
  pub answer : Answer
  pub is : IsAnswer (netlist limits) nothing (cards_of text) answer
  pub agrees : Agrees result (told text answer)
