-- What directives have before them.
use Rattle.std.specs.Prelude.{◌≡◌, ℕ, ◌≤◌, true, List, ◌++◌, length, drop, map, Option, None, Some}
use Rattle.std.specs.List.{list_all}
use Rattle.text_scan.specs.declared.token.Token.{Token}
use Rattle.text_scan.specs.declared.limits.Limits.{Limits}
use Rattle.verilog_directives.specs.declared.left.Left.{Left}
use Rattle.verilog_directives.specs.declared.directives.Directives.{Directives}
use Rattle.verilog_directives.specs.Lookahead.{to_come}
use Rattle.verilog_directives.specs.Held.{tokens}
use Rattle.verilog_directives.specs.declared.left.Role.TheVariants.{Plain}
use Rattle.verilog_directives.specs.Left.{State, Turn, item, taken, left_from, followed}
use Rattle.verilog_directives.specs.Skims.{is_filler}

-- the text
unfoldable pub source : Directives → List ℕ
source d = d.tokens.source.now

abbrev pub state : Directives → State
state d = record { names = d.names; conditions = d.conditions; line = d.line; region = d.region }

-- the items that are not yet answered
unfoldable pub left : Directives → List Left
left d = left_from d.tokens.source.now d.limits (state d) 0 (to_come d.tokens)

-- an item, if there is one, and those after it
abbrev pub before : Option Left → List Left → List Left
before None items = items
before (Some i) items = followed i items

-- what is left by a turn before these tokens
unfoldable pub left_by : List ℕ → Limits → Turn → List Token → List Left
left_by text limits turn ts = taken turn (λ s inside. left_from text limits s inside ts)

-- plain tokens were gone over, all of them fillers
pub record GoesOverFillers (old new : Directives) : Type 0 where
  pub fillers : List Token
  pub front : left old ≡ map (item Plain) fillers ++ left new
  pub all : list_all (is_filler (source old)) fillers ≡ true

-- the tokens after the next one
abbrev pub rest : Directives → List Token
rest d = drop 1 (to_come d.tokens)

-- how many tokens are held
abbrev pub held : Directives → ℕ
held d = length (tokens d.tokens.held)

-- tokens were looked at, and nothing else was done
pub record OnlyLooks (old new : Directives) : Type 0 where
  pub text : new.tokens.source.now ≡ old.tokens.source.now
  pub limits : new.limits ≡ old.limits
  pub state : state new ≡ state old
  pub to_come : to_come new.tokens ≡ to_come old.tokens
  pub held : held old ≤ held new
