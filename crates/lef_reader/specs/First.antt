-- What a rule says of the first tokens of a list.
use Rattle.std.specs.Prelude.{true, List, Result, Ok, Err}
use Rattle.grammar.specs.Rule.{Rule, none, one, seq, many, Takes}
use Rattle.grammar.specs.Reading.{Stop}
use Rattle.grammar.specs.Answers.{IsAnswer}

-- any tokens
abbrev pub anything : {T S E : Type 0} → Rule T S E
anything = many (one (λ t. true) (λ t s. Ok s) (λ t. none))

-- what is read of the first tokens, and the tokens from there on, or where and why it stops
abbrev pub First : Type 0 → Type 0 → Type 0 → Type 0
First T S E = Result (S × List T) (Stop T E)

-- They are a whole text of the rule; or the first of the others is the first with which they begin none, whatever may
-- follow; or the action of that token refuses.
abbrev pub IsFirst : {T S E : Type 0} → Rule T S E → S → List T → First T S E → Type 0
IsFirst a s ts (Ok x) = Takes a s ts x.0 x.1
IsFirst a s ts (Err stop) = IsAnswer (seq a anything) s ts (Err stop)
