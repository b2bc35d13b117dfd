-- The one answer to a list of tokens.
use Rattle.std.specs.Prelude.{◌≡◌, List, [], ◌∷◌, ◌++◌, Result, Ok, Err}
use Rattle.grammar.specs.Rule.{Rule, Front, IsFront, Whole}
use Rattle.grammar.specs.Reading.{Stop, syntax, refusal, read}

-- with the next token the tokens so far are no front; where there is none, they are not whole
abbrev pub NoFurther : {T S E : Type 0} → Rule T S E → S → List T → List T → Type 0
NoFurther {T} {S} a s us [] = (m : S) → Whole a s us m → ⊥
NoFurther a s us (t ∷ more) = IsFront a (us ++ t ∷ []) → ⊥

-- the tokens up to rest are a front whose actions all pass, and no further token is
pub record StopsAt {T S E : Type 0} (a : Rule T S E) (s : S) (ts rest : List T) : Type 0 where
  pub us : List T
  pub state : S
  pub parts : ts ≡ us ++ rest
  pub front : Front a s us (Ok state)
  pub no_further : NoFurther a s us rest

-- the tokens up to the first of rest are a front whose last action refuses, and no action before it
pub record RefusesAt {T S E : Type 0} (a : Rule T S E) (s : S) (ts : List T) (e : E) (rest : List T) : Type 0 where
  pub us : List T
  pub token : T
  pub more : List T
  pub is_rest : rest ≡ token ∷ more
  pub parts : ts ≡ us ++ rest
  pub front : Front a s (us ++ token ∷ []) (Err e)

-- what the rule says of a list: its value, or where and why it has none
abbrev pub IsAnswer : {T S E : Type 0} → Rule T S E → S → List T → Result S (Stop T E) → Type 0
IsAnswer a s ts (Ok m) = Whole a s ts m
IsAnswer a s ts (Err (syntax rest)) = StopsAt a s ts rest
IsAnswer a s ts (Err (refusal e rest)) = RefusesAt a s ts e rest

-- what is read to the end of the list; a token after a whole text is none that can follow
abbrev pub ended : {T S E : Type 0} → S → List T → Result S (Stop T E)
ended m [] = Ok m
ended m (t ∷ ts) = Err (syntax (t ∷ ts))

abbrev pub to_end : {T S E : Type 0} → Result (S × List T) (Stop T E) → Result S (Stop T E)
to_end (Ok x) = ended x.0 x.1
to_end (Err r) = Err r

-- the answer of a reader with one token of look-ahead
abbrev pub read_all : {T S E : Type 0} → Rule T S E → S → List T → Result S (Stop T E)
read_all a s ts = to_end (read a s ts)
