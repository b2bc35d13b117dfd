-- What the parts of a reader answer.
use Rattle.std.specs.Prelude.{◌≡◌, ℕ, true, false, if◌then◌else◌, List, [], ◌∷◌, Option, Result, Ok, Err}
use Rattle.text_scan.specs.declared.token.Token.{Token}
use Rattle.text_scan.specs.Left.{is_end, left}
use Rattle.grammar.specs.Reading.{Stop, syntax, refusal}
use Rattle.lef_reader.specs.declared.extent.Extent.{Extent}
use Rattle.lef_reader.specs.declared.halt.Halt.{Halt}
use Rattle.lef_reader.specs.declared.halt.Halt.TheVariants as halts
use Rattle.lef_reader.specs.declared.halt.Refusal.{Refusal}
use Rattle.lef_reader.specs.declared.halt.Refusal.TheVariants as refusals
use Rattle.lef_reader.specs.declared.tokens.Tokens.{Tokens}
use Rattle.lef_tokens.specs.Looks.{is_passed}
use Rattle.lef_reader.specs.Passing.{is_name_of}

-- the tokens behind the one ahead; behind the end there are none
unfoldable pub more : Tokens → List Token
more r = if is_end r.ahead.kind then [] else left r.cursor

-- the tokens that are not yet read
abbrev pub rest : Tokens → List Token
rest r = r.ahead ∷ more r

-- words and strings were passed over up to a stopping word, or there was none
abbrev pub Passes : Result (Option Extent) Halt → Result (Option Extent × List Token) (List Token) → List Token → Type 0
Passes (Ok e) o new = o ≡ Ok (e, new)
Passes (Err h) o new = (h ≡ halts.Syntax) × (o ≡ Err new)

abbrev pub IsBehind : {U : Type 0} → Result U Halt → Result (List Token) (List Token) → List Token → Type 0
IsBehind (Ok u) o new = o ≡ Ok new
IsBehind (Err h) o new = (h ≡ halts.Syntax) × (o ≡ Err new)

-- the word behind END was this name, or another one, or may not stand there
abbrev pub EndsName : {U : Type 0} → List ℕ → Token → Result U Halt → List Token → List Token → Type 0
EndsName source name r [] new = ⊥
EndsName source name (Ok u) (t ∷ ts) new = (is_passed t ≡ true) × (is_name_of source name t ≡ true) × (ts ≡ new)
EndsName source name (Err halts.NoMemory) (t ∷ ts) new = ⊥
EndsName source name (Err halts.Syntax) (t ∷ ts) new = (is_passed t ≡ false) × (t ∷ ts ≡ new)
EndsName source name (Err (halts.Refused e)) (t ∷ ts) new = (is_passed t ≡ true) × (is_name_of source name t ≡ false) × (t ∷ ts ≡ new) × (e ≡ refusals.OtherEnd)

-- the action leads to the new value, or refuses
abbrev pub Does : {U S : Type 0} → Result U Halt → S → Result S Refusal → Type 0
Does (Ok u) new o = o ≡ Ok new
Does (Err halts.NoMemory) new o = Unit {0}
Does (Err halts.Syntax) new o = ⊥
Does (Err (halts.Refused e)) new o = o ≡ Err e

-- what is read stops at the tokens that are left
abbrev pub Halts : {S : Type 0} → Halt → Result (S × List Token) (Stop Token Refusal) → List Token → Type 0
Halts halts.NoMemory o new = Unit {0}
Halts halts.Syntax o new = o ≡ Err (syntax new)
Halts (halts.Refused e) o new = o ≡ Err (refusal e new)

-- what is read is this, and these tokens are left
abbrev pub Gives : {U S : Type 0} → Result U Halt → Result (S × List Token) (Stop Token Refusal) → S → List Token → Type 0
Gives (Ok u) o s new = o ≡ Ok (s, new)
Gives (Err h) o s new = Halts h o new

abbrev pub Finds : {S : Type 0} → Result S Halt → Result (S × List Token) (Stop Token Refusal) → List Token → Type 0
Finds (Ok s) o new = o ≡ Ok (s, new)
Finds (Err h) o new = Halts h o new
