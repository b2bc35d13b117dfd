-- What reading one thing of a file leads to.
use Rattle.std.specs.Prelude.{◌≡◌, ◌<◌, ℕ, Bool, true, false, List, [], ◌∷◌, length, Result, Ok, Err}
use Rattle.text_scan.specs.declared.limits.Limits.{Limits}
use Rattle.text_scan.specs.declared.refusal.FileRefusal.{FileRefusal}
use Rattle.text_scan.specs.declared.refusal.FileRefusal.TheVariants as told
use Rattle.text_scan.specs.declared.token.Token.{Token}
use Rattle.file_rules.specs.Refusals.{at_token}
use Rattle.file_rules.specs.Told.{Tells}
use Rattle.lef_reader.specs.declared.halt.Halt.{Halt}
use Rattle.lef_reader.specs.declared.halt.Halt.TheVariants as halts
use Rattle.lef_reader.specs.declared.lef_text.LefText.{LefText}
use Rattle.lef_reader.specs.File.{FileAnswer, Next, Goes, Stops, IsFile, told_refusal}

-- the file has this answer
abbrev pub SomeFile : List ℕ → Limits → LefText → List Token → FileAnswer → Type 0
SomeFile source limits f ts r = (k : ℕ) × IsFile source limits k f ts r

-- a file of what was read and these tokens has no answer but those of a file of what is read now and what is left
pub record LeadsTo (source : List ℕ) (limits : Limits) (f : LefText) (ts : List Token) (g : LefText) (us : List Token) : Type 0 where
  pub on : (r : FileAnswer) → SomeFile source limits g us r → SomeFile source limits f ts r
  pub less : length us < length ts

abbrev pub Answers : List ℕ → Limits → LefText → List Token → FileRefusal → Type 0
Answers source limits f ts told.NoMemory = Unit {0}
Answers source limits f ts (told.Syntax line column) = SomeFile source limits f ts (Err (told.Syntax line column))
Answers source limits f ts (told.TooMany kind number) = SomeFile source limits f ts (Err (told.TooMany kind number))
Answers source limits f ts (told.DoubleName name line) = SomeFile source limits f ts (Err (told.DoubleName name line))

-- the file goes on so, or is refused so
abbrev pub Leads : {U : Type 0} → Result U FileRefusal → Next → LefText → List Token → Type 0
Leads (Ok u) next f us = next ≡ Goes f us
Leads (Err told.NoMemory) next f us = Unit {0}
Leads (Err (told.Syntax line column)) next f us = next ≡ Stops (told.Syntax line column)
Leads (Err (told.TooMany kind number)) next f us = next ≡ Stops (told.TooMany kind number)
Leads (Err (told.DoubleName name line)) next f us = next ≡ Stops (told.DoubleName name line)

-- one thing of the file was read: it goes on, it has ended, or it is refused
abbrev pub Turns : List ℕ → Limits → LefText → List Token → Result Bool FileRefusal → LefText → List Token → Type 0
Turns source limits f ts (Ok true) g us = LeadsTo source limits f ts g us
Turns source limits f ts (Ok false) g us = SomeFile source limits f ts (Ok g)
Turns source limits f ts (Err e) g us = Answers source limits f ts e

-- what is told of a halt at a token
abbrev pub Told : List ℕ → Limits → Halt → Token → FileRefusal → Type 0
Told source limits halts.NoMemory t e = e ≡ told.NoMemory
Told source limits halts.Syntax t e = e ≡ at_token t
Told source limits (halts.Refused r) t e = Tells e (told_refusal source limits r (t ∷ []))
