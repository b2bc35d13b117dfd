-- Reading the values of words one after the other.
use Rattle.std.proofs.Common.{◌≡◌, ℕ, List, Option, Result, Ok, Err, refl, sym, ap, ◌∙◌}
use Rattle.text_scan.specs.declared.token.Token.{Token}
use Rattle.text_scan.specs.declared.refusal.FileRefusal.{FileRefusal}
use Rattle.text_scan.specs.declared.refusal.FileRefusal.TheVariants as refusals
use Rattle.file_rules.specs.Told.{Agrees, Steps, TellsSome}
use Rattle.grammar.specs.Reading.{◌>>=◌}
use Rattle.tern_core.specs.declared.tern.Tern.{Tern}
use Rattle.table_source.specs.declared.Row.{Row}
use Rattle.correspondence.specs.Lines.{PlacedWord}
use Rattle.correspondence.specs.Words.{more_refusal, next_values, row_of, two_values, unless}
use Rattle.correspondence.specs.Steps.{Took}

-- what is refused stays refused

pub took_on : {V W : Type 0} (e : FileRefusal) (rest more : List PlacedWord) (y : Result (V × List PlacedWord) FileRefusal)
    → (f : V × List PlacedWord → Result (W × List PlacedWord) FileRefusal) → Took {V = V} (Err e) rest y → Took {V = W} (Err e) more (y >>= f)
took_on refusals.NoMemory rest more y f h = tt
took_on (refusals.Syntax line column) rest more y f h = ap (λ r. r >>= f) h
took_on (refusals.TooMany kind number) rest more y f h = ap (λ r. r >>= f) h
took_on (refusals.DoubleName name line) rest more y f h = ap (λ r. r >>= f) h

pub agrees_on : {V X : Type 0} (e : FileRefusal) (rest : List PlacedWord) (y : Result (V × List PlacedWord) FileRefusal)
    → (f : V × List PlacedWord → Result X FileRefusal) → Took {V = V} (Err e) rest y → Agrees {X = X} (Err e) (y >>= f)
agrees_on refusals.NoMemory rest y f h = tt
agrees_on (refusals.Syntax line column) rest y f h = ap (λ r. r >>= f) h
agrees_on (refusals.TooMany kind number) rest y f h = ap (λ r. r >>= f) h
agrees_on (refusals.DoubleName name line) rest y f h = ap (λ r. r >>= f) h

pub agrees_unless : {X : Type 0} (e : FileRefusal) (o : Option FileRefusal) (x : X) → TellsSome e o → Agrees {X = X} (Err e) (unless o x)
agrees_unless refusals.NoMemory o x h = tt
agrees_unless (refusals.Syntax line column) o x h = ap (λ z. unless z x) h
agrees_unless (refusals.TooMany kind number) o x h = ap (λ z. unless z x) h
agrees_unless (refusals.DoubleName name line) o x h = ap (λ z. unless z x) h

pub steps_unless : {X : Type 0} (e : FileRefusal) (o : Option FileRefusal) (new x : X) → TellsSome e o → Steps {U = Unit {0}} {X = X} (Err e) new (unless o x)
steps_unless refusals.NoMemory o new x h = tt
steps_unless (refusals.Syntax line column) o new x h = ap (λ z. unless z x) h
steps_unless (refusals.TooMany kind number) o new x h = ap (λ z. unless z x) h
steps_unless (refusals.DoubleName name line) o new x h = ap (λ z. unless z x) h

pub steps_on : {V X : Type 0} (e : FileRefusal) (y : Result V FileRefusal) (f : V → Result X FileRefusal) (new : X) → Agrees {X = V} (Err e) y → Steps {U = Unit {0}} {X = X} (Err e) new (y >>= f)
steps_on refusals.NoMemory y f new h = tt
steps_on (refusals.Syntax line column) y f new h = ap (λ r. r >>= f) h
steps_on (refusals.TooMany kind number) y f new h = ap (λ r. r >>= f) h
steps_on (refusals.DoubleName name line) y f new h = ap (λ r. r >>= f) h

-- ---- two words

abbrev pub with_first : List Tern → List Tern × List PlacedWord → Result ((List Tern × List Tern) × List PlacedWord) FileRefusal
with_first a b = Ok ((a, b.0), b.1)

abbrev pub second : Token → List Tern × List PlacedWord → Result ((List Tern × List Tern) × List PlacedWord) FileRefusal
second ending a = next_values a.1 ending >>= with_first a.0

pub two_is : (ws : List PlacedWord) (ending : Token) → two_values ws ending ≡ (next_values ws ending >>= second ending)
unfolding two_values
two_is ws ending = refl

pub two_behind : (ws us : List PlacedWord) (ending s : Token) (a : List Tern) → next_values ws ending ≡ Ok (a, us) → s ≡ ending → two_values ws ending ≡ (next_values us s >>= with_first a)
two_behind ws us ending s a h e = two_is ws ending ∙ ap (λ r. r >>= second ending) h ∙ ap (λ t. next_values us t >>= with_first a) (sym e)

-- ---- a row

abbrev pub Two : Type 0
Two = List Tern × List Tern

abbrev pub row_with : ℕ → Two → Two → Row
row_with line a b = record { line = line; pins = a.0; liberty = a.1; udps = b.0; nodes = b.1 }

abbrev pub last_two : ℕ → Two → Two × List PlacedWord → Result Row FileRefusal
last_two line a b = unless (more_refusal b.1) (row_with line a b.0)

abbrev pub row_behind : ℕ → Token → Two × List PlacedWord → Result Row FileRefusal
row_behind line ending a = two_values a.1 ending >>= last_two line a.0

pub row_is : (line : ℕ) (ws : List PlacedWord) (ending : Token) → row_of line ws ending ≡ (two_values ws ending >>= row_behind line ending)
unfolding row_of
row_is line ws ending = refl

pub row_half : (line : ℕ) (ws us : List PlacedWord) (ending s : Token) (a : Two) → two_values ws ending ≡ Ok (a, us) → s ≡ ending
    → row_of line ws ending ≡ (two_values us s >>= last_two line a)
row_half line ws us ending s a h e = row_is line ws ending ∙ ap (λ r. r >>= row_behind line ending) h ∙ ap (λ t. two_values us t >>= last_two line a) (sym e)

pub row_whole : (line : ℕ) (ws us vs : List PlacedWord) (ending s : Token) (a b : Two) → two_values ws ending ≡ Ok (a, us) → s ≡ ending → two_values us s ≡ Ok (b, vs)
    → row_of line ws ending ≡ unless (more_refusal vs) (row_with line a b)
row_whole line ws us vs ending s a b h e k = row_half line ws us ending s a h e ∙ ap (λ r. r >>= last_two line a) k
