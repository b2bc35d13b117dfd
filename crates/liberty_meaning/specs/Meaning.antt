-- What the texts of a Liberty cell mean: functions of its input pins and its state, and why a text has no meaning.
use Rattle.std.specs.Prelude.{◌≡◌, ℕ, true, List, [], ◌∷◌, ◌++◌, min, All, Option, Some, None, is_some, Result, Ok, Err}
use Rattle.tern_core.specs.declared.tern.Tern.{Tern}
use Rattle.tern_core.specs.declared.tern.Tern.TheVariants as tern
use Rattle.liberty_source.specs.declared.LibertyPin.{LibertyPin}
use Rattle.liberty_function.specs.Sources.{Named, value_at}
use Rattle.liberty_function.specs.declared.function.Program.{Program}
use Rattle.liberty_function.specs.Words.{words_of, bare}
use Rattle.liberty_function.specs.Function.{Function, constant, value_of, SpellsText, IsBadAt}
use Rattle.liberty_function.specs.Texts.{name_value, unknown_among, program_value}
use Rattle.liberty_meaning.specs.declared.refusal.MeaningRefusal.{MeaningRefusal}
use Rattle.liberty_meaning.specs.declared.refusal.MeaningRefusal.TheVariants as refusal
use Rattle.liberty_meaning.specs.Names.{output_pins}
use Rattle.name_index.specs.Places.{place_of}

-- a number as a u32 tells it
abbrev pub told : ℕ → ℕ
told n = min n 4294967295

-- a value at each choice of the input pins' values and of the state
abbrev pub Valuation : Type 0
Valuation = List Tern → List Tern → Tern

-- the function that a text spells over the names; an absent text is the constant 0
abbrev pub IsFunctionOf : List Named → Option (List ℕ) → Function → Type 0
IsFunctionOf names None f = f ≡ constant tern.Zero
IsFunctionOf names (Some text) f = SpellsText text f × (unknown_among names (bare (words_of text)) ≡ None)

-- the text spells a function whose names are all there
abbrev pub IsGood : List Named → Option (List ℕ) → Type 0
IsGood names text = (f : Function) × IsFunctionOf names text f

-- a function's values over the names
abbrev pub values_of : List Named → Function → Valuation
values_of names f pins state = value_of (name_value names pins state) f

-- the values are the function's, whatever the pins and the state are
abbrev pub Computes : List Named → Valuation → Function → Type 0
Computes names v f = (pins state : List Tern) → v pins state ≡ values_of names f pins state

-- the values are those of the function that the text spells
abbrev pub IsValueOf : List Named → Option (List ℕ) → Valuation → Type 0
IsValueOf names text v = (f : Function) × IsFunctionOf names text f × Computes names v f

-- why a text of this owner is refused: a token that cannot follow, else the first name that no place has
abbrev pub RefusesText : List Named → List ℕ → List ℕ → MeaningRefusal → Type 0
RefusesText names owner text refusal.NoMemory = ⊥
RefusesText names owner text (refusal.BadFunction o place) = (o ≡ owner) × ((k : ℕ) × (place ≡ told k) × IsBadAt text k)
RefusesText names owner text (refusal.UnknownName n) = ((f : Function) × SpellsText text f) × (unknown_among names (bare (words_of text)) ≡ Some n)
RefusesText names owner text (refusal.BadStateRow row) = ⊥
RefusesText names owner text (refusal.Construct word line) = ⊥

abbrev pub RefusesOptional : List Named → List ℕ → Option (List ℕ) → MeaningRefusal → Type 0
RefusesOptional names owner None e = ⊥
RefusesOptional names owner (Some text) e = RefusesText names owner text e

-- want of memory needs no reason
abbrev pub UnlessMemory : MeaningRefusal → Type 0 → Type 0
UnlessMemory refusal.NoMemory P = Unit {0}
UnlessMemory (refusal.BadFunction o place) P = P
UnlessMemory (refusal.UnknownName n) P = P
UnlessMemory (refusal.BadStateRow row) P = P
UnlessMemory (refusal.Construct word line) P = P

-- the answer on a text of an owner
abbrev pub IsOwnedAnswer : List Named → List ℕ → Option (List ℕ) → Result Program MeaningRefusal → Type 0
IsOwnedAnswer names owner text (Ok p) = IsValueOf names text (program_value p)
IsOwnedAnswer names owner text (Err e) = UnlessMemory e (RefusesOptional names owner text e)

-- the text that an output uses
abbrev pub text_or : Option (List ℕ) → Option (List ℕ) → Option (List ℕ)
text_or None second = second
text_or (Some text) second = Some text

abbrev pub output_text : LibertyPin → Option (List ℕ)
output_text p = text_or p.function p.state_function

-- An output has its text's value, else that of the node that it shows, else none that is known.
abbrev pub IsOutputBy : List Named → List (List ℕ) → Option (List ℕ) → Option (List ℕ) → Valuation → Type 0
IsOutputBy names nodes (Some text) shown v = IsValueOf names (Some text) v
IsOutputBy names nodes None (Some n) v = (k : ℕ) × (place_of nodes n ≡ Some k) × ((pins state : List Tern) → v pins state ≡ value_at state k)
IsOutputBy names nodes None None v = (pins state : List Tern) → v pins state ≡ tern.Unknown

abbrev pub IsOutput : List Named → List (List ℕ) → LibertyPin → Valuation → Type 0
IsOutput names nodes p v = IsOutputBy names nodes (output_text p) p.internal_node v

-- nothing that an output uses is refused
abbrev pub IsGoodOutputBy : List Named → List (List ℕ) → Option (List ℕ) → Option (List ℕ) → Type 0
IsGoodOutputBy names nodes (Some text) shown = IsGood names (Some text)
IsGoodOutputBy names nodes None (Some n) = is_some (place_of nodes n) ≡ true
IsGoodOutputBy names nodes None None = Unit {0}

abbrev pub IsGoodOutput : List Named → List (List ℕ) → LibertyPin → Type 0
IsGoodOutput names nodes p = IsGoodOutputBy names nodes (output_text p) p.internal_node

abbrev pub RefusesOutputBy : List Named → List (List ℕ) → List ℕ → Option (List ℕ) → Option (List ℕ) → MeaningRefusal → Type 0
RefusesOutputBy names nodes owner (Some text) shown e = RefusesText names owner text e
RefusesOutputBy names nodes owner None (Some n) e = (e ≡ refusal.UnknownName n) × (place_of nodes n ≡ None)
RefusesOutputBy names nodes owner None None e = ⊥

abbrev pub RefusesOutput : List Named → List (List ℕ) → LibertyPin → MeaningRefusal → Type 0
RefusesOutput names nodes p e = RefusesOutputBy names nodes p.name (output_text p) p.internal_node e

abbrev pub IsNodeAnswer : List (List ℕ) → Option (List ℕ) → Result Program MeaningRefusal → Type 0
IsNodeAnswer nodes (Some n) (Ok p) = (k : ℕ) × (place_of nodes n ≡ Some k) × ((pins state : List Tern) → program_value p pins state ≡ value_at state k)
IsNodeAnswer nodes None (Ok p) = (pins state : List Tern) → program_value p pins state ≡ tern.Unknown
IsNodeAnswer nodes (Some n) (Err e) = UnlessMemory e ((e ≡ refusal.UnknownName n) × (place_of nodes n ≡ None))
IsNodeAnswer nodes None (Err e) = UnlessMemory e ⊥

abbrev pub IsOutputAnswer : List Named → List (List ℕ) → LibertyPin → Result Program MeaningRefusal → Type 0
IsOutputAnswer names nodes p (Ok q) = IsOutput names nodes p (program_value q)
IsOutputAnswer names nodes p (Err e) = UnlessMemory e (RefusesOutput names nodes p e)

-- a program for each of these pins, in their order
unfoldable pub OutputsAre : List Named → List (List ℕ) → List LibertyPin → List Program → Type 0
OutputsAre names nodes [] [] = Unit {0}
OutputsAre names nodes [] (q ∷ qs) = ⊥
OutputsAre names nodes (p ∷ pins) [] = ⊥
OutputsAre names nodes (p ∷ pins) (q ∷ qs) = IsOutput names nodes p (program_value q) × OutputsAre names nodes pins qs

-- the first output pin that is refused comes after outputs that are not
pub record RefusesOutputs (names : List Named) (nodes : List (List ℕ)) (pins : List LibertyPin) (e : MeaningRefusal) : Type 0 where
  pub before : List LibertyPin
  pub pin : LibertyPin
  pub after : List LibertyPin
  pub whole : output_pins pins ≡ before ++ pin ∷ after
  pub good : All (λ p. IsGoodOutput names nodes p) before
  pub refused : RefusesOutput names nodes pin e

abbrev pub IsOutputsAnswer : List Named → List (List ℕ) → List LibertyPin → Result (List Program) MeaningRefusal → Type 0
IsOutputsAnswer names nodes pins (Ok qs) = OutputsAre names nodes (output_pins pins) qs
IsOutputsAnswer names nodes pins (Err e) = UnlessMemory e (RefusesOutputs names nodes pins e)
