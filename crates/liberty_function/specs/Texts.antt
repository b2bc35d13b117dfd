-- What is made of the text of a function, over the names of a cell.
use Rattle.std.specs.Prelude.{◌≡◌, ℕ, true, if◌then◌else◌, List, [], ◌∷◌, ◌++◌, Option, Some, None, is_some, Result, Ok, Err}
use Rattle.tern_core.specs.declared.tern.Tern.{Tern}
use Rattle.liberty_function.specs.declared.words.Word.{Word}
use Rattle.liberty_function.specs.declared.words.Word.TheVariants.{Name}
use Rattle.liberty_function.specs.declared.program.Step.{Step}
use Rattle.liberty_function.specs.Sources.{Named, source_among, sources_of, source_value}
use Rattle.liberty_function.specs.declared.words.Placed.{Placed}
use Rattle.liberty_function.specs.declared.function.Program.{Program}
use Rattle.liberty_function.specs.declared.texts.TextRefusal.{TextRefusal}
use Rattle.liberty_function.specs.declared.texts.TextRefusal.TheVariants.{NoMemory, BadFunction, UnknownName}
use Rattle.liberty_function.specs.Words.{words_of, bare}
use Rattle.liberty_function.specs.Function.{Function, value_of, SpellsText, IsBadAt, IsFunction, IsFront, CannotFollow}
use Rattle.liberty_function.specs.Compiling.{after_steps, last_value, fits}

-- the value of a name, where these places have names; unknown where none has it
abbrev pub name_value : List Named → List Tern → List Tern → List ℕ → Tern
name_value names pins state n = source_value pins state (sources_of names n)

abbrev pub unknown_or : List Named → Word → Option (List ℕ) → Option (List ℕ)
unknown_or names (Name n) more = if is_some (source_among names n) then more else Some n
unknown_or names _ more = more

-- the first name among the tokens that no place has
unfoldable pub unknown_among : List Named → List Word → Option (List ℕ)
unknown_among names [] = None
unknown_among names (w ∷ ws) = unknown_or names w (unknown_among names ws)

-- the value that steps leave
abbrev pub steps_value : List Tern → List Tern → List Step → Tern
steps_value pins state steps = last_value (after_steps (source_value pins state) steps [])

-- the value of a compiled function
unfoldable pub program_value : Program → List Tern → List Tern → Tern
program_value p pins state = steps_value pins state p.steps

-- the text spells a function over the names, and the compiled function has its value
pub record IsProgramOf (names : List Named) (text : List ℕ) (p : Program) : Type 0 where
  pub function : Function
  pub spelled : SpellsText text function
  pub known : unknown_among names (bare (words_of text)) ≡ None
  pub value : (pins state : List Tern) → program_value p pins state ≡ value_of (name_value names pins state) function

-- the answer on a text
abbrev pub IsTextAnswer : List Named → List ℕ → Result Program TextRefusal → Type 0
IsTextAnswer names text (Ok p) = IsProgramOf names text p
IsTextAnswer names text (Err NoMemory) = Unit {0}
IsTextAnswer names text (Err (BadFunction place)) = IsBadAt text place
IsTextAnswer names text (Err (UnknownName n)) = ((f : Function) × SpellsText text f) × (unknown_among names (bare (words_of text)) ≡ Some n)

-- the steps of a list of tokens, or the place of the first that cannot follow
abbrev pub IsStepsAnswer : List Named → List Placed → ℕ → Result (List Step) TextRefusal → Type 0
IsStepsAnswer names words end (Ok steps) = (fits steps 0 ≡ true) × ((f : Function) × IsFunction (bare words) f × ((pins state : List Tern) → steps_value pins state steps ≡ value_of (name_value names pins state) f))
IsStepsAnswer names words end (Err NoMemory) = Unit {0}
IsStepsAnswer names words end (Err (BadFunction place)) = (before rest : List Placed) × (words ≡ before ++ rest) × IsFront (bare before) × CannotFollow (bare before) rest end place
IsStepsAnswer names words end (Err (UnknownName n)) = ⊥
