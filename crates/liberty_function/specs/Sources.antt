-- Where the value of a name comes from.
use Rattle.std.specs.Prelude.{ℕ, if◌then◌else◌, List, [], ◌∷◌, Option, Some, None, slice_index_or, bytes_eq, unwrap_or}
use Rattle.tern_core.specs.declared.tern.Tern.{Tern}
use Rattle.tern_core.specs.declared.tern.Tern.TheVariants as tern
use Rattle.liberty_function.specs.declared.program.Source.{Source}
use Rattle.liberty_function.specs.declared.program.Source.TheVariants as source

-- the value at a place, unknown past the end
abbrev pub value_at : List Tern → ℕ → Tern
value_at values k = slice_index_or values k tern.Unknown

-- the value of a source
abbrev pub source_value : List Tern → List Tern → Source → Tern
source_value pins state source.Zero = tern.Zero
source_value pins state source.One = tern.One
source_value pins state source.Unknown = tern.Unknown
source_value pins state (source.Input k) = value_at pins k
source_value pins state (source.State k) = value_at state k

-- a name and where its value comes from
pub record Named : Type 0 where
  pub name : List ℕ
  pub source : Source

-- the source of a name among these; unknown where none has it
unfoldable pub source_among : List Named → List ℕ → Option Source
source_among [] name = None
source_among (n ∷ names) name = if bytes_eq name n.name then Some n.source else source_among names name

abbrev pub sources_of : List Named → List ℕ → Source
sources_of names name = unwrap_or (source_among names name) source.Unknown

-- names beside their sources
unfoldable pub named_of : List (List ℕ) → List Source → List Named
named_of [] sources = []
named_of (n ∷ names) [] = []
named_of (n ∷ names) (s ∷ sources) = record { name = n; source = s } ∷ named_of names sources
