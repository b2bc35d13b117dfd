-- What a list of records is read as.
use Rattle.std.specs.Prelude.{ℕ, ◌+◌, if◌then◌else◌, List, [], ◌∷◌, ◌++◌, length, map, filter_map, codes, Option, Some, None, Result}
use Rattle.std.specs.Str.{bytes_eq}
use Rattle.name_index.specs.Places.{is_known}
use Rattle.text_scan.specs.declared.limits.Limits.{Limits}
use Rattle.text_scan.specs.declared.refusal.FileRefusal.{FileRefusal}
use Rattle.text_scan.specs.declared.refusal.FileRefusal.TheVariants as refusals
use Rattle.text_scan.specs.declared.pins.PinKind.{PinKind}
use Rattle.text_scan.specs.declared.pins.PinKind.TheVariants as pin_kinds
use Rattle.circuit.specs.declared.tech.Tech.{Tech}
use Rattle.circuit.specs.declared.tech.ModelCard.{ModelCard}
use Rattle.circuit.specs.declared.tech.Size.{Size}
use Rattle.circuit.specs.declared.tech.Supply.{Supply}
use Rattle.csv_records.specs.Answers.{answer, first_refusal}
use Rattle.csv_records.specs.Fields.{first_of}
use Rattle.tech_reader.specs.Fields.{digit, kind_of, wrong}
use Rattle.tech_reader.specs.declared.fields.Kind.{Kind}
use Rattle.tech_reader.specs.declared.fields.Kind.TheVariants as kinds

-- What may stand only once: a kind and a name, of a size a cell and a node. The parts are joined by commas, which no
-- kind and no name has, so joined texts are equal just where their parts are.
abbrev pub joined : List ℕ → List ℕ → List ℕ
joined a b = a ++ 44 ∷ b

abbrev pub key_of : Option Kind → List ℕ → List ℕ → List ℕ → List ℕ
key_of (Some kinds.Size) kind cell node = joined (joined kind cell) node
key_of _ kind name third = joined kind name

abbrev pub key : List (List ℕ) → List ℕ
key (kind ∷ name ∷ third ∷ last ∷ []) = key_of (kind_of kind) kind name third
key _ = []

-- the name for which a record that stands a second time is told: a size's node, else the name
abbrev pub shown_of : Option Kind → List ℕ → List ℕ → List ℕ
shown_of (Some kinds.Size) cell node = node
shown_of _ name third = name

abbrev pub shown : List (List ℕ) → List ℕ
shown (kind ∷ name ∷ third ∷ last ∷ []) = shown_of (kind_of kind) name third
shown _ = []

abbrev pub double : List (List ℕ) → ℕ → Option FileRefusal
double row line = Some (refusals.DoubleName (shown row) line)

abbrev pub doubled : ℕ → List (List (List ℕ)) → List (List ℕ) → Option FileRefusal
doubled line before row = if is_known (key row) (map key before) then double row line else None

-- why a record is refused after these, if it is: for its fields, or for what stands already
abbrev pub refuses : Limits → List (List (List ℕ)) → List (List ℕ) → Option FileRefusal
refuses limits before row = first_of (wrong limits (length before + 1) row) (doubled (length before + 1) before row)

abbrev pub model : Option Kind → List ℕ → List ℕ → List ℕ → Option ModelCard
model (Some kinds.Model) name channel strength = Some (record { name = name; p = bytes_eq channel (codes "p"); strength = digit strength })
model _ name third last = None

abbrev pub size : Option Kind → List ℕ → List ℕ → List ℕ → Option Size
size (Some kinds.Size) cell node strength = Some (record { cell = cell; node = node; strength = digit strength })
size _ name third last = None

abbrev pub pin_kind : List ℕ → PinKind
pin_kind word = if bytes_eq word (codes "power") then pin_kinds.Power else pin_kinds.Ground

abbrev pub supply : Option Kind → List ℕ → List ℕ → Option Supply
supply (Some kinds.Supply) name word = Some (record { name = name; kind = pin_kind word })
supply _ name third = None

-- the model that a record gives, if it is one; likewise a size and a supply
abbrev pub model_of : List (List ℕ) → Option ModelCard
model_of (kind ∷ name ∷ third ∷ last ∷ []) = model (kind_of kind) name third last
model_of _ = None

abbrev pub size_of : List (List ℕ) → Option Size
size_of (kind ∷ name ∷ third ∷ last ∷ []) = size (kind_of kind) name third last
size_of _ = None

abbrev pub supply_of : List (List ℕ) → Option Supply
supply_of (kind ∷ name ∷ third ∷ last ∷ []) = supply (kind_of kind) name third
supply_of _ = None

-- the models, the sizes and the supplies, each in the order of the records
unfoldable pub tech_of : List (List (List ℕ)) → Tech
tech_of rows = record { models = filter_map model_of rows; sizes = filter_map size_of rows; supplies = filter_map supply_of rows }

-- the first refusal where there is one, else the technology
unfoldable pub told : Limits → List (List (List ℕ)) → Result Tech FileRefusal
told limits rows = answer (first_refusal limits (refuses limits) [] rows) (tech_of rows)
