-- What a Verilog source text has for a cell: its module, and the primitives that the module uses.
use Rattle.std.specs.Prelude.{◌≡◌, ℕ, List, [], ◌∷◌, map, Option, Some, None, slice_get, is_some, if◌then◌else◌}
use Rattle.std.specs.Option.{option_or, option_map}
use Rattle.verilog_source.specs.declared.module.ModulePart.{ModulePart}
use Rattle.verilog_source.specs.declared.module.ModulePart.TheVariants as modules
use Rattle.verilog_source.specs.declared.primitive.UdpPart.{UdpPart}
use Rattle.verilog_source.specs.declared.primitive.UdpPart.TheVariants as primitives
use Rattle.verilog_source.specs.declared.module.Element.{Element}
pub use Rattle.verilog_source.specs.Source.{module_name, udp_name}
use Rattle.module_net.specs.Elements.{element_word}
use Rattle.udp_table.specs.Table.{Table}
use Rattle.udp_table.specs.Building.{IsBuilt, IsRefused}
use Rattle.udp_table.specs.declared.refusal.UdpRefusal.{UdpRefusal}
use Rattle.name_index.specs.Places.{place_of}
use Rattle.verdict_text.specs.declared.reason.Reason.{Reason}
use Rattle.cell_compare.specs.Reasons.{IsFlaw, reason_of}
use Rattle.cell_compare.specs.declared.reasons.Flaw.{Flaw}
use Rattle.cell_compare.specs.declared.reasons.Flaw.TheVariants.{NotRead}
use Rattle.cell_compare.specs.declared.primitives.Made.{Made}
use Rattle.cell_compare.specs.declared.primitives.Made.TheVariants as made
use Rattle.cell_compare.specs.declared.primitives.PrimitiveTables.{PrimitiveTables}

abbrev pub part_at : List ModulePart → Option ℕ → Option ModulePart
part_at parts None = None
part_at parts (Some k) = slice_get parts k

-- the module of this name
abbrev pub module_named : List ModulePart → List ℕ → Option ModulePart
module_named parts name = part_at parts (place_of (map module_name parts) name)

-- a primitive that was refused as it was read, or one whose table can't be built
abbrev pub IsPartFlawed : UdpPart → Flaw → Type 0
IsPartFlawed (primitives.Whole u) f = (e : UdpRefusal) × IsRefused u e × IsFlaw e f
IsPartFlawed (primitives.Refused name construct line) f = f ≡ NotRead construct line

abbrev pub IsPartBuilt : UdpPart → Table → Type 0
IsPartBuilt (primitives.Whole u) t = IsBuilt u t
IsPartBuilt (primitives.Refused name construct line) t = ⊥

-- Each primitive has a flaw, or its table.
abbrev pub AreMade : List UdpPart → List (Option Flaw) → List Table → Type 0
AreMade [] [] [] = Unit {0}
AreMade (p ∷ parts) (Some f ∷ flaws) tables = IsPartFlawed p f × AreMade parts flaws tables
AreMade (p ∷ parts) (None ∷ flaws) (t ∷ tables) = IsPartBuilt p t × AreMade parts flaws tables
AreMade parts flaws tables = ⊥

abbrev pub flaw_by : Option (Option Flaw) → Option Flaw
flaw_by None = None
flaw_by (Some f) = f

abbrev pub flaw_at : List (Option Flaw) → Option ℕ → Option Flaw
flaw_at flaws None = None
flaw_at flaws (Some k) = flaw_by (slice_get flaws k)

-- the flaw of an element's primitive; gates name none
abbrev pub element_flaw : List (List ℕ) → List (Option Flaw) → Element → Option Flaw
element_flaw names flaws e = if is_some (element_word e) then None else flaw_at flaws (place_of names e.kind)

abbrev pub element_reason : List (List ℕ) → List (Option Flaw) → Element → Option Reason
element_reason names flaws e = option_map (reason_of e.kind) (element_flaw names flaws e)

-- why the first element is refused, in the order of the text, whose primitive has a flaw
abbrev pub first_reason : List (List ℕ) → List (Option Flaw) → List Element → Option Reason
first_reason names flaws [] = None
first_reason names flaws (e ∷ elements) = option_or (element_reason names flaws e) (first_reason names flaws elements)

-- the primitives of a source text, by name
pub record IsPrimitivesOf (parts : List UdpPart) (p : PrimitiveTables) : Type 0 where
  pub names : p.names ≡ map udp_name parts
  pub made : AreMade parts p.flaws p.tables

-- ---- as they are made

abbrev pub IsMade : UdpPart → Made → Type 0
IsMade p (made.Built t) = IsPartBuilt p t
IsMade p (made.Flawed f) = IsPartFlawed p f

abbrev pub flaw_of : Made → Option Flaw
flaw_of (made.Built t) = None
flaw_of (made.Flawed f) = Some f

abbrev pub table_of : Made → List Table
table_of (made.Built t) = t ∷ []
table_of (made.Flawed f) = []
