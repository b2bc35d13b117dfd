-- What a technology holds that was read of a text: names, strengths within their ranges, and nothing twice.
use Rattle.std.specs.Prelude.{◌≡◌, ◌≤◌, ◌+◌, ℕ, Bool, true, false, ◌&&◌, nat_le, List, ◌∷◌, ◌++◌, length, map}
use Rattle.std.specs.List.{list_all}
use Rattle.text_scan.specs.declared.limits.Limits.{Limits}
use Rattle.text_scan.specs.declared.pins.PinKind.{PinKind}
use Rattle.text_scan.specs.declared.pins.PinKind.TheVariants.{Signal, Power, Ground}
use Rattle.file_rules.specs.Names.{is_name_within, is_distinct}
use Rattle.circuit.specs.declared.tech.Tech.{Tech}
use Rattle.circuit.specs.declared.tech.ModelCard.{ModelCard}
use Rattle.circuit.specs.declared.tech.Size.{Size}
use Rattle.circuit.specs.declared.tech.Supply.{Supply}

abbrev pub model_name : ModelCard → List ℕ
model_name m = m.name

abbrev pub supply_name : Supply → List ℕ
supply_name s = s.name

-- the cell and the node with a comma between, which no name has
abbrev pub size_names : Size → List ℕ
size_names s = s.cell ++ 44 ∷ s.node

-- transistors have strengths from 4 to 7
abbrev pub is_model : Limits → ModelCard → Bool
is_model limits m = is_name_within limits m.name && nat_le 4 m.strength && nat_le m.strength 7

-- storage nodes have strengths from 1 to 3
abbrev pub is_size : Limits → Size → Bool
is_size limits s =
    is_name_within limits s.cell && is_name_within limits s.node && nat_le 1 s.strength && nat_le s.strength 3

abbrev pub is_supply_kind : PinKind → Bool
is_supply_kind Signal = false
is_supply_kind Power = true
is_supply_kind Ground = true

abbrev pub is_supply : Limits → Supply → Bool
is_supply limits s = is_name_within limits s.name && is_supply_kind s.kind

-- Each name is a name within the limit, each strength is within its range, and no model, no supply and no pair of a cell
-- and a node stands twice.
pub record IsTech (limits : Limits) (tech : Tech) : Type 0 where
  pub few : length tech.models + length tech.sizes + length tech.supplies ≤ limits.records
  pub models : list_all (is_model limits) tech.models ≡ true
  pub sizes : list_all (is_size limits) tech.sizes ≡ true
  pub supplies : list_all (is_supply limits) tech.supplies ≡ true
  pub distinct_models : is_distinct (map model_name tech.models) ≡ true
  pub distinct_sizes : is_distinct (map size_names tech.sizes) ≡ true
  pub distinct_supplies : is_distinct (map supply_name tech.supplies) ≡ true
