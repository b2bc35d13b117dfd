-- The words of Liberty that say something here.
use Rattle.std.specs.Prelude.{ℕ, Bool, ◌||◌, if◌then◌else◌, List, codes}
use Rattle.std.specs.Str.{bytes_eq}
use Rattle.liberty_tokens.specs.declared.kinds.GroupKind.{GroupKind}
use Rattle.liberty_tokens.specs.declared.kinds.GroupKind.TheVariants as groups
use Rattle.liberty_tokens.specs.declared.kinds.AttributeKind.{AttributeKind}
use Rattle.liberty_tokens.specs.declared.kinds.AttributeKind.TheVariants as attributes

unfoldable pub is_unread : List ℕ → Bool
is_unread w = bytes_eq w (codes "ff_bank") || bytes_eq w (codes "latch_bank") || bytes_eq w (codes "bus") || bytes_eq w (codes "bundle")

unfoldable pub group_kind : List ℕ → GroupKind
group_kind w =
    if bytes_eq w (codes "pin") then groups.Pin else
    if bytes_eq w (codes "pg_pin") then groups.PgPin else
    if bytes_eq w (codes "ff") then groups.Ff else
    if bytes_eq w (codes "latch") then groups.Latch else
    if bytes_eq w (codes "statetable") then groups.StateTable else
    if is_unread w then groups.Unread else
    groups.Other

unfoldable pub state_attribute_kind : List ℕ → AttributeKind
state_attribute_kind w =
    if bytes_eq w (codes "next_state") then attributes.NextState else
    if bytes_eq w (codes "clocked_on") then attributes.ClockedOn else
    if bytes_eq w (codes "clocked_on_also") then attributes.ClockedOnAlso else
    if bytes_eq w (codes "enable") then attributes.Enable else
    if bytes_eq w (codes "data_in") then attributes.DataIn else
    if bytes_eq w (codes "clear") then attributes.Clear else
    if bytes_eq w (codes "preset") then attributes.Preset else
    if bytes_eq w (codes "clear_preset_var1") then attributes.FirstBoth else
    if bytes_eq w (codes "clear_preset_var2") then attributes.SecondBoth else
    if bytes_eq w (codes "table") then attributes.Table else
    attributes.Other

unfoldable pub attribute_kind : List ℕ → AttributeKind
attribute_kind w =
    if bytes_eq w (codes "direction") then attributes.Direction else
    if bytes_eq w (codes "function") then attributes.Function else
    if bytes_eq w (codes "state_function") then attributes.StateFunction else
    if bytes_eq w (codes "internal_node") then attributes.InternalNode else
    if bytes_eq w (codes "input_map") then attributes.InputMap else
    if bytes_eq w (codes "three_state") then attributes.ThreeState else
    if bytes_eq w (codes "pg_type") then attributes.PgType else
    state_attribute_kind w

unfoldable pub is_cell : List ℕ → Bool
is_cell w = bytes_eq w (codes "cell")

unfoldable pub is_library : List ℕ → Bool
is_library w = bytes_eq w (codes "library")

unfoldable pub is_include : List ℕ → Bool
is_include w = bytes_eq w (codes "include_file")
