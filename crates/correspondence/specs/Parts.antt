-- What is read of a file of tables.
use Rattle.std.specs.Prelude.{[], ◌∷◌}
use Rattle.table_source.specs.declared.Table.{Table}
use Rattle.correspondence.specs.declared.kinds.LineKind.{LineKind}
use Rattle.correspondence.specs.declared.kinds.LineKind.TheVariants as kinds
use Rattle.correspondence.specs.declared.table.NamesLine.{NamesLine}
use Rattle.correspondence.specs.declared.table.OpenTable.{OpenTable}
use Rattle.correspondence.specs.declared.parts.Parts.{Parts}

abbrev pub no_names : NamesLine
no_names = record { names = []; line = 0 }

abbrev pub no_table : OpenTable
no_table = record { cell = []; line = 0; pins = no_names; xpins = no_names; state = no_names; udps = no_names; nodes = no_names; rows = [] }

-- before the first line
abbrev pub nothing : Parts
nothing = record { names = []; tables = []; current = no_table }

-- the list of this kind is this one
abbrev pub with_names : LineKind → NamesLine → OpenTable → OpenTable
with_names kinds.Pins n t = record t { pins = n }
with_names kinds.Xpins n t = record t { xpins = n }
with_names kinds.State n t = record t { state = n }
with_names kinds.Udps n t = record t { udps = n }
with_names kinds.Nodes n t = record t { nodes = n }
with_names kinds.Table n t = t
with_names kinds.Row n t = t
with_names kinds.End n t = t
with_names kinds.Other n t = t

-- the table that was read
abbrev pub made : OpenTable → Table
made t = record {
  cell = t.cell;
  line = t.line;
  lines = t.pins.line ∷ t.state.line ∷ t.udps.line ∷ t.nodes.line ∷ [];
  pins = t.pins.names;
  xpins = t.xpins.names;
  xline = t.xpins.line;
  state = t.state.names;
  udps = t.udps.names;
  nodes = t.nodes.names;
  rows = t.rows;
}
