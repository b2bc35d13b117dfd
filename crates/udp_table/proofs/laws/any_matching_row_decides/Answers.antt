use Rattle.std.proofs.Common.{true}
use Rattle.udp_table.proofs.Decisions.{level_decides, edge_decides, no_row}
use Rattle.udp_table.proofs.laws.any_matching_row_decides.Goals as goal

pub returns-clause-level_row : goal.returns-clause-level_row
returns-clause-level_row c = λ inputs rows free case asked row k m. level_decides true inputs rows free case asked row k m _

pub returns-clause-edge_row : goal.returns-clause-edge_row
returns-clause-edge_row c = edge_decides true

pub returns-clause-no_row : goal.returns-clause-no_row
returns-clause-no_row c = no_row
