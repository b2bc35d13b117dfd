use Rattle.std.proofs.Common.{false, ap, unwrap_or}
use Rattle.tern_core.specs.declared.tern.Tern.TheVariants.{Unknown}
use Rattle.udp_table.specs.Rows.{case_of}
use Rattle.udp_table.proofs.Decisions.{level_decides, no_level, any_state}
use Rattle.udp_table.proofs.laws.any_matching_level_decides.Goals as goal

pub returns-clause-row : goal.returns-clause-row
returns-clause-row c = λ inputs rows free levels long row k m. level_decides false inputs rows free (case_of 0 Unknown levels Unknown) long row k m Unknown

pub returns-clause-no_row : goal.returns-clause-no_row
returns-clause-no_row c = λ rows levels none. ap (λ o. unwrap_or o Unknown) (no_level rows levels Unknown none)

pub returns-clause-any_state : goal.returns-clause-any_state
returns-clause-any_state c = λ inputs rows fits levels state. any_state inputs rows fits levels state Unknown
