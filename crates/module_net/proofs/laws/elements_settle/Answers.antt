use Rattle.module_net.proofs.Agreeing.{settled_agrees, one_agrees, moved_agrees, one_move_agrees}
use Rattle.module_net.proofs.laws.elements_settle.Goals as goal

pub returns-clause-settled : goal.returns-clause-settled
returns-clause-settled c m tables inputs supplies net is pins states nets = settled_agrees m tables inputs supplies net is pins states nets

pub returns-clause-one : goal.returns-clause-one
returns-clause-one c m tables inputs supplies net is one = one_agrees m tables inputs supplies net is one

pub returns-clause-moved : goal.returns-clause-moved
returns-clause-moved c m tables inputs supplies net is pins old_nets old_states new_nets new_states = moved_agrees m tables inputs supplies net is pins old_nets old_states new_nets new_states

pub returns-clause-one_move : goal.returns-clause-one_move
returns-clause-one_move c m tables inputs supplies net is pins old_nets old_states count = one_move_agrees m tables inputs supplies net is pins old_nets old_states count
