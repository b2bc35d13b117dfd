use Rattle.module_net.proofs.Refusals.{refusals_agree, accepted_agrees}
use Rattle.module_net.proofs.laws.elements_refuse.Goals as goal

pub returns-clause-refused : goal.returns-clause-refused
returns-clause-refused c m tables inputs supplies refusal = refusals_agree m tables inputs supplies refusal

pub returns-clause-accepted : goal.returns-clause-accepted
returns-clause-accepted c m tables inputs supplies net is = accepted_agrees m tables inputs supplies net is
