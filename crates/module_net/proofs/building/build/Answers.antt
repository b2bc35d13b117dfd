use Rattle.module_net.specs.Outside.{given_of}
use Rattle.module_net.proofs.Built.{within_all, places_all, own_all, refused_all}
use Rattle.module_net.proofs.building.build.Goals as goal

pub connect-requires-clause-within : goal.connect-requires-clause-within
connect-requires-clause-within c =
    within_all c.args.«module».now c.args.primitives.now c.as_slice-elements.result.now c.in_ok-used.used c.in_ok-nets.nets c.as_slice.result.now c.in_ok-gates.gates.items c.in_ok-given.given (given_of c.args.«module».now c.args.inputs.now c.args.supplies.now)
    c.as_slice-elements.ensures c.in_ok-nets.ensures c.in_ok-gates.ensures c.as_slice.ensures c.in_ok-given.ensures

pub connect-requires-clause-nets : goal.connect-requires-clause-nets
connect-requires-clause-nets c =
    places_all c.args.«module».now c.args.primitives.now c.as_slice-elements.result.now c.in_ok-nets.nets c.as_slice.result.now c.in_ok-given.given (given_of c.args.«module».now c.args.inputs.now c.args.supplies.now) c.in_ok-state_nets.state_nets
    c.as_slice-elements.ensures c.in_ok-nets.ensures c.as_slice.ensures c.in_ok-given.ensures c.in_ok-state_nets.ensures

pub connect-requires-clause-states : goal.connect-requires-clause-states
connect-requires-clause-states c =
    own_all c.args.«module».now c.args.primitives.now c.as_slice-elements.result.now c.in_ok-used.used c.in_ok-nets.nets c.in_ok-gates.gates.items c.in_ok-state_nets.state_nets
    c.as_slice-elements.ensures c.in_ok-check_elements.ensures.ok c.requires c.in_ok-gates.ensures c.in_ok-state_nets.ensures

pub returns-in_ok-named-in-Err-clause-refused : goal.returns-in_ok-named-in-Err-clause-refused
returns-in_ok-named-in-Err-clause-refused c =
    refused_all c.args.«module».now c.args.primitives.now c.as_slice-elements.result.now c.in_ok-used.used c.in_ok-nets.nets c.as_slice.result.now c.as_slice-in-Err.result.now c.in_ok-gates.gates.items c.in_ok-given.given c.args.inputs.now c.args.supplies.now c.in-Err.refusal c.in_ok-named-in-Err.field-0
    c.as_slice-elements.ensures c.in_ok-check_elements.ensures.ok c.in_ok-used.ensures c.in_ok-nets.ensures c.in_ok-gates.ensures c.as_slice.ensures c.in_ok-given.ensures c.in-Err.ensures.refused c.as_slice-in-Err.ensures c.in_ok-named-in-Err.ensures
