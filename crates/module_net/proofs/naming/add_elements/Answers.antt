use Rattle.module_net.specs.Naming.{element_names}
use Rattle.module_net.proofs.Firsts.{goes_on}
use Rattle.module_net.proofs.naming.add_elements.Goals as goal

pub loop-element-preserved : goal.loop-element-preserved
loop-element-preserved c = goes_on element_names c.args.elements.now c.loop-element.element-index c.element-item.result c.loop-element.names c.add_element.new.names _ c.element-item.is c.loop-element-test.true c.in_ok-add_element.ensures c.loop-element.invariant
