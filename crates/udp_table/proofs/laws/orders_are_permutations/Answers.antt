use Rattle.udp_table.specs.Orders.{orders_of}
use Rattle.udp_table.proofs.Orders.{listed-permutes, permutes-listed}
use Rattle.udp_table.proofs.Commons.{among_contains, contains_among}
use Rattle.udp_table.proofs.laws.orders_are_permutations.Goals as goal

pub returns : goal.returns
returns c = λ inputs order. (λ h. listed-permutes inputs order (among_contains order (orders_of inputs) h), λ h. contains_among order (orders_of inputs) (permutes-listed inputs order h))
