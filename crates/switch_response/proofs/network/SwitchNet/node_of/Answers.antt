use Rattle.std.proofs.lemmas.Option.{slice_get_within}
use Rattle.std.proofs.Common.{◌≡◌, ℕ, ◌<◌, List, length, Option, Some, None, refl, subst, rules, arith}
use Rattle.std.specs.Prelude.{MatchOption, IfSome, Contains, slice_get}
use Rattle.switch_response.specs.Network.{Network}
use Rattle.switch_response.proofs.BuiltNetwork.{node_found}
use Rattle.switch_response.proofs.network.SwitchNet.node_of.Goals as goal

pub returns-clause-named : goal.returns-clause-named
returns-clause-named c =
    subst (λ (w : Network). MatchOption c.get.result (¬ (Contains w.names c.args.name.now)) (λ node. slice_get w.names node ≡ Some c.args.name.now)) c.self.view_is
    (node_found c.self.inside.names.items c.args.name.now c.get.result _ c.get.ensures (c.self.invariant.1 c.args.name.now))

within_by : (names : List (List ℕ)) (name : List ℕ) (count : ℕ) (o : Option ℕ) → count ≡ length names → MatchOption o (¬ (Contains names name)) (λ node. slice_get names node ≡ Some name) → IfSome o (λ node. node < count)
within_by names name count None e h = search rules
within_by names name count (Some node) e h = let lt : node < length names = slice_get_within names node name h in omega arith

pub returns-clause-within : goal.returns-clause-within
returns-clause-within c =
    subst (λ (w : Network). IfSome c.get.result (λ node. node < w.net.storage)) c.self.view_is
    (within_by c.self.inside.names.items c.args.name.now (length c.self.inside.names.items) c.get.result refl
    (node_found c.self.inside.names.items c.args.name.now c.get.result _ c.get.ensures (c.self.invariant.1 c.args.name.now)))
