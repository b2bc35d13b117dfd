use Rattle.liberty_function.proofs.Scoping.{named_more}
use Rattle.liberty_function.proofs.scope.Scope.push.Goals as goal

pub returns-clause-ok : goal.returns-clause-ok
returns-clause-ok c =
    rw (c.in_ok-push.ensures.ok, c.push_reserved.ensures.items, c.try_reserve.ensures.items, ← c.self.view_is) (named_more _ _ c.args.name.now c.args.source c.self.invariant)
