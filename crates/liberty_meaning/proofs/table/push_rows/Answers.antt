use Rattle.std.proofs.Common.{◌∙◌, sym}
use Rattle.liberty_meaning.proofs.TableLemmas.{pushes_none, pushes_half, pushes_one, pushes_two}
use Rattle.liberty_meaning.proofs.table.push_rows.Goals as goal

pub returns-in-None : goal.returns-in-None
returns-in-None c = pushes_none c.args.inputs c.args.nodes c.args.words.now _ _ (sym c.in_ok-row.ensures ∙ c.in-None.is)

pub returns-in-None-2 : goal.returns-in-None-2
returns-in-None-2 c = pushes_half c.args.inputs c.args.nodes c.args.words.now _ _ c.in-Some.row (sym c.in_ok-row.ensures ∙ c.in-Some.is) (sym c.has_slash.ensures ∙ c.if-has_slash.true) (sym c.in_ok-row-2.ensures ∙ c.in-None-2.is)

pub returns-in_ok-push-in-Some-2 : goal.returns-in_ok-push-in-Some-2
returns-in_ok-push-in-Some-2 c = pushes_two c.args.inputs c.args.nodes c.args.words.now c.args.rows.now c.push.new.self _ c.in-Some.row c.in-Some-2.row (sym c.in_ok-row.ensures ∙ c.in-Some.is) (sym c.has_slash.ensures ∙ c.if-has_slash.true) (sym c.in_ok-row-2.ensures ∙ c.in-Some-2.is) c.in_ok-push-in-Some.ensures.ok c.in_ok-push-in-Some-2.ensures.ok

pub returns-else-has_slash : goal.returns-else-has_slash
returns-else-has_slash c = pushes_one c.args.inputs c.args.nodes c.args.words.now _ _ c.in-Some.row (sym c.in_ok-row.ensures ∙ c.in-Some.is) (sym c.has_slash.ensures ∙ c.if-has_slash.false) c.in_ok-push-in-Some.ensures.ok
