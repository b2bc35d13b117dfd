use Rattle.std.proofs.Common.{◌≡◌, rules, Err}
use Rattle.liberty_meaning.specs.declared.pairs.Kind.TheVariants.{Clocked}
use Rattle.liberty_meaning.proofs.PairLemmas.{refused_here, refused_later, pair_of_programs, good}
use Rattle.liberty_meaning.proofs.pairs.ff_programs_of.Goals as goal

pub returns : goal.returns
returns c = pair_of_programs Clocked c.args.scope.now c.args.ff.now.clocked_on c.args.ff.now.next_state c.args.ff.now.clear c.args.ff.now.preset c.args.ff.now.both
    c.in_ok-control.control c.in_ok-value.value c.in_ok-clear.clear c.in_ok-preset.preset c.in_ok-control.ensures c.in_ok-value.ensures c.in_ok-clear.ensures c.in_ok-preset.ensures

pub returns-in_err-value : goal.returns-in_err-value
returns-in_err-value c =
    let s : c.from_residual.result ≡ Err c.in_err-value.field-0.0 = search rules in
    rw s (refused_here c.args.scope.now _ c.args.ff.now.next_state _ c.in_err-value.field-0.0 c.in_err-value.ensures)

pub returns-in_err-control : goal.returns-in_err-control
returns-in_err-control c =
    let s : c.from_residual-in_err-control.result ≡ Err c.in_err-control.field-0.0 = search rules in
    rw s (refused_later c.args.scope.now _ c.args.ff.now.next_state _ _ (good c.args.scope.now c.args.ff.now.next_state c.in_ok-value.value c.in_ok-value.ensures) (refused_here c.args.scope.now _ c.args.ff.now.clocked_on _ c.in_err-control.field-0.0 c.in_err-control.ensures))

pub returns-in_err-clear : goal.returns-in_err-clear
returns-in_err-clear c =
    let s : c.from_residual-in_err-clear.result ≡ Err c.in_err-clear.field-0.0 = search rules in
    rw s (refused_later c.args.scope.now _ c.args.ff.now.next_state _ _ (good c.args.scope.now c.args.ff.now.next_state c.in_ok-value.value c.in_ok-value.ensures) (refused_later c.args.scope.now _ c.args.ff.now.clocked_on _ _ (good c.args.scope.now c.args.ff.now.clocked_on c.in_ok-control.control c.in_ok-control.ensures) (refused_here c.args.scope.now _ c.args.ff.now.clear _ c.in_err-clear.field-0.0 c.in_err-clear.ensures)))

pub returns-in_err-preset : goal.returns-in_err-preset
returns-in_err-preset c =
    let s : c.from_residual-in_err-preset.result ≡ Err c.in_err-preset.field-0.0 = search rules in
    rw s (refused_later c.args.scope.now _ c.args.ff.now.next_state _ _ (good c.args.scope.now c.args.ff.now.next_state c.in_ok-value.value c.in_ok-value.ensures) (refused_later c.args.scope.now _ c.args.ff.now.clocked_on _ _ (good c.args.scope.now c.args.ff.now.clocked_on c.in_ok-control.control c.in_ok-control.ensures) (refused_later c.args.scope.now _ c.args.ff.now.clear _ _ (good c.args.scope.now c.args.ff.now.clear c.in_ok-clear.clear c.in_ok-clear.ensures) (refused_here c.args.scope.now _ c.args.ff.now.preset _ c.in_err-preset.field-0.0 c.in_err-preset.ensures))))
