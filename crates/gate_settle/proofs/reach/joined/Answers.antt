use Rattle.std.proofs.Common.{◌≡◌, [], ◌∷◌, ◌++◌, length, refl, ◌∙◌, ap, length-append, arith}
use Rattle.std.specs.Prelude.{◌==◌, ◌||◌}
use Rattle.gate_settle.specs.Gates.{is_among}
use Rattle.gate_settle.proofs.Search.{among_append, or_false}
use Rattle.gate_settle.proofs.reach.joined.Goals as goal

pub returns : goal.returns
returns c =
    let pushed : c.push.new.self.items ≡ c.in_ok-ahead.ahead.items ++ c.args.net ∷ [] = c.in_ok-push.ensures.items in
    record {
      first = refl;
      nets = λ k. c.in_ok-nets.ensures.among k;
      ahead = λ k.
          ap (λ xs. is_among xs k) pushed ∙ among_append c.in_ok-ahead.ahead.items (c.args.net ∷ []) k
          ∙ ap (λ v. is_among c.in_ok-ahead.ahead.items k || v) (or_false (c.args.net == k)) ∙ ap (λ v. v || c.args.net == k) (c.in_ok-ahead.ensures.among k);
      count = let a = ap length pushed in let b = length-append c.in_ok-ahead.ahead.items (c.args.net ∷ []) in let d = c.in_ok-ahead.ensures.len in omega (arith, a, b, d);
      on_loop = refl;
    }
