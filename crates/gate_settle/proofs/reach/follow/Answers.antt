use Rattle.std.proofs.Common.{◌≡◌, ℕ, ◌+◌, List, true, false, map, [], ◌∷◌, ◌++◌, refl, sym, ◌∙◌, ap, subst, rules}
use Rattle.std.specs.Prelude.{slice_set}
use Rattle.gate_settle.specs.declared.reach.Visit.TheVariants.{OnPath}
use Rattle.gate_settle.specs.declared.reach.Part.{Part}
use Rattle.gate_settle.specs.Search.{IsSearch, piece_of, is_new, visit_at}
use Rattle.gate_settle.proofs.Search.{met_here, met_old, new_within}
use Rattle.gate_settle.proofs.Path.{single, sets_out}
use Rattle.gate_settle.proofs.reach.follow.Goals as goal

pub loop-top-init : goal.loop-top-init
loop-top-init c =
    let rows : List (List ℕ) = map (λ v. v.items) c.args.rows.now in
    let new : is_new (visit_at c.args.visits.now c.args.net) ≡ true = search rules in
    let one : Part = c.in_ok-alone.field-0 in
    let pushed : c.push.new.self.items ≡ one ∷ [] = c.in_ok-push.ensures.items ∙ ap (λ xs. xs ++ one ∷ []) c.new-parts.ensures.items in
    let pieces : map piece_of c.push.new.self.items ≡ single rows c.args.net c.args.met ∷ [] = ap (map piece_of) pushed ∙ ap (λ p. p ∷ []) c.in_ok-alone.ensures in
    record {
      search = subst (IsSearch rows (slice_set c.args.visits.now c.args.net (OnPath c.args.met)) (c.args.met + 1)) (sym pieces) (sets_out rows c.args.visits.now c.args.met c.args.net c.requires new);
      met = subst (λ v. is_new v ≡ false) (sym (met_here c.args.visits.now c.args.net c.args.met (new_within c.args.visits.now c.args.net new))) refl;
      kept = λ k. met_old c.args.visits.now c.args.net c.args.met k;
    }
