use Rattle.std.proofs.Common.{◌≡◌, [], ◌∷◌, ◌++◌, Some, None, length, sym, ◌∙◌, ap, subst, refl, add-zero, rules}
use Rattle.std.specs.Prelude.{slice_get}
use Rattle.std.specs.Str.{bytes_eq}
use Rattle.switch_response.specs.NameIndex.{found}
use Rattle.switch_response.specs.Places.{Indexes, Grows}
use Rattle.switch_response.proofs.NameLists.{name_at, get_back, grows_input, grows_known, grows_new, adds_new}
use Rattle.switch_response.proofs.naming.Nodes.place.Goals as goal
use Rattle.switch_response.proofs.naming.Nodes.place.Goals.{In_ok-push}

pub returns-in-Some-clause-names : goal.returns-in-Some-clause-names
returns-in-Some-clause-names c before is =
    grows_input before c.args.self.now.names.items c.args.name.now c.in-Some.place (sym (c.in-Some.ensures ∙ is c.args.name.now))

pub returns-in-Some-clause-place : goal.returns-in-Some-clause-place
returns-in-Some-clause-place c before is = name_at before c.args.name.now c.in-Some.place (sym (c.in-Some.ensures ∙ is c.args.name.now))

pub returns-in-Some-get-clause-names : goal.returns-in-Some-get-clause-names
returns-in-Some-get-clause-names c before is =
    grows_known before c.args.self.now.names.items c.args.name.now c.in-Some-get.place (sym (c.in-Some-get.ensures ∙ c.requires c.args.name.now))

pub returns-in-Some-get-clause-place : goal.returns-in-Some-get-clause-place
returns-in-Some-get-clause-place c before is =
    name_at c.args.self.now.names.items c.args.name.now c.in-Some-get.place (sym (c.in-Some-get.ensures ∙ c.requires c.args.name.now))

items : (c : In_ok-push) → c.push.new.self.items ≡ c.args.self.now.names.items ++ c.args.name.now ∷ []
items c = c.in_ok-push.ensures.items ∙ ap (λ n. c.args.self.now.names.items ++ n ∷ []) c.in_ok-from_bytes.ensures

pub returns-clause-index : goal.returns-clause-index
returns-clause-index c =
    let place : c.len-place.result ≡ length c.args.self.now.names.items = search rules in
    subst (λ names. Indexes bytes_eq names c.add.new.self) (sym (items (goal.at.returns-clause-index c).In_ok-push))
    (adds_new c.args.self.now.index c.add.new.self c.args.self.now.names.items c.args.name.now _ _ place c.requires c.in_ok-add.ensures)

pub returns-clause-names : goal.returns-clause-names
returns-clause-names c before is =
    let outside : found c.args.inputs.now c.args.name.now ≡ None = search rules in
    let fresh : found c.args.self.now.index c.args.name.now ≡ None = search rules in
    subst (λ names. Grows before c.args.self.now.names.items (c.args.name.now ∷ []) names) (sym (items (goal.at.returns-clause-names c).In_ok-push))
    (grows_new before c.args.self.now.names.items c.args.name.now (sym (is c.args.name.now) ∙ outside) (sym (c.requires c.args.name.now) ∙ fresh))

pub returns-clause-place : goal.returns-clause-place
returns-clause-place c before is =
    let place : length c.args.self.now.names.items ≡ c.len-place.result = search rules in
    subst (λ names. slice_get names c.len-place.result ≡ Some c.args.name.now) (sym (items (goal.at.returns-clause-place c).In_ok-push))
    (subst (λ k. slice_get (c.args.self.now.names.items ++ c.args.name.now ∷ []) k ≡ Some c.args.name.now) (add-zero _ ∙ place) (get_back c.args.self.now.names.items (c.args.name.now ∷ []) 0 c.args.name.now refl))
