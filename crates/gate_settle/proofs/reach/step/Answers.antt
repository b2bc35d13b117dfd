use Rattle.std.proofs.Common.{◌≡◌, ℕ, ◌+◌, ◌<◌, List, true, false, map, [], ◌∷◌, ◌++◌, refl, sym, ◌∙◌, ap, subst, append_assoc, rules}
use Rattle.std.specs.Prelude.{slice_set}
use Rattle.std.proofs.lemmas.List.{map-append}
use Rattle.gate_settle.specs.declared.reach.Visit.TheVariants.{OnPath}
use Rattle.gate_settle.specs.declared.reach.Part.{Part}
use Rattle.gate_settle.specs.Search.{IsSearch, Piece, piece_of, visit_at, is_new, is_done, done_with, energy}
use Rattle.gate_settle.proofs.Search.{done_old}
use Rattle.gate_settle.proofs.Path.{less, single, taken_off, off_smaller, passes, loops_back, goes_on, new_smaller, draws_together}
use Rattle.gate_settle.proofs.reach.step.Goals as goal
use Rattle.gate_settle.proofs.reach.step.Goals.{After-drop-top-in_default, In_ok-push-in-New-2}

pieces_push : (parts : List Part) (p : Part) → map piece_of (parts ++ p ∷ []) ≡ map piece_of parts ++ piece_of p ∷ []
pieces_push parts p = map-append piece_of parts (p ∷ [])

told : (c : After-drop-top-in_default) → c.tell.new.visits ≡ done_with c.args.top.nets.items c.args.top.on_loop c.args.visits.now
told c = c.tell.ensures ∙ ap (λ ks. done_with ks c.args.top.on_loop c.args.visits.now) c.as_slice.ensures.value

pub returns-in_default-clause-search : goal.returns-in_default-clause-search
returns-in_default-clause-search c =
    let rows : List (List ℕ) = map (λ v. v.items) c.args.rows.now in
    let ps : List Piece = map piece_of c.args.parts.now.items in
    let none : c.args.top.ahead.items ≡ [] = search rules in
    subst (λ vs. IsSearch rows vs c.args.met ps) (sym (told c)) (taken_off rows c.args.visits.now c.args.met ps (piece_of c.args.top) none c.requires)

pub returns-in_default-clause-smaller : goal.returns-in_default-clause-smaller
returns-in_default-clause-smaller c =
    let rows : List (List ℕ) = map (λ v. v.items) c.args.rows.now in
    let ps : List Piece = map piece_of c.args.parts.now.items in
    let none : c.args.top.ahead.items ≡ [] = search rules in
    subst (λ vs. energy rows vs ps < energy rows c.args.visits.now (ps ++ piece_of c.args.top ∷ [])) (sym (told c)) (off_smaller rows c.args.visits.now c.args.met ps (piece_of c.args.top) none c.requires)

pub returns-in_default-clause-kept : goal.returns-in_default-clause-kept
returns-in_default-clause-kept c k h =
    subst (λ vs. is_new (visit_at vs k) ≡ false) (sym (told c)) (done_old c.args.top.nets.items c.args.top.on_loop c.args.visits.now k h)

-- the net is new
new : (c : In_ok-push-in-New-2) → is_new (visit_at c.args.visits.now c.in-Some.net) ≡ true
new c = subst (λ v. is_new v ≡ true) c.in-New.ensures refl

pieces_new : (c : In_ok-push-in-New-2) → map piece_of c.push-in-New.new.self.items ≡ map piece_of c.args.parts.now.items ++ less (piece_of c.args.top) c.pop.new.self.items c.args.top.on_loop ∷ single (map (λ v. v.items) c.args.rows.now) c.in-Some.net c.args.met ∷ []
pieces_new c =
    let parts : List Part = c.args.parts.now.items in
    let top : Part = record { first = c.args.top.first; nets = c.args.top.nets; ahead = c.pop.new.self; on_loop = c.args.top.on_loop } in
    let one : Part = c.in_ok-alone-in-New.field-0 in
    ap (map piece_of) (c.in_ok-push-in-New-2.ensures.items ∙ ap (λ xs. xs ++ one ∷ []) c.in_ok-push-in-New.ensures.items) ∙ pieces_push (parts ++ top ∷ []) one ∙ ap (λ xs. xs ++ piece_of one ∷ []) (pieces_push parts top)
    ∙ append_assoc (map piece_of parts) (piece_of top ∷ []) (piece_of one ∷ []) ∙ ap (λ p. map piece_of parts ++ piece_of top ∷ p ∷ []) c.in_ok-alone-in-New.ensures

pub returns-in-New-clause-search : goal.returns-in-New-clause-search
returns-in-New-clause-search c =
    let rows : List (List ℕ) = map (λ v. v.items) c.args.rows.now in
    let ps : List Piece = map piece_of c.args.parts.now.items in
    subst (IsSearch rows (slice_set c.args.visits.now c.in-Some.net (OnPath c.args.met)) (c.args.met + 1)) (sym (pieces_new c))
    (goes_on rows c.args.visits.now c.args.met ps (piece_of c.args.top) c.pop.new.self.items c.in-Some.net c.in-Some.ensures.items c.requires (new c))

pub returns-in-New-clause-smaller : goal.returns-in-New-clause-smaller
returns-in-New-clause-smaller c =
    let rows : List (List ℕ) = map (λ v. v.items) c.args.rows.now in
    let ps : List Piece = map piece_of c.args.parts.now.items in
    subst (λ qs. energy rows (slice_set c.args.visits.now c.in-Some.net (OnPath c.args.met)) qs < energy rows c.args.visits.now (ps ++ piece_of c.args.top ∷ [])) (sym (pieces_new c))
    (new_smaller rows c.args.visits.now c.args.met ps (piece_of c.args.top) c.pop.new.self.items c.in-Some.net c.in-Some.ensures.items c.requires (new c))

pub returns-in_ok-push-in-Done-clause-search : goal.returns-in_ok-push-in-Done-clause-search
returns-in_ok-push-in-Done-clause-search c =
    let rows : List (List ℕ) = map (λ v. v.items) c.args.rows.now in
    let ps : List Piece = map piece_of c.args.parts.now.items in
    let top : Part = record { first = c.args.top.first; nets = c.args.top.nets; ahead = c.pop.new.self; on_loop = c.args.top.on_loop } in
    let done : is_done (visit_at c.args.visits.now c.in-Some.net) ≡ true = subst (λ v. is_done v ≡ true) c.in-Done.ensures refl in
    subst (IsSearch rows c.args.visits.now c.args.met) (sym (ap (map piece_of) c.in_ok-push-in-Done.ensures.items ∙ pieces_push c.args.parts.now.items top))
    (passes rows c.args.visits.now c.args.met ps (piece_of c.args.top) c.pop.new.self.items c.in-Some.net c.in-Some.ensures.items c.requires done)

pub returns-in_ok-push-in-OnPath-clause-search : goal.returns-in_ok-push-in-OnPath-clause-search
returns-in_ok-push-in-OnPath-clause-search c =
    let rows : List (List ℕ) = map (λ v. v.items) c.args.rows.now in
    let ps : List Piece = map piece_of c.args.parts.now.items in
    let top : Part = record { first = c.args.top.first; nets = c.args.top.nets; ahead = c.pop.new.self; on_loop = true } in
    subst (IsSearch rows c.args.visits.now c.args.met) (sym (ap (map piece_of) c.in_ok-push-in-OnPath.ensures.items ∙ pieces_push c.args.parts.now.items top))
    (loops_back rows c.args.visits.now c.args.met ps (piece_of c.args.top) c.pop.new.self.items c.in-Some.net c.in-Some.ensures.items c.requires c.in-OnPath.before (sym c.in-OnPath.ensures) c.if-top-before.true)

pub returns-in_ok-push-in-Some-pop-clause-search : goal.returns-in_ok-push-in-Some-pop-clause-search
returns-in_ok-push-in-Some-pop-clause-search c =
    let rows : List (List ℕ) = map (λ v. v.items) c.args.rows.now in
    let qs : List Part = c.pop-in-OnPath-2.new.self.items in
    let below : Part = c.in-Some-pop.below in
    let one : Part = c.in_ok-joined-in-Some-pop.field-0 in
    let ps : List Piece = map piece_of c.args.parts.now.items in
    let parted : ps ≡ map piece_of qs ++ piece_of below ∷ [] = ap (map piece_of) c.in-Some-pop.ensures.items ∙ pieces_push qs below in
    let before : IsSearch rows c.args.visits.now c.args.met ((map piece_of qs ++ piece_of below ∷ []) ++ piece_of c.args.top ∷ []) = subst (λ xs. IsSearch rows c.args.visits.now c.args.met (xs ++ piece_of c.args.top ∷ [])) parted c.requires in
    subst (IsSearch rows c.args.visits.now c.args.met) (sym (ap (map piece_of) c.in_ok-push-in-Some-pop.ensures.items ∙ pieces_push qs one))
    (draws_together rows c.args.visits.now c.args.met (map piece_of qs) (piece_of below) (piece_of c.args.top) c.pop.new.self.items c.in-Some.net c.in-OnPath.before (piece_of one) c.in-Some.ensures.items before (sym c.in-OnPath.ensures) c.if-top-before.false c.in_ok-joined-in-Some-pop.ensures)
