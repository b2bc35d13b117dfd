-- What a module's gates drive, and which states they hold.
use Rattle.std.proofs.Common.{◌≡◌, ℕ, zero, suc, ◌+◌, ◌<◌, ◌≤◌, Bool, true, false, cond, ◌||◌, ◌&&◌, ◌⊎◌, eqb, eqb-true, List, [], ◌∷◌, ◌++◌, length, map, take, Option, Some, None, inl, inr, refl, sym, ap, subst, ◌∙◌, arith}
use Rattle.std.specs.Prelude.{is_some, not, nat_lt}
use Rattle.std.specs.List.{flat_map, list_all}
use Rattle.std.specs.Str.{bytes_eq}
use Rattle.std.specs.Cmp.Lexicographic.{bytes_decides}
use Rattle.std.proofs.lemmas.List.Folds.{list_any-append, list_all-append}
use Rattle.std.proofs.lemmas.List.{append_assoc, length-append, length-map}
use Rattle.std.proofs.lemmas.Bool.{lt-ltb}
use Rattle.tern_core.specs.declared.tern.Tern.{Tern}
use Rattle.verilog_source.specs.declared.module.Module.{Module}
use Rattle.verilog_source.specs.declared.module.Element.{Element}
use Rattle.verilog_source.specs.declared.module.Terminal.{Terminal}
use Rattle.verilog_source.specs.declared.module.Terminal.TheVariants as terminals
use Rattle.udp_table.specs.Table.{Table}
use Rattle.gate_settle.specs.declared.gate.Gate.{Gate}
use Rattle.gate_settle.specs.declared.gate.Given.{Given}
use Rattle.gate_settle.specs.declared.connecting.ConnectRefusal.{ConnectRefusal}
use Rattle.gate_settle.specs.declared.connecting.ConnectRefusal.TheVariants as numbered
use Rattle.gate_settle.specs.Connecting.{IsNotConnected}
use Rattle.gate_settle.specs.Gates.{is_among, is_driven}
use Rattle.gate_settle.specs.Settled.{has_state, is_held, is_own, have_own_states, are_places}
use Rattle.name_index.specs.Places.{place_of, is_known}
use Rattle.name_index.proofs.Places.{known_by_place, place_within}
use Rattle.module_net.specs.declared.word.GateWord.{GateWord}
use Rattle.module_net.specs.declared.refusal.GateRefusal.{GateRefusal}
use Rattle.module_net.specs.declared.refusal.GateRefusal.TheVariants.{NoMemory, Loop, TwoDrivers, UnknownUdp, PortCount}
use Rattle.module_net.specs.Naming.{firsts, terminal_names, element_names, names_in, nets_of, or_zero, place_in}
use Rattle.module_net.specs.Elements.{element_word, outputs_by, output_terminals, table_named, port_count, refused_primitive, refused_by, refused_element, or_else, first_refused, holds_state, is_sequential, function_by, driven, next_state_place, gates_from, state_net_by, state_nets_of, is_net, DriveNets, used_in, is_net}
use Rattle.module_net.specs.Outside.{given_of}
use Rattle.module_net.specs.Refusing.{IsNamed}
use Rattle.module_net.specs.Building.{IsRefused, givens_of, gates_of}

-- ---- all names are known

abbrev pub AllKnown : List (List ℕ) → List (List ℕ) → Type 0
AllKnown nets [] = Unit {0}
AllKnown nets (n ∷ names) = (is_known n nets ≡ true) × AllKnown nets names

or_left : (a b : Bool) → a ≡ true → (a || b) ≡ true
or_left true b h = refl
or_left false b h = absurd cc

or_right : (a b : Bool) → b ≡ true → (a || b) ≡ true
or_right true b h = refl
or_right false b h = h

either_true : (a b : Bool) → (a || b) ≡ true → (a ≡ true) ⊎ (b ≡ true)
either_true true b h = inl refl
either_true false b h = inr h

known_front : (n : List ℕ) (xs ys : List (List ℕ)) → is_known n xs ≡ true → is_known n (xs ++ ys) ≡ true
known_front n xs ys h = list_any-append (bytes_eq n) xs ys ∙ or_left _ _ h

known_itself : (n : List ℕ) (ns : List (List ℕ)) → is_known n (n ∷ ns) ≡ true
known_itself n ns = or_left _ _ ((bytes_decides n n).1 refl)

known_last : (n : List ℕ) (xs ys : List (List ℕ)) → is_known n (xs ++ n ∷ ys) ≡ true
known_last n xs ys = list_any-append (bytes_eq n) xs (n ∷ ys) ∙ or_right _ _ (known_itself n ys)

pub all_known : (known names : List (List ℕ)) → AllKnown (known ++ firsts known names) names
all_known known [] = tt
all_known known (n ∷ names) = go (is_known n known) refl (all_known known names) (all_known (known ++ n ∷ []) names)
  where
    go : (g : Bool) → is_known n known ≡ g → AllKnown (known ++ firsts known names) names → AllKnown (known ++ n ∷ [] ++ firsts (known ++ n ∷ []) names) names
        → (is_known n (known ++ cond g (firsts known names) (n ∷ firsts (known ++ n ∷ []) names)) ≡ true) × AllKnown (known ++ cond g (firsts known names) (n ∷ firsts (known ++ n ∷ []) names)) names
    go true e same more = (known_front n known _ e, same)
    go false e same more = (known_last n known _, subst (λ z. AllKnown z names) (append_assoc known (n ∷ []) (firsts (known ++ n ∷ []) names)) more)

pub known_parts : (nets xs ys : List (List ℕ)) → AllKnown nets (xs ++ ys) → AllKnown nets xs × AllKnown nets ys
known_parts nets [] ys h = (tt, h)
known_parts nets (x ∷ xs) ys h = let r = known_parts nets xs ys h.1 in ((h.0, r.0), r.1)

pub module_known : (m : Module) → AllKnown (nets_of m) (flat_map element_names m.elements)
module_known m = (known_parts (nets_of m) (map (λ p. p.name) m.ports ++ map (λ s. s.0) m.supplies) (flat_map element_names m.elements) (all_known [] (names_in m))).1

pub place_below : (nets : List (List ℕ)) (n : List ℕ) → is_known n nets ≡ true → place_in nets n < length nets
place_below nets n h = go (place_of nets n) refl (known_by_place nets n ∙ h)
  where
    go : (o : Option ℕ) → place_of nets n ≡ o → is_some o ≡ true → or_zero o < length nets
    go (Some k) e s = place_within nets n k e
    go None e s = absurd cc

-- ---- what is driven is a net

among_append : (xs ys : List ℕ) (k : ℕ) → is_among (xs ++ ys) k ≡ true → (is_among xs k ≡ true) ⊎ (is_among ys k ≡ true)
among_append [] ys k h = inr h
among_append (x ∷ xs) ys k h = elim (either_true (eqb x k) (is_among (xs ++ ys) k) h) [
  | inl e ↦ inl (or_left _ _ e)
  | inr e ↦ elim (among_append xs ys k e) [
    | inl f ↦ inl (or_right _ _ f)
    | inr f ↦ inr f
  ]
]

one_within : (nets : List (List ℕ)) (t : Terminal) (k : ℕ) → AllKnown nets (terminal_names t) → is_among (driven nets t) k ≡ true → k < length nets
one_within nets (terminals.Net n) k known h = elim (either_true (eqb (place_in nets n) k) false h) [
  | inl e ↦ subst (λ z. z < length nets) (eqb-true (place_in nets n) k e) (place_below nets n known.0)
  | inr e ↦ absurd (let f : false ≡ true = e in cc)
]
one_within nets (terminals.Constant v) k known h = absurd cc

terminals_within : (nets : List (List ℕ)) (count : ℕ) (ts : List Terminal) (k : ℕ) → AllKnown nets (flat_map terminal_names ts) → is_among (flat_map (driven nets) (take count ts)) k ≡ true → k < length nets
terminals_within nets zero ts k known h = absurd (let f : false ≡ true = h in cc)
terminals_within nets (suc n) [] k known h = absurd (let f : false ≡ true = h in cc)
terminals_within nets (suc n) (t ∷ ts) k known h =
    let parts = known_parts nets (terminal_names t) (flat_map terminal_names ts) known in
    elim (among_append (driven nets t) (flat_map (driven nets) (take n ts)) k h) [
      | inl e ↦ one_within nets t k parts.0 e
      | inr e ↦ terminals_within nets n ts k parts.1 e
    ]

pub element_known : (nets : List (List ℕ)) (e : Element) → AllKnown nets (element_names e) → AllKnown nets (flat_map terminal_names e.terminals)
unfolding element_names
element_known nets e h = h

gates_within : (tables : List Table) (used nets : List (List ℕ)) (element state : ℕ) (es : List Element) (k : ℕ) → AllKnown nets (flat_map element_names es) → is_driven (gates_from tables used nets element state es) k ≡ true → k < length nets
gates_within tables used nets element state [] k known h = absurd (let f : false ≡ true = h in cc)
gates_within tables used nets element state (e ∷ es) k known h =
    let parts = known_parts nets (element_names e) (flat_map element_names es) known in
    elim (either_true (is_among (flat_map (driven nets) (output_terminals e)) k) (is_driven (gates_from tables used nets (element + 1) (next_state_place (holds_state tables e) state) es) k) h) [
      | inl f ↦ terminals_within nets (outputs_by (element_word e) (length e.terminals)) e.terminals k (element_known nets e parts.0) f
      | inr f ↦ gates_within tables used nets (element + 1) (next_state_place (holds_state tables e) state) es k parts.1 f
    ]

-- ---- what shows a state is a net

places_joined : (count : ℕ) (xs ys : List ℕ) → are_places count xs ≡ true → are_places count ys ≡ true → are_places count (xs ++ ys) ≡ true
places_joined count xs ys h k = list_all-append (λ p. nat_lt p count) xs ys ∙ ap (λ b. b && are_places count ys) h ∙ k

terminal_places : (nets : List (List ℕ)) (t : Terminal) → AllKnown nets (terminal_names t) → are_places (length nets) (driven nets t) ≡ true
terminal_places nets (terminals.Net n) known = ap (λ b. b && true) (lt-ltb (place_in nets n) (length nets) (place_below nets n known.0))
terminal_places nets (terminals.Constant v) known = refl

output_places : (nets : List (List ℕ)) (count : ℕ) (ts : List Terminal) → AllKnown nets (flat_map terminal_names ts) → are_places (length nets) (flat_map (driven nets) (take count ts)) ≡ true
output_places nets zero ts known = refl
output_places nets (suc n) [] known = refl
output_places nets (suc n) (t ∷ ts) known =
    let parts = known_parts nets (terminal_names t) (flat_map terminal_names ts) known in
    places_joined (length nets) (driven nets t) (flat_map (driven nets) (take n ts)) (terminal_places nets t parts.0) (output_places nets n ts parts.1)

state_places_by : (nets : List (List ℕ)) (s : Bool) (e : Element) → AllKnown nets (element_names e) → are_places (length nets) (state_net_by s nets e) ≡ true
state_places_by nets true e known = output_places nets (outputs_by (element_word e) (length e.terminals)) e.terminals (element_known nets e known)
state_places_by nets false e known = refl

state_places : (tables : List Table) (nets : List (List ℕ)) (es : List Element) → AllKnown nets (flat_map element_names es) → are_places (length nets) (state_nets_of tables nets es) ≡ true
state_places tables nets [] known = refl
state_places tables nets (e ∷ es) known =
    let parts = known_parts nets (element_names e) (flat_map element_names es) known in
    places_joined (length nets) (state_net_by (holds_state tables e) nets e) (state_nets_of tables nets es) (state_places_by nets (holds_state tables e) e parts.0) (state_places tables nets es parts.1)

-- ---- each state is held once

later_place : (s : Bool) (state k : ℕ) → k < state → k < next_state_place s state
later_place true state k h = omega arith
later_place false state k h = h

apart_eqb : (m n : ℕ) → n < m → eqb m n ≡ false
apart_eqb m n h = go (eqb m n) refl
  where
    go : (g : Bool) → eqb m n ≡ g → g ≡ false
    go false e = refl
    go true e = absurd (let f : m ≡ n = eqb-true m n e in omega arith)

not_held_by : (w : Option GateWord) (s : Bool) (table state k : ℕ) → k < state → has_state (function_by w s table state) k ≡ false
not_held_by (Some w) s table state k h = refl
not_held_by None true table state k h = apart_eqb state k h
not_held_by None false table state k h = refl

both_false : (a b : Bool) → a ≡ false → b ≡ false → (a || b) ≡ false
both_false true b h k = absurd cc
both_false false b h k = k

not_held : (tables : List Table) (used nets : List (List ℕ)) (element state : ℕ) (es : List Element) (k : ℕ) → k < state → is_held (gates_from tables used nets element state es) k ≡ false
not_held tables used nets element state [] k h = refl
not_held tables used nets element state (e ∷ es) k h =
    both_false _ _ (not_held_by (element_word e) (holds_state tables e) (place_in used e.kind) state k h)
    (not_held tables used nets (element + 1) (next_state_place (holds_state tables e) state) es k (later_place (holds_state tables e) state k h))

both_true : (a b : Bool) → a ≡ true → b ≡ true → (a && b) ≡ true
both_true true b h k = k
both_true false b h k = absurd cc

own_by : (count : ℕ) (gates : List Gate) (w : Option GateWord) (s : Bool) (table state : ℕ) → (s ≡ true → state < count) → (s ≡ true → is_held gates state ≡ false) → is_own count gates (function_by w s table state) ≡ true
own_by count gates (Some w) s table state h k = refl
own_by count gates None true table state h k = both_true _ _ (lt-ltb state count (h refl)) (ap not (k refl))
own_by count gates None false table state h k = refl

-- the one output of a primitive that is not refused
one_net : (nets : List (List ℕ)) (ts : List Terminal) (n : ℕ) → length ts ≡ n + 1 → list_all is_net (take 1 ts) ≡ true → length (flat_map (driven nets) (take 1 ts)) ≡ 1
one_net nets [] n h a = absurd (omega arith)
one_net nets (terminals.Net x ∷ ts) n h a = refl
one_net nets (terminals.Constant v ∷ ts) n h a = absurd (let f : false ≡ true = a in cc)

pub counted : (e : Element) (g : Bool) → port_count g e ≡ None → g ≡ true
counted e true h = refl
counted e false h = absurd cc

one_state_net : (tables : List Table) (nets : List (List ℕ)) (e : Element) → refused_element tables e ≡ None → list_all is_net (output_terminals e) ≡ true → holds_state tables e ≡ true → length (state_net_by true nets e) ≡ 1
one_state_net tables nets e r d h = by_word (element_word e) r d h
  where
    by_table : (o : Option Table) → refused_primitive o e ≡ None → list_all is_net (take 1 e.terminals) ≡ true → is_sequential o ≡ true → length (flat_map (driven nets) (take 1 e.terminals)) ≡ 1
    by_table None r d h = absurd (let f : false ≡ true = h in cc)
    by_table (Some t) r d h = one_net nets e.terminals t.inputs (eqb-true (length e.terminals) (t.inputs + 1) (counted e (eqb (length e.terminals) (t.inputs + 1)) r)) d

    by_word : (w : Option GateWord) → refused_by w tables e ≡ None → list_all is_net (take (outputs_by w (length e.terminals)) e.terminals) ≡ true → cond (is_some w) false (is_sequential (table_named tables e.kind)) ≡ true
        → length (flat_map (driven nets) (take (outputs_by w (length e.terminals)) e.terminals)) ≡ 1
    by_word (Some w) r d h = absurd (let f : false ≡ true = h in cc)
    by_word None r d h = by_table (table_named tables e.kind) r d h

pub none_first : (r s : Option GateRefusal) → or_else r s ≡ None → (r ≡ None) × (s ≡ None)
none_first None s h = (refl, h)
none_first (Some r) s h = absurd cc

own_states : (tables : List Table) (used nets : List (List ℕ)) (element state count : ℕ) (es : List Element) → first_refused tables es ≡ None → DriveNets es
    → state + length (state_nets_of tables nets es) ≤ count → have_own_states count (gates_from tables used nets element state es) ≡ true
own_states tables used nets element state count [] r d h = refl
own_states tables used nets element state count (e ∷ es) r d h =
    let parts = none_first (refused_element tables e) (first_refused tables es) r in
    let len : length (state_net_by (holds_state tables e) nets e ++ state_nets_of tables nets es) ≡ length (state_net_by (holds_state tables e) nets e) + length (state_nets_of tables nets es) = length-append (state_net_by (holds_state tables e) nets e) (state_nets_of tables nets es) in
    both_true _ _
    (own_by count (gates_from tables used nets (element + 1) (next_state_place (holds_state tables e) state) es) (element_word e) (holds_state tables e) (place_in used e.kind) state
    (λ s. let one = one_state_net tables nets e parts.0 d.0 s in let same : length (state_net_by (holds_state tables e) nets e) ≡ length (state_net_by true nets e) = ap (λ z. length (state_net_by z nets e)) s in omega arith)
    (λ s. not_held tables used nets (element + 1) (next_state_place (holds_state tables e) state) es state (after (holds_state tables e) s)))
    (own_states tables used nets (element + 1) (next_state_place (holds_state tables e) state) count es parts.1 d.1 (room (holds_state tables e) refl len))
  where
    after : (s : Bool) → s ≡ true → state < next_state_place s state
    after true h = omega arith
    after false h = absurd cc

    room : (s : Bool) → holds_state tables e ≡ s → length (state_net_by (holds_state tables e) nets e ++ state_nets_of tables nets es) ≡ length (state_net_by (holds_state tables e) nets e) + length (state_nets_of tables nets es)
        → next_state_place s state + length (state_nets_of tables nets es) ≤ count
    room true s len =
        let one = one_state_net tables nets e (none_first (refused_element tables e) (first_refused tables es) r).0 d.0 s in
        let same : length (state_net_by (holds_state tables e) nets e) ≡ length (state_net_by true nets e) = ap (λ z. length (state_net_by z nets e)) s in
        omega arith
    room false s len = omega arith

-- ---- refusals

pub named_refused : (m : Module) (tables : List Table) (inputs : List (List ℕ)) (supplies : List (List ℕ × Tern)) (refusal : ConnectRefusal) (r : GateRefusal) → first_refused tables m.elements ≡ None
    → IsNotConnected (givens_of m inputs supplies) (gates_of m tables) refusal → IsNamed (nets_of m) refusal r → IsRefused m tables inputs supplies r
named_refused m tables inputs supplies refusal NoMemory f n h = tt
named_refused m tables inputs supplies (numbered.TwoDrivers k) (TwoDrivers name) f n h = (f, (k, h, n))
named_refused m tables inputs supplies (numbered.Loop k) (Loop name) f n h = (f, (k, h, n))
named_refused m tables inputs supplies numbered.NoMemory (TwoDrivers name) f n h = absurd h
named_refused m tables inputs supplies numbered.NoMemory (Loop name) f n h = absurd h
named_refused m tables inputs supplies (numbered.TwoDrivers k) (Loop name) f n h = absurd h
named_refused m tables inputs supplies (numbered.Loop k) (TwoDrivers name) f n h = absurd h
named_refused m tables inputs supplies numbered.NoMemory (UnknownUdp name) f n h = absurd h
named_refused m tables inputs supplies (numbered.TwoDrivers k) (UnknownUdp name) f n h = absurd h
named_refused m tables inputs supplies (numbered.Loop k) (UnknownUdp name) f n h = absurd h
named_refused m tables inputs supplies numbered.NoMemory (PortCount name) f n h = absurd h
named_refused m tables inputs supplies (numbered.TwoDrivers k) (PortCount name) f n h = absurd h
named_refused m tables inputs supplies (numbered.Loop k) (PortCount name) f n h = absurd h

-- ---- the same of what was made of them

pub within_all : (m : Module) (tables : List Table) (elements : List Element) (used nets texts : List (List ℕ)) (gates : List Gate) (given : List Given) (g : List ℕ → Given)
    → elements ≡ m.elements → nets ≡ nets_of m → gates ≡ gates_from tables used nets 0 0 elements → texts ≡ nets → given ≡ map g texts → (k : ℕ) → is_driven gates k ≡ true → k < length given
within_all m tables elements used nets texts gates given g e n h t v k d =
    let known : AllKnown nets (flat_map element_names elements) = subst (λ z. AllKnown z (flat_map element_names elements)) (sym n) (subst (λ z. AllKnown (nets_of m) (flat_map element_names z)) (sym e) (module_known m)) in
    let below : k < length nets = gates_within tables used nets 0 0 elements k known (ap (λ z. is_driven z k) (sym h) ∙ d) in
    let len : length given ≡ length nets = ap length v ∙ length-map texts g ∙ ap length t in
    omega arith

pub places_all : (m : Module) (tables : List Table) (elements : List Element) (nets texts : List (List ℕ)) (given : List Given) (g : List ℕ → Given) (state_nets : List ℕ)
    → elements ≡ m.elements → nets ≡ nets_of m → texts ≡ nets → given ≡ map g texts → state_nets ≡ state_nets_of tables nets elements → are_places (length given) state_nets ≡ true
places_all m tables elements nets texts given g state_nets e n t v s =
    let known : AllKnown nets (flat_map element_names elements) = subst (λ z. AllKnown z (flat_map element_names elements)) (sym n) (subst (λ z. AllKnown (nets_of m) (flat_map element_names z)) (sym e) (module_known m)) in
    let len : length given ≡ length nets = ap length v ∙ length-map texts g ∙ ap length t in
    ap (are_places (length given)) s ∙ ap (λ count. are_places count (state_nets_of tables nets elements)) len ∙ state_places tables nets elements known

pub own_all : (m : Module) (tables : List Table) (elements : List Element) (used nets : List (List ℕ)) (gates : List Gate) (state_nets : List ℕ)
    → elements ≡ m.elements → first_refused tables elements ≡ None → DriveNets m.elements → gates ≡ gates_from tables used nets 0 0 elements → state_nets ≡ state_nets_of tables nets elements → have_own_states (length state_nets) gates ≡ true
own_all m tables elements used nets gates state_nets e r d h s =
    let len : length state_nets ≡ length (state_nets_of tables nets elements) = ap length s in
    ap (have_own_states (length state_nets)) h ∙ own_states tables used nets 0 0 (length state_nets) elements r (subst DriveNets (sym e) d) (omega arith)

pub refused_all : (m : Module) (tables : List Table) (elements : List Element) (used nets texts told : List (List ℕ)) (gates : List Gate) (given : List Given) (inputs : List (List ℕ)) (supplies : List (List ℕ × Tern)) (refusal : ConnectRefusal) (r : GateRefusal)
    → elements ≡ m.elements → first_refused tables elements ≡ None → used ≡ used_in elements → nets ≡ nets_of m → gates ≡ gates_from tables used nets 0 0 elements → texts ≡ nets → given ≡ map (given_of m inputs supplies) texts
    → IsNotConnected given gates refusal → told ≡ nets → IsNamed told refusal r → IsRefused m tables inputs supplies r
refused_all m tables elements used nets texts told gates given inputs supplies refusal r e f u n h t v c l i =
    let same_gates : gates ≡ gates_of m tables = h ∙ ap (λ z. gates_from tables z nets 0 0 elements) u ∙ ap (λ z. gates_from tables (used_in elements) z 0 0 elements) n ∙ ap (λ z. gates_from tables (used_in z) (nets_of m) 0 0 z) e in
    let same_given : given ≡ givens_of m inputs supplies = v ∙ ap (map (given_of m inputs supplies)) (t ∙ n) in
    named_refused m tables inputs supplies refusal r (ap (first_refused tables) (sym e) ∙ f)
    (subst (λ z. IsNotConnected z (gates_of m tables) refusal) same_given (subst (λ z. IsNotConnected given z refusal) same_gates c))
    (subst (λ z. IsNamed z refusal r) (l ∙ n) i)
