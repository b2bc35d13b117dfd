use Rattle.std.proofs.Common.{◌≡◌, ◌∙◌, ◌<◌, ◌*◌, sym, subst, map, length, ap, arith, Option, Some, None, List, ℕ}
use Rattle.std.proofs.lemmas.List.{length-map}
use Rattle.name_index.specs.Places.{place_of}
use Rattle.name_index.proofs.Places.{place_within}
use Rattle.pin_tables.specs.declared.table.Pin.{Pin}
use Rattle.pin_tables.specs.Held.{HasNames}
use Rattle.pin_tables.specs.Tables.{name_of, role_of, said_of}
use Rattle.pin_tables.proofs.Lookups.{said_nowhere, said_there}
use Rattle.pin_tables.proofs.lookup.PinLookup.get.Goals as goal

-- the names are those of the pins, and the place is one among them
placed : (pins : List Pin) (held : Option (List (List ℕ))) (names : List (List ℕ)) (q : List ℕ) (answer place : Option ℕ) → HasNames pins held → held ≡ Some names
    → answer ≡ place_of names q → answer ≡ place → place_of (map name_of pins) q ≡ place
placed pins held names q answer place h e a is =
    let same : names ≡ map name_of pins = subst (HasNames pins) e h in
    subst (λ ns. place_of ns q ≡ place) same (sym a ∙ is)

within : (pins : List Pin) (q : List ℕ) (place : ℕ) → place_of (map name_of pins) q ≡ Some place → place < length pins
within pins q place h = let l = place_within (map name_of pins) q place h in let n = length-map pins name_of in omega (arith, l, n)

pub offset_bounds-self-inside-place : goal.offset_bounds-self-inside-place
offset_bounds-self-inside-place c =
    let pins = c.self.inside.pins.now in
    let l : c.in-Some-place_of.place < length pins =
    within pins c.args.name.now c.in-Some-place_of.place (placed pins c.self.inside.names c.in-Some.names c.args.name.now c.place_of.result (Some c.in-Some-place_of.place) c.self.invariant c.in-Some.is c.place_of.ensures c.in-Some-place_of.is) in
    let t : length pins * 40 < 9223372036854775808 = c.self.told in
    omega arith

pub bounds-self-inside-place : goal.bounds-self-inside-place
bounds-self-inside-place c =
    let pins = c.self.inside.pins.now in
    within pins c.args.name.now c.in-Some-place_of.place (placed pins c.self.inside.names c.in-Some.names c.args.name.now c.place_of.result (Some c.in-Some-place_of.place) c.self.invariant c.in-Some.is c.place_of.ensures c.in-Some-place_of.is)

pub returns-in-None-place_of : goal.returns-in-None-place_of
returns-in-None-place_of c =
    let pins = c.self.inside.pins.now in
    let q = c.args.name.now in
    subst (λ ps. None ≡ said_of ps q) c.self.view_is
    (sym (said_nowhere pins q (placed pins c.self.inside.names c.in-Some.names q c.place_of.result None c.self.invariant c.in-Some.is c.place_of.ensures c.in-None-place_of.is)))

pub returns-in-Some-place_of : goal.returns-in-Some-place_of
returns-in-Some-place_of c =
    let pins = c.self.inside.pins.now in
    let q = c.args.name.now in
    let place = c.in-Some-place_of.place in
    subst (λ ps. Some c.role.result ≡ said_of ps q) c.self.view_is
    (ap Some (c.role.ensures ∙ ap role_of (sym c.index-self-place.is))
    ∙ sym (said_there pins q place c.index-self-place.result
    (placed pins c.self.inside.names c.in-Some.names q c.place_of.result (Some place) c.self.invariant c.in-Some.is c.place_of.ensures c.in-Some-place_of.is) c.index-self-place.is))
