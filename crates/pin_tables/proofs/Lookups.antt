-- What pins say of names, beside the list of their names.
use Rattle.std.proofs.Common.{◌≡◌, ℕ, suc, ◌+◌, Bool, true, false, cond, List, [], ◌∷◌, get_or, map, Option, Some, None, refl, sym, ◌∙◌, ap, subst, arith}
use Rattle.std.specs.Prelude.{find, is_none, is_some, not, ◌||◌}
use Rattle.std.specs.List.{position_from}
use Rattle.std.specs.Option.{option_map}
use Rattle.std.specs.Str.{bytes_eq}
use Rattle.name_index.specs.Places.{is_known, place_of}
use Rattle.name_index.proofs.Places.{known_by_place}
use Rattle.pin_tables.specs.declared.table.Pin.{Pin}
use Rattle.pin_tables.specs.Tables.{has_name, name_of, role_of, said_of}

known_at : (b : Bool) (p : Pin) (o : Option Pin) (k : Bool) → k ≡ is_some (option_map role_of o) → (b || k) ≡ is_some (option_map role_of (cond b (Some p) o))
known_at true p o k h = refl
known_at false p o k h = h

-- a name is known exactly where the pins say something of it
pub known_said : (pins : List Pin) (q : List ℕ) → is_known q (map name_of pins) ≡ is_some (said_of pins q)
known_said [] q = refl
known_said (p ∷ pins) q = known_at (bytes_eq q p.name) p (find (has_name q) pins) (is_known q (map name_of pins)) (known_said pins q)

not_some : {X : Type 0} (o : Option X) → not (is_some o) ≡ is_none o
not_some None = refl
not_some (Some x) = refl

pub unknown_said : (pins : List Pin) (q : List ℕ) → not (is_known q (map name_of pins)) ≡ is_none (said_of pins q)
unknown_said pins q = ap not (known_said pins q) ∙ not_some (said_of pins q)

nothing : {X : Type 0} (o : Option X) → is_some o ≡ false → o ≡ None
nothing None h = refl
nothing (Some x) h = cc h

-- nothing of a name that has no place
pub said_nowhere : (pins : List Pin) (q : List ℕ) → place_of (map name_of pins) q ≡ None → said_of pins q ≡ None
said_nowhere pins q h = nothing (said_of pins q) (sym (known_said pins q) ∙ sym (known_by_place (map name_of pins) q) ∙ ap is_some h)

step : (b : Bool) (i k : ℕ) (p : Pin) (pins : List Pin) (o : Option ℕ) (rest : Option Pin) → cond b (Some i) o ≡ Some k
    → (o ≡ Some k → (j : ℕ) × (k ≡ i + 1 + j) × ((x : Pin) → x ≡ get_or pins j x → option_map role_of rest ≡ Some (role_of x)))
    → (j : ℕ) × (k ≡ i + j) × ((x : Pin) → x ≡ get_or (p ∷ pins) j x → option_map role_of (cond b (Some p) rest) ≡ Some (role_of x))
step true i k p pins o rest h further = (0, (let e : i ≡ k = cc in omega arith), λ x g. let e : p ≡ x = sym g in ap (λ y. Some (role_of y)) e)
step false i k p pins o rest h further = let r = further h in (suc r.0, (let e = r.1 in omega arith), r.2)

said_from : (q : List ℕ) (i k : ℕ) (pins : List Pin) → position_from (bytes_eq q) i (map name_of pins) ≡ Some k
    → (j : ℕ) × (k ≡ i + j) × ((x : Pin) → x ≡ get_or pins j x → said_of pins q ≡ Some (role_of x))
said_from q i k [] h = absurd (cc)
said_from q i k (p ∷ pins) h =
    step (bytes_eq q p.name) i k p pins (position_from (bytes_eq q) (i + 1) (map name_of pins)) (find (has_name q) pins) h (said_from q (i + 1) k pins)

-- of a name that has a place, what the pin there says
pub said_there : (pins : List Pin) (q : List ℕ) (k : ℕ) (x : Pin) → place_of (map name_of pins) q ≡ Some k → x ≡ get_or pins k x → said_of pins q ≡ Some (role_of x)
said_there pins q k x h g =
    let r = said_from q 0 k pins h in
    let e : k ≡ r.0 = (let e = r.1 in omega arith) in
    r.2 x (subst (λ j. x ≡ get_or pins j x) e g)
