-- Tables that are made pin by pin.
use Rattle.std.proofs.Common.{◌≡◌, ℕ, ◌+◌, ◌<◌, List, [], ◌∷◌, ◌++◌, length, map, get_or, take, ◌∙◌, ap}
use Rattle.std.proofs.lemmas.List.{map-append}
use Rattle.pin_tables.specs.declared.table.Pin.{Pin}
use Rattle.pin_tables.proofs.Lists.{take_at}

-- one item more
pub mapped_at : {X : Type 0} (f : X → Pin) (xs : List X) (i : ℕ) (x : X) → i < length xs → x ≡ get_or xs i x → map f (take (i + 1) xs) ≡ map f (take i xs) ++ f x ∷ []
mapped_at f xs i x lt is = ap (map f) (take_at xs i x lt is) ∙ map-append f (take i xs) (x ∷ [])
