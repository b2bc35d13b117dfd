-- The nets of a module, by their names.
use Rattle.std.specs.Prelude.{ℕ, if◌then◌else◌, List, [], ◌∷◌, ◌++◌, map, Option, Some, None}
use Rattle.std.specs.List.{flat_map}
use Rattle.verilog_source.specs.declared.module.Module.{Module}
use Rattle.verilog_source.specs.declared.module.Element.{Element}
use Rattle.verilog_source.specs.declared.module.Terminal.{Terminal}
use Rattle.verilog_source.specs.declared.module.Terminal.TheVariants.{Net, Constant}
use Rattle.name_index.specs.Places.{place_of, is_known}

-- the names that these lack, each at its first place
abbrev pub firsts : List (List ℕ) → List (List ℕ) → List (List ℕ)
firsts known [] = []
firsts known (n ∷ names) = if is_known n known then firsts known names else n ∷ firsts (known ++ n ∷ []) names

abbrev pub terminal_names : Terminal → List (List ℕ)
terminal_names (Net n) = n ∷ []
terminal_names (Constant v) = []

unfoldable pub element_names : Element → List (List ℕ)
element_names e = flat_map terminal_names e.terminals

-- the names of ports, of supplies, and in the terminals of elements, each list in the text's order
abbrev pub names_in : Module → List (List ℕ)
names_in m = map (λ p. p.name) m.ports ++ map (λ s. s.0) m.supplies ++ flat_map element_names m.elements

-- a module's nets, by first appearance
abbrev pub nets_of : Module → List (List ℕ)
nets_of m = firsts [] (names_in m)

abbrev pub or_zero : Option ℕ → ℕ
or_zero (Some k) = k
or_zero None = 0

-- the place of a name that is among these
abbrev pub place_in : List (List ℕ) → List ℕ → ℕ
place_in names name = or_zero (place_of names name)
