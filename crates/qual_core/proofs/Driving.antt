-- What the reader says of outputs is what networks ask of them.
use Rattle.std.proofs.Common.{◌≡◌, ℕ, ◌-◌, None, Bool, true, false, ◌||◌, List, [], ◌∷◌, length, take, codes, refl, sym, ap, subst, ◌∙◌}
use Rattle.std.specs.Prelude.{if◌then◌else◌, ◌&&◌}
use Rattle.std.specs.List.{list_all}
use Rattle.std.specs.Str.{bytes_eq}
use Rattle.std.specs.Cmp.Lexicographic.{bytes_decides}
use Rattle.verilog_source.specs.declared.module.Element.{Element}
use Rattle.verilog_source.specs.declared.module.ModulePart.{ModulePart}
use Rattle.verilog_source.specs.declared.module.ModulePart.TheVariants.{Whole, Refused}
use Rattle.verilog_source.specs.declared.module.Terminal.{Terminal}
use Rattle.verilog_source.specs.declared.module.Terminal.TheVariants.{Net, Constant}
use Rattle.module_net.specs.Elements as nets
use Rattle.module_net.specs.Elements.{gate_word, element_word, outputs_by}
use Rattle.verilog_modules.specs.Driving as modules
use Rattle.verilog_reader.specs.Driving as reader
use Rattle.qual_core.specs.Driving.{AllDriveNets}

abbrev buffer : List ℕ → Bool
buffer w = bytes_eq w (codes "buf") || bytes_eq w (codes "not")

abbrev count : Bool → ℕ → ℕ
count b n = if b then n - 1 else 1

-- at these letters both agree
abbrev Agrees : List ℕ → Type 0
Agrees w = (n : ℕ) → outputs_by (gate_word w) n ≡ count (buffer w) n

at_word : (w v : List ℕ) → bytes_eq w v ≡ true → Agrees v → Agrees w
at_word w v e h = subst Agrees (sym ((bytes_decides w v).0 e)) h

and_agrees : Agrees (codes "and")
unfolding gate_word
and_agrees n = refl

nand_agrees : Agrees (codes "nand")
unfolding gate_word
nand_agrees n = refl

or_agrees : Agrees (codes "or")
unfolding gate_word
or_agrees n = refl

nor_agrees : Agrees (codes "nor")
unfolding gate_word
nor_agrees n = refl

xor_agrees : Agrees (codes "xor")
unfolding gate_word
xor_agrees n = refl

xnor_agrees : Agrees (codes "xnor")
unfolding gate_word
xnor_agrees n = refl

buf_agrees : Agrees (codes "buf")
unfolding gate_word
buf_agrees n = refl

not_agrees : Agrees (codes "not")
unfolding gate_word
not_agrees n = refl

-- no gate's word
other_agrees : (w : List ℕ) → bytes_eq w (codes "and") ≡ false → bytes_eq w (codes "nand") ≡ false → bytes_eq w (codes "or") ≡ false → bytes_eq w (codes "nor") ≡ false
    → bytes_eq w (codes "xor") ≡ false → bytes_eq w (codes "xnor") ≡ false → bytes_eq w (codes "buf") ≡ false → bytes_eq w (codes "not") ≡ false → Agrees w
unfolding gate_word
other_agrees w a b c d e f g h n = rw (a, b, c, d, e, f, g, h) refl

by_letters : (w : List ℕ) (a b c d e f g h : Bool) → bytes_eq w (codes "and") ≡ a → bytes_eq w (codes "nand") ≡ b → bytes_eq w (codes "or") ≡ c → bytes_eq w (codes "nor") ≡ d
    → bytes_eq w (codes "xor") ≡ e → bytes_eq w (codes "xnor") ≡ f → bytes_eq w (codes "buf") ≡ g → bytes_eq w (codes "not") ≡ h → Agrees w
by_letters w true b c d e f g h i j k l m n o p = at_word w (codes "and") i and_agrees
by_letters w false true c d e f g h i j k l m n o p = at_word w (codes "nand") j nand_agrees
by_letters w false false true d e f g h i j k l m n o p = at_word w (codes "or") k or_agrees
by_letters w false false false true e f g h i j k l m n o p = at_word w (codes "nor") l nor_agrees
by_letters w false false false false true f g h i j k l m n o p = at_word w (codes "xor") m xor_agrees
by_letters w false false false false false true g h i j k l m n o p = at_word w (codes "xnor") n xnor_agrees
by_letters w false false false false false false true h i j k l m n o p = at_word w (codes "buf") o buf_agrees
by_letters w false false false false false false false true i j k l m n o p = at_word w (codes "not") p not_agrees
by_letters w false false false false false false false false i j k l m n o p = other_agrees w i j k l m n o p

letters_agree : (w : List ℕ) → Agrees w
letters_agree w = by_letters w (bytes_eq w (codes "and")) (bytes_eq w (codes "nand")) (bytes_eq w (codes "or")) (bytes_eq w (codes "nor")) (bytes_eq w (codes "xor")) (bytes_eq w (codes "xnor")) (bytes_eq w (codes "buf")) (bytes_eq w (codes "not")) refl refl refl refl refl refl refl refl

counts_agree : (is_gate : Bool) (w : List ℕ) (n : ℕ) → outputs_by (if is_gate then gate_word w else None) n ≡ count (is_gate && buffer w) n
counts_agree true w n = letters_agree w n
counts_agree false w n = refl

outputs_agree : (e : Element) → outputs_by (element_word e) (length e.terminals) ≡ modules.outputs e
unfolding element_word
outputs_agree e = counts_agree e.is_gate e.kind (length e.terminals)

net_agrees : (t : Terminal) → nets.is_net t ≡ modules.is_net t
net_agrees (Net n) = refl
net_agrees (Constant v) = refl

nets_agree : (ts : List Terminal) → list_all nets.is_net ts ≡ list_all modules.is_net ts
nets_agree [] = refl
nets_agree (t ∷ ts) = ap (λ b. b && list_all nets.is_net ts) (net_agrees t) ∙ ap (λ b. modules.is_net t && b) (nets_agree ts)

elements_agree : (es : List Element) → modules.DriveNets es → nets.DriveNets es
elements_agree [] h = tt
elements_agree (e ∷ es) h = (nets_agree (nets.output_terminals e) ∙ ap (λ n. list_all modules.is_net (take n e.terminals)) (outputs_agree e) ∙ h.0, elements_agree es h.1)

pub modules_agree : (parts : List ModulePart) → reader.AllDriveNets parts → AllDriveNets parts
modules_agree [] h = tt
modules_agree (Whole m ∷ parts) h = (elements_agree m.elements h.0, modules_agree parts h.1)
modules_agree (Refused name construct line ∷ parts) h = modules_agree parts h
