-- The words of directives, and the grammar's own words.
use Rattle.std.specs.Prelude.{ℕ, Bool, ◌||◌, if◌then◌else◌, List, [], ◌∷◌, codes}
use Rattle.std.specs.Str.{bytes_eq}
use Rattle.verilog_directives.specs.declared.word.Directive.{Directive}
use Rattle.verilog_directives.specs.declared.word.Directive.TheVariants.{Define, Undef, Ifdef, Ifndef, Elsif, Else, Endif, PassedOver, Other, Alone}

unfoldable pub is_fault_or_delay : List ℕ → Bool
is_fault_or_delay w =
    bytes_eq w (codes "suppress_faults") || bytes_eq w (codes "nosuppress_faults")
    || bytes_eq w (codes "enable_portfaults") || bytes_eq w (codes "disable_portfaults")
    || bytes_eq w (codes "delay_mode_path") || bytes_eq w (codes "delay_mode_distributed")
    || bytes_eq w (codes "delay_mode_unit") || bytes_eq w (codes "delay_mode_zero")

-- the line of such a directive says nothing here
unfoldable pub is_passed_over : List ℕ → Bool
is_passed_over w =
    bytes_eq w (codes "timescale") || bytes_eq w (codes "celldefine") || bytes_eq w (codes "endcelldefine")
    || bytes_eq w (codes "resetall") || bytes_eq w (codes "default_nettype") || is_fault_or_delay w

unfoldable pub word_directive : List ℕ → Directive
word_directive w =
    if bytes_eq w (codes "define") then Define else
    if bytes_eq w (codes "undef") then Undef else
    if bytes_eq w (codes "ifdef") then Ifdef else
    if bytes_eq w (codes "ifndef") then Ifndef else
    if bytes_eq w (codes "elsif") then Elsif else
    if bytes_eq w (codes "else") then Else else
    if bytes_eq w (codes "endif") then Endif else
    if is_passed_over w then PassedOver else
    Other

-- a ` that no word touches is alone
unfoldable pub directive_of : List ℕ → Directive
directive_of [] = Alone
directive_of (b ∷ bs) = word_directive (b ∷ bs)

unfoldable pub is_gate_word : List ℕ → Bool
is_gate_word w =
    bytes_eq w (codes "and") || bytes_eq w (codes "nand") || bytes_eq w (codes "or") || bytes_eq w (codes "nor")
    || bytes_eq w (codes "xor") || bytes_eq w (codes "xnor") || bytes_eq w (codes "buf") || bytes_eq w (codes "not")

unfoldable pub is_declaring_word : List ℕ → Bool
is_declaring_word w =
    bytes_eq w (codes "input") || bytes_eq w (codes "output") || bytes_eq w (codes "inout") || bytes_eq w (codes "wire")
    || bytes_eq w (codes "reg") || bytes_eq w (codes "supply0") || bytes_eq w (codes "supply1")

unfoldable pub is_enclosing_word : List ℕ → Bool
is_enclosing_word w =
    bytes_eq w (codes "module") || bytes_eq w (codes "endmodule") || bytes_eq w (codes "primitive") || bytes_eq w (codes "endprimitive")
    || bytes_eq w (codes "specify") || bytes_eq w (codes "endspecify") || bytes_eq w (codes "table") || bytes_eq w (codes "endtable")
    || bytes_eq w (codes "initial")

-- the grammar's own words are no identifiers
unfoldable pub is_reserved : List ℕ → Bool
is_reserved w = is_enclosing_word w || is_declaring_word w || is_gate_word w
