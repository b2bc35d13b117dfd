-- The grammar of a module after its name (IEEE 1364-2005, clauses 7 and 12).
use Rattle.std.specs.Prelude.{ℕ, zero, suc, Bool, true, false, ◌==◌, ◌&&◌, if◌then◌else◌, List}
use Rattle.text_scan.specs.declared.limits.Limits.{Limits}
use Rattle.grammar.specs.Rule.{Rule, none, one, before, seq, alt, many}
use Rattle.verilog_directives.specs.declared.left.Left.{Left}
use Rattle.verilog_looks.specs.declared.halt.Refusal.{Refusal}
use Rattle.verilog_looks.specs.declared.look.Look.{Look}
use Rattle.verilog_modules.specs.declared.module_text.ModuleText.{ModuleText}
use Rattle.verilog_modules.specs.declared.module_phase.ModuleAction.{ModuleAction}
use Rattle.verilog_modules.specs.declared.module_phase.ModuleAction.TheVariants.{Keep, Direct, AddPort, BeginDeclaration, Declare, BeginGate, BeginPrimitive, CheckName, Label, AddOutput, AddNet, AddConstant, EndInstance, EndModule}
use Rattle.verilog_looks.specs.Looks as looks
use Rattle.verilog_looks.specs.Looks.{look_of}
use Rattle.verilog_modules.specs.ModuleActions.{perform}

abbrev pub ModuleRule : Type 0
ModuleRule = Rule Left ModuleText Refusal

-- an item that looks so, what it adds, and then what follows
abbrev pub act : List ℕ → Limits → (Look → Bool) → ModuleAction → ModuleRule → ModuleRule
act source limits p a follows = one (λ t. p (look_of source t)) (λ t s. perform source limits a t s) (λ t. follows)

-- an item on this line that may be passed over
abbrev pub is_beside : List ℕ → ℕ → Left → Bool
is_beside source line t = t.token.span.line == line && looks.is_passed (look_of source t)

-- the line has ended before an item
abbrev pub is_off : List ℕ → ℕ → Left → Bool
is_off source line t = if t.token.span.line == line then looks.is_end (look_of source t) else true

module _ (source : List ℕ) (limits : Limits) where
  -- ---- the header

  unfoldable pub port_name : ModuleRule
  port_name = act source limits looks.is_name AddPort none

  unfoldable pub net_port : ModuleRule
  net_port = alt (act source limits looks.is_net Keep port_name) port_name

  -- a name, or a direction, wire or reg or none, and a name
  unfoldable pub port : ModuleRule
  port = alt (act source limits looks.is_direction Direct net_port) port_name

  unfoldable pub further_ports : ModuleRule
  further_ports = many (act source limits looks.is_comma Keep port)

  -- ---- declarations

  unfoldable pub declared_name : ModuleRule
  declared_name = act source limits looks.is_name Declare none

  unfoldable pub further_names : ModuleRule
  further_names = many (act source limits looks.is_comma Keep declared_name)

  unfoldable pub names_end : ModuleRule
  names_end = act source limits looks.is_semicolon Keep none

  unfoldable pub names : ModuleRule
  names = seq (seq declared_name further_names) names_end

  unfoldable pub declaration : ModuleRule
  declaration = act source limits looks.is_declaration BeginDeclaration names

  -- ---- delays

  unfoldable pub closing : ModuleRule
  closing = act source limits looks.is_close Keep none

  -- anything in balanced parentheses, which are nested so deep at most
  unfoldable pub parentheses : ℕ → ModuleRule
  parentheses zero = act source limits looks.is_open Keep none
  parentheses (suc n) = act source limits looks.is_open Keep (seq (many (alt (act source limits looks.is_between Keep none) (parentheses n))) closing)

  -- what may stand in parentheses
  unfoldable pub between : ℕ → ModuleRule
  between n = alt (act source limits looks.is_between Keep none) (parentheses n)

  -- a number, a name, or parentheses
  unfoldable pub delay_value : ℕ → ModuleRule
  delay_value n = alt (act source limits looks.is_number Keep none) (alt (act source limits looks.is_name CheckName none) (parentheses n))

  unfoldable pub delay : ℕ → ModuleRule
  delay n = act source limits looks.is_hash Keep (delay_value n)

  -- ---- instances

  -- where all terminals but the last are outputs, a constant is the last
  abbrev pub last : Bool → ModuleRule
  last true = before (λ t. looks.is_close (look_of source t))
  last false = none

  unfoldable pub terminal : Bool → ModuleRule
  terminal outputs = alt (act source limits looks.is_name AddNet none) (act source limits looks.is_constant AddConstant (last outputs))

  unfoldable pub further_terminals : Bool → ModuleRule
  further_terminals outputs = many (act source limits looks.is_comma Keep (terminal outputs))

  unfoldable pub terminals_end : ModuleRule
  terminals_end = act source limits looks.is_close EndInstance none

  -- the output, and any number of terminals
  unfoldable pub terminals : Bool → ModuleAction → ModuleRule
  terminals outputs a = seq (seq (act source limits looks.is_name a none) (further_terminals outputs)) terminals_end

  unfoldable pub connections : Bool → ModuleAction → ModuleRule
  connections outputs a = act source limits looks.is_open Keep (terminals outputs a)

  -- an instance's label is its name, or else its output
  unfoldable pub instance : Bool → ModuleRule
  instance outputs = alt (act source limits looks.is_name Label (connections outputs AddNet)) (connections outputs AddOutput)

  unfoldable pub further_instances : Bool → ModuleRule
  further_instances outputs = many (act source limits looks.is_comma Keep (instance outputs))

  unfoldable pub instances_end : ModuleRule
  instances_end = act source limits looks.is_semicolon Keep none

  unfoldable pub instances : Bool → ModuleRule
  instances outputs = seq (seq (instance outputs) (further_instances outputs)) instances_end

  unfoldable pub delayed : ℕ → Bool → ModuleRule
  delayed n outputs = alt (seq (delay n) (instances outputs)) (instances outputs)

  unfoldable pub elements : ℕ → ModuleRule
  elements n = alt (act source limits looks.is_name BeginPrimitive (delayed n false)) (alt (act source limits looks.is_gate BeginGate (delayed n false)) (act source limits looks.is_buffer BeginGate (delayed n true)))

  -- ---- specify blocks

  -- the rest of a line
  unfoldable pub beside_line : ℕ → ModuleRule
  beside_line line = seq (many (one (is_beside source line) (λ t s. perform source limits Keep t s) (λ t. none))) (before (is_off source line))

  -- a directive or macro that isn't obeyed, and what stands on its line
  unfoldable pub macro_line : ModuleRule
  macro_line = one (λ t. looks.is_macro (look_of source t)) (λ t s. perform source limits Keep t s) (λ m. beside_line m.token.span.line)

  unfoldable pub specified : ModuleRule
  specified = many (alt (act source limits looks.is_specified Keep none) macro_line)

  unfoldable pub specify_end : ModuleRule
  specify_end = act source limits looks.is_end_specify Keep none

  unfoldable pub specify : ModuleRule
  specify = act source limits looks.is_specify Keep (seq specified specify_end)

  -- ---- the module

  unfoldable pub item : ℕ → ModuleRule
  item n = alt declaration (alt (elements n) specify)

  unfoldable pub module_end : ModuleRule
  module_end = act source limits looks.is_end_module EndModule none

  unfoldable pub items : ℕ → ModuleRule
  items n = seq (many (item n)) module_end

  unfoldable pub header_end : ℕ → ModuleRule
  header_end n = act source limits looks.is_semicolon Keep (items n)

  unfoldable pub ports_end : ℕ → ModuleRule
  ports_end n = act source limits looks.is_close Keep (header_end n)

  unfoldable pub listed : ℕ → ModuleRule
  listed n = seq (seq port further_ports) (ports_end n)

  unfoldable pub ports : ℕ → ModuleRule
  ports n = alt (ports_end n) (listed n)

  -- a port list or none, and items; the parentheses of delays are nested so deep at most
  unfoldable pub module_body : ℕ → ModuleRule
  module_body n = alt (act source limits looks.is_open Keep (ports n)) (header_end n)
