-- The grammar of a macro behind its name (LEF Syntax: Macro, Macro Obstruction Statement, Macro Pin Statement).
use Rattle.std.specs.Prelude.{ℕ, Bool, true, false, ◌&&◌, if◌then◌else◌, List, Result, Ok}
use Rattle.text_scan.specs.declared.limits.Limits.{Limits}
use Rattle.text_scan.specs.declared.token.Token.{Token}
use Rattle.grammar.specs.Rule.{Rule, none, one, seq, alt, many}
use Rattle.lef_reader.specs.declared.halt.Refusal.{Refusal}
use Rattle.lef_reader.specs.declared.macro_text.MacroText.{MacroText}
use Rattle.lef_reader.specs.declared.until.Until.{Until}
use Rattle.lef_reader.specs.declared.until.Until.TheVariants as untils
use Rattle.lef_tokens.specs.Looks.{look_of, not, at, is_end, is_pin, is_shapes, is_size, is_direction, is_use, is_port, is_direction_word, is_output, is_tristate, is_use_word, is_macro_plain, is_pin_plain, is_passed, can_name}
use Rattle.lef_reader.specs.Passing.{stops}
use Rattle.lef_reader.specs.MacroActions.{keep, begin_size, grow_size, name_pin, set_direction, set_kind, begin_port, grow_port, end_port, end_pin, end_macro}

abbrev pub MacroRule : Type 0
MacroRule = Rule Token MacroText Refusal

abbrev pub stays : {S : Type 0} → Token → S → Result S Refusal
stays t s = Ok s

module _ (source : List ℕ) where
  -- ---- what is passed over

  -- a word or a string before the stopping word
  unfoldable pub goes_over : Until → Token → Bool
  goes_over until t = is_passed t && not (stops source until t)

  -- words and strings, and the stopping word
  unfoldable pub rest_to : {S : Type 0} → Until → Rule Token S Refusal
  rest_to until = seq (many (one (goes_over until) stays (λ t. none))) (one (stops source until) stays (λ t. none))

  -- what follows the first token of a statement: nothing behind a lone semicolon
  unfoldable pub rest_from : {S : Type 0} → Token → Rule Token S Refusal
  rest_from t = if stops source untils.Semicolon t then none else rest_to untils.Semicolon

  -- ---- a pin behind its name

  unfoldable pub semicolon : MacroRule
  semicolon = one (stops source untils.Semicolon) keep (λ t. none)

  -- OUTPUT may be TRISTATE
  unfoldable pub direction_end : Bool → MacroRule
  direction_end true = alt (one (at source is_tristate) keep (λ t. semicolon)) semicolon
  direction_end false = semicolon

  unfoldable pub direction : MacroRule
  direction = one (at source is_direction) keep (λ t. one (at source is_direction_word) (set_direction source) (λ u. direction_end (is_output (look_of source u))))

  unfoldable pub use_statement : MacroRule
  use_statement = one (at source is_use) keep (λ t. one (at source is_use_word) (set_kind source) (λ u. semicolon))

  unfoldable pub port_rest : MacroRule
  port_rest = seq (many (one (goes_over untils.End) grow_port (λ t. none))) (one (stops source untils.End) (end_port source) (λ t. none))

  unfoldable pub port : MacroRule
  port = one (at source is_port) begin_port (λ t. port_rest)

  unfoldable pub pin_statement : MacroRule
  pin_statement = one (at source is_pin_plain) keep rest_from

  unfoldable pub pin_item : MacroRule
  pin_item = alt direction (alt use_statement (alt port pin_statement))

  unfoldable pub pin_end : Token → MacroRule
  pin_end name = one (at source is_end) keep (λ t. one is_passed (end_pin source name) (λ u. none))

  unfoldable pub pin_body : Token → MacroRule
  pin_body name = seq (many pin_item) (pin_end name)

  -- ---- a macro behind its name

  -- OBS or DENSITY
  unfoldable pub shapes : MacroRule
  shapes = one (at source is_shapes) keep (λ t. rest_to untils.End)

  unfoldable pub size_rest : MacroRule
  size_rest = seq (many (one (goes_over untils.Semicolon) grow_size (λ t. none))) semicolon

  unfoldable pub size : MacroRule
  size = one (at source is_size) begin_size (λ t. size_rest)

  unfoldable pub macro_statement : MacroRule
  macro_statement = one (at source is_macro_plain) keep rest_from

  unfoldable pub macro_end : Token → MacroRule
  macro_end name = one (at source is_end) keep (λ t. one is_passed (end_macro source name) (λ u. none))

  module _ (limits : Limits) where
    unfoldable pub pin : MacroRule
    pin = one (at source is_pin) keep (λ t. one (can_name source limits) (name_pin source limits) pin_body)

    unfoldable pub item : MacroRule
    item = alt pin (alt shapes (alt size macro_statement))

    unfoldable pub macro_body : Token → MacroRule
    macro_body name = seq (many item) (macro_end name)
