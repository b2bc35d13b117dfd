-- What is read of pins.
use Rattle.std.proofs.Common.{◌≡◌, ℕ, Bool, true, false, ◌||◌, ◌&&◌, List, [], ◌∷◌, Option, None, Result, Ok, Err, refl, sym, ap, subst, ◌∙◌}
use Rattle.text_scan.specs.declared.token.Token.{Token}
use Rattle.text_scan.specs.declared.pins.Direction.{Direction}
use Rattle.text_scan.specs.declared.pins.PinKind.{PinKind}
use Rattle.grammar.specs.Reading.{syntax, refusal, read}
use Rattle.lef_reader.specs.declared.extent.Extent.{Extent}
use Rattle.lef_reader.specs.declared.halt.Halt.{Halt}
use Rattle.lef_reader.specs.declared.halt.Halt.TheVariants as halts
use Rattle.lef_reader.specs.declared.halt.Refusal.TheVariants as refusals
use Rattle.lef_tokens.specs.declared.look.Look.{Look}
use Rattle.lef_tokens.specs.declared.look.Look.TheVariants as looks
use Rattle.lef_reader.specs.declared.macro_text.MacroText.{MacroText}
use Rattle.lef_reader.specs.declared.until.Until.TheVariants as untils
use Rattle.text_scan.specs.declared.limits.Limits.{Limits}
use Rattle.text_scan.specs.Left.{is_end as is_the_end}
use Rattle.file_rules.specs.Names.{is_name, is_too_long}
use Rattle.lef_reader.proofs.OverTokens.{word_goes}
use Rattle.lef_tokens.specs.Looks.{text, look_of, is_end, can_name, is_statement, is_direction_word, is_use_word, is_output, is_tristate, is_pin_plain, is_over, is_passed}
use Rattle.lef_reader.specs.Passing.{extended, passed, is_name_of}
use Rattle.lef_reader.specs.MacroActions.{direction_of, set_direction, kind_of, set_kind, with_port, with_pin, end_pin, name_pin}
use Rattle.lef_reader.specs.MacroGrammar.{semicolon, rest_from, direction_end, direction, use_statement, port_rest, port, pin_statement, pin_item, pin_end, pin_body, pin}
use Rattle.lef_reader.specs.Steps.{Passes, EndsName, Does, Halts}
use Rattle.lef_reader.proofs.Skipped.{kept_read, keeping}

pub statement_goes : (l : Look) → is_statement l ≡ true → is_over l ≡ false
statement_goes looks.Over h = absurd cc
statement_goes _ h = refl

pub direction_goes : (l : Look) → is_direction_word l ≡ true → is_over l ≡ false
direction_goes looks.Over h = absurd cc
direction_goes _ h = refl

pub use_goes : (l : Look) → is_use_word l ≡ true → is_over l ≡ false
use_goes looks.Over h = absurd cc
use_goes _ h = refl

pub tristate_goes : (l : Look) → is_tristate l ≡ true → is_over l ≡ false
tristate_goes looks.Over h = absurd cc
tristate_goes _ h = refl

-- another statement of a pin
plain_pin : (l : Look) → is_statement l ≡ true → (l ≡ looks.Direction → ⊥) → (l ≡ looks.Use → ⊥) → (l ≡ looks.Port → ⊥) → is_pin_plain l ≡ true
plain_pin looks.Direction h a b c = absurd (a refl)
plain_pin looks.Use h a b c = absurd (b refl)
plain_pin looks.Port h a b c = absurd (c refl)
plain_pin looks.End h a b c = absurd cc
plain_pin looks.Barred h a b c = absurd cc
plain_pin looks.Over h a b c = absurd cc
plain_pin _ h a b c = refl

abbrev pub directed : Direction → MacroText → MacroText
directed d m = record m { pin = record m.pin { direction = d } }

abbrev pub used : PinKind → MacroText → MacroText
used k m = record m { pin = record m.pin { kind = k } }

abbrev pub ported : MacroText → Option Extent → MacroText
ported m e = record m { port = e }

module _ (source : List ℕ) where
  -- ---- DIRECTION and USE

  pub direction_bad : (m : MacroText) (l : Look) (t u : Token) (us : List Token) → look_of source t ≡ looks.Direction → l ≡ look_of source u → is_direction_word l ≡ false → read (direction source) m (t ∷ u ∷ us) ≡ Err (syntax (u ∷ us))
  unfolding direction
  direction_bad m l t u us h e k = let word : is_direction_word (look_of source u) ≡ false = subst (λ z. is_direction_word z ≡ false) e k in rw (h, word) refl

  pub direction_ok : (m : MacroText) (d : Direction) (l : Look) (t u : Token) (us : List Token) → look_of source t ≡ looks.Direction → l ≡ look_of source u → is_direction_word l ≡ true → d ≡ direction_of l
      → read (direction source) m (t ∷ u ∷ us) ≡ read (direction_end source (is_output l)) (directed d m) us
  unfolding direction set_direction
  direction_ok m d l t u us h e k g = let word : is_direction_word (look_of source u) ≡ true = subst (λ z. is_direction_word z ≡ true) e k in rw (h, word, g, e) refl

  pub tristate_read : (m : MacroText) (b : Bool) (t : Token) (ts : List Token) → b ≡ true → is_tristate (look_of source t) ≡ true → read (direction_end source b) m (t ∷ ts) ≡ read (semicolon source) m ts
  unfolding direction_end
  tristate_read m b t ts e h = rw (e, h) refl

  pub no_tristate : (m : MacroText) (b : Bool) (t : Token) (ts : List Token) → (b && is_tristate (look_of source t)) ≡ false → read (direction_end source b) m (t ∷ ts) ≡ read (semicolon source) m (t ∷ ts)
  unfolding direction_end
  no_tristate m true t ts h = rw h refl
  no_tristate m false t ts h = refl

  pub use_bad : (m : MacroText) (l : Look) (t u : Token) (us : List Token) → look_of source t ≡ looks.Use → l ≡ look_of source u → is_use_word l ≡ false → read (use_statement source) m (t ∷ u ∷ us) ≡ Err (syntax (u ∷ us))
  unfolding use_statement
  use_bad m l t u us h e k = let word : is_use_word (look_of source u) ≡ false = subst (λ z. is_use_word z ≡ false) e k in rw (h, word) refl

  pub use_ok : (m : MacroText) (k : PinKind) (l : Look) (t u : Token) (us : List Token) → look_of source t ≡ looks.Use → l ≡ look_of source u → is_use_word l ≡ true → k ≡ kind_of l
      → read (use_statement source) m (t ∷ u ∷ us) ≡ read (semicolon source) (used k m) us
  unfolding use_statement set_kind
  use_ok m k l t u us h e w g = let word : is_use_word (look_of source u) ≡ true = subst (λ z. is_use_word z ≡ true) e w in rw (h, word, g, e) refl

  -- ---- PORT

  pub port_read : (m : MacroText) (t : Token) (ts : List Token) → look_of source t ≡ looks.Port → read (port source) m (t ∷ ts) ≡ keeping (ported m) (with_port source) (passed source untils.End None ts)
  unfolding port port_rest
  port_read m t ts h = rw h (kept_read source untils.End (ported m) (λ t m. record m { port = extended m.port t }) (with_port source) (λ e t. refl) None ts)

  -- ---- statements of a pin

  pub item_direction : (m : MacroText) (t : Token) (ts : List Token) → look_of source t ≡ looks.Direction → read (pin_item source) m (t ∷ ts) ≡ read (direction source) m (t ∷ ts)
  unfolding pin_item direction
  item_direction m t ts h = rw h refl

  pub item_use : (m : MacroText) (t : Token) (ts : List Token) → look_of source t ≡ looks.Use → read (pin_item source) m (t ∷ ts) ≡ read (use_statement source) m (t ∷ ts)
  unfolding pin_item direction use_statement
  item_use m t ts h = rw h refl

  pub item_port : (m : MacroText) (t : Token) (ts : List Token) → look_of source t ≡ looks.Port → read (pin_item source) m (t ∷ ts) ≡ read (port source) m (t ∷ ts)
  unfolding pin_item direction use_statement port
  item_port m t ts h = rw h refl

  item_plain : (l : Look) (m : MacroText) (t : Token) (ts : List Token) → look_of source t ≡ l → is_pin_plain l ≡ true → read (pin_item source) m (t ∷ ts) ≡ read (rest_from source t) m ts
  unfolding pin_item direction use_statement port pin_statement
  item_plain looks.Direction m t ts h k = absurd cc
  item_plain looks.Use m t ts h k = absurd cc
  item_plain looks.Port m t ts h k = absurd cc
  item_plain looks.End m t ts h k = absurd cc
  item_plain looks.Barred m t ts h k = absurd cc
  item_plain looks.Over m t ts h k = absurd cc
  item_plain _ m t ts h k = rw h refl

  pub item_other : (l : Look) (m : MacroText) (t : Token) (ts : List Token) → l ≡ look_of source t → is_statement (look_of source t) ≡ true → (l ≡ looks.Direction → ⊥) → (l ≡ looks.Use → ⊥) → (l ≡ looks.Port → ⊥)
      → read (pin_item source) m (t ∷ ts) ≡ read (rest_from source t) m ts
  item_other l m t ts e h a b c = item_plain l m t ts (sym e) (plain_pin l (subst (λ z. is_statement z ≡ true) (sym e) h) a b c)

  -- ---- END and the pin's name

  ended : (name : Token) (m : MacroText) (t u : Token) (us : List Token) → look_of source t ≡ looks.End → is_passed u ≡ true → is_name_of source name u ≡ true → read (pin_end source name) m (t ∷ u ∷ us) ≡ Ok (with_pin m, us)
  unfolding pin_end end_pin
  ended name m t u us h p k = rw (h, p, k) refl

  pub pin_ends : (name : Token) (m : MacroText) (t : Token) (us vs : List Token) → look_of source t ≡ looks.End → EndsName {U = Unit {0}} source name (Ok tt) us vs → read (pin_end source name) m (t ∷ us) ≡ Ok (with_pin m, vs)
  pin_ends name m t [] vs h k = absurd k
  pin_ends name m t (u ∷ us) vs h k = ended name m t u us h k.0 k.1 ∙ ap (λ z. Ok (with_pin m, z)) k.2

  pub pin_halts : (e : Halt) (name : Token) (m : MacroText) (t : Token) (us vs : List Token) → look_of source t ≡ looks.End → EndsName {U = Unit {0}} source name (Err e) us vs → Halts e (read (pin_end source name) m (t ∷ us)) vs
  unfolding pin_end end_pin
  pin_halts e name m t [] vs h k = absurd k
  pin_halts halts.NoMemory name m t (u ∷ us) vs h k = absurd k
  pin_halts halts.Syntax name m t (u ∷ us) vs h k = let p = k.0 in rw (h, p) (ap (λ z. Err (syntax z)) k.1)
  pin_halts (halts.Refused r) name m t (u ∷ us) vs h k = let p = k.0 in let n = k.1 in let same = k.3 in rw (h, p, n, same) (ap (λ z. Err (refusal refusals.OtherEnd z)) k.2)

-- ---- what stops

pub passes_halts : (e : Halt) (put : Option Extent → MacroText) (done : MacroText → MacroText) (o : Result (Option Extent × List Token) (List Token)) (us : List Token) → Passes (Err e) o us → Halts e (keeping put done o) us
passes_halts halts.NoMemory put done o us h = tt
passes_halts halts.Syntax put done o us h = ap (keeping put done) h.1
passes_halts (halts.Refused r) put done o us h = absurd (let bad = h.0 in cc)

-- ---- a whole pin

pub is_end_look : (l : Look) → is_end l ≡ true → l ≡ looks.End
is_end_look looks.End h = refl
is_end_look _ h = absurd cc

module _ (source : List ℕ) where
  pub no_pin_end : (name : Token) (m : MacroText) (l : Look) (t : Token) (ts : List Token) → l ≡ look_of source t → is_end l ≡ false → read (pin_end source name) m (t ∷ ts) ≡ Err (syntax (t ∷ ts))
  unfolding pin_end
  no_pin_end name m l t ts e h = let other : is_end (look_of source t) ≡ false = subst (λ z. is_end z ≡ false) e h in rw other refl

  module _ (limits : Limits) where
    pub can_name_goes : (t : Token) → can_name source limits t ≡ true → is_the_end t.kind ≡ false
    unfolding can_name
    can_name_goes t h = word_goes t.kind (is_too_long limits (text source t) || is_name (text source t)) h

    pub pin_bad : (m : MacroText) (t u : Token) (us : List Token) → look_of source t ≡ looks.Pin → can_name source limits u ≡ false → read (pin source limits) m (t ∷ u ∷ us) ≡ Err (syntax (u ∷ us))
    unfolding pin
    pin_bad m t u us h k = rw (h, k) refl

    pub pin_ok : (m n : MacroText) (t u : Token) (us : List Token) → look_of source t ≡ looks.Pin → can_name source limits u ≡ true → name_pin source limits u m ≡ Ok n → read (pin source limits) m (t ∷ u ∷ us) ≡ read (pin_body source u) n us
    unfolding pin
    pin_ok m n t u us h k g = rw (h, k, g) refl

    pub pin_refused : (e : Halt) (m n : MacroText) (t u : Token) (us : List Token) → look_of source t ≡ looks.Pin → can_name source limits u ≡ true → Does {U = Unit {0}} (Err e) n (name_pin source limits u m) → Halts e (read (pin source limits) m (t ∷ u ∷ us)) (u ∷ us)
    unfolding pin
    pin_refused halts.NoMemory m n t u us h k g = tt
    pin_refused halts.Syntax m n t u us h k g = absurd g
    pin_refused (halts.Refused r) m n t u us h k g = rw (h, k, g) refl
