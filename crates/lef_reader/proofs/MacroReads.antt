-- What is read of macros.
use Rattle.std.proofs.Common.{◌≡◌, ℕ, true, false, List, [], ◌∷◌, Option, None, Result, Ok, Err, refl, sym, ap, subst, ◌∙◌}
use Rattle.text_scan.specs.declared.limits.Limits.{Limits}
use Rattle.text_scan.specs.declared.token.Token.{Token}
use Rattle.grammar.specs.Reading.{syntax, refusal, read}
use Rattle.lef_reader.specs.declared.extent.Extent.{Extent}
use Rattle.lef_reader.specs.declared.halt.Halt.{Halt}
use Rattle.lef_reader.specs.declared.halt.Halt.TheVariants as halts
use Rattle.lef_reader.specs.declared.halt.Refusal.TheVariants as refusals
use Rattle.lef_tokens.specs.declared.look.Look.{Look}
use Rattle.lef_tokens.specs.declared.look.Look.TheVariants as looks
use Rattle.lef_reader.specs.declared.macro_text.MacroText.{MacroText}
use Rattle.lef_reader.specs.declared.until.Until.TheVariants as untils
use Rattle.lef_tokens.specs.Looks.{look_of, is_end, is_statement, is_macro_plain}
use Rattle.lef_reader.specs.Passing.{extended, passed}
use Rattle.lef_reader.specs.MacroActions.{end_macro}
use Rattle.lef_reader.specs.MacroGrammar.{rest_to, rest_from, semicolon, shapes, size_rest, size, macro_statement, macro_end, pin, item}
use Rattle.lef_reader.specs.Steps.{Passes, EndsName, Gives}
use Rattle.lef_reader.proofs.Skipped.{kept_read, keeping}

-- another statement of a macro
plain_macro : (l : Look) → is_statement l ≡ true → (l ≡ looks.Pin → ⊥) → (l ≡ looks.Shapes → ⊥) → (l ≡ looks.Size → ⊥) → is_macro_plain l ≡ true
plain_macro looks.Pin h a b c = absurd (a refl)
plain_macro looks.Shapes h a b c = absurd (b refl)
plain_macro looks.Size h a b c = absurd (c refl)
plain_macro looks.End h a b c = absurd cc
plain_macro looks.Barred h a b c = absurd cc
plain_macro looks.Over h a b c = absurd cc
plain_macro _ h a b c = refl

abbrev pub sized : MacroText → Option Extent → MacroText
sized m e = record m { size = e }

abbrev pub same : MacroText → MacroText
same m = m

pub passes_gives : (r : Result (Option Extent) Halt) (put : Option Extent → MacroText) (o : Result (Option Extent × List Token) (List Token)) (us : List Token) (e : Option Extent) → r ≡ Ok e → Passes r o us → keeping put same o ≡ Ok (put e, us)
passes_gives (Ok x) put o us e h g = let same_extent : x ≡ e = cc in ap (keeping put same) g ∙ ap (λ z. Ok (put z, us)) same_extent
passes_gives (Err x) put o us e h g = absurd cc

module _ (source : List ℕ) where
  pub size_read : (m : MacroText) (t : Token) (ts : List Token) → look_of source t ≡ looks.Size → read (size source) m (t ∷ ts) ≡ keeping (sized m) same (passed source untils.Semicolon None ts)
  unfolding size size_rest semicolon
  size_read m t ts h = rw h (kept_read source untils.Semicolon (sized m) (λ t m. record m { size = extended m.size t }) same (λ e t. refl) None ts)

  -- ---- END and the macro's name

  pub macro_ends : (r : Result (Unit {0}) Halt) (name : Token) (m : MacroText) (t : Token) (us vs : List Token) → look_of source t ≡ looks.End → EndsName source name r us vs → Gives r (read (macro_end source name) m (t ∷ us)) m vs
  unfolding macro_end end_macro
  macro_ends (Ok u) name m t [] vs h k = absurd k
  macro_ends (Ok u) name m t (v ∷ us) vs h k = let p = k.0 in let n = k.1 in rw (h, p, n) (ap (λ z. Ok (m, z)) k.2)
  macro_ends (Err halts.NoMemory) name m t us vs h k = tt
  macro_ends (Err halts.Syntax) name m t [] vs h k = absurd k
  macro_ends (Err halts.Syntax) name m t (v ∷ us) vs h k = let p = k.0 in rw (h, p) (ap (λ z. Err (syntax z)) k.1)
  macro_ends (Err (halts.Refused e)) name m t [] vs h k = absurd k
  macro_ends (Err (halts.Refused e)) name m t (v ∷ us) vs h k = let p = k.0 in let n = k.1 in let last = k.3 in rw (h, p, n, last) (ap (λ z. Err (refusal refusals.OtherEnd z)) k.2)

  pub no_macro_end : (name : Token) (m : MacroText) (l : Look) (t : Token) (ts : List Token) → l ≡ look_of source t → is_end l ≡ false → read (macro_end source name) m (t ∷ ts) ≡ Err (syntax (t ∷ ts))
  unfolding macro_end
  no_macro_end name m l t ts e h = let other : is_end (look_of source t) ≡ false = subst (λ z. is_end z ≡ false) e h in rw other refl

  -- ---- statements of a macro

  module _ (limits : Limits) where
    pub item_pin : (m : MacroText) (t : Token) (ts : List Token) → look_of source t ≡ looks.Pin → read (item source limits) m (t ∷ ts) ≡ read (pin source limits) m (t ∷ ts)
    unfolding item pin
    item_pin m t ts h = rw h refl

    pub item_shapes : (m : MacroText) (t : Token) (ts : List Token) → look_of source t ≡ looks.Shapes → read (item source limits) m (t ∷ ts) ≡ read (rest_to source untils.End) m ts
    unfolding item pin shapes
    item_shapes m t ts h = rw h refl

    pub item_size : (m : MacroText) (t : Token) (ts : List Token) → look_of source t ≡ looks.Size → read (item source limits) m (t ∷ ts) ≡ read (size source) m (t ∷ ts)
    unfolding item pin shapes size
    item_size m t ts h = rw h refl

    item_plain : (l : Look) (m : MacroText) (t : Token) (ts : List Token) → look_of source t ≡ l → is_macro_plain l ≡ true → read (item source limits) m (t ∷ ts) ≡ read (rest_from source t) m ts
    unfolding item pin shapes size macro_statement
    item_plain looks.Pin m t ts h k = absurd cc
    item_plain looks.Shapes m t ts h k = absurd cc
    item_plain looks.Size m t ts h k = absurd cc
    item_plain looks.End m t ts h k = absurd cc
    item_plain looks.Barred m t ts h k = absurd cc
    item_plain looks.Over m t ts h k = absurd cc
    item_plain _ m t ts h k = rw h refl

    pub item_other : (l : Look) (m : MacroText) (t : Token) (ts : List Token) → l ≡ look_of source t → is_statement (look_of source t) ≡ true → (l ≡ looks.Pin → ⊥) → (l ≡ looks.Shapes → ⊥) → (l ≡ looks.Size → ⊥)
        → read (item source limits) m (t ∷ ts) ≡ read (rest_from source t) m ts
    item_other l m t ts e h a b c = item_plain l m t ts (sym e) (plain_macro l (subst (λ z. is_statement z ≡ true) (sym e) h) a b c)
