-- Repetitions.
use Rattle.std.proofs.Common.{◌≡◌, ◌<◌, ℕ, Bool, true, false, List, ◌∷◌, length, Result, Ok, refl, sym, ap, subst, ◌∙◌}
use Rattle.text_scan.specs.declared.token.Token.{Token}
use Rattle.grammar.specs.Rule.{Rule, seq, many}
use Rattle.grammar.specs.Reading.{short, begins, ◌>>=◌, read, IsSimple}
use Rattle.grammar.proofs.Stops.{many_turn, many_end}
use Rattle.grammar.proofs.Tells.{Tells, shorter, tells}
use Rattle.lef_reader.specs.declared.halt.Halt.{Halt}
use Rattle.lef_reader.specs.declared.halt.Refusal.{Refusal}
use Rattle.lef_reader.specs.MacroGrammar.{direction, use_statement, port, pin_statement, pin_item, pin, shapes, size, macro_statement, item}
use Rattle.lef_reader.specs.Steps.{Halts, Gives}
use Rattle.text_scan.specs.declared.limits.Limits.{Limits}
use Rattle.lef_reader.proofs.Skipped.{Read, halts_along, halts_then}

module _ {S : Type 0} (a : Rule Token S Refusal) (simple : (next : Token → Bool) → IsSimple a next) (some : short a ≡ false) where
  abbrev again : S × List Token → Read S
  again x = read (many a) x.0 x.1

  pub turn_ok : (s m : S) (t : Token) (ts us : List Token) → begins a t ≡ true → read a s (t ∷ ts) ≡ Ok (m, us) → read (many a) m us ≡ read (many a) s (t ∷ ts)
  turn_ok s m t ts us b e = sym (many_turn a (λ t. false) (simple (λ t. false)) some s (t ∷ ts) b ∙ ap (λ r. r >>= again) e)

  pub turn_halts : (h : Halt) (s : S) (t : Token) (ts us : List Token) → begins a t ≡ true → Halts h (read a s (t ∷ ts)) us → Halts h (read (many a) s (t ∷ ts)) us
  turn_halts h s t ts us b e = halts_along h (read (many a) s (t ∷ ts)) (read a s (t ∷ ts) >>= again) us (many_turn a (λ t. false) (simple (λ t. false)) some s (t ∷ ts) b) (halts_then h (read a s (t ∷ ts)) us again e)

  pub turn_less : (s m : S) (ts us : List Token) → read a s ts ≡ Ok (m, us) → length us < length ts
  turn_less s m ts us e = shorter a (λ t. false) s ts (m, us) some (subst (λ o. Tells a (λ t. false) s ts o) e (tells a (λ t. false) (simple (λ t. false)) s ts))

pub turns_end : {S : Type 0} (a : Rule Token S Refusal) (s : S) (t : Token) (ts : List Token) → begins a t ≡ false → read (many a) s (t ∷ ts) ≡ Ok (s, t ∷ ts)
turns_end a s t ts b = many_end a s (t ∷ ts) b

-- ---- one after the other

pub then_ok : {U S : Type 0} (a b : Rule Token S Refusal) (r : Result U Halt) (s m n : S) (ts us vs : List Token) → read a s ts ≡ Ok (m, us) → Gives r (read b m us) n vs → Gives r (read (seq a b) s ts) n vs
then_ok {U} {S} a b r s m n ts us vs e g =
    let one : read (seq a b) s ts ≡ read b m us = ap (λ z. z >>= λ x. read b x.0 x.1) e in
    subst (λ z. Gives r z n vs) (sym one) g

pub then_halts : {S : Type 0} (a b : Rule Token S Refusal) (h : Halt) (s : S) (ts us : List Token) → Halts h (read a s ts) us → Halts h (read (seq a b) s ts) us
then_halts a b h s ts us e = halts_then h (read a s ts) us (λ x. read b x.0 x.1) e

pub short_item : (source : List ℕ) → short (pin_item source) ≡ false
unfolding pin_item direction use_statement port pin_statement
short_item source = refl

pub short_macro_item : (source : List ℕ) (limits : Limits) → short (item source limits) ≡ false
unfolding item pin shapes size macro_statement
short_macro_item source limits = refl

pub then_same : {S : Type 0} (a b : Rule Token S Refusal) (s m : S) (ts us : List Token) → read a s ts ≡ Ok (m, us) → read (seq a b) s ts ≡ read b m us
then_same a b s m ts us e = ap (λ z. z >>= λ x. read b x.0 x.1) e
