-- What is read of what is passed over.
use Rattle.std.proofs.Common.{◌≡◌, ℕ, Bool, true, false, ◌&&◌, List, [], ◌∷◌, Option, None, Result, Ok, Err, refl, sym, ap, subst, ◌∙◌}
use Rattle.text_scan.specs.declared.token.Kind.{Kind}
use Rattle.text_scan.specs.declared.token.Kind.TheVariants as kinds
use Rattle.text_scan.specs.declared.token.Token.{Token}
use Rattle.grammar.specs.Rule.{Rule, none, one, seq, many}
use Rattle.grammar.specs.Reading.{Stop, syntax, ◌>>=◌, read}
use Rattle.lef_reader.specs.declared.extent.Extent.{Extent}
use Rattle.lef_reader.specs.declared.halt.Halt.{Halt}
use Rattle.lef_reader.specs.declared.halt.Halt.TheVariants as halts
use Rattle.lef_reader.specs.declared.halt.Refusal.{Refusal}
use Rattle.lef_reader.specs.declared.macro_text.MacroText.{MacroText}
use Rattle.lef_reader.specs.declared.until.Until.{Until}
use Rattle.lef_reader.specs.declared.until.Until.TheVariants as untils
use Rattle.lef_tokens.specs.Looks.{text, is_passed, is_passed_kind, is_word_kind, is_same_word}
use Rattle.lef_reader.specs.Passing.{extended, until_word, stops, passed, dropped, past_statement, past_semicolon}
use Rattle.lef_reader.specs.MacroGrammar.{goes_over, rest_to, rest_from, semicolon}
use Rattle.lef_reader.specs.Steps.{IsBehind, Halts, Gives}

abbrev pub Read : Type 0 → Type 0
Read S = Result (S × List Token) (Stop Token Refusal)

-- what is read where these tokens are passed over
abbrev pub behind_read : {S : Type 0} → S → Result (List Token) (List Token) → Read S
behind_read s (Ok us) = Ok (s, us)
behind_read s (Err us) = Err (syntax us)

pub gives_behind : {U S : Type 0} (r : Result U Halt) (o : Result (List Token) (List Token)) (x : Read S) (s : S) (us : List Token) → x ≡ behind_read s o → IsBehind r o us → Gives r x s us
gives_behind (Ok u) o x s us e h = e ∙ ap (behind_read s) h
gives_behind (Err halts.NoMemory) o x s us e h = tt
gives_behind (Err halts.Syntax) o x s us e h = e ∙ ap (behind_read s) h.1
gives_behind (Err (halts.Refused r)) o x s us e h = absurd (let bad = h.0 in cc)

-- the same of what is read, however it is written
pub gives_along : {U S : Type 0} (r : Result U Halt) (x y : Read S) (s : S) (us : List Token) → x ≡ y → Gives r y s us → Gives r x s us
gives_along r x y s us e h = subst (λ z. Gives r z s us) (sym e) h

pub halts_along : {S : Type 0} (h : Halt) (x y : Read S) (us : List Token) → x ≡ y → Halts h y us → Halts h x us
halts_along h x y us e g = subst (λ z. Halts h z us) (sym e) g

-- what halts goes no further
pub halts_then : {S : Type 0} (h : Halt) (x : Read S) (us : List Token) (f : S × List Token → Read S) → Halts h x us → Halts h (x >>= f) us
halts_then halts.NoMemory x us f g = tt
halts_then halts.Syntax x us f g = ap (λ z. z >>= f) g
halts_then (halts.Refused e) x us f g = ap (λ z. z >>= f) g

-- what is read where something is kept of what is passed over
abbrev pub keeping : (Option Extent → MacroText) → (MacroText → MacroText) → Result (Option Extent × List Token) (List Token) → Read MacroText
keeping put done (Ok x) = Ok (done (put x.0), x.1)
keeping put done (Err us) = Err (syntax us)

word_passed : (k : Kind) (b : Bool) → is_passed_kind k ≡ false → (is_word_kind k && b) ≡ false
word_passed kinds.Word b h = absurd cc
word_passed kinds.Str b h = refl
word_passed kinds.Sign b h = refl
word_passed kinds.Unfinished b h = refl
word_passed kinds.LineEnd b h = refl
word_passed kinds.End b h = refl

module _ (source : List ℕ) where
  never_stops : (until : Until) (t : Token) → is_passed t ≡ false → stops source until t ≡ false
  unfolding stops
  never_stops until t h = word_passed t.kind (is_same_word (text source t) (until_word until)) h

  pub semicolon_read : (m : MacroText) (ts : List Token) → read (semicolon source) m ts ≡ behind_read m (past_semicolon source ts)
  unfolding semicolon past_semicolon
  semicolon_read m [] = refl
  semicolon_read m (t ∷ ts) = go (stops source untils.Semicolon t) refl
    where
      go : (b : Bool) → stops source untils.Semicolon t ≡ b → read (semicolon source) m (t ∷ ts) ≡ behind_read m (past_semicolon source (t ∷ ts))
      go true e = rw e refl
      go false e = rw e refl

  -- words and strings up to a stopping word
  pub rest_read : {S : Type 0} (until : Until) (e : Option Extent) (s : S) (ts : List Token) → read (rest_to source until) s ts ≡ behind_read s (dropped (passed source until e ts))
  unfolding rest_to passed goes_over
  rest_read until e s [] = refl
  rest_read {S} until e s (t ∷ ts) = go (is_passed t) (stops source until t) refl refl (rest_read until (extended e t) s ts)
    where
      go : (p b : Bool) → is_passed t ≡ p → stops source until t ≡ b → read (rest_to source until) s ts ≡ behind_read s (dropped (passed source until (extended e t) ts))
          → read (rest_to source until) s (t ∷ ts) ≡ behind_read s (dropped (passed source until e (t ∷ ts)))
      go true true h k more = rw (h, k, k) refl
      go true false h k more = rw (h, k) more
      go false b h k more = let never = never_stops until t h in rw (h, never) refl

  -- the rest of a statement
  pub statement_read : {S : Type 0} (s : S) (t : Token) (ts : List Token) → read (rest_from source t) s ts ≡ behind_read s (past_statement source (t ∷ ts))
  unfolding rest_from past_statement
  statement_read {S} s t ts = go (stops source untils.Semicolon t) refl
    where
      go : (b : Bool) → stops source untils.Semicolon t ≡ b → read (rest_from source t) s ts ≡ behind_read s (past_statement source (t ∷ ts))
      go true e = rw e refl
      go false e = rw e (rest_read untils.Semicolon None s ts)

  abbrev kept_rule : Until → (Token → MacroText → MacroText) → (MacroText → MacroText) → Rule Token MacroText Refusal
  kept_rule until grow done = seq (many (one (goes_over source until) (λ t m. Ok (grow t m)) (λ t. none))) (one (stops source until) (λ t m. Ok (done m)) (λ t. none))

  pub kept_read : (until : Until) (put : Option Extent → MacroText) (grow : Token → MacroText → MacroText) (done : MacroText → MacroText) → ((e : Option Extent) (t : Token) → grow t (put e) ≡ put (extended e t))
      → (e : Option Extent) (ts : List Token)
      → read (seq (many (one (goes_over source until) (λ t m. Ok (grow t m)) (λ t. none))) (one (stops source until) (λ t m. Ok (done m)) (λ t. none))) (put e) ts ≡ keeping put done (passed source until e ts)
  unfolding passed goes_over
  kept_read until put grow done h e [] = refl
  kept_read until put grow done h e (t ∷ ts) = go (is_passed t) (stops source until t) refl refl (kept_read until put grow done h (extended e t) ts)
    where
      go : (p b : Bool) → is_passed t ≡ p → stops source until t ≡ b → read (kept_rule until grow done) (put (extended e t)) ts ≡ keeping put done (passed source until (extended e t) ts)
          → read (kept_rule until grow done) (put e) (t ∷ ts) ≡ keeping put done (passed source until e (t ∷ ts))
      go true true g k more = rw (g, k, k) refl
      go true false g k more = rw (g, k) (ap (λ m. read (kept_rule until grow done) m ts) (h e t) ∙ more)
      go false b g k more = let never = never_stops until t g in rw (g, never) refl
