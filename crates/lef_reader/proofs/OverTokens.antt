-- Going over tokens.
use Rattle.std.proofs.Common.{◌≡◌, ℕ, Bool, true, false, ◌&&◌, List, ◌∷◌, Option, Ok, Err, refl, sym, ap, subst, ◌∙◌}
use Rattle.text_scan.specs.declared.token.Kind.{Kind}
use Rattle.text_scan.specs.declared.token.Kind.TheVariants as kinds
use Rattle.text_scan.specs.declared.token.Token.{Token}
use Rattle.text_scan.specs.Left.{is_end, followed, left}
use Rattle.lef_reader.specs.declared.extent.Extent.{Extent}
use Rattle.lef_reader.specs.declared.tokens.Tokens.{Tokens}
use Rattle.lef_reader.specs.declared.until.Until.{Until}
use Rattle.lef_reader.specs.declared.until.Closing.{Closing}
use Rattle.lef_tokens.specs.declared.look.Look.{Look}
use Rattle.lef_tokens.specs.declared.look.Look.TheVariants as looks
use Rattle.lef_tokens.specs.Looks.{text, look_of, is_over, is_same_word, is_word_kind, is_passed, is_passed_kind}
use Rattle.lef_tokens.specs.Looks as look_tests
use Rattle.lef_reader.specs.Passing.{extended, until_word, stops, passed, closes, behind}
use Rattle.lef_reader.specs.Steps.{more, rest}

-- the tokens from the one ahead on
followed_more : (r : Tokens) → followed r.ahead (left r.cursor) ≡ rest r
unfolding followed more
followed_more r = go (is_end r.ahead.kind) refl
  where
    go : (b : Bool) → is_end r.ahead.kind ≡ b → followed r.ahead (left r.cursor) ≡ rest r
    go true e = rw e refl
    go false e = rw e refl

pub begins : (r : Tokens) (ts : List Token) → ts ≡ followed r.ahead (left r.cursor) → rest r ≡ ts
begins r ts e = sym (followed_more r) ∙ sym e

pub shifted : (r q : Tokens) → is_end r.ahead.kind ≡ false → left r.cursor ≡ followed q.ahead (left q.cursor) → rest r ≡ r.ahead ∷ rest q
unfolding more
shifted r q e f = rw e (ap (λ z. r.ahead ∷ z) (f ∙ followed_more q))

pub passed_goes : (k : Kind) → is_passed_kind k ≡ true → is_end k ≡ false
passed_goes kinds.Word h = refl
passed_goes kinds.Str h = refl
passed_goes kinds.Sign h = absurd cc
passed_goes kinds.Unfinished h = absurd cc
passed_goes kinds.LineEnd h = absurd cc
passed_goes kinds.End h = absurd cc

pub word_goes : (k : Kind) (b : Bool) → (is_word_kind k && b) ≡ true → is_end k ≡ false
word_goes kinds.Word b h = refl
word_goes kinds.Str b h = absurd cc
word_goes kinds.Sign b h = absurd cc
word_goes kinds.Unfinished b h = absurd cc
word_goes kinds.LineEnd b h = absurd cc
word_goes kinds.End b h = absurd cc

module _ (source : List ℕ) where
  pub stops_goes : (until : Until) (t : Token) → stops source until t ≡ true → is_end t.kind ≡ false
  unfolding stops
  stops_goes until t h = word_goes t.kind (is_same_word (text source t) (until_word until)) h

  -- a token that isn't the end
  pub look_goes : (t : Token) (l : Look) → look_of source t ≡ l → is_over l ≡ false → is_end t.kind ≡ false
  unfolding look_of
  look_goes t l h k = go t.kind refl
    where
      go : (kind : Kind) → t.kind ≡ kind → is_end t.kind ≡ false
      go kinds.Word e = rw e refl
      go kinds.Str e = rw e refl
      go kinds.Sign e = rw e refl
      go kinds.Unfinished e = rw e refl
      go kinds.LineEnd e = rw e refl
      go kinds.End e = absurd (let here : look_of source t ≡ looks.Over = rw e refl in let over : looks.Over ≡ l = sym here ∙ h in let bad : is_over looks.Over ≡ false = subst (λ z. is_over z ≡ false) (sym over) k in cc)

  pub passed_on : (until : Until) (e : Option Extent) (t : Token) (ts : List Token) → is_passed t ≡ true → stops source until t ≡ false → passed source until e (t ∷ ts) ≡ passed source until (extended e t) ts
  unfolding passed
  passed_on until e t ts h k = rw (h, k) refl

  pub passed_stop : (until : Until) (e : Option Extent) (t : Token) (ts : List Token) → is_passed t ≡ true → stops source until t ≡ true → passed source until e (t ∷ ts) ≡ Ok (e, ts)
  unfolding passed
  passed_stop until e t ts h k = rw (h, k) refl

  pub passed_end : (until : Until) (e : Option Extent) (t : Token) (ts : List Token) → is_passed t ≡ false → passed source until e (t ∷ ts) ≡ Err (t ∷ ts)
  unfolding passed
  passed_end until e t ts h = rw h refl

  pub behind_on : (c : Closing) (after : Bool) (t : Token) (ts : List Token) → is_passed t ≡ true → (after && closes source c t) ≡ false → behind source c after (t ∷ ts) ≡ behind source c (look_tests.is_end (look_of source t)) ts
  unfolding behind
  behind_on c after t ts h k = rw (h, k) refl

  pub behind_stop : (c : Closing) (after : Bool) (t : Token) (ts : List Token) → is_passed t ≡ true → (after && closes source c t) ≡ true → behind source c after (t ∷ ts) ≡ Ok ts
  unfolding behind
  behind_stop c after t ts h k = rw (h, k) refl

  pub behind_end : (c : Closing) (after : Bool) (t : Token) (ts : List Token) → is_passed t ≡ false → behind source c after (t ∷ ts) ≡ Err (t ∷ ts)
  unfolding behind
  behind_end c after t ts h = rw h refl
