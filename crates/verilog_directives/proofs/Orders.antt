-- What directives ask for.
use Rattle.std.proofs.Common.{◌≡◌, ℕ, zero, suc, ◌≤◌, Bool, true, false, List, [], ◌∷◌, drop, refl}
use Rattle.std.specs.Prelude.{Some, None, slice_get, if◌then◌else◌, ◌==◌, ◌&&◌}
use Rattle.std.specs.List.{slice_index_or}
use Rattle.text_scan.specs.declared.token.Token.{Token}
use Rattle.text_scan.specs.declared.token.Kind.{Kind}
use Rattle.text_scan.specs.declared.token.Kind.TheVariants.{Word, Str, Sign, Unfinished, LineEnd, End}
use Rattle.text_scan.specs.Left.{is_end}
use Rattle.verilog_directives.specs.Signs.{is_word, text, name_in, name_of}
use Rattle.verilog_directives.specs.declared.order.Order.{Order}
use Rattle.verilog_directives.specs.declared.order.Order.TheVariants.{Pass}
use Rattle.verilog_directives.specs.declared.word.Directive.TheVariants.{Alone}
use Rattle.verilog_directives.specs.Words.{directive_of}
use Rattle.verilog_directives.specs.Signs.{word_after}
use Rattle.verilog_directives.specs.Conditions.{is_read}
use Rattle.verilog_directives.specs.Left.{after, State, Turn, Goes, where_read}
use Rattle.verilog_directives.specs.Orders.{Asks}

word_no_end : (k : Kind) → is_word k ≡ true → is_end k ≡ false
word_no_end Word e = refl
word_no_end Str e = cc
word_no_end Sign e = cc
word_no_end Unfinished e = cc
word_no_end LineEnd e = cc
word_no_end End e = cc

-- a token with a name isn't the end
pub named_no_end : (source : List ℕ) (t : Token) (name : List ℕ) → Some name ≡ name_of source t → is_end t.kind ≡ false
unfolding name_of
named_no_end source t name e =
    elim (is_word t.kind) as (λ b. is_word t.kind ≡ b → Some name ≡ (if b then name_in (text source t) else None) → is_end t.kind ≡ false) [
      | true ↦ λ is e. word_no_end t.kind is
      | false ↦ λ is e. cc
    ] refl e

-- the token at a place after the first
pub after_first : (ts : List Token) (mark : Token) (k : ℕ) (t : Token) → slice_get ts (suc k) ≡ Some t → after k mark (drop 1 ts) ≡ t
after_first [] mark k t e = cc
after_first (x ∷ ts) mark k t e = here ts k e where
  here : (ts : List Token) (k : ℕ) → slice_get ts k ≡ Some t → slice_index_or ts k mark ≡ t
  here [] k e = cc
  here (y ∷ ts) zero e = cc
  here (y ∷ ts) (suc k) e = here ts k e

pub first_after : (ts : List Token) (t next : Token) → slice_get ts 0 ≡ Some next → after 0 t ts ≡ next
first_after [] t next e = cc
first_after (x ∷ xs) t next e = cc

-- in a text that isn't read a directive is gone over
pub asks_where_read : (source : List ℕ) (s : State) (mark : Token) (many : ℕ) (order : Order) (asked : Turn) (b : Bool) → b ≡ is_read s.conditions → 1 ≤ many
    → Asks source s mark many order asked → Asks source s mark many (if b then order else Pass) (where_read s asked)
asks_where_read source s mark many order asked b is some asks =
    rw (← is) (elim b as (λ z. Asks source s mark many (if z then order else Pass) (if z then asked else Goes 0 s)) [
      | true ↦ asks
      | false ↦ record { turn = refl; lawful = tt; held = some }
    ])

-- the word of a directive that is one isn't the text's end
pub word_no_end_of : (source : List ℕ) (mark t : Token) → (directive_of (word_after source mark t) ≡ Alone → ⊥) → is_end t.kind ≡ false
unfolding word_after directive_of
word_no_end_of source mark t some =
    elim (is_word t.kind) as (λ b. is_word t.kind ≡ b → (directive_of (if b && t.span.start == mark.span.end then text source t else []) ≡ Alone → ⊥) → is_end t.kind ≡ false) [
      | true ↦ λ is some. word_no_end t.kind is
      | false ↦ λ is some. absurd (some refl)
    ] refl some
