-- One token of look-ahead is enough.
use Rattle.std.proofs.Common.{◌≡◌, ℕ, Bool, true, false, ◌||◌, ◌&&◌, List, [], ◌∷◌, length, refl, sym, ap, subst, ◌∙◌, arith}
use Rattle.std.specs.Cmp.Lexicographic.{bytes_decides}
use Rattle.text_scan.specs.declared.limits.Limits.{Limits}
use Rattle.text_scan.specs.declared.token.Kind.{Kind}
use Rattle.text_scan.specs.declared.token.Kind.TheVariants as kinds
use Rattle.text_scan.specs.declared.token.Token.{Token}
use Rattle.grammar.specs.Reading.{IsSimple, begins}
use Rattle.lef_tokens.specs.declared.look.Look.{Look}
use Rattle.lef_tokens.specs.declared.look.Look.TheVariants as looks
use Rattle.lef_reader.specs.declared.lef_text.LefText.{LefText}
use Rattle.lef_reader.specs.declared.macro_text.MacroText.{MacroText}
use Rattle.lef_reader.specs.declared.until.Opened.{Opened}
use Rattle.lef_reader.specs.declared.until.Until.{Until}
use Rattle.lef_reader.specs.declared.until.Until.TheVariants as untils
use Rattle.lef_tokens.specs.Looks.{text, look_of, kind_look, word_look, longer_look, long_look, lowered, is_same_word, is_word_kind, is_passed, not, is_statement, is_end, is_pin, is_shapes, is_size, is_direction, is_use, is_port, is_tristate, is_output, is_pin_plain, is_macro_plain, is_plain, is_extension, is_block, is_section, is_macro, is_over, is_library, can_name}
use Rattle.lef_reader.specs.Passing.{until_word, stops}
use Rattle.lef_reader.specs.MacroGrammar.{goes_over, rest_to, rest_from, semicolon, direction_end, direction, use_statement, port_rest, port, pin_statement, pin_item, pin_end, pin_body, shapes, size_rest, size, macro_statement, macro_end, pin, item, macro_body}
use Rattle.lef_reader.specs.OutsideGrammar.{statement, extension, block, ending_rest, ending, section_rest, section, macro_name, title, begun, outside}

-- ---- a semicolon is no keyword

first_true : (a b : Bool) → (a && b) ≡ true → (a ≡ true) × (b ≡ true)
first_true true true h = (refl, refl)
first_true true false h = absurd cc
first_true false b h = absurd cc

lowered_length : (w : List ℕ) → length (lowered w) ≡ length w
lowered_length [] = refl
lowered_length (b ∷ bs) = let more : length (lowered bs) ≡ length bs = lowered_length bs in omega arith

semicolon_word : (w : List ℕ) → is_same_word w (until_word untils.Semicolon) ≡ true → word_look w ≡ looks.Other
unfolding word_look longer_look long_look is_same_word
semicolon_word w h =
    let same : lowered w ≡ 59 ∷ [] = (bytes_decides (lowered w) (59 ∷ [])).0 h in
    let count : length w ≡ 1 = sym (lowered_length w) ∙ ap length same in
    rw (count, same) refl

module _ (source : List ℕ) where
  pub semicolon_look : (t : Token) → stops source untils.Semicolon t ≡ true → look_of source t ≡ looks.Other
  unfolding stops look_of text
  semicolon_look t h = go t.kind refl (first_true (is_word_kind t.kind) (is_same_word (text source t) (until_word untils.Semicolon)) h)
    where
      go : (k : Kind) → t.kind ≡ k → (is_word_kind t.kind ≡ true) × (is_same_word (text source t) (until_word untils.Semicolon) ≡ true) → kind_look t.kind (text source t) ≡ looks.Other
      go kinds.Word e g = rw e (semicolon_word (text source t) g.1)
      go kinds.Str e g = absurd (let bad : is_word_kind kinds.Str ≡ true = subst (λ k. is_word_kind k ≡ true) e g.0 in cc)
      go kinds.Sign e g = absurd (let bad : is_word_kind kinds.Sign ≡ true = subst (λ k. is_word_kind k ≡ true) e g.0 in cc)
      go kinds.Unfinished e g = absurd (let bad : is_word_kind kinds.Unfinished ≡ true = subst (λ k. is_word_kind k ≡ true) e g.0 in cc)
      go kinds.LineEnd e g = absurd (let bad : is_word_kind kinds.LineEnd ≡ true = subst (λ k. is_word_kind k ≡ true) e g.0 in cc)
      go kinds.End e g = absurd (let bad : is_word_kind kinds.End ≡ true = subst (λ k. is_word_kind k ≡ true) e g.0 in cc)

  -- no token that looks so is in next
  abbrev pub Not : Look → (Token → Bool) → Type 0
  Not l next = (t : Token) → look_of source t ≡ l → next t ≡ false

  by : (p : Look → Bool) (next : Token → Bool) → ((l : Look) → p l ≡ true → Not l next) → (t : Token) → p (look_of source t) ≡ true → next t ≡ false
  by p next h t e = h (look_of source t) e t refl

  -- ---- what is passed over

  over_stops : (until : Until) (next : Token → Bool) (t : Token) → goes_over source until t ≡ true → (stops source until t || (false && next t)) ≡ false
  unfolding goes_over
  over_stops until next t h = go (is_passed t) (stops source until t) h
    where
      go : (p b : Bool) → (p && not b) ≡ true → (b || (false && next t)) ≡ false
      go true false g = refl
      go true true g = absurd cc
      go false b g = absurd cc

  pub rest_simple : (S : Type 0) (until : Until) (next : Token → Bool) → IsSimple (rest_to source {S = S} until) next
  unfolding rest_to IsSimple
  rest_simple S until next = ((refl, refl, over_stops until next, (λ t e. tt)), (λ t e. tt))

  pub from_simple : (S : Type 0) (t : Token) (next : Token → Bool) → IsSimple (rest_from source {S = S} t) next
  unfolding rest_from IsSimple
  from_simple S t next = go (stops source untils.Semicolon t) refl
    where
      go : (b : Bool) → stops source untils.Semicolon t ≡ b → IsSimple (rest_from source {S = S} t) next
      go true e = rw e tt
      go false e = rw e (rest_simple S untils.Semicolon next)

  -- ---- pins

  end_simple : (o : Bool) (next : Token → Bool) → IsSimple (direction_end source o) next
  unfolding direction_end semicolon IsSimple
  end_simple true next = (refl, apart, (λ t e u g. tt), (λ t e. tt))
    where
      none_by : (l : Look) (b : Bool) (t : Token) → l ≡ look_of source t → is_tristate l ≡ true → stops source untils.Semicolon t ≡ b → (stops source untils.Semicolon t || (false && next t)) ≡ false
      none_by l false t e h g = rw g refl
      none_by l true t e h g = absurd (let other : l ≡ looks.Other = e ∙ semicolon_look t g in let bad : is_tristate looks.Other ≡ true = subst (λ z. is_tristate z ≡ true) other h in cc)

      apart : (t : Token) → is_tristate (look_of source t) ≡ true → (stops source untils.Semicolon t || (false && next t)) ≡ false
      apart t h = none_by (look_of source t) (stops source untils.Semicolon t) t refl h refl
  end_simple false next = λ t e. tt

  pub pin_item_simple : (next : Token → Bool) → IsSimple (pin_item source) next
  unfolding pin_item direction use_statement port port_rest pin_statement semicolon IsSimple
  pin_item_simple next = (
    refl,
    by is_direction _ first,
    (λ t e u g. end_simple (is_output (look_of source u)) next),
    (refl, by is_use _ second, (λ t e u g v h. tt), (refl, by is_port _ third, (λ t e. ((refl, refl, over_stops untils.End next, (λ u g. tt)), (λ u g. tt))), (λ t e. from_simple MacroText t next))),
  )
    where
      first : (l : Look) → is_direction l ≡ true → Not l (λ t. (is_use (look_of source t) || (is_port (look_of source t) || is_pin_plain (look_of source t))) || (false && next t))
      first looks.Direction e = λ t g. rw g refl
      first _ e = absurd cc

      second : (l : Look) → is_use l ≡ true → Not l (λ t. (is_port (look_of source t) || is_pin_plain (look_of source t)) || (false && next t))
      second looks.Use e = λ t g. rw g refl
      second _ e = absurd cc

      third : (l : Look) → is_port l ≡ true → Not l (λ t. is_pin_plain (look_of source t) || (false && next t))
      third looks.Port e = λ t g. rw g refl
      third _ e = absurd cc

  -- with what a statement of a pin begins
  pub pin_item_begins : (l : Look) (t : Token) → l ≡ look_of source t → begins (pin_item source) t ≡ is_statement l
  unfolding pin_item direction use_statement port pin_statement
  pin_item_begins l t e = rw (sym e) (same l)
    where
      same : (l : Look) → (is_direction l || (is_use l || (is_port l || is_pin_plain l))) ≡ is_statement l
      same looks.End = refl
      same _ = refl

  pub body_simple : (name : Token) (next : Token → Bool) → IsSimple (pin_body source name) next
  unfolding pin_body pin_end pin_item direction use_statement port pin_statement IsSimple
  body_simple name next = ((refl, refl, apart, pin_item_simple _), (λ t e u g. tt))
    where
      apart : (t : Token) → (is_direction (look_of source t) || (is_use (look_of source t) || (is_port (look_of source t) || is_pin_plain (look_of source t)))) ≡ true → (is_end (look_of source t) || (false && next t)) ≡ false
      apart t h = go (look_of source t) h
        where
          go : (l : Look) → (is_direction l || (is_use l || (is_port l || is_pin_plain l))) ≡ true → (is_end l || (false && next t)) ≡ false
          go looks.End g = absurd cc
          go _ g = refl

  -- ---- macros

  module _ (limits : Limits) where
    pub item_simple : (next : Token → Bool) → IsSimple (item source limits) next
    unfolding item pin shapes size size_rest macro_statement semicolon IsSimple
    item_simple next = (
      refl,
      by is_pin _ first,
      (λ t e u g. body_simple u next),
      (refl, by is_shapes _ second, (λ t e. rest_simple MacroText untils.End next), (refl, by is_size _ third, (λ t e. ((refl, refl, over_stops untils.Semicolon next, (λ u g. tt)), (λ u g. tt))), (λ t e. from_simple MacroText t next))),
    )
      where
        first : (l : Look) → is_pin l ≡ true → Not l (λ t. (is_shapes (look_of source t) || (is_size (look_of source t) || is_macro_plain (look_of source t))) || (false && next t))
        first looks.Pin e = λ t g. rw g refl
        first _ e = absurd cc

        second : (l : Look) → is_shapes l ≡ true → Not l (λ t. (is_size (look_of source t) || is_macro_plain (look_of source t)) || (false && next t))
        second looks.Shapes e = λ t g. rw g refl
        second _ e = absurd cc

        third : (l : Look) → is_size l ≡ true → Not l (λ t. is_macro_plain (look_of source t) || (false && next t))
        third looks.Size e = λ t g. rw g refl
        third _ e = absurd cc

    -- with what a statement of a macro begins
    pub item_begins : (l : Look) (t : Token) → l ≡ look_of source t → begins (item source limits) t ≡ is_statement l
    unfolding item pin shapes size macro_statement
    item_begins l t e = rw (sym e) (same l)
      where
        same : (l : Look) → (is_pin l || (is_shapes l || (is_size l || is_macro_plain l))) ≡ is_statement l
        same looks.End = refl
        same _ = refl

    pub macro_simple : (name : Token) (next : Token → Bool) → IsSimple (macro_body source limits name) next
    unfolding macro_body macro_end item pin shapes size macro_statement IsSimple
    macro_simple name next = ((refl, refl, apart, item_simple _), (λ t e u g. tt))
      where
        apart : (t : Token) → (is_pin (look_of source t) || (is_shapes (look_of source t) || (is_size (look_of source t) || is_macro_plain (look_of source t)))) ≡ true → (is_end (look_of source t) || (false && next t)) ≡ false
        apart t h = go (look_of source t) h
          where
            go : (l : Look) → (is_pin l || (is_shapes l || (is_size l || is_macro_plain l))) ≡ true → (is_end l || (false && next t)) ≡ false
            go looks.End g = absurd cc
            go _ g = refl

    -- ---- outside macros

    but_not : (p q : Bool) → (p && not q) ≡ true → q ≡ true → ⊥
    but_not true false h e = absurd cc
    but_not true true h e = absurd cc
    but_not false q h e = absurd cc

    not_both : (p q : Bool) → q ≡ true → (p && not q) ≡ false
    not_both true q e = rw e refl
    not_both false q e = refl

    ending_simple : (next : Token → Bool) → IsSimple (ending_rest source) next
    unfolding ending_rest IsSimple
    ending_simple next = (refl, (λ t e. let off = not_both (is_passed t) (is_library (look_of source t)) e in rw off refl), (λ t e. tt), (λ t e. from_simple Opened t next))

    section_simple : (next : Token → Bool) → IsSimple (section_rest source limits) next
    unfolding section_rest IsSimple
    section_simple next = (refl, (λ t e. let off = not_both (is_passed t) (can_name source limits t) e in rw off refl), (λ t e. tt), (λ t e. from_simple Opened t next))

    pub begun_simple : (f : LefText) (next : Token → Bool) → IsSimple (begun source limits f) next
    unfolding begun statement extension block ending section title macro_name IsSimple
    begun_simple f next = (
      refl,
      by is_plain _ first,
      (λ t e. from_simple Opened t next),
      (
        refl,
        by is_extension _ second,
        (λ t e. rest_simple Opened untils.EndExt next),
        (
          refl,
          by is_block _ third,
          (λ t e. tt),
          (refl, by is_end _ fourth, (λ t e. ending_simple next), (refl, by is_section _ fifth, (λ t e. section_simple next), (λ t e u g. tt))),
        ),
      ),
    )
      where
        first : (l : Look) → is_plain l ≡ true → Not l (λ t. (is_extension (look_of source t) || (is_block (look_of source t) || (is_end (look_of source t) || (is_section (look_of source t) || is_macro (look_of source t))))) || (false && next t))
        first looks.Macro e = absurd cc
        first looks.Section e = absurd cc
        first looks.Block e = absurd cc
        first looks.Extension e = absurd cc
        first looks.End e = absurd cc
        first looks.Barred e = absurd cc
        first looks.Over e = absurd cc
        first _ e = λ t g. rw g refl

        second : (l : Look) → is_extension l ≡ true → Not l (λ t. (is_block (look_of source t) || (is_end (look_of source t) || (is_section (look_of source t) || is_macro (look_of source t)))) || (false && next t))
        second looks.Extension e = λ t g. rw g refl
        second _ e = absurd cc

        third : (l : Look) → is_block l ≡ true → Not l (λ t. (is_end (look_of source t) || (is_section (look_of source t) || is_macro (look_of source t))) || (false && next t))
        third looks.Block e = λ t g. rw g refl
        third _ e = absurd cc

        fourth : (l : Look) → is_end l ≡ true → Not l (λ t. (is_section (look_of source t) || is_macro (look_of source t)) || (false && next t))
        fourth looks.End e = λ t g. rw g refl
        fourth _ e = absurd cc

        fifth : (l : Look) → is_section l ≡ true → Not l (λ t. is_macro (look_of source t) || (false && next t))
        fifth looks.Section e = λ t g. rw g refl
        fifth _ e = absurd cc

    pub outside_simple : (f : LefText) (next : Token → Bool) → IsSimple (outside source limits f) next
    unfolding outside begun statement extension block ending section title IsSimple
    outside_simple f next = (refl, apart, begun_simple f next, tt)
      where
        apart : (t : Token) → (is_plain (look_of source t) || (is_extension (look_of source t) || (is_block (look_of source t) || (is_end (look_of source t) || (is_section (look_of source t) || is_macro (look_of source t)))))) ≡ true → (is_over (look_of source t) || (false && next t)) ≡ false
        apart t h = go (look_of source t) h
          where
            go : (l : Look) → (is_plain l || (is_extension l || (is_block l || (is_end l || (is_section l || is_macro l))))) ≡ true → (is_over l || (false && next t)) ≡ false
            go looks.Over g = absurd cc
            go _ g = refl
