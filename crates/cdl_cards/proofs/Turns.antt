-- A word or a line further.
use Rattle.std.proofs.Common.{◌≡◌, ◌++◌, ℕ, Bool, true, false, List, [], ◌∷◌, refl, ◌∙◌}
use Rattle.std.proofs.Common.{ap, cond, subst, Option, Some, None}
use Rattle.std.specs.Option.{MatchOption}
use Rattle.text_scan.specs.Bytes.{begins_with}
use Rattle.cdl_cards.specs.Words.{PlacedWord, words}
use Rattle.cdl_cards.specs.Kinds.{after_first, is_pin_info, kind_by, kind_of_words, shown}
use Rattle.cdl_cards.specs.Cards.{cards, going_on, going_on_by, stray, stray_by, with_card}
use Rattle.cdl_cards.specs.Left.{IsStray, begun_left, going_left, Took, lines_left, stray_left, word_of, words_left}
use Rattle.cdl_cards.specs.declared.kinds.LineKind.{LineKind}
use Rattle.cdl_cards.specs.declared.kinds.LineKind.TheVariants as kinds
use Rattle.cdl_cards.specs.declared.line.Line.{Line}
use Rattle.cdl_cards.specs.declared.line.Lines.{Lines}
use Rattle.cdl_cards.specs.declared.line.Word.{Word}

pub shown_none : (ws : List PlacedWord) → ws ≡ [] → shown ws ≡ []
unfolding shown
shown_none ws e = rw e refl

pub shown_ends : (ws us : List PlacedWord) (w : PlacedWord) → ws ≡ w ∷ us → begins_with 36 w.bytes ≡ true → shown ws ≡ []
unfolding shown
shown_ends ws us w e h = rw (e, h) refl

pub shown_more : (ws us : List PlacedWord) (w : PlacedWord) → ws ≡ w ∷ us → begins_with 36 w.bytes ≡ false → shown ws ≡ w ∷ shown us
unfolding shown
shown_more ws us w e h = rw (e, h) refl

abbrev kind_left : Line → LineKind
kind_left line = kind_of_words (words_left line)

-- what stands behind the first byte of a line
abbrev pub behind : Line → List PlacedWord
behind line = shown (words line.number line.size 0 (after_first line.rest.now))

module _ (old new : Lines) (line : Line) (t : Took old new line) where
  begun_turn : begun_left old ≡ with_card (kind_left line) (shown (words_left line) ++ going_left new) (begun_left new)
  unfolding cards
  begun_turn = rw (t.lines, t.next, t.size, t.number) refl

  going_turn : going_left old ≡ going_on_by (kind_left line) (behind line) (going_left new)
  unfolding going_on
  going_turn = rw (t.lines, t.next, t.size, t.number) refl

  stray_turn : stray_left old ≡ stray_by (kind_left line) (shown (words_left line)) (stray_left new)
  unfolding stray
  stray_turn = rw (t.lines, t.next, t.size, t.number) refl

  pub begun_here : kinds.Card ≡ kind_left line → begun_left old ≡ (shown (words_left line) ++ going_left new) ∷ begun_left new
  begun_here k = begun_turn ∙ rw (← k) refl

  not_card : (k : LineKind) (c : List PlacedWord) (cs : List (List PlacedWord)) → (k ≡ kinds.Card → ⊥) → with_card k c cs ≡ cs
  not_card kinds.Passed c cs n = refl
  not_card kinds.More c cs n = refl
  not_card kinds.Card c cs n = absurd (n refl)

  pub begun_later : (kind_left line ≡ kinds.Card → ⊥) → begun_left old ≡ begun_left new
  begun_later n = begun_turn ∙ not_card _ _ _ n

  pub begun_same : (k : LineKind) → k ≡ kind_left line → (k ≡ kinds.Card → ⊥) → begun_left old ≡ begun_left new
  begun_same k e n = begun_later (λ c. n (e ∙ c))

  pub going_later : kinds.Passed ≡ kind_left line → going_left old ≡ going_left new
  going_later k = going_turn ∙ rw (← k) refl

  pub going_here : (ws : List PlacedWord) → kinds.More ≡ kind_left line → ws ≡ words line.number line.size 0 (after_first line.rest.now) → going_left old ≡ shown ws ++ going_left new
  going_here ws k e = going_turn ∙ rw (← k, e) refl

  pub going_ends : kinds.Card ≡ kind_left line → going_left old ≡ []
  going_ends k = going_turn ∙ rw (← k) refl

  pub stray_later : kinds.Passed ≡ kind_left line → stray_left old ≡ stray_left new
  stray_later k = stray_turn ∙ rw (← k) refl

  pub stray_here : kinds.More ≡ kind_left line → stray_left old ≡ shown (words_left line) ∷ []
  stray_here k = stray_turn ∙ rw (← k) refl

  pub stray_ends : kinds.Card ≡ kind_left line → stray_left old ≡ []
  stray_ends k = stray_turn ∙ rw (← k) refl

pub begun_none : (l : Lines) → lines_left l ≡ [] → begun_left l ≡ []
unfolding cards
begun_none l e = rw e refl

pub going_none : (l : Lines) → lines_left l ≡ [] → going_left l ≡ []
unfolding going_on
going_none l e = rw e refl

pub stray_none : (l : Lines) → lines_left l ≡ [] → stray_left l ≡ []
unfolding stray
stray_none l e = rw e refl

-- a card has a first word
card_shown : (ws : List PlacedWord) → kind_of_words ws ≡ kinds.Card → shown ws ≡ [] → ⊥
unfolding shown kind_by
card_shown [] k e = cc
card_shown (w ∷ ws) k e = go (begins_with 36 w.bytes) refl
  where
    go : (g : Bool) → begins_with 36 w.bytes ≡ g → ⊥
    go true h = let no : kinds.Passed ≡ kinds.Card = rw h at k in cc no
    go false h = let no : w ∷ shown ws ≡ [] = rw h at e in cc no

more_shown : (ws : List PlacedWord) → kind_of_words ws ≡ kinds.More → shown ws ≡ [] → ⊥
unfolding shown kind_by
more_shown [] k e = cc
more_shown (w ∷ ws) k e = go (begins_with 36 w.bytes) refl
  where
    go : (g : Bool) → begins_with 36 w.bytes ≡ g → ⊥
    go true h = let no : kinds.Passed ≡ kinds.More = rw h at k in cc no
    go false h = let no : w ∷ shown ws ≡ [] = rw h at e in cc no

-- the first word of a line that begins a card
pub first_word : (r : Option Word) (line after : Line) (old new : Lines) → kind_of_words (words_left line) ≡ kinds.Card
    → begun_left old ≡ (shown (words_left line) ++ going_left new) ∷ begun_left new
    → MatchOption r (shown (words_left line) ≡ []) (λ w. shown (words_left line) ≡ word_of w ∷ shown (words_left after))
    → MatchOption r (begun_left old ≡ []) (λ w. begun_left old ≡ (word_of w ∷ (shown (words_left after) ++ going_left new)) ∷ begun_left new)
first_word None line after old new k e h = absurd (card_shown (words_left line) k h)
first_word (Some w) line after old new k e h = e ∙ ap (λ ws. (ws ++ going_left new) ∷ begun_left new) h

kind_plus : (bytes : List ℕ) → kind_by bytes ≡ kinds.More → begins_with 43 bytes ≡ true
unfolding kind_by
kind_plus bytes k = go (begins_with 36 bytes) (begins_with 43 bytes) refl refl
  where
    go : (a b : Bool) → begins_with 36 bytes ≡ a → begins_with 43 bytes ≡ b → b ≡ true
    go true b e f = let no : kinds.Passed ≡ kinds.More = rw e at k in cc no
    go false true e f = refl
    go false false e f = last (begins_with 42 bytes) (is_pin_info bytes) (rw (e, f) at k)
      where
        last : (x y : Bool) → cond x (cond y kinds.Card kinds.Passed) kinds.Card ≡ kinds.More → false ≡ true
        last true true h = cc h
        last true false h = cc h
        last false y h = cc h

first_plus : (ws us : List PlacedWord) (w : PlacedWord) → kind_of_words ws ≡ kinds.More → shown ws ≡ w ∷ us → begins_with 43 w.bytes ≡ true
unfolding shown
first_plus [] us w k e = cc e
first_plus (v ∷ vs) us w k e = go (begins_with 36 v.bytes) e
  where
    go : (g : Bool) → cond g [] (v ∷ shown vs) ≡ w ∷ us → begins_with 43 w.bytes ≡ true
    go true h = cc h
    go false h = let same : v ≡ w = cc h in subst (λ z. begins_with 43 z.bytes ≡ true) same (kind_plus v.bytes k)

pub stray_first : (r : Option Word) (line after : Line) (old : List (List PlacedWord)) → kind_of_words (words_left line) ≡ kinds.More
    → old ≡ shown (words_left line) ∷ []
    → MatchOption r (shown (words_left line) ≡ []) (λ w. shown (words_left line) ≡ word_of w ∷ shown (words_left after))
    → MatchOption r (old ≡ []) (λ w. IsStray w old)
stray_first None line after old k e h = absurd (more_shown (words_left line) k h)
stray_first (Some w) line after old k e h = record {
  plus = first_plus (words_left line) (shown (words_left after)) (word_of w) k h;
  more = shown (words_left after);
  is = e ∙ ap (λ ws. ws ∷ []) h;
}
