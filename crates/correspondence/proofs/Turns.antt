-- What a token makes of the lines that are left.
use Rattle.std.proofs.Common.{◌≡◌, ◌<◌, ◌≤◌, Bool, true, false, List, [], ◌∷◌, length, refl, sym, ap, ◌∙◌, arith}
use Rattle.text_scan.specs.Left.{followed, is_end}
use Rattle.text_scan.specs.declared.token.Kind.{Kind}
use Rattle.text_scan.specs.declared.token.Kind.TheVariants as kinds
use Rattle.text_scan.specs.declared.token.Token.{Token}
use Rattle.std.specs.Prelude.{ℕ, slice_range}
use Rattle.correspondence.specs.Lines.{Line, PlacedWord, ends_line, is_comment, kept, lines, with_word, word_of}
use Rattle.correspondence.specs.Left.{Came, behind_first, begun, end_left, end_of_first, is_between, line_with, lines_left, placed, tokens_left, words_left, words_of_first}
use Rattle.correspondence.specs.declared.lines.Lines.{Lines}
use Rattle.correspondence.specs.declared.word.Word.{Word}
use Rattle.correspondence.specs.declared.word.Next.TheVariants as nexts

not_end : (k : Kind) → ends_line k ≡ false → is_end k ≡ false
not_end kinds.Word h = refl
not_end kinds.Str h = refl
not_end kinds.Sign h = refl
not_end kinds.Unfinished h = refl
not_end kinds.LineEnd h = absurd (cc)
not_end kinds.End h = absurd (cc)

ends_last : (k : Kind) → is_end k ≡ true → ends_line k ≡ true
ends_last kinds.Word h = absurd (cc)
ends_last kinds.Str h = absurd (cc)
ends_last kinds.Sign h = absurd (cc)
ends_last kinds.Unfinished h = absurd (cc)
ends_last kinds.LineEnd h = absurd (cc)
ends_last kinds.End h = refl

followed_on : (t : Token) (us : List Token) → is_end t.kind ≡ false → followed t us ≡ t ∷ us
unfolding followed
followed_on t us h = rw h refl

followed_last : (t : Token) (us : List Token) → is_end t.kind ≡ true → followed t us ≡ t ∷ []
unfolding followed
followed_last t us h = rw h refl

lines_word : (text : List ℕ) (t : Token) (us : List Token) → ends_line t.kind ≡ false → lines text (t ∷ us) ≡ with_word (word_of text t) (lines text us)
unfolding lines
lines_word text t us h = rw h refl

lines_end : (text : List ℕ) (t : Token) (us : List Token) → ends_line t.kind ≡ true → lines text (t ∷ us) ≡ record { words = []; ending = t } ∷ lines text us
unfolding lines
lines_end text t us h = rw h refl

lines_none : (text : List ℕ) → lines text [] ≡ []
unfolding lines
lines_none text = refl

pub is_word : (k : Kind) → (k ≡ kinds.LineEnd → ⊥) → (k ≡ kinds.End → ⊥) → ends_line k ≡ false
is_word kinds.Word m n = refl
is_word kinds.Str m n = refl
is_word kinds.Sign m n = refl
is_word kinds.Unfinished m n = refl
is_word kinds.LineEnd m n = absurd (m refl)
is_word kinds.End m n = absurd (n refl)

pub no_end : (k : Kind) → (k ≡ kinds.End → ⊥) → is_end k ≡ false
no_end kinds.Word n = refl
no_end kinds.Str n = refl
no_end kinds.Sign n = refl
no_end kinds.Unfinished n = refl
no_end kinds.LineEnd n = refl
no_end kinds.End n = absurd (n refl)

-- ---- the first of some lines

pub words_with : (w : PlacedWord) (ls : List Line) → words_of_first (with_word w ls) ≡ w ∷ words_of_first ls
words_with w [] = refl
words_with w (l ∷ ls) = refl

pub end_with : (s : Token) (w : PlacedWord) (ls : List Line) → end_of_first s (with_word w ls) ≡ end_of_first w.token ls
end_with s w [] = refl
end_with s w (l ∷ ls) = refl

pub behind_with : (w : PlacedWord) (ls : List Line) → behind_first (with_word w ls) ≡ behind_first ls
behind_with w [] = refl
behind_with w (l ∷ ls) = refl

pub kept_comment : (w : PlacedWord) (ls : List Line) → is_comment w.bytes ≡ true → kept (with_word w ls) ≡ kept (behind_first ls)
kept_comment w [] h = rw h refl
kept_comment w (l ∷ ls) h = rw h refl

pub kept_line : (w : PlacedWord) (ls : List Line) → is_comment w.bytes ≡ false
    → kept (with_word w ls) ≡ record { words = w ∷ words_of_first ls; ending = end_of_first w.token ls } ∷ kept (behind_first ls)
kept_line w [] h = rw h refl
kept_line w (l ∷ ls) h = rw h refl

-- ---- a token of a line

pub same_word : (text bytes : List ℕ) (t : Token) → bytes ≡ slice_range text t.span.start t.span.end → (record { bytes = bytes; token = t }) ≡ word_of text t
same_word text bytes t e = ap (λ bs. record { bytes = bs; token = t }) e

module _ (text : List ℕ) (t : Token) (ts us : List Token) (next : ts ≡ followed t us) where
  pub shorter : is_end t.kind ≡ false → length us < length ts
  shorter h = let f = ap length (next ∙ followed_on t us h) in omega arith

  pub word_came : ends_line t.kind ≡ false → lines text ts ≡ with_word (word_of text t) (lines text us)
  word_came h = ap (lines text) (next ∙ followed_on t us (not_end t.kind h)) ∙ lines_word text t us h

  pub longer : (is_end t.kind ≡ true → us ≡ ts) → length us ≤ length ts
  longer stays = by (is_end t.kind) refl
    where
      by : (b : Bool) → is_end t.kind ≡ b → length us ≤ length ts
      by true e = let f = ap length (stays e) in omega arith
      by false e = let f = ap length (next ∙ followed_on t us e) in omega arith

-- ---- what is left by the token that was read last

ended_words : (l : Lines) → ends_line l.last.kind ≡ true → words_left l ≡ []
unfolding words_left
ended_words l h = rw h refl

open_words : (l : Lines) → ends_line l.last.kind ≡ false → words_left l ≡ words_of_first (begun l)
unfolding words_left
open_words l h = rw h refl

ended_end : (l : Lines) → ends_line l.last.kind ≡ true → end_left l ≡ l.last
unfolding end_left
ended_end l h = rw h refl

open_end : (l : Lines) → ends_line l.last.kind ≡ false → end_left l ≡ end_of_first l.last (begun l)
unfolding end_left
open_end l h = rw h refl

ended_lines : (l : Lines) → ends_line l.last.kind ≡ true → lines_left l ≡ kept (begun l)
unfolding lines_left
ended_lines l h = rw h refl

open_lines : (l : Lines) → ends_line l.last.kind ≡ false → lines_left l ≡ kept (behind_first (begun l))
unfolding lines_left
open_lines l h = rw h refl

-- a token was read
pub record Read (old new : Lines) (t : Token) : Type 0 where
  pub text : new.text.now ≡ old.text.now
  pub next : tokens_left old ≡ followed t (tokens_left new)
  pub stays : is_end t.kind ≡ true → tokens_left new ≡ tokens_left old
  pub last : new.last ≡ t

pub stands : (l : Lines) → ends_line l.last.kind ≡ true → Came (nexts.LineEnd l.last) l l
stands l h = (ended_words l h, ended_end l h, ended_end l h, h)

begun_last : (old : Lines) (t : Token) (us : List Token) → tokens_left old ≡ followed t us → is_end t.kind ≡ true → begun old ≡ record { words = []; ending = t } ∷ []
begun_last old t us next h =
    ap (lines old.text.now) (next ∙ followed_last t us h)
    ∙ lines_end old.text.now t [] (ends_last t.kind h)
    ∙ ap (λ ls. record { words = []; ending = t } ∷ ls) (lines_none old.text.now)

-- the end of the text follows
pub no_line : (old : Lines) (t : Token) (us : List Token) → tokens_left old ≡ followed t us → is_between old → t.kind ≡ kinds.End → lines_left old ≡ []
no_line old t us next h e = ended_lines old h ∙ ap kept (begun_last old t us next (ap is_end e))

module _ (old new : Lines) (t : Token) (read : Read old new t) where
  ended : ends_line t.kind ≡ true → ends_line new.last.kind ≡ true
  ended h = ap (λ (s : Token). ends_line s.kind) read.last ∙ h

  going : ends_line t.kind ≡ false → ends_line new.last.kind ≡ false
  going h = ap (λ (s : Token). ends_line s.kind) read.last ∙ h

  -- the lines that are begun, before a word and before a line's end
  begun_word : ends_line t.kind ≡ false → begun old ≡ with_word (word_of old.text.now t) (begun new)
  begun_word h =
      word_came old.text.now t (tokens_left old) (tokens_left new) read.next h
      ∙ ap (λ text. with_word (word_of old.text.now t) (lines text (tokens_left new))) (sym read.text)

  begun_end : ends_line t.kind ≡ true → is_end t.kind ≡ false → begun old ≡ record { words = []; ending = t } ∷ begun new
  begun_end h n =
      ap (lines old.text.now) (read.next ∙ followed_on t (tokens_left new) n)
      ∙ lines_end old.text.now t (tokens_left new) h
      ∙ ap (λ text. record { words = []; ending = t } ∷ lines text (tokens_left new)) (sym read.text)

  begun_stays : is_end t.kind ≡ true → begun new ≡ begun old
  begun_stays h = ap (lines new.text.now) (read.stays h) ∙ ap (λ text. lines text (tokens_left old)) read.text

  -- ---- a word, or the end of the line

  pub word_next : (w : Word) → placed w ≡ word_of old.text.now t → ends_line old.last.kind ≡ false → ends_line t.kind ≡ false → Came (nexts.Word w) old new
  word_next w is h k =
      let b = begun_word k in
      let words : words_left old ≡ placed w ∷ words_left new =
      open_words old h ∙ ap words_of_first b ∙ words_with (word_of old.text.now t) (begun new) ∙ ap (λ x. x ∷ words_of_first (begun new)) (sym is)
      ∙ ap (λ ws. placed w ∷ ws) (sym (open_words new (going k))) in
      let end : end_left old ≡ end_left new =
      open_end old h ∙ ap (end_of_first old.last) b ∙ end_with old.last (word_of old.text.now t) (begun new)
      ∙ ap (λ s. end_of_first s (begun new)) (sym read.last) ∙ sym (open_end new (going k)) in
      (words, sym end)

  pub word_lines : ends_line old.last.kind ≡ false → ends_line t.kind ≡ false → lines_left new ≡ lines_left old
  word_lines h k =
      open_lines new (going k) ∙ ap kept (sym (ap behind_first (begun_word k) ∙ behind_with (word_of old.text.now t) (begun new))) ∙ sym (open_lines old h)

  ends_by : (b : Bool) → is_end t.kind ≡ b → ends_line t.kind ≡ true → (words_of_first (begun old) ≡ []) × (end_of_first old.last (begun old) ≡ t) × (kept (begun new) ≡ kept (behind_first (begun old)))
  ends_by true e h =
      let b = begun_last old t (tokens_left new) read.next e in
      let n = begun_stays e in
      (ap words_of_first b, ap (end_of_first old.last) b, ap kept (n ∙ b) ∙ ap (λ ls. kept (behind_first ls)) (sym b))
  ends_by false e h =
      let b = begun_end h e in
      (ap words_of_first b, ap (end_of_first old.last) b, ap (λ ls. kept (behind_first ls)) (sym b))

  pub end_next : ends_line old.last.kind ≡ false → ends_line t.kind ≡ true → Came (nexts.LineEnd t) old new
  end_next h k =
      let e = ends_by (is_end t.kind) refl k in
      (open_words old h ∙ e.0, open_end old h ∙ e.1, ended_end new (ended k) ∙ read.last, ended k)

  pub end_lines : ends_line old.last.kind ≡ false → ends_line t.kind ≡ true → lines_left new ≡ lines_left old
  end_lines h k = let e = ends_by (is_end t.kind) refl k in ended_lines new (ended k) ∙ e.2 ∙ sym (open_lines old h)

  -- ---- the first token of a line

  pub empty_line : is_between old → ends_line t.kind ≡ true → is_end t.kind ≡ false → lines_left new ≡ lines_left old
  empty_line h k n = ended_lines new (ended k) ∙ sym (ap kept (begun_end k n)) ∙ sym (ended_lines old h)

  pub comment_line : is_between old → ends_line t.kind ≡ false → is_comment (word_of old.text.now t).bytes ≡ true → lines_left new ≡ lines_left old
  comment_line h k c =
      open_lines new (going k) ∙ sym (ap kept (begun_word k) ∙ kept_comment (word_of old.text.now t) (begun new) c) ∙ sym (ended_lines old h)

  pub begun_line : (w : Word) → placed w ≡ word_of old.text.now t → is_between old → ends_line t.kind ≡ false → is_comment w.bytes.now ≡ false
      → lines_left old ≡ line_with (placed w) new ∷ lines_left new
  begun_line w is h k c =
      let n : is_comment (word_of old.text.now t).bytes ≡ false = ap (λ (x : PlacedWord). is_comment x.bytes) (sym is) ∙ c in
      ended_lines old h ∙ ap kept (begun_word k) ∙ kept_line (word_of old.text.now t) (begun new) n
      ∙ rw (open_words new (going k), open_end new (going k), open_lines new (going k), read.last, is) refl
