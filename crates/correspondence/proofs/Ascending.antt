-- The lines of a text stand in their order.
use Rattle.std.proofs.Common.{◌≡◌, ◌<◌, ◌≤◌, ◌+◌, ◌⊎◌, inl, inr, ℕ, zero, suc, Bool, true, false, List, [], ◌∷◌, map, min, refl, sym, subst}
use Rattle.std.proofs.Common.{◌∙◌, arith}
use Rattle.std.specs.Prelude.{◌&&◌, ◌||◌, ◌==◌, ◌-◌, nat_lt, if◌then◌else◌}
use Rattle.std.proofs.lemmas.Bool.Decides.{nat_tests}
use Rattle.file_rules.specs.Kept.{both_true}
use Rattle.text_scan.specs.Pieces.{piece, words_piece, word}
use Rattle.text_scan.specs.Bytes.{is_blank}
use Rattle.text_scan.specs.Tokens.{before, over, size, start, token, tokens, tokens_of}
use Rattle.text_scan.specs.declared.token.Place.{Place}
use Rattle.text_scan.specs.declared.token.Style.TheVariants.{Words}
use Rattle.text_scan.specs.declared.token.Token.{Token}
use Rattle.table_source.specs.Tables.{are_ascending, is_before}
use Rattle.correspondence.specs.Lines.{Line, PlacedWord, ends_line, is_comment, kept, lines, lines_of, with_word, word_of}
use Rattle.correspondence.specs.Words.{line_number}
use Rattle.correspondence.specs.Left.{behind_first}
use Rattle.correspondence.proofs.Turns.{behind_with, kept_comment, kept_line}

-- ---- before

abbrev pub IsBefore : ℕ → ℕ → Type 0
IsBefore a b = is_before a b ≡ true

pub before_cases : (a b : ℕ) → IsBefore a b → (a < b) ⊎ ((a ≡ 4294967295) × (b ≡ 4294967295))
before_cases a b h = go (nat_lt a b) refl h
  where
    go : (g : Bool) → nat_lt a b ≡ g → (g || (a == 4294967295 && b == 4294967295)) ≡ true → (a < b) ⊎ ((a ≡ 4294967295) × (b ≡ 4294967295))
    go true e k = inl (grind (arith, nat_tests))
    go false e k =
        let both : ((a == 4294967295) ≡ true) × ((b == 4294967295) ≡ true) = both_true _ _ k in
        inr (grind (arith, nat_tests), grind (arith, nat_tests))

pub before_less : (a b : ℕ) → a < b → IsBefore a b
before_less a b h = let e : nat_lt a b ≡ true = grind (arith, nat_tests) in rw e refl

before_last : IsBefore 4294967295 4294967295
before_last = refl

pub before_not_zero : (a b : ℕ) → IsBefore a b → 0 < b
before_not_zero a b h = elim (before_cases a b h) [ inl k ↦ omega arith | inr k ↦ let e = k.1 in omega arith ]

pub before_through : (a b c : ℕ) → IsBefore a b → IsBefore b c → IsBefore a c
before_through a b c h k = elim (before_cases a b h) [
  | inl x ↦ elim (before_cases b c k) [
    | inl y ↦ before_less a c (omega arith)
    | inr y ↦ let e = y.0 in let f = y.1 in before_less a c (omega arith)
  ]
  | inr x ↦ subst (λ z. IsBefore z c) (x.1 ∙ sym x.0) k
]

before_up : (a b c : ℕ) → b ≤ c → c ≤ 4294967295 → IsBefore a b → IsBefore a c
before_up a b c h m k = elim (before_cases a b k) [
  | inl x ↦ before_less a c (omega arith)
  | inr x ↦ let e = x.1 in let last : c ≡ 4294967295 = omega arith in subst (λ z. IsBefore a z) (x.1 ∙ sym last) k
]

before_within : (a b c : ℕ) → b ≤ c → IsBefore a b → a ≤ c
before_within a b c h k = elim (before_cases a b k) [ inl x ↦ omega arith | inr x ↦ let e = x.0 in let f = x.1 in omega arith ]

-- the line behind one
abbrev next_line : ℕ → ℕ
next_line n = min (n + 1) 4294967295

before_next : (a b : ℕ) → a ≤ b → b ≤ 4294967295 → IsBefore a (next_line b)
before_next a b h m = go (nat_lt b 4294967295) refl
  where
    go : (g : Bool) → nat_lt b 4294967295 ≡ g → IsBefore a (next_line b)
    go true e = let less : b < 4294967295 = grind (arith, nat_tests) in before_less a (next_line b) (omega arith)
    go false e =
        let last : b ≡ 4294967295 = grind (arith, nat_tests) in
        let same : next_line b ≡ 4294967295 = omega arith in
        subst (IsBefore a) (sym same) (go_last (nat_lt a 4294967295) refl last)
      where
        go_last : (g : Bool) → nat_lt a 4294967295 ≡ g → b ≡ 4294967295 → IsBefore a 4294967295
        go_last true e last = rw e refl
        go_last false e last =
            let same : a ≡ 4294967295 = grind (arith, nat_tests) in
            subst (λ z. IsBefore z 4294967295) (sym same) before_last

-- ---- tokens

-- the line of what follows a token
abbrev line_behind : Token → ℕ
line_behind t = if ends_line t.kind then next_line t.span.line else t.span.line

-- each token stands on this line or behind it, and on a line behind each end of a line before it
Follow : ℕ → List Token → Type 0
Follow n [] = Unit {0}
Follow n (t ∷ ts) = (n ≤ t.span.line) × (t.span.line ≤ 4294967295) × Follow (line_behind t) ts

follow_from : (n m : ℕ) (ts : List Token) → n ≤ m → Follow m ts → Follow n ts
unfolding Follow
follow_from n m [] h k = tt
follow_from n m (t ∷ ts) h k = let k0 = k.0 in (omega arith, k.1, k.2)

over_from : (b : ℕ) (p : Place) → p.line ≤ 4294967295 → (p.line ≤ (over b p).line) × ((over b p).line ≤ 4294967295)
unfolding over
over_from b p h = go (b == 10)
  where
    go : (g : Bool) →
        let q : Place =
        if g then record { at = p.at + 1; line = min (p.line + 1) 4294967295; column = 1 }
        else record { at = p.at + 1; line = p.line; column = min (p.column + 1) 4294967295 } in
        (p.line ≤ q.line) × (q.line ≤ 4294967295)
    go true = (omega arith, omega arith)
    go false = (omega arith, h)

over_end : (b : ℕ) (p : Place) → (b == 10) ≡ true → (over b p).line ≡ next_line p.line
unfolding over
over_end b p h = rw h refl

-- a token is shown before others, or none
shown_follow : (b : ℕ) (bs : List ℕ) (p : Place) (ts : List Token) → p.line ≤ 4294967295 → Follow (over b p).line ts
    → Follow p.line (before (piece Words b bs) p ts)
unfolding before piece words_piece word Follow token
shown_follow b bs p ts h k = go (is_blank b) (b == 10) refl refl
  where
    later : Follow p.line ts
    later = follow_from p.line (over b p).line ts (over_from b p h).0 k

    go : (blank end : Bool) → is_blank b ≡ blank → (b == 10) ≡ end → Follow p.line (before (piece Words b bs) p ts)
    go true end e f = rw e later
    go false true e f = rw (e, f) (omega arith, h, subst (λ z. Follow z ts) (over_end b p f) k)
    go false false e f = rw (e, f) (omega arith, h, later)

tokens_follow : (p : Place) (inside : ℕ) (xs : List ℕ) → p.line ≤ 4294967295 → Follow p.line (tokens Words p inside xs)
unfolding tokens Follow token
tokens_follow p inside [] h = (omega arith, h, tt)
tokens_follow p (suc inside) (b ∷ bs) h =
    let o = over_from b p h in
    follow_from p.line (over b p).line _ o.0 (tokens_follow (over b p) inside bs o.1)
tokens_follow p zero (b ∷ bs) h =
    let o = over_from b p h in
    shown_follow b bs p _ h (tokens_follow (over b p) (size (piece Words b bs) - 1) bs o.1)

-- ---- lines

abbrev pub numbers : List Line → List ℕ
numbers ls = map line_number ls

abbrev Ascend : ℕ → List ℕ → Type 0
Ascend n ns = are_ascending n ns ≡ true

-- the lines of these tokens, from this line on, stand in their order
record AreInOrder (text : List ℕ) (n : ℕ) (ts : List Token) : Type 0 where
  -- behind the line that is begun, and from the begin of a line on
  behind : (x : ℕ) → x ≤ n → Ascend x (numbers (kept (behind_first (lines text ts))))
  begun : (x : ℕ) → IsBefore x n → Ascend x (numbers (kept (lines text ts)))

no_tokens : (text : List ℕ) (n : ℕ) → AreInOrder text n []
unfolding lines
no_tokens text n = record { behind = λ x h. refl; begun = λ x h. refl }

end_token : (text : List ℕ) (n : ℕ) (t : Token) (us : List Token) → ends_line t.kind ≡ true → n ≤ t.span.line → t.span.line ≤ 4294967295
    → AreInOrder text (line_behind t) us
    → AreInOrder text n (t ∷ us)
unfolding lines
end_token text n t us e h m k =
    let next : line_behind t ≡ next_line t.span.line = rw e refl in
    record {
      behind = λ x i.
          let b : IsBefore x (line_behind t) = subst (IsBefore x) (sym next) (before_next x t.span.line (omega arith) m) in
          rw e (k.begun x b);
      begun = λ x i.
          let le = before_within x n t.span.line h i in
          let b : IsBefore x (line_behind t) = subst (IsBefore x) (sym next) (before_next x t.span.line le m) in
          rw e (k.begun x b);
    }

word_token : (text : List ℕ) (n : ℕ) (t : Token) (us : List Token) → ends_line t.kind ≡ false → n ≤ t.span.line → t.span.line ≤ 4294967295
    → AreInOrder text (line_behind t) us
    → AreInOrder text n (t ∷ us)
unfolding lines
word_token text n t us e h m k =
    let next : line_behind t ≡ t.span.line = rw e refl in
    let w : PlacedWord = word_of text t in
    let more = behind_with w (lines text us) in
    let rest : (x : ℕ) → x ≤ t.span.line → Ascend x (numbers (kept (behind_first (lines text us)))) =
    λ x i. k.behind x (subst (λ z. x ≤ z) (sym next) i) in
    record {
      behind = λ x i. rw (e, more) (rest x (omega arith));
      begun = λ x i.
          let come : Ascend x (numbers (kept (with_word w (lines text us)))) =
          by_word x w (is_comment w.bytes) refl (before_up x n t.span.line h m i) (rest x (before_within x n t.span.line h i))
          (rest t.span.line (omega arith)) in
          rw e come;
    }
  where
    by_word : (x : ℕ) (w : PlacedWord) (g : Bool) → is_comment w.bytes ≡ g → IsBefore x w.token.span.line
        → Ascend x (numbers (kept (behind_first (lines text us))))
        → Ascend w.token.span.line (numbers (kept (behind_first (lines text us)))) → Ascend x (numbers (kept (with_word w (lines text us))))
    by_word x w true f i a b = subst (λ z. Ascend x (numbers z)) (sym (kept_comment w (lines text us) f)) a
    by_word x w false f i a b =
        let one : Ascend x (w.token.span.line ∷ numbers (kept (behind_first (lines text us)))) = rw (i, b) refl in
        subst (λ z. Ascend x (numbers z)) (sym (kept_line w (lines text us) f)) one

in_order : (text : List ℕ) (n : ℕ) (ts : List Token) → Follow n ts → AreInOrder text n ts
unfolding Follow
in_order text n [] h = no_tokens text n
in_order text n (t ∷ us) h = by_kind (ends_line t.kind) refl (in_order text (line_behind t) us h.2)
  where
    by_kind : (g : Bool) → ends_line t.kind ≡ g → AreInOrder text (line_behind t) us → AreInOrder text n (t ∷ us)
    by_kind true e k = end_token text n t us e h.0 h.1 k
    by_kind false e k = word_token text n t us e h.0 h.1 k

pub lines_ascend : (text : List ℕ) → Ascend 0 (numbers (lines_of text))
unfolding lines_of tokens_of
lines_ascend text = (in_order text 1 (tokens_of Words text) (tokens_follow start 0 text (omega arith))).begun 0 refl
