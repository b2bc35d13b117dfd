-- Texts joined from words and lines are cut into them again.
use Rattle.std.proofs.Common.{◌≡◌, refl, ◌∙◌, sym, ap, ◌<◌, ℕ, Bool, true, false, not, ◌&&◌, ◌==◌, nat_le, nat_lt, List, [], ◌∷◌, ◌++◌, append_assoc, append-nil, arith, codes, lit<}
use Rattle.std.specs.List.{list_all, flat_map, slice_split, onto_first}
use Rattle.std.proofs.lemmas.Bool.Decides.{nat_tests}
use Rattle.file_rules.specs.Names.{is_graphic, are_graphic}
use Rattle.file_rules.specs.Kept.{both_true}
use Rattle.verdict_text.specs.Lines.{after_blank, spaced, joined, line}
use Rattle.verdict_text.specs.Told.{lines_of, words_of}

-- no byte is this one
abbrev pub lacks : ℕ → List ℕ → Bool
lacks b [] = true
lacks b (x ∷ xs) = not (x == b) && lacks b xs

pub lacks_joined : (b : ℕ) (xs ys : List ℕ) → lacks b xs ≡ true → lacks b ys ≡ true → lacks b (xs ++ ys) ≡ true
lacks_joined b [] ys h k = k
lacks_joined b (x ∷ xs) ys h k =
    let both = both_true (not (x == b)) (lacks b xs) h in
    rw (both.0, lacks_joined b xs ys both.1 k) refl

not_false : (a : Bool) → not a ≡ true → a ≡ false
not_false false h = refl
not_false true h = cc

pub split_whole : (b : ℕ) (xs : List ℕ) → lacks b xs ≡ true → slice_split (λ x. x == b) xs ≡ xs ∷ []
split_whole b [] h = refl
split_whole b (x ∷ xs) h =
    let both = both_true (not (x == b)) (lacks b xs) h in
    rw (not_false (x == b) both.0, split_whole b xs both.1) refl

same_byte : (b : ℕ) → (b == b) ≡ true
same_byte b = grind (arith, nat_tests)

pub split_first : (b : ℕ) (xs rest : List ℕ) → lacks b xs ≡ true
    → slice_split (λ x. x == b) (xs ++ b ∷ rest) ≡ xs ∷ slice_split (λ x. x == b) rest
split_first b [] rest h = rw (same_byte b) refl
split_first b (x ∷ xs) rest h =
    let both = both_true (not (x == b)) (lacks b xs) h in
    rw (not_false (x == b) both.0, split_first b xs rest both.1) refl

-- ---- graphic words have neither blanks nor line ends

graphic_apart : (b x : ℕ) → b < 33 → is_graphic x ≡ true → not (x == b) ≡ true
graphic_apart b x l h = grind (arith, nat_tests)

pub graphic_lacks : (b : ℕ) (w : List ℕ) → b < 33 → are_graphic w ≡ true → lacks b w ≡ true
graphic_lacks b [] l h = refl
graphic_lacks b (x ∷ xs) l h =
    let both = both_true (is_graphic x) (are_graphic xs) h in
    rw (graphic_apart b x l both.0, graphic_lacks b xs l both.1) refl

abbrev pub are_words : List (List ℕ) → Bool
are_words ws = list_all are_graphic ws

pub words_back : (w : List ℕ) (ws : List (List ℕ)) → are_graphic w ≡ true → are_words ws ≡ true → words_of (joined w ws) ≡ w ∷ ws
words_back w [] h k = ap (λ t. words_of t) (append-nil w) ∙ split_whole 32 w (graphic_lacks 32 w (lit< tt) h)
words_back w (v ∷ vs) h k =
    let both = both_true (are_graphic v) (are_words vs) k in
    split_first 32 w (joined v vs) (graphic_lacks 32 w (lit< tt) h) ∙ ap (λ rest. w ∷ rest) (words_back v vs both.0 both.1)

pub spaced_lacks : (ws : List (List ℕ)) → are_words ws ≡ true → lacks 10 (spaced ws) ≡ true
spaced_lacks [] h = refl
spaced_lacks (w ∷ ws) h =
    let both = both_true (are_graphic w) (are_words ws) h in
    lacks_joined 10 (after_blank w) (spaced ws) (graphic_lacks 10 w (lit< tt) both.0) (spaced_lacks ws both.1)

pub joined_lacks : (w : List ℕ) (ws : List (List ℕ)) → are_graphic w ≡ true → are_words ws ≡ true → lacks 10 (joined w ws) ≡ true
joined_lacks w ws h k = lacks_joined 10 w (spaced ws) (graphic_lacks 10 w (lit< tt) h) (spaced_lacks ws k)

-- ---- lines

abbrev pub are_lines : List (List ℕ) → Bool
are_lines ts = list_all (lacks 10) ts

pub lines_back : (ts : List (List ℕ)) → are_lines ts ≡ true → lines_of (flat_map line ts) ≡ ts ++ [] ∷ []
lines_back [] h = refl
lines_back (t ∷ ts) h =
    let both = both_true (lacks 10 t) (are_lines ts) h in
    ap (λ text. lines_of text) (append_assoc t (10 ∷ []) (flat_map line ts))
    ∙ (split_first 10 t (flat_map line ts) both.0 ∙ ap (λ rest. t ∷ rest) (lines_back ts both.1))
