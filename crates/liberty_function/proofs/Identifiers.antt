-- The names in a function's text are identifiers: letters, digits and _.
use Rattle.std.proofs.Common.{◌≡◌, ℕ, ◌+◌, refl, ◌∙◌, ap, subst, List, [], ◌∷◌, ◌++◌, length, Option, Some, None, Bool, true, false, ◌&&◌, ◌||◌, ◌==◌, nat_le, if◌then◌else◌, is_some}
use Rattle.std.specs.List.{list_all}
use Rattle.std.proofs.lemmas.List.Folds.{list_all-append}
use Rattle.liberty_function.specs.declared.words.Word.{Word}
use Rattle.liberty_function.specs.declared.words.Word.TheVariants.{Quote, Bang, Caret, And, Or, Open, Close, Zero, One, Name, Other}
use Rattle.liberty_function.specs.declared.words.Placed.{Placed}
use Rattle.liberty_function.specs.Sources.{Named, source_among}
use Rattle.liberty_function.specs.Words.{is_blank, is_letter, is_name_byte, sign_of, name_of, closed, goes_on, begun, signs, words_from, words_of, bare}
use Rattle.liberty_function.specs.Texts.{unknown_or, unknown_among}

abbrev pub is_identifier : List ℕ → Bool
is_identifier name = list_all is_name_byte name

abbrev word_named : Word → Bool
word_named (Name n) = is_identifier n
word_named _ = true

abbrev placed_named : Placed → Bool
placed_named p = word_named p.word

both : (a b : Bool) → (a && b) ≡ true → (a ≡ true) × (b ≡ true)
both true b h = (refl, h)
both false b h = absurd cc

joined : {X : Type 0} (p : X → Bool) (xs ys : List X) → list_all p xs ≡ true → list_all p ys ≡ true → list_all p (xs ++ ys) ≡ true
joined p xs ys h k = rw (list_all-append p xs ys, h, k) refl

named_by : (bytes : List ℕ) (short : Bool) → is_identifier bytes ≡ true → word_named (if short then Name bytes else Other) ≡ true
named_by bytes true h = h
named_by bytes false h = refl

closed_named : (place : ℕ) (name : List ℕ) → is_identifier name ≡ true → list_all placed_named (closed place name) ≡ true
unfolding closed name_of
closed_named place [] h = refl
closed_named place (b ∷ bs) h = ap (λ t. t && true) (named_by (b ∷ bs) (nat_le (length (b ∷ bs)) 128) h)

if_named : (t : Bool) (v w : Word) → word_named v ≡ true → word_named w ≡ true → word_named (if t then v else w) ≡ true
if_named true v w h k = h
if_named false v w h k = k

sign_named : (b : ℕ) → word_named (sign_of b) ≡ true
unfolding sign_of
sign_named b =
    if_named (b == 39) Quote _ refl (if_named (b == 33) Bang _ refl (if_named (b == 94) Caret _ refl
    (if_named (b == 42 || b == 38) And _ refl (if_named (b == 43 || b == 124) Or _ refl (if_named (b == 40) Open _ refl
    (if_named (b == 41) Close _ refl (if_named (b == 48) Zero _ refl (if_named (b == 49) One Other refl refl))))))))

none_or : (t : Bool) (p : List Placed) → list_all placed_named p ≡ true → list_all placed_named (if t then [] else p) ≡ true
none_or true p h = refl
none_or false p h = h

signs_named : (place b : ℕ) → list_all placed_named (signs place b) ≡ true
unfolding signs
signs_named place b = none_or (is_letter b) _ (none_or (is_blank b) _ (ap (λ t. t && true) (sign_named b)))

begun_by : (b : ℕ) (t : Bool) → is_letter b ≡ t → is_identifier (if t then b ∷ [] else []) ≡ true
begun_by b true e = ap (λ t. (t || (nat_le 48 b && nat_le b 57)) && true) e
begun_by b false e = refl

begun_named : (b : ℕ) → is_identifier (begun b) ≡ true
unfolding begun
begun_named b = begun_by b (is_letter b) refl

grown_named : (name : List ℕ) (b : ℕ) → goes_on name b ≡ true → is_identifier name ≡ true → is_identifier (name ++ b ∷ []) ≡ true
unfolding goes_on
grown_named [] b e h = absurd cc
grown_named (c ∷ cs) b e h = joined is_name_byte (c ∷ cs) (b ∷ []) h (ap (λ t. t && true) e)

words_by : (place : ℕ) (name : List ℕ) (b : ℕ) (bs : List ℕ) (t : Bool) → list_all placed_named (closed place name ++ signs place b) ≡ true → (t ≡ true → list_all placed_named (words_from (place + 1) (name ++ b ∷ []) bs) ≡ true)
    → list_all placed_named (words_from (place + 1) (begun b) bs) ≡ true
    → list_all placed_named (if t then words_from (place + 1) (name ++ b ∷ []) bs else (closed place name ++ signs place b) ++ words_from (place + 1) (begun b) bs) ≡ true
words_by place name b bs true front on anew = on refl
words_by place name b bs false front on anew = joined placed_named (closed place name ++ signs place b) (words_from (place + 1) (begun b) bs) front anew

words_named : (bs : List ℕ) (place : ℕ) (name : List ℕ) → is_identifier name ≡ true → list_all placed_named (words_from place name bs) ≡ true
unfolding words_from
words_named [] place name h = closed_named place name h
words_named (b ∷ bs) place name h =
    words_by place name b bs (goes_on name b)
    (joined placed_named (closed place name) (signs place b) (closed_named place name h) (signs_named place b))
    (λ e. words_named bs (place + 1) (name ++ b ∷ []) (grown_named name b e h))
    (words_named bs (place + 1) (begun b) (begun_named b))

bare_named : (ws : List Placed) → list_all placed_named ws ≡ true → list_all word_named (bare ws) ≡ true
bare_named [] h = refl
bare_named (w ∷ ws) h =
    let b : (word_named w.word ≡ true) × (list_all placed_named ws ≡ true) = both _ _ h in
    rw (b.0, bare_named ws b.1) refl

unknown_test : (t : Bool) (more : Option (List ℕ)) (m n : List ℕ) → is_identifier m ≡ true → (more ≡ Some n → is_identifier n ≡ true) → (if t then more else Some m) ≡ Some n → is_identifier n ≡ true
unknown_test true more m n h rest e = rest e
unknown_test false more m n h rest e = let same : m ≡ n = cc in subst (λ x. is_identifier x ≡ true) same h

unknown_by : (names : List Named) (w : Word) (more : Option (List ℕ)) (n : List ℕ) → word_named w ≡ true → (more ≡ Some n → is_identifier n ≡ true) → unknown_or names w more ≡ Some n → is_identifier n ≡ true
unknown_by names (Name m) more n h rest e = unknown_test (is_some (source_among names m)) more m n h rest e
unknown_by names _ more n h rest e = rest e

unknown_named : (names : List Named) (ws : List Word) (n : List ℕ) → list_all word_named ws ≡ true → unknown_among names ws ≡ Some n → is_identifier n ≡ true
unfolding unknown_among
unknown_named names [] n h e = absurd cc
unknown_named names (w ∷ ws) n h e =
    let b : (word_named w ≡ true) × (list_all word_named ws ≡ true) = both _ _ h in
    unknown_by names w (unknown_among names ws) n b.0 (λ f. unknown_named names ws n b.1 f) e

-- a name of a text that no place has
pub unknown_name : (names : List Named) (text n : List ℕ) → unknown_among names (bare (words_of text)) ≡ Some n → list_all is_name_byte n ≡ true
unfolding words_of
unknown_name names text n e = unknown_named names (bare (words_of text)) n (bare_named (words_from 0 [] text) (words_named text 0 [] refl)) e
