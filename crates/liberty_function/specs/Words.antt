-- The tokens of a function text.
use Rattle.std.specs.Prelude.{ℕ, ◌+◌, ◌-◌, Bool, false, ◌||◌, ◌&&◌, ◌==◌, nat_le, if◌then◌else◌, List, [], ◌∷◌, ◌++◌, length, map}
use Rattle.liberty_function.specs.declared.words.Word.{Word}
use Rattle.liberty_function.specs.declared.words.Word.TheVariants.{Quote, Bang, Caret, And, Or, Open, Close, Zero, One, Name, Other}
use Rattle.liberty_function.specs.declared.words.Placed.{Placed}

-- blank, tab, CR and LF
abbrev pub is_blank : ℕ → Bool
is_blank b = b == 32 || b == 9 || b == 13 || b == 10

-- a letter or _
abbrev pub is_letter : ℕ → Bool
is_letter b = (nat_le 97 b && nat_le b 122) || (nat_le 65 b && nat_le b 90) || b == 95

-- a letter, a digit or _
abbrev pub is_name_byte : ℕ → Bool
is_name_byte b = is_letter b || (nat_le 48 b && nat_le b 57)

-- ' ! ^ * & + | ( ) 0 1; any other byte is a token that nothing can be made of
unfoldable pub sign_of : ℕ → Word
sign_of b =
    if b == 39 then Quote else
    if b == 33 then Bang else
    if b == 94 then Caret else
    if b == 42 || b == 38 then And else
    if b == 43 || b == 124 then Or else
    if b == 40 then Open else
    if b == 41 then Close else
    if b == 48 then Zero else
    if b == 49 then One else Other

-- a name has at most 128 bytes
unfoldable pub name_of : List ℕ → Word
name_of bytes = if nat_le (length bytes) 128 then Name bytes else Other

-- the name that ends before a place, if one has begun
unfoldable pub closed : ℕ → List ℕ → List Placed
closed place [] = []
closed place (b ∷ bs) = record { word = name_of (b ∷ bs); place = place - length (b ∷ bs) } ∷ []

-- a byte goes on with a name that has begun
unfoldable pub goes_on : List ℕ → ℕ → Bool
goes_on [] b = false
goes_on (c ∷ cs) b = is_name_byte b

-- the name that a byte begins
unfoldable pub begun : ℕ → List ℕ
begun b = if is_letter b then b ∷ [] else []

-- the token that a byte is by itself
unfoldable pub signs : ℕ → ℕ → List Placed
signs place b = if is_letter b then [] else if is_blank b then [] else record { word = sign_of b; place = place } ∷ []

-- the tokens of what is left of a text from a place on, after the bytes of a name that has begun
unfoldable pub words_from : ℕ → List ℕ → List ℕ → List Placed
words_from place name [] = closed place name
words_from place name (b ∷ bs) =
    if goes_on name b then words_from (place + 1) (name ++ b ∷ []) bs
    else (closed place name ++ signs place b) ++ words_from (place + 1) (begun b) bs

unfoldable pub words_of : List ℕ → List Placed
words_of text = words_from 0 [] text

abbrev pub bare : List Placed → List Word
bare ws = map (λ (p : Placed). p.word) ws
