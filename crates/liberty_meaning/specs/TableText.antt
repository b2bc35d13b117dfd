-- The text of a state table: words between blanks, in rows between commas.
use Rattle.std.specs.Prelude.{ℕ, ◌==◌, if◌then◌else◌, List, [], ◌∷◌, ◌++◌}
use Rattle.liberty_meaning.specs.declared.table_text.RowWords.{RowWords}
use Rattle.liberty_function.specs.Words.{is_blank}

abbrev pub row_words : List (List ℕ) → RowWords
row_words words = record { words = words }

-- the word that has begun, if one has
unfoldable pub ended : List ℕ → List (List ℕ)
ended [] = []
ended (b ∷ bs) = (b ∷ bs) ∷ []

-- a last row of blanks alone is left out
abbrev pub last_row : List (List ℕ) → List RowWords
last_row [] = []
last_row (w ∷ ws) = row_words (w ∷ ws) ∷ []

-- the rows of what is left of a text, after the words of a row that has begun and the bytes of a word that has begun
unfoldable pub rows_from : List (List ℕ) → List ℕ → List ℕ → List RowWords
rows_from row word [] = last_row (row ++ ended word)
rows_from row word (b ∷ bs) =
    if b == 44 then row_words (row ++ ended word) ∷ rows_from [] [] bs
    else if is_blank b then rows_from (row ++ ended word) [] bs
    else rows_from row (word ++ b ∷ []) bs

unfoldable pub rows_of : List ℕ → List RowWords
rows_of text = rows_from [] [] text
