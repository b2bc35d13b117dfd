-- What is passed over, and what is kept of it.
use Rattle.std.specs.Prelude.{ℕ, Bool, ◌&&◌, if◌then◌else◌, List, [], ◌∷◌, codes, slice_range, Option, Some, None, Result, Ok, Err}
use Rattle.std.specs.Str.{bytes_eq}
use Rattle.text_scan.specs.declared.token.Token.{Token}
use Rattle.lef_tokens.specs.Looks.{text, look_of, is_end, is_same_word, is_word_kind, is_passed}
use Rattle.lef_reader.specs.declared.extent.Extent.{Extent}
use Rattle.lef_reader.specs.declared.until.Until.{Until}
use Rattle.lef_reader.specs.declared.until.Until.TheVariants as untils
use Rattle.lef_reader.specs.declared.until.Closing.{Closing}
use Rattle.lef_reader.specs.declared.until.Closing.TheVariants as closings

abbrev pub until_word : Until → List ℕ
until_word untils.Semicolon = codes ";"
until_word untils.End = codes "end"
until_word untils.EndExt = codes "endext"

-- the word up to which is passed over
unfoldable pub stops : List ℕ → Until → Token → Bool
stops source until t = is_word_kind t.kind && is_same_word (text source t) (until_word until)

-- ---- what is kept

-- from the first token to this one
abbrev pub extended : Option Extent → Token → Option Extent
extended None t = Some (record { from = t.span.start; to = t.span.end })
extended (Some e) t = Some (record { from = e.from; to = t.span.end })

abbrev pub extent_text : List ℕ → Extent → List ℕ
extent_text source e = slice_range source e.from e.to

-- the bytes from the first token to the last as they stand, none without a token
abbrev pub kept_text : List ℕ → Option Extent → List ℕ
kept_text source None = []
kept_text source (Some e) = extent_text source e

abbrev pub kept_size : List ℕ → Option Extent → Option (List ℕ)
kept_size source None = None
kept_size source (Some e) = Some (extent_text source e)

-- words and strings up to the stopping word: from the first of them to the last, and the tokens behind that word; or
-- the tokens from the first that can't be passed over
unfoldable pub passed : List ℕ → Until → Option Extent → List Token → Result (Option Extent × List Token) (List Token)
passed source until e [] = Err []
passed source until e (t ∷ ts) = if is_passed t then (if stops source until t then Ok (e, ts) else passed source until (extended e t) ts) else Err (t ∷ ts)

abbrev pub dropped : Result (Option Extent × List Token) (List Token) → Result (List Token) (List Token)
dropped (Ok x) = Ok x.1
dropped (Err us) = Err us

-- the tokens behind a statement, whose first token may be its semicolon
unfoldable pub past_statement : List ℕ → List Token → Result (List Token) (List Token)
past_statement source [] = Err []
past_statement source (t ∷ ts) = if stops source untils.Semicolon t then Ok ts else dropped (passed source untils.Semicolon None ts)

-- the tokens behind a semicolon
unfoldable pub past_semicolon : List ℕ → List Token → Result (List Token) (List Token)
past_semicolon source [] = Err []
past_semicolon source (t ∷ ts) = if stops source untils.Semicolon t then Ok ts else Err (t ∷ ts)

-- ---- to END and a word

-- the word behind END is this name
abbrev pub is_name_of : List ℕ → Token → Token → Bool
is_name_of source name t = bytes_eq (text source t) (text source name)

-- the word behind END is the one that closes: a name as it stands, or a keyword
abbrev pub closes : List ℕ → Closing → Token → Bool
closes source (closings.Name n) t = is_name_of source n t
closes source (closings.Keyword n) t = is_same_word (text source t) (text source n)

-- The tokens behind the first END and the word that closes; where there are none, those from the first that can't be
-- passed over. Whether END stands right before the list is told.
unfoldable pub behind : List ℕ → Closing → Bool → List Token → Result (List Token) (List Token)
behind source closing after_end [] = Err []
behind source closing after_end (t ∷ ts) =
    if is_passed t then (if after_end && closes source closing t then Ok ts else behind source closing (is_end (look_of source t)) ts)
    else Err (t ∷ ts)
