-- What texts and refusals of files print.
use Rattle.std.specs.Prelude.{ℕ, List, ◌++◌, codes, decimal, encode_utf8}
use Rattle.std.specs.List.{flat_map}
use Rattle.text_scan.specs.Limits.{word_of}
use Rattle.text_scan.specs.declared.refusal.FileRefusal.{FileRefusal}
use Rattle.text_scan.specs.declared.refusal.FileRefusal.TheVariants.{NoMemory, Syntax, TooMany, DoubleName}

-- each byte as the character of its number
abbrev pub printed : List ℕ → List ℕ
printed text = flat_map encode_utf8 text

-- the words of a refusal's line behind the file's word, where names are shown so
abbrev pub refusal_words : (List ℕ → List ℕ) → FileRefusal → List ℕ
refusal_words shown NoMemory = codes "no memory"
refusal_words shown (Syntax line column) = codes "syntax line " ++ decimal line ++ codes " column " ++ decimal column
refusal_words shown (TooMany kind number) = codes "too many " ++ word_of kind ++ codes " " ++ decimal number
refusal_words shown (DoubleName name line) = codes "double name " ++ shown name ++ codes " line " ++ decimal line
