-- The names that items stand for, and how refused constructs are shown.
use Rattle.std.specs.Prelude.{ℕ, ◌+◌, ◌-◌, Bool, true, false, ◌==◌, ◌&&◌, ◌||◌, nat_le, nat_lt, if◌then◌else◌, List, [], ◌∷◌, length, codes, slice_range, Result, Err}
use Rattle.std.specs.Str.{bytes_eq}
use Rattle.std.specs.List.{list_all}
use Rattle.text_scan.specs.declared.token.Kind.{Kind}
use Rattle.text_scan.specs.declared.token.Kind.TheVariants as kinds
use Rattle.text_scan.specs.declared.token.Token.{Token}
use Rattle.text_scan.specs.declared.limits.Limits.{Limits}
use Rattle.text_scan.specs.declared.limits.LimitKind.TheVariants as limit_kinds
use Rattle.verilog_directives.specs.declared.left.Left.{Left}
use Rattle.verilog_looks.specs.declared.look.Look.{Look}
use Rattle.verilog_looks.specs.declared.look.Look.TheVariants as looks
use Rattle.verilog_looks.specs.Looks.{text, look_of}
use Rattle.verilog_looks.specs.declared.halt.Refusal.{Refusal}
use Rattle.verilog_looks.specs.declared.halt.Refusal.TheVariants as refusals
use Rattle.file_rules.specs.Names.{is_name, is_too_long, shown_string, shown_word}

-- an escaped identifier stands for what follows its backslash
abbrev pub unescaped : List ℕ → List ℕ
unescaped [] = []
unescaped (b ∷ bs) = if b == 92 then bs else b ∷ bs

unfoldable pub content : List ℕ → Token → List ℕ
content source t = unescaped (text source t)

-- the name of an item in a part: its length comes first, then whether it is one
unfoldable pub named : {S : Type 0} → Limits → List ℕ → Result S Refusal → Result S Refusal
named limits name o = if is_too_long limits name then Err (refusals.TooMany limit_kinds.Name) else if is_name name then o else Err refusals.Here

-- ---- the word by which a refused construct is shown

-- what stands between a string's quotes
unfoldable pub inside : List ℕ → Token → List ℕ
inside source t = slice_range source (t.span.start + 1) (t.span.end - 1)

abbrev pub is_string : Kind → Bool
is_string kinds.Str = true
is_string kinds.Word = false
is_string kinds.Sign = false
is_string kinds.Unfinished = false
is_string kinds.LineEnd = false
is_string kinds.End = false

abbrev pub token_word : List ℕ → Token → List ℕ
token_word source t = if is_string t.kind then shown_string (inside source t) else shown_word (text source t)

-- a string is shown by its content where that is a name, the end of a part as end, a macro as macro
abbrev pub look_word : List ℕ → Token → Look → List ℕ
look_word source t looks.Macro = codes "macro"
look_word source t looks.EndModule = codes "end"
look_word source t looks.EndPrimitive = codes "end"
look_word source t _ = token_word source t

unfoldable pub word_of : List ℕ → Left → List ℕ
word_of source t = look_word source t.token (look_of source t)
