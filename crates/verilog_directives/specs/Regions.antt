-- Where a text stands: outside modules and primitives, within one, or in a specify block.
use Rattle.std.specs.Prelude.{ℕ, Bool, ◌&&◌, ◌||◌, if◌then◌else◌, List, codes}
use Rattle.std.specs.Str.{bytes_eq}
use Rattle.text_scan.specs.declared.token.Token.{Token}
use Rattle.verilog_directives.specs.declared.line.Line.{Line}
use Rattle.verilog_directives.specs.declared.line.Line.TheVariants.{Free, Kept}
use Rattle.verilog_directives.specs.declared.region.Region.{Region}
use Rattle.verilog_directives.specs.declared.region.Region.TheVariants.{Outside, Part, Specify}
use Rattle.verilog_directives.specs.Signs.{is_word, text}

unfoldable pub begins_part : List ℕ → Bool
begins_part w = bytes_eq w (codes "module") || bytes_eq w (codes "primitive")

unfoldable pub ends_part : List ℕ → Bool
ends_part w = bytes_eq w (codes "endmodule") || bytes_eq w (codes "endprimitive")

unfoldable pub begins_block : List ℕ → Bool
begins_block w = bytes_eq w (codes "specify")

unfoldable pub ends_block : List ℕ → Bool
ends_block w = bytes_eq w (codes "endspecify")

-- the word begins a module, a primitive or a specify block
abbrev pub begins_region : List ℕ → Bool
begins_region w = begins_part w || begins_block w

-- Where the text stands after a word that is read. The end of a part ends it in a specify block too, as where the part
-- is refused; an endspecify after that says that the block went on, through the end of a part.
abbrev pub after_word : Region → List ℕ → Region
after_word Outside w = if begins_part w || ends_block w then Part else Outside
after_word Part w = if ends_part w then Outside else (if begins_block w then Specify else Part)
after_word Specify w = if ends_part w then Outside else (if ends_block w then Part else Specify)

-- after a token that is read
unfoldable pub after_token : List ℕ → Region → Token → Region
after_token source region t = if is_word t.kind then after_word region (text source t) else region

-- after a token on a line that stands as it is: it may end a part that is refused
unfoldable pub after_kept : List ℕ → Region → Token → Region
after_kept source region t = if is_word t.kind && ends_part (text source t) then Outside else region

-- what becomes of a line after a directive or macro that isn't obeyed: within a part it is read on
abbrev pub line_behind : Region → ℕ → Line
line_behind Outside line = Kept line
line_behind Part line = Free
line_behind Specify line = Kept line
