-- What is to come of a text.
use Rattle.std.specs.Prelude.{List, ◌++◌}
use Rattle.text_scan.specs.declared.token.Token.{Token}
use Rattle.verilog_directives.specs.declared.lookahead.Lookahead.{Lookahead}
use Rattle.verilog_directives.specs.Held.{tokens}
use Rattle.verilog_directives.specs.Behind.{moved_on}

-- the tokens that are held, and those that the cursor has before it
unfoldable pub to_come : Lookahead → List Token
to_come l = tokens l.held ++ moved_on l.place l.cursor
