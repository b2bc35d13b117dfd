use Rattle.std.proofs.Common.{◌≡◌, Some, sym, ◌∙◌}
use Rattle.std.specs.Str.{str_to_ascii_lowercase}
use Rattle.udp_table.proofs.Grammar.{row_in-letters}
use Rattle.udp_table.proofs.laws.rows_are_readable.Goals as goal

pub returns : goal.returns
returns c = λ q n bytes one other h k.
    let same : Some one ≡ Some other = sym (row_in-letters q n (str_to_ascii_lowercase bytes) one h) ∙ row_in-letters q n (str_to_ascii_lowercase bytes) other k in
    cc
