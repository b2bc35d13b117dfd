-- The words of views, codes and verdicts.
use Rattle.std.specs.Prelude.{ℕ, List, [], ◌∷◌, Option, codes, find}
use Rattle.std.specs.Str.{bytes_eq}
use Rattle.text_scan.specs.Limits.{word_of}
use Rattle.text_scan.specs.declared.limits.LimitKind.{LimitKind}
use Rattle.text_scan.specs.declared.limits.LimitKind.TheVariants as kinds
use Rattle.verdict_text.specs.declared.finding.View.{View}
use Rattle.verdict_text.specs.declared.finding.View.TheVariants.{Liberty, Verilog, Cdl, Lef}
use Rattle.verdict_text.specs.declared.finding.Code.{Code}
use Rattle.verdict_text.specs.declared.finding.Code.TheVariants.{P1, P2, P3, P4, H1, H2, H3, H4, H5, M1, M2, Z1, Z2}
use Rattle.verdict_text.specs.declared.verdict.VerdictWord.{VerdictWord}
use Rattle.verdict_text.specs.declared.verdict.VerdictWord.TheVariants.{Qualified, Waived, Failed, Refused}

abbrev pub view_word : View → List ℕ
view_word Liberty = codes "liberty"
view_word Verilog = codes "verilog"
view_word Cdl = codes "cdl"
view_word Lef = codes "lef"

abbrev pub code_word : Code → List ℕ
code_word P1 = codes "P1"
code_word P2 = codes "P2"
code_word P3 = codes "P3"
code_word P4 = codes "P4"
code_word H1 = codes "H1"
code_word H2 = codes "H2"
code_word H3 = codes "H3"
code_word H4 = codes "H4"
code_word H5 = codes "H5"
code_word M1 = codes "M1"
code_word M2 = codes "M2"
code_word Z1 = codes "Z1"
code_word Z2 = codes "Z2"

abbrev pub verdict_word : VerdictWord → List ℕ
verdict_word Qualified = codes "qualified"
verdict_word Waived = codes "waived"
verdict_word Failed = codes "failed"
verdict_word Refused = codes "refused"
