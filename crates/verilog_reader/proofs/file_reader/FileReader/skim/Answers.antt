use Rattle.std.proofs.Common.{sym, refl, [], ◌∙◌}
use Rattle.verilog_reader.proofs.file_reader.FileReader.skim.Goals as goal

pub returns-then-passes_over-clause-skimmed : goal.returns-then-passes_over-clause-skimmed
returns-then-passes_over-clause-skimmed c =
    let gone = c.skim.ensures.skims in
    record { fillers = gone.fillers; front = gone.front; all = gone.all; idle = λ off. absurd (let on = sym c.passes_over.ensures ∙ c.if-passes_over.true in cc) }

pub returns-else-passes_over-clause-skimmed : goal.returns-else-passes_over-clause-skimmed
returns-else-passes_over-clause-skimmed c = record { fillers = []; front = refl; all = refl; idle = λ off. refl }
