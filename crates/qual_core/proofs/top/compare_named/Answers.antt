use Rattle.std.proofs.Common.{arith}
use Rattle.std.proofs.lemmas.Result.{IfOk-weaker}
use Rattle.qual_core.specs.Command.{texts}
use Rattle.qual_core.proofs.Places.{file_count, answer_named, named_both}
use Rattle.qual_core.proofs.Named.{reply_named}
use Rattle.qual_core.proofs.Replying.{compare_answer}
use Rattle.qual_core.proofs.top.compare_named.Goals as goal

pub file_name-liberty-requires-clause-index : goal.file_name-liberty-requires-clause-index
file_name-liberty-requires-clause-index g c = omega (arith, file_count (texts c.args.words.now) c.args.command.now c.requires)

pub file_name-verilog-requires-clause-index : goal.file_name-verilog-requires-clause-index
file_name-verilog-requires-clause-index g c = omega (arith, file_count (texts c.args.words.now) c.args.command.now c.requires)

pub returns-clause-reply : goal.returns-clause-reply
returns-clause-reply g c told =
    let words = texts c.args.words.now in
    let file = g.S.Shelf.file c.args.shelf.now in
    IfOk-weaker c.compare_files.result _ _ (λ reply h. compare_answer words c.args.command.now file reply c.requires h)
    (answer_named c.compare_files.result words c.args.command.now file c.file_name-liberty.result.now c.file_name-verilog.result.now
    c.requires c.file_name-liberty.ensures c.file_name-verilog.ensures (c.compare_files.ensures.reply told))

pub returns-clause-succeeds : goal.returns-clause-succeeds
returns-clause-succeeds g c told none reply outcome =
    c.compare_files.ensures.succeeds told none reply
    (reply_named (texts c.args.words.now) c.args.command.now _ reply _ _ c.requires c.file_name-liberty.ensures c.file_name-verilog.ensures outcome)

pub returns-clause-none_missing : goal.returns-clause-none_missing
returns-clause-none_missing g c told reply outcome =
    c.compare_files.ensures.none_missing told reply
    (reply_named (texts c.args.words.now) c.args.command.now _ reply _ _ c.requires c.file_name-liberty.ensures c.file_name-verilog.ensures outcome)

pub returns-clause-asked : goal.returns-clause-asked
returns-clause-asked g c =
    let n = named_both (texts c.args.words.now) c.args.command.now c.file_name-liberty.result.now c.file_name-verilog.result.now
    c.requires c.file_name-liberty.ensures c.file_name-verilog.ensures in
    rw n c.compare_files.ensures.asked
