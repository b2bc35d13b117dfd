use Rattle.std.proofs.Common.{refl, inr, rules}
use Rattle.qual_core.specs.Command.{texts, command_of}
use Rattle.qual_core.specs.Outcome.{IsOutcome}
use Rattle.qual_core.proofs.Ends.{reply_answers, no_read_fault, no_write_fault, kept_blames, usage_exactly, usage_text, writes_whole, writes_truly, part_writes_truly, nothing_truly, answers_exactly}
use Rattle.qual_core.proofs.Judging.{judges_exactly, done_is_equal}
use Rattle.qual_core.proofs.top.qual.Goals as goal

pub returns-in-Ok-put-clause-equal : goal.returns-in-Ok-put-clause-equal
returns-in-Ok-put-clause-equal g c told sink =
    writes_truly (texts c.args.words.now) (g.S.Shelf.file c.args.shelf.now) (g.K.Sink.written c.args.out.now) _ c.in-Ok.reply (c.in-Ok.ensures.reply told)
    (rw (← c.as_bytes.ensures) (c.in-Ok-put.ensures.ok sink))

pub returns-in-Err-ReadFault-clause-equal : goal.returns-in-Err-ReadFault-clause-equal
returns-in-Err-ReadFault-clause-equal g c told sink = nothing_truly (texts c.args.words.now) (g.S.Shelf.file c.args.shelf.now) (g.K.Sink.written c.args.out.now)

pub returns-in-Err-NoMemory-clause-equal : goal.returns-in-Err-NoMemory-clause-equal
returns-in-Err-NoMemory-clause-equal g c told sink = nothing_truly (texts c.args.words.now) (g.S.Shelf.file c.args.shelf.now) (g.K.Sink.written c.args.out.now)

pub returns-clause-equal : goal.returns-clause-equal
returns-clause-equal g c told sink =
    part_writes_truly (texts c.args.words.now) (g.S.Shelf.file c.args.shelf.now) (g.K.Sink.written c.args.out.now) (g.K.Sink.written c.put.new.self) c.in-Ok.reply.text
    (c.in-Ok.ensures.reply told).truly (rw (← c.as_bytes.ensures) (c.in-Err.ensures.err sink))

pub returns-in-Ok-put-clause-done_is_equal : goal.returns-in-Ok-put-clause-done_is_equal
returns-in-Ok-put-clause-done_is_equal g c told compares done =
    done_is_equal (texts c.args.words.now) (g.S.Shelf.file c.args.shelf.now) c.in-Ok.reply (c.in-Ok.ensures.reply told).outcome.is done

pub returns-in-Ok-put-clause-text : goal.returns-in-Ok-put-clause-text
returns-in-Ok-put-clause-text g c told sink =
    let answer = c.in-Ok.ensures.reply told in
    writes_whole c.in-Ok.reply.status (IsOutcome (texts c.args.words.now) (g.S.Shelf.file c.args.shelf.now)) _ _ c.in-Ok.reply
    (reply_answers (command_of (texts c.args.words.now)) c.in-Ok.reply c.in-Ok.ensures.status) answer.outcome refl
    (rw (← c.as_bytes.ensures) (c.in-Ok-put.ensures.ok sink))

pub returns-in-Ok-put-clause-usage_line : goal.returns-in-Ok-put-clause-usage_line
returns-in-Ok-put-clause-usage_line g c sink e =
    let t = usage_text (command_of (texts c.args.words.now)) c.in-Ok.reply c.in-Ok.ensures.status e in
    rw (← t, ← c.as_bytes.ensures) (c.in-Ok-put.ensures.ok sink)

pub returns-in-Ok-put-clause-read_fault : goal.returns-in-Ok-put-clause-read_fault
returns-in-Ok-put-clause-read_fault g c =
    kept_blames _ _ _ c.in-Ok.ensures.cause.later (c.in-Ok.ensures.cause.kept (search rules))
    (no_read_fault c.in-Ok.reply.status (reply_answers (command_of (texts c.args.words.now)) c.in-Ok.reply c.in-Ok.ensures.status))

pub returns-in-Ok-put-clause-write_fault : goal.returns-in-Ok-put-clause-write_fault
returns-in-Ok-put-clause-write_fault g c =
    kept_blames _ _ _ c.in-Ok-put.ensures.cause.later c.in-Ok-put.ensures.cause.kept
    (no_write_fault c.in-Ok.reply.status (reply_answers (command_of (texts c.args.words.now)) c.in-Ok.reply c.in-Ok.ensures.status))

pub returns-in-Ok-put-clause-usage : goal.returns-in-Ok-put-clause-usage
returns-in-Ok-put-clause-usage g c = usage_exactly (command_of (texts c.args.words.now)) c.in-Ok.reply _ c.in-Ok.ensures.status

pub returns-in-Ok-put-clause-answer : goal.returns-in-Ok-put-clause-answer
returns-in-Ok-put-clause-answer g c told =
    answers_exactly (texts c.args.words.now) (g.S.Shelf.file c.args.shelf.now) c.in-Ok.reply _
    (reply_answers (command_of (texts c.args.words.now)) c.in-Ok.reply c.in-Ok.ensures.status) (c.in-Ok.ensures.reply told)

pub returns-in-Ok-put-clause-verdict : goal.returns-in-Ok-put-clause-verdict
returns-in-Ok-put-clause-verdict g c told compares =
    judges_exactly (texts c.args.words.now) (g.S.Shelf.file c.args.shelf.now) c.in-Ok.reply _ (c.in-Ok.ensures.reply told).outcome.is

pub returns-in-Ok-put-clause-complete : goal.returns-in-Ok-put-clause-complete
returns-in-Ok-put-clause-complete g c told sink a nf =
    let answer = c.in-Ok.ensures.reply told in
    inr (answer.accepted a, (c.in-Ok.reply, answer.outcome, refl, rw (← c.as_bytes.ensures) (c.in-Ok-put.ensures.ok sink)))

pub returns-in-Ok-put-clause-no_read_fault : goal.returns-in-Ok-put-clause-no_read_fault
returns-in-Ok-put-clause-no_read_fault g c told none reply outcome =
    no_read_fault c.in-Ok.reply.status (reply_answers (command_of (texts c.args.words.now)) c.in-Ok.reply c.in-Ok.ensures.status)

pub returns-in-Ok-put-clause-no_write_fault : goal.returns-in-Ok-put-clause-no_write_fault
returns-in-Ok-put-clause-no_write_fault g c told sink none room =
    no_write_fault c.in-Ok.reply.status (reply_answers (command_of (texts c.args.words.now)) c.in-Ok.reply c.in-Ok.ensures.status)
