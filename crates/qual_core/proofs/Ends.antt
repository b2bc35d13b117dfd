-- How a run ends, by its status.
use Rattle.std.proofs.Common.{◌≡◌, ◌≤◌, inl, ℕ, List, [], ◌∷◌, ◌++◌, take, drop, length, append-nil, slice_get, Option, Some, None, IsSome, refl, sym, ◌∙◌, ap, subst, rules}
use Rattle.std.proofs.Math.Seq.{drop-append_seam}
use Rattle.std.proofs.lemmas.List.{take-append-drop}
use Rattle.desk_ports.specs.Sink.{AppendsPart}
use Rattle.compare_text.specs.Said.{SaidCell, lines_of, cells_said}
use Rattle.compare_text.specs.Blocks.{cells_compared, SaysEqualTruly}
use Rattle.compare_text.proofs.Saying.{part_truly}
use Rattle.qual_core.specs.Command.{command_of}
use Rattle.qual_core.specs.Outcome.{usage, refused, IsReplyTo, IsOutcome}
use Rattle.qual_core.specs.Top.{IsOnly, Blames, IsVerdict, IsDoneOrFaulty, IsUsageOrVerdict, IsAnswer, IsRefusal, UsageExactly, AnswersExactly, Writes, SpeaksTruly, WritesTruly, IsAnswerTo}
use Rattle.qual_core.specs.declared.command.Command.{Command}
use Rattle.qual_core.specs.declared.reply.Reply.{Reply}
use Rattle.qual_core.specs.declared.reply.Status.{Status}
use Rattle.qual_core.specs.declared.reply.Status.TheVariants.{Done, Faulty, Usage, FileRefused, ReadFault, WriteFault, NoMemory}

verdict_answers : (status : Status) → IsVerdict status → IsAnswer status
verdict_answers Done h = tt
verdict_answers Faulty h = tt
verdict_answers Usage h = absurd h
verdict_answers FileRefused h = tt
verdict_answers ReadFault h = absurd h
verdict_answers WriteFault h = absurd h
verdict_answers NoMemory h = absurd h

verdict_is_no_usage : (status : Status) → IsVerdict status → status ≡ Usage → ⊥
verdict_is_no_usage status h e = let f : IsVerdict Usage = rw e at h in f

-- a reply answers
pub reply_answers : (command : Option Command) (reply : Reply) → IsUsageOrVerdict command reply → IsAnswer reply.status
reply_answers None reply h = rw h tt
reply_answers (Some c) reply h = verdict_answers reply.status h

-- an answer is no fault
pub no_read_fault : (status : Status) → IsAnswer status → status ≡ ReadFault → ⊥
no_read_fault status h e = let f : IsAnswer ReadFault = rw e at h in f

pub no_write_fault : (status : Status) → IsAnswer status → status ≡ WriteFault → ⊥
no_write_fault status h e = let f : IsAnswer WriteFault = rw e at h in f

pub kept_blames : (P : Type 0) (before now : ℕ) → before ≤ now → now ≡ before → (P → ⊥) → Blames P before now
kept_blames P before now l k n = record { later = l; rose = λ p. absurd (n p); kept = λ _. k }

pub usage_exactly : (command : Option Command) (reply : Reply) (no_fault : Type 0) → IsUsageOrVerdict command reply → UsageExactly reply.status command no_fault
usage_exactly None reply no_fault h = record { only = λ e. refl; comes = λ e f. inl (ap (λ (r : Reply). r.status) h) }
usage_exactly (Some c) reply no_fault h = record { only = λ e. absurd (verdict_is_no_usage reply.status h e); comes = λ e f. absurd (cc) }

pub usage_text : (command : Option Command) (reply : Reply) → IsUsageOrVerdict command reply → reply.status ≡ Usage → reply.text ≡ usage.text
usage_text None reply h e = ap (λ (r : Reply). r.text) h
usage_text (Some c) reply h e = absurd (verdict_is_no_usage reply.status h e)

-- the whole text was written
pub writes_whole : (status : Status) (outcome : Reply → Type 0) (old new : List ℕ) (reply : Reply) → IsAnswer status → IsOnly outcome reply → reply.status ≡ status → new ≡ old ++ reply.text → Writes status outcome old new
writes_whole Done outcome old new reply h o e w = (reply, o, e, w)
writes_whole Faulty outcome old new reply h o e w = (reply, o, e, w)
writes_whole Usage outcome old new reply h o e w = (reply, o, e, w)
writes_whole FileRefused outcome old new reply h o e w = (reply, o, e, w)
writes_whole ReadFault outcome old new reply h o e w = absurd h
writes_whole WriteFault outcome old new reply h o e w = absurd h
writes_whole NoMemory outcome old new reply h o e w = absurd h

-- what was written says what is so
written : (old text new : List ℕ) → new ≡ old ++ text → drop (length old) new ≡ text
written old text new e = ap (drop (length old)) e ∙ drop-append_seam old text

pub writes_truly : (words : List (List ℕ)) (file : List ℕ → Option (List ℕ)) (old new : List ℕ) (reply : Reply) → IsAnswerTo words file reply → new ≡ old ++ reply.text → WritesTruly words file old new
writes_truly words file old new reply a e accepted =
    subst (λ text. SaysEqualTruly accepted.files.library accepted.files.source text) (sym (written old reply.text new e)) (a.truly accepted)

-- a first part of what is so
pub part_writes_truly : (words : List (List ℕ)) (file : List ℕ → Option (List ℕ)) (old new text : List ℕ) → SpeaksTruly words file text → AppendsPart old new text → WritesTruly words file old new
part_writes_truly words file old new text truly part accepted =
    let whole : take part.0 text ++ drop part.0 text ≡ text = take-append-drop part.0 text in
    let front = part_truly accepted.files.library accepted.files.source (take part.0 text) (drop part.0 text)
    (subst (λ t. SaysEqualTruly accepted.files.library accepted.files.source t) (sym whole) (truly accepted)) in
    subst (λ t. SaysEqualTruly accepted.files.library accepted.files.source t) (sym (written old (take part.0 text) new part.2)) front

-- nothing was written
no_cells : (k : ℕ) (said : SaidCell) → slice_get (cells_compared []) k ≡ Some said → ⊥
unfolding lines_of cells_said
no_cells k said h = cc

pub nothing_truly : (words : List (List ℕ)) (file : List ℕ → Option (List ℕ)) (old : List ℕ) → WritesTruly words file old old
nothing_truly words file old accepted k said h =
    let none : drop (length old) old ≡ [] = written old [] old (sym (append-nil old)) in
    absurd (no_cells k said (sym (ap (λ t. slice_get (cells_compared t) k) none) ∙ h))

some_command : (command : Option Command) (words : List (List ℕ)) (file : List ℕ → Option (List ℕ)) (reply : Reply) → IsReplyTo command words file reply → reply.status ≡ FileRefused → IsSome command
some_command None words file reply o e = absurd (let f : Usage ≡ FileRefused = sym (ap (λ (r : Reply). r.status) o) ∙ e in cc)
some_command (Some c) words file reply o e = search rules

-- an outcome that refuses is that of a file
refusal_of : (words : List (List ℕ)) (file : List ℕ → Option (List ℕ)) (reply : Reply) → IsOutcome words file reply → reply.status ≡ FileRefused → IsRefusal words file reply.text
refusal_of words file reply o e =
    let same : reply ≡ refused reply.text = ap (λ s. record { status = s; text = reply.text }) e in
    (some_command (command_of words) words file reply o e, subst (λ r. IsOutcome words file r) same o)

pub answers_exactly : (words : List (List ℕ)) (file : List ℕ → Option (List ℕ)) (reply : Reply) (no_fault : Type 0) → IsAnswer reply.status → IsAnswerTo words file reply → AnswersExactly reply.status words file no_fault
answers_exactly words file reply no_fault h a = record {
  only = λ _. (reply, a.outcome, refl);
  each = λ _ other o. ap (λ (r : Reply). r.status) (a.outcome.only other o);
  comes = λ other o nf. inl (ap (λ (r : Reply). r.status) (sym (a.outcome.only other o)));
  refused_only = λ e. (reply.text, refusal_of words file reply a.outcome.is e);
  refused_comes = λ line r nf. inl (a.refused_exactly line r);
}
