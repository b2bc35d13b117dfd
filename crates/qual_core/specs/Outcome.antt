-- What becomes of the words and the files that they name.
use Rattle.std.specs.Prelude.{◌≡◌, ◌&&◌, ◌==◌, if◌then◌else◌, ℕ, List, Option, Some, None, Ok, Err, codes}
use Rattle.liberty_source.specs.declared.Library.{Library}
use Rattle.verilog_source.specs.declared.Source.{Source}
use Rattle.compare_text.specs.Text.{IsReport}
use Rattle.compare_text.specs.declared.report.CompareReport.{CompareReport}
use Rattle.compare_text.specs.declared.report.Totals.{Totals}
use Rattle.qual_core.specs.Files.{IsLibraryRead, IsSourceRead}
use Rattle.qual_core.specs.Command.{command_of, name_beside}
use Rattle.qual_core.specs.declared.command.Command.{Command}
use Rattle.qual_core.specs.declared.command.CommandName.{CommandName}
use Rattle.qual_core.specs.declared.command.CommandName.TheVariants.{Compare}
use Rattle.qual_core.specs.declared.command.FileOption.TheVariants.{Liberty, Verilog}
use Rattle.qual_core.specs.declared.reply.Reply.{Reply}
use Rattle.qual_core.specs.declared.reply.Status.{Status}
use Rattle.qual_core.specs.declared.reply.Status.TheVariants.{Done, Faulty, Usage, FileRefused}

-- where the words are no command
abbrev pub usage : Reply
usage = record { status = Usage; text = codes "usage: qual compare|check|replay|serve|sample --option value\n" }

-- where a file is refused
abbrev pub refused : List ℕ → Reply
refused line = record { status = FileRefused; text = line }

-- each cell is equal, or not
abbrev pub totals_status : Totals → Status
totals_status t = if t.differs == 0 && t.refused == 0 then Done else Faulty

abbrev pub report_reply : CompareReport → Reply
report_reply report = record { status = totals_status report.totals; text = report.text }

-- the reply for a library beside a source text
abbrev pub IsCompared : Library → Source → Reply → Type 0
IsCompared library source reply = (report : CompareReport) × IsReport library source report × (reply ≡ report_reply report)

-- the reply for a library and the bytes of the Verilog file
pub data IsSecondReply (library : Library) (bytes : List ℕ) (reply : Reply) : Type 0 where
  verilog_refused : (line : List ℕ) → IsSourceRead bytes (Err line) → reply ≡ refused line → IsSecondReply library bytes reply
  compared : (source : Source) → IsSourceRead bytes (Ok source) → IsCompared library source reply → IsSecondReply library bytes reply

-- The reply for the bytes of the Liberty file, and for what the shelf has as the Verilog file, which is started only where
-- the first is read.
pub data IsFirstReply (bytes : List ℕ) (second : Option (List ℕ)) (reply : Reply) : Type 0 where
  liberty_refused : (line : List ℕ) → IsLibraryRead bytes (Err line) → reply ≡ refused line → IsFirstReply bytes second reply
  liberty_read : (library : Library) → IsLibraryRead bytes (Ok library) → (verilog : List ℕ) → second ≡ Some verilog → IsSecondReply library verilog reply → IsFirstReply bytes second reply

-- the reply for the files of these names
abbrev pub IsCompareReply : List ℕ → List ℕ → (List ℕ → Option (List ℕ)) → Reply → Type 0
IsCompareReply liberty verilog file reply = (bytes : List ℕ) × (file liberty ≡ Some bytes) × IsFirstReply bytes (file verilog) reply

abbrev pub IsReplyOf : CommandName → List (List ℕ) → (List ℕ → Option (List ℕ)) → Reply → Type 0
IsReplyOf Compare words file reply = IsCompareReply (name_beside words Liberty) (name_beside words Verilog) file reply

abbrev pub IsReplyTo : Option Command → List (List ℕ) → (List ℕ → Option (List ℕ)) → Reply → Type 0
IsReplyTo None words file reply = reply ≡ usage
IsReplyTo (Some c) words file reply = IsReplyOf c.name words file reply

-- What is answered and written for the words over the files, where no device fails. There is no outcome where a file that
-- is started is not there.
abbrev pub IsOutcome : List (List ℕ) → (List ℕ → Option (List ℕ)) → Reply → Type 0
IsOutcome words file reply = IsReplyTo (command_of words) words file reply
