-- What a run answers, writes and asks for.
use Rattle.std.specs.Prelude.{◌≡◌, ◌≤◌, ◌<◌, ◌+◌, ◌++◌, ◌⊎◌, ℕ, max, List, [], ◌∷◌, Option, Some, None, Bool, if◌then◌else◌, IsTrue, IsSome, IsSomeAnd, Vec, length, drop, Result, Ok}
use Rattle.std.specs.declared.alloc.Global.{Global}
use Rattle.desk_ports.specs.Faults.{Rose}
use Rattle.desk_ports.specs.Sink.{AppendsPart}
use Rattle.desk_ports.specs.declared.asked.Asked.{Asked}
use Rattle.qual_core.specs.Command.{command_of, name_beside}
use Rattle.qual_core.specs.Files.{MAX_FILE, IsLibraryRead, IsSourceRead}
use Rattle.qual_core.specs.Outcome.{usage, refused, IsCompareReply, IsOutcome}
use Rattle.cell_compare.specs.declared.comparison.Comparison.{Comparison}
use Rattle.cell_compare.specs.Compare.{IsComparison}
use Rattle.cell_compare.specs.Equal.{SaysEqual, IsEqualPart}
use Rattle.compare_text.specs.Blocks.{SaysEqualTruly}
use Rattle.liberty_source.specs.declared.CellPart.{CellPart}
use Rattle.liberty_source.specs.declared.Library.{Library}
use Rattle.verilog_source.specs.declared.Source.{Source}
use Rattle.qual_core.specs.declared.command.Command.{Command}
use Rattle.qual_core.specs.declared.command.CommandName.TheVariants.{Compare}
use Rattle.qual_core.specs.declared.command.FileOption.TheVariants.{Liberty, Verilog}
use Rattle.qual_core.specs.declared.reply.Reply.{Reply}
use Rattle.qual_core.specs.declared.reply.Status.{Status}
use Rattle.qual_core.specs.declared.reply.Status.TheVariants.{Done, Faulty, Usage, FileRefused, ReadFault, WriteFault, NoMemory}

-- the exit status of the program
abbrev pub number_of : Status → ℕ
number_of Done = 0
number_of Faulty = 1
number_of Usage = 2
number_of FileRefused = 3
number_of ReadFault = 5
number_of WriteFault = 6
number_of NoMemory = 8

-- the bytes of a file, None where it is too long
abbrev pub IsRead : Option (List ℕ) → Option (Vec ℕ Global) → Type 0
IsRead file None = IsSomeAnd file (λ bytes. MAX_FILE < length bytes)
IsRead file (Some bytes) = file ≡ Some bytes.items

-- what was read of a file that is there, and nothing else can be
pub record IsLibraryOf (file : Option (List ℕ)) (read : Result Library (List ℕ)) : Type 0 where
  pub bytes : List ℕ
  pub there : file ≡ Some bytes
  pub is : IsLibraryRead bytes read
  pub only : (other : Result Library (List ℕ)) → IsLibraryRead bytes other → other ≡ read

pub record IsSourceOf (file : Option (List ℕ)) (read : Result Source (List ℕ)) : Type 0 where
  pub bytes : List ℕ
  pub there : file ≡ Some bytes
  pub is : IsSourceRead bytes read
  pub only : (other : Result Source (List ℕ)) → IsSourceRead bytes other → other ≡ read

-- the count of faults rose where the fault is told, and else stayed
pub record Blames (fault : Type 0) (before now : ℕ) : Type 0 where
  pub later : before ≤ now
  pub rose : fault → Rose before now
  pub kept : (fault → ⊥) → now ≡ before

-- what a command answers that no fault stops
abbrev pub IsVerdict : Status → Type 0
IsVerdict Done = Unit {0}
IsVerdict Faulty = Unit {0}
IsVerdict FileRefused = Unit {0}
IsVerdict status = ⊥

-- the usage line where the words are no command, and else a verdict
abbrev pub IsUsageOrVerdict : Option Command → Reply → Type 0
IsUsageOrVerdict None reply = reply ≡ usage
IsUsageOrVerdict (Some _) reply = IsVerdict reply.status

-- each of these files is there
abbrev pub AreThere : (List ℕ → Option (List ℕ)) → List (List ℕ) → Type 0
AreThere file [] = Unit {0}
AreThere file (name ∷ others) = IsSome (file name) × AreThere file others

-- each of these names is expected
abbrev pub AreExpected : (List ℕ → Bool) → List (List ℕ) → Type 0
AreExpected expects [] = Unit {0}
AreExpected expects (name ∷ others) = IsTrue (expects name) × AreExpected expects others

-- how many of these names are not expected
abbrev pub unexpected_count : (List ℕ → Bool) → List (List ℕ) → ℕ
unexpected_count expects [] = 0
unexpected_count expects (name ∷ others) = (if expects name then 0 else 1) + unexpected_count expects others

-- No more files were started than are named, none of another name, and of each no more than one byte was taken beyond what a file may have. Since this holds whatever names are expected, `each` says of every name that it was started at most as often as it is named.
pub record AsksFor (named : List (List ℕ)) (file : List ℕ → Option (List ℕ)) (expects : List ℕ → Bool) (old new : Asked) : Type 0 where
  pub starts : new.starts ≤ old.starts + length named
  pub missing : AreThere file named → new.missing ≡ old.missing
  pub unexpected : AreExpected expects named → new.unexpected ≡ old.unexpected
  pub each : new.unexpected ≤ old.unexpected + unexpected_count expects named
  pub most : new.most ≤ max old.most (MAX_FILE + 1)

-- what is answered where no fault and no want of memory stops the run
abbrev pub IsAnswer : Status → Type 0
IsAnswer ReadFault = ⊥
IsAnswer WriteFault = ⊥
IsAnswer NoMemory = ⊥
IsAnswer status = Unit {0}

-- neither the shelf's count of faults rose nor the sink's
pub record NoCountRose (shelf_before shelf_now sink_before sink_now : ℕ) : Type 0 where
  pub shelf : Rose shelf_before shelf_now → ⊥
  pub sink : Rose sink_before sink_now → ⊥

-- this status, unless memory was refused
abbrev pub IsOrNoMemory : Status → Status → Type 0
IsOrNoMemory status wanted = (status ≡ wanted) ⊎ (status ≡ NoMemory)

-- Usage comes only where the words are no command, and exactly there where no count rose.
pub record UsageExactly (status : Status) (command : Option Command) (no_fault : Type 0) : Type 0 where
  pub only : status ≡ Usage → command ≡ None
  pub comes : command ≡ None → no_fault → IsOrNoMemory status Usage

-- the reply is the outcome: it is one, and there is no other
pub record IsOnly (outcome : Reply → Type 0) (reply : Reply) : Type 0 where
  pub is : outcome reply
  pub only : (other : Reply) → outcome other → other ≡ reply

-- the words are a command of files of which one is refused, the first in reading order, with this line
abbrev pub IsRefusal : List (List ℕ) → (List ℕ → Option (List ℕ)) → List ℕ → Type 0
IsRefusal words file line = IsSome (command_of words) × IsOutcome words file (refused line)

-- An answer is the status of the one outcome, and where there is an outcome its status comes if no count rose. A refused
-- file is the answer exactly where one is refused.
pub record AnswersExactly (status : Status) (words : List (List ℕ)) (file : List ℕ → Option (List ℕ)) (no_fault : Type 0) : Type 0 where
  pub only : IsAnswer status → (reply : Reply) × IsOnly (IsOutcome words file) reply × (reply.status ≡ status)
  pub each : IsAnswer status → (reply : Reply) → IsOutcome words file reply → reply.status ≡ status
  pub comes : (reply : Reply) → IsOutcome words file reply → no_fault → IsOrNoMemory status reply.status
  pub refused_only : status ≡ FileRefused → (line : List ℕ) × IsRefusal words file line
  pub refused_comes : (line : List ℕ) → IsRefusal words file line → no_fault → IsOrNoMemory status FileRefused

-- What is written by each status: the one outcome's text whole, a part of it after a fault of the sink, and else nothing.
abbrev pub Writes : Status → (Reply → Type 0) → List ℕ → List ℕ → Type 0
Writes ReadFault outcome old new = new ≡ old
Writes NoMemory outcome old new = new ≡ old
Writes WriteFault outcome old new = (reply : Reply) × IsOnly outcome reply × AppendsPart old new reply.text
Writes status outcome old new = (reply : Reply) × IsOnly outcome reply × (reply.status ≡ status) × (new ≡ old ++ reply.text)

-- the files of these names are there, and are read as this library and this source text
pub record AreBothRead (liberty verilog : List ℕ) (file : List ℕ → Option (List ℕ)) : Type 0 where
  pub liberty_bytes : List ℕ
  pub verilog_bytes : List ℕ
  pub library : Library
  pub source : Source
  pub liberty_there : file liberty ≡ Some liberty_bytes
  pub verilog_there : file verilog ≡ Some verilog_bytes
  pub is_library : IsLibraryRead liberty_bytes (Ok library)
  pub is_source : IsSourceRead verilog_bytes (Ok source)

-- the command is `compare`
abbrev pub IsCompare : Option Command → Type 0
IsCompare None = ⊥
IsCompare (Some c) = c.name ≡ Compare

-- the words are a comparison, and both files that they name are read
pub record AreAccepted (words : List (List ℕ)) (file : List ℕ → Option (List ℕ)) : Type 0 where
  pub compares : IsCompare (command_of words)
  pub files : AreBothRead (name_beside words Liberty) (name_beside words Verilog) file

-- each cell was found equal
abbrev pub AreFoundEqual : List CellPart → Source → Type 0
AreFoundEqual [] source = Unit {0}
AreFoundEqual (p ∷ parts) source = ((c : Comparison) × IsComparison p source c × SaysEqual c) × AreFoundEqual parts source

-- the cells of the files that the words name are found equal
abbrev pub AreAllEqual : {words : List (List ℕ)} {file : List ℕ → Option (List ℕ)} → AreAccepted words file → Type 0
AreAllEqual a = AreFoundEqual a.files.library.cells a.files.source

-- Done comes exactly where both files are read and each cell is found equal, and Faulty exactly where they are read and one isn't.
pub record JudgesExactly (status : Status) (words : List (List ℕ)) (file : List ℕ → Option (List ℕ)) (no_fault : Type 0) : Type 0 where
  pub done : status ≡ Done → (a : AreAccepted words file) × AreAllEqual a
  pub done_comes : (a : AreAccepted words file) → AreAllEqual a → no_fault → IsOrNoMemory status Done
  pub faulty : status ≡ Faulty → (a : AreAccepted words file) × (AreAllEqual a → ⊥)
  pub faulty_comes : (a : AreAccepted words file) → (AreAllEqual a → ⊥) → no_fault → IsOrNoMemory status Faulty

-- each cell is equal
abbrev pub AreEqual : List CellPart → Source → Type 0
AreEqual [] source = Unit {0}
AreEqual (p ∷ parts) source = IsEqualPart p source × AreEqual parts source

-- both files are read, and each cell of the library is equal to its module
abbrev pub IsEqualLibrary : List (List ℕ) → (List ℕ → Option (List ℕ)) → Type 0
IsEqualLibrary words file = (a : AreAccepted words file) × AreEqual a.files.library.cells a.files.source

abbrev pub IsDoneOrFaulty : Status → Type 0
IsDoneOrFaulty Done = Unit {0}
IsDoneOrFaulty Faulty = Unit {0}
IsDoneOrFaulty status = ⊥

-- where both files are read, the text says of their cells what is so
abbrev pub SpeaksTruly : List (List ℕ) → (List ℕ → Option (List ℕ)) → List ℕ → Type 0
SpeaksTruly words file text = (a : AreAccepted words file) → SaysEqualTruly a.files.library a.files.source text

-- the same of the bytes that were written behind the old ones
abbrev pub WritesTruly : List (List ℕ) → (List ℕ → Option (List ℕ)) → List ℕ → List ℕ → Type 0
WritesTruly words file old new = SpeaksTruly words file (drop (length old) new)

-- ---- what the calls below answer

-- the reply for the files of these names
pub record IsCompareAnswer (liberty verilog : List ℕ) (file : List ℕ → Option (List ℕ)) (reply : Reply) : Type 0 where
  pub is : IsCompareReply liberty verilog file reply
  pub refused_exactly : (line : List ℕ) → IsCompareReply liberty verilog file (refused line) → reply.status ≡ FileRefused
  pub truly : (a : AreBothRead liberty verilog file) → SaysEqualTruly a.library a.source reply.text
  pub accepted : AreBothRead liberty verilog file → IsDoneOrFaulty reply.status

-- the reply for the words
pub record IsAnswerTo (words : List (List ℕ)) (file : List ℕ → Option (List ℕ)) (reply : Reply) : Type 0 where
  pub outcome : IsOnly (IsOutcome words file) reply
  pub refused_exactly : (line : List ℕ) → IsRefusal words file line → reply.status ≡ FileRefused
  pub truly : SpeaksTruly words file reply.text
  pub accepted : AreAccepted words file → IsDoneOrFaulty reply.status

-- the whole text of the one outcome was written, and the status is Done or Faulty as it says
abbrev pub IsWhole : Status → (Reply → Type 0) → List ℕ → List ℕ → Type 0
IsWhole status outcome old new = IsDoneOrFaulty status × ((reply : Reply) × IsOnly outcome reply × (reply.status ≡ status) × (new ≡ old ++ reply.text))

-- there is room for the text of the outcome
abbrev pub HasRoom : (Reply → Type 0) → ℕ → Type 0
HasRoom outcome room = (reply : Reply) → outcome reply → length reply.text ≤ room
