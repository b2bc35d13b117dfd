-- What was read of a file keeps the rules of names and shown words.
use Rattle.std.proofs.Common.{ℕ, List, Ok}
use Rattle.text_scan.specs.Limits.{standard}
use Rattle.liberty_source.specs.declared.Library.{Library}
use Rattle.liberty_source.specs.Library.{IsLibrary}
use Rattle.verilog_source.specs.declared.Source.{Source}
use Rattle.verilog_source.specs.Source.{IsSource}
use Rattle.liberty_reader.proofs.Public as liberty
use Rattle.verilog_reader.proofs.Lawful as verilog
use Rattle.qual_core.specs.Files.{IsLibraryRead, IsSourceRead}

pub library_kept : (bytes : List ℕ) (library : Library) → IsLibraryRead bytes (Ok library) → IsLibrary standard library
library_kept bytes library read = liberty.library_kept bytes standard library read.1

pub source_kept : (bytes : List ℕ) (source : Source) → IsSourceRead bytes (Ok source) → IsSource standard source
source_kept bytes source read = verilog.standard_kept bytes source read.1
