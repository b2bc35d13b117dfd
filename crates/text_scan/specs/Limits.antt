-- The limits of input files, and their words.
use Rattle.std.specs.Prelude.{ℕ, List, codes}
use Rattle.text_scan.specs.declared.limits.Limits.{Limits}
use Rattle.text_scan.specs.declared.limits.LimitKind.{LimitKind}
use Rattle.text_scan.specs.declared.limits.LimitKind.TheVariants.{Inputs, Gates, Transistors, Nodes, Rows, Pins, UdpInputs, Cells, Name, Nesting, Records, Rects}

abbrev pub standard : Limits
standard = record { file = 134217728; cells = 4096; nesting = 32; name = 128; records = 65536 }

abbrev pub word_of : LimitKind → List ℕ
word_of Inputs = codes "inputs"
word_of Gates = codes "gates"
word_of Transistors = codes "transistors"
word_of Nodes = codes "nodes"
word_of Rows = codes "rows"
word_of Pins = codes "pins"
word_of UdpInputs = codes "udp_inputs"
word_of Cells = codes "cells"
word_of Name = codes "name"
word_of Nesting = codes "nesting"
word_of Records = codes "records"
word_of Rects = codes "rects"
