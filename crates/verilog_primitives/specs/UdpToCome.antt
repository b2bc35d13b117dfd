-- What is still to come where a reader of a primitive stands, as a rule.
use Rattle.std.specs.Prelude.{ℕ, List, Result}
use Rattle.text_scan.specs.declared.limits.Limits.{Limits}
use Rattle.grammar.specs.Rule.{none, seq, many}
use Rattle.grammar.specs.Reading.{Stop, read}
use Rattle.verilog_directives.specs.declared.left.Left.{Left}
use Rattle.verilog_looks.specs.declared.halt.Refusal.{Refusal}
use Rattle.verilog_primitives.specs.declared.udp_text.PrimitiveText.{PrimitiveText}
use Rattle.verilog_primitives.specs.declared.udp_phase.UdpPhase.{UdpPhase}
use Rattle.verilog_primitives.specs.declared.udp_phase.UdpPhase.TheVariants as phases
use Rattle.verilog_primitives.specs.declared.udp_reader.UdpReader.{UdpReader}
use Rattle.verilog_primitives.specs.UdpGrammar.{UdpRule, udp_port_name, output_port, further_udp_ports, further_udp_names, udp_names_end, udp_names, udp_declaration, after_declarations, row, udp_end, table_end, rows, table, statement, declarations, udp_header_end, udp_ports_end, udp_ports, udp_body}

-- a rule in the declarations of a primitive, and those after it
abbrev pub in_declarations : List ℕ → Limits → UdpRule → UdpRule
in_declarations source limits rule = seq (seq rule (many (udp_declaration source limits))) (after_declarations source limits)

abbrev pub to_come : List ℕ → Limits → UdpPhase → UdpRule
to_come source limits phases.Header = udp_body source limits
to_come source limits phases.Port = udp_ports source limits
to_come source limits phases.OutputPort = seq (seq (output_port source limits) (further_udp_ports source limits)) (udp_ports_end source limits)
to_come source limits phases.PortName = seq (seq (udp_port_name source limits) (further_udp_ports source limits)) (udp_ports_end source limits)
to_come source limits phases.PortEnd = seq (further_udp_ports source limits) (udp_ports_end source limits)
to_come source limits phases.HeaderEnd = udp_header_end source limits
to_come source limits phases.Declarations = declarations source limits
to_come source limits phases.Name = in_declarations source limits (udp_names source limits)
to_come source limits phases.NameEnd = in_declarations source limits (seq (further_udp_names source limits) (udp_names_end source limits))
to_come source limits phases.Initial = statement source limits
to_come source limits phases.TableWord = table source limits
to_come source limits phases.Rows = rows source limits
to_come source limits phases.Row = seq (seq (row source limits) (many (row source limits))) (table_end source limits)
to_come source limits phases.TableEnd = udp_end source limits
to_come source limits phases.Done = none

abbrev pub Reading : Type 0
Reading = Result (PrimitiveText × List Left) (Stop Left Refusal)

-- what reading on gives
abbrev pub reads : List ℕ → Limits → UdpReader → List Left → Reading
reads source limits m ts = read (to_come source limits m.phase) m.text ts
