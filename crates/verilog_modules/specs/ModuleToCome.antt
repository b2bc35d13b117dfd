-- What is still to come where a reader of a module stands, as a rule.
use Rattle.std.specs.Prelude.{ℕ, zero, suc, ◌-◌, Bool, List, Result}
use Rattle.text_scan.specs.declared.limits.Limits.{Limits}
use Rattle.grammar.specs.Rule.{none, before, seq, many}
use Rattle.grammar.specs.Reading.{Stop, read}
use Rattle.verilog_directives.specs.declared.left.Left.{Left}
use Rattle.verilog_looks.specs.declared.halt.Refusal.{Refusal}
use Rattle.verilog_modules.specs.declared.module_text.ModuleText.{ModuleText}
use Rattle.verilog_modules.specs.declared.module_phase.ModulePhase.{ModulePhase}
use Rattle.verilog_modules.specs.declared.module_phase.ModulePhase.TheVariants as phases
use Rattle.verilog_modules.specs.declared.module_phase.ModuleAction.TheVariants as actions
use Rattle.verilog_modules.specs.declared.module_reader.ModuleReader.{ModuleReader}
use Rattle.verilog_looks.specs.Looks as looks
use Rattle.verilog_looks.specs.Looks.{look_of}
use Rattle.verilog_modules.specs.ModuleGrammar.{ModuleRule, act, port_name, net_port, port, further_ports, further_names, names_end, names, closing, between, delay_value, last, terminal, further_terminals, terminals_end, terminals, connections, instance, further_instances, instances_end, instances, delayed, specified, specify_end, item, module_end, items, header_end, ports_end, listed, ports, module_body}
use Rattle.verilog_modules.specs.ModuleGrammar as rules
use Rattle.verilog_modules.specs.ModuleMoves.{naming}

-- what the parentheses around a rule's are, of which so many are open
abbrev pub around : List ℕ → Limits → ℕ → ℕ → ModuleRule → ModuleRule
around source limits zero room inner = inner
around source limits (suc depth) room inner = around source limits depth (suc room) (seq (seq inner (many (between source limits (suc room)))) (closing source limits))

-- the rest of a delay of which one parenthesis and so many around it are open, in the innermost of which so many may be nested
unfoldable pub rest_of_delay : List ℕ → Limits → ℕ → ℕ → ModuleRule
rest_of_delay source limits depth room = around source limits depth room (seq (many (between source limits room)) (closing source limits))

-- a rule in the items of a module, and the items after it
abbrev pub in_items : List ℕ → Limits → ℕ → ModuleRule → ModuleRule
in_items source limits n rule = seq (seq rule (many (item source limits n))) (module_end source limits)

-- a rule in an instance, and the instances after it
abbrev pub in_instances : List ℕ → Limits → ℕ → Bool → ModuleRule → ModuleRule
in_instances source limits n o rule = in_items source limits n (seq (seq rule (further_instances source limits o)) (instances_end source limits))

abbrev pub to_come : List ℕ → Limits → ℕ → ModulePhase → ModuleRule
to_come source limits n phases.Header = module_body source limits n
to_come source limits n phases.Ports = ports source limits n
to_come source limits n phases.Port = listed source limits n
to_come source limits n phases.PortNet = seq (seq (net_port source limits) (further_ports source limits)) (ports_end source limits n)
to_come source limits n phases.PortName = seq (seq (port_name source limits) (further_ports source limits)) (ports_end source limits n)
to_come source limits n phases.PortEnd = seq (further_ports source limits) (ports_end source limits n)
to_come source limits n phases.HeaderEnd = header_end source limits n
to_come source limits n phases.Items = items source limits n
to_come source limits n phases.Name = in_items source limits n (names source limits)
to_come source limits n phases.NameEnd = in_items source limits n (seq (further_names source limits) (names_end source limits))
to_come source limits n (phases.Kind o) = in_items source limits n (delayed source limits n o)
to_come source limits n (phases.Hash o) = in_items source limits n (seq (delay_value source limits n) (instances source limits o))
to_come source limits n (phases.Delay o depth) = in_items source limits n (seq (rest_of_delay source limits (depth - 1) (n - depth)) (instances source limits o))
to_come source limits n (phases.Instance o) = in_items source limits n (instances source limits o)
to_come source limits n (phases.Labelled o) = in_instances source limits n o (connections source limits o actions.AddNet)
to_come source limits n (phases.Output o labelled) = in_instances source limits n o (terminals source limits o (naming labelled))
to_come source limits n (phases.Terminal o) = in_instances source limits n o (seq (seq (terminal source limits o) (further_terminals source limits o)) (terminals_end source limits))
to_come source limits n (phases.TerminalEnd o) = in_instances source limits n o (seq (further_terminals source limits o) (terminals_end source limits))
to_come source limits n (phases.Last o) = in_instances source limits n o (seq (seq (before (λ t. looks.is_close (look_of source t))) (further_terminals source limits o)) (terminals_end source limits))
to_come source limits n (phases.InstanceEnd o) = in_items source limits n (seq (further_instances source limits o) (instances_end source limits))
to_come source limits n phases.Specify = in_items source limits n (seq (specified source limits) (specify_end source limits))
to_come source limits n (phases.SpecifyLine line) = in_items source limits n (seq (seq (rules.beside_line source limits line) (specified source limits)) (specify_end source limits))
to_come source limits n phases.Done = none

abbrev pub Reading : Type 0
Reading = Result (ModuleText × List Left) (Stop Left Refusal)

-- what reading on gives
abbrev pub reads : List ℕ → Limits → ℕ → ModuleReader → List Left → Reading
reads source limits n m ts = read (to_come source limits n m.phase) m.text ts
