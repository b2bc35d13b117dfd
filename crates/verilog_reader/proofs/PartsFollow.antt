-- Each item of a part leads to what the grammar says, and parentheses stay few.
use Rattle.std.proofs.Common.{◌≡◌, ℕ, zero, suc, ◌+◌, ◌≤◌, leb, Bool, true, false, ◌==◌, List, ◌∷◌, Result, Ok, Err, refl, ◌∙◌, arith}
use Rattle.text_scan.specs.declared.limits.Limits.{Limits}
use Rattle.grammar.specs.Reading.{syntax, refusal, acting, read}
use Rattle.verilog_directives.specs.declared.left.Left.{Left}
use Rattle.verilog_looks.specs.declared.halt.Refusal.{Refusal}
use Rattle.verilog_looks.specs.declared.halt.Halt.{Halt}
use Rattle.verilog_looks.specs.declared.halt.Halt.TheVariants as halts
use Rattle.verilog_looks.specs.declared.look.Look.{Look}
use Rattle.verilog_looks.specs.declared.look.Look.TheVariants as looks
use Rattle.verilog_modules.specs.declared.module_text.ModuleText.{ModuleText}
use Rattle.verilog_modules.specs.declared.module_phase.ModulePhase.{ModulePhase}
use Rattle.verilog_modules.specs.declared.module_phase.ModulePhase.TheVariants as module_phases
use Rattle.verilog_modules.specs.declared.module_phase.ModuleMove.{ModuleMove}
use Rattle.verilog_modules.specs.declared.module_phase.ModuleMove.TheVariants as module_moves
use Rattle.verilog_modules.specs.declared.module_reader.ModuleReader.{ModuleReader}
use Rattle.verilog_primitives.specs.declared.udp_text.PrimitiveText.{PrimitiveText}
use Rattle.verilog_primitives.specs.declared.udp_phase.UdpPhase.{UdpPhase}
use Rattle.verilog_primitives.specs.declared.udp_phase.UdpPhase.TheVariants as udp_phases
use Rattle.verilog_primitives.specs.declared.udp_phase.UdpMove.{UdpMove}
use Rattle.verilog_primitives.specs.declared.udp_phase.UdpMove.TheVariants as udp_moves
use Rattle.verilog_primitives.specs.declared.udp_reader.UdpReader.{UdpReader}
use Rattle.verilog_looks.specs.Looks.{look_of, are_symbols}
use Rattle.verilog_modules.specs.ModuleActions.{perform}
use Rattle.verilog_modules.specs.ModuleMoves as modules
use Rattle.verilog_modules.specs.ModuleMoves.{module_move, at_header, at_ports, at_port, at_port_net, at_port_name, at_port_end, at_header_end, at_items, at_name, at_name_end, at_kind, at_hash, at_delay, at_instance, at_labelled, at_output, after_constant, at_terminal, at_terminal_end, at_last, at_instance_end, at_specify, beside, at_specify_line, closed}
use Rattle.verilog_modules.specs.ModuleBounds as module_bounds
use Rattle.verilog_modules.specs.ModuleToCome as modules_to_come
use Rattle.verilog_primitives.specs.UdpActions.{perform_udp}
use Rattle.verilog_primitives.specs.UdpMoves as udps
use Rattle.verilog_primitives.specs.UdpMoves.{udp_move}
use Rattle.verilog_primitives.specs.UdpBounds as udp_bounds
use Rattle.verilog_primitives.specs.UdpToCome as udps_to_come
use Rattle.verilog_modules.proofs.ModuleFollows as module_follows
use Rattle.verilog_primitives.proofs.UdpFollows as udp_follows
use Rattle.verilog_reader.specs.Bounds.{Sits}

-- ---- parentheses

-- the move leads to a phase in which it sits before k items
abbrev Lands : ℕ → ℕ → ModuleMove → Type 0
Lands n k module_moves.Stop = Unit {0}
Lands n k (module_moves.Go a p) = Sits n k p

lands_header : (n k : ℕ) (l : Look) → Lands n k (at_header l)
lands_header n k looks.Open = tt
lands_header n k looks.Semicolon = tt
lands_header n k _ = tt

lands_ports : (n k : ℕ) (l : Look) → Lands n k (at_ports l)
lands_ports n k looks.Close = tt
lands_ports n k _ = tt

lands_port : (n k : ℕ) (l : Look) → Lands n k (at_port l)
lands_port n k looks.Name = tt
lands_port n k _ = tt

lands_port_net : (n k : ℕ) (l : Look) → Lands n k (at_port_net l)
lands_port_net n k looks.Name = tt
lands_port_net n k _ = tt

lands_port_name : (n k : ℕ) (l : Look) → Lands n k (at_port_name l)
lands_port_name n k looks.Name = tt
lands_port_name n k _ = tt

lands_port_end : (n k : ℕ) (l : Look) → Lands n k (at_port_end l)
lands_port_end n k looks.Comma = tt
lands_port_end n k _ = tt

lands_header_end : (n k : ℕ) (l : Look) → Lands n k (at_header_end l)
lands_header_end n k looks.Semicolon = tt
lands_header_end n k _ = tt

lands_items : (n k : ℕ) (l : Look) → Lands n k (at_items l)
lands_items n k looks.Name = tt
lands_items n k _ = tt

lands_name : (n k : ℕ) (l : Look) → Lands n k (at_name l)
lands_name n k looks.Name = tt
lands_name n k _ = tt

lands_name_end : (n k : ℕ) (l : Look) → Lands n k (at_name_end l)
lands_name_end n k looks.Comma = tt
lands_name_end n k _ = tt

lands_kind : (n k : ℕ) (o : Bool) (l : Look) → Lands n k (at_kind o l)
lands_kind n k o looks.Name = tt
lands_kind n k o _ = tt

lands_hash : (n k : ℕ) (o : Bool) (l : Look) → suc k ≤ n → Lands n k (at_hash o l)
lands_hash n k o looks.Open h = ((omega arith), (omega arith))
lands_hash n k o _ h = tt

lands_closed : (n k : ℕ) (o : Bool) (depth : ℕ) → 1 ≤ depth → depth + suc k ≤ n → Sits n k (closed o depth)
unfolding closed
lands_closed n k o depth h g = go (leb depth 1) refl
  where
    go : (b : Bool) → leb depth 1 ≡ b → Sits n k (closed o depth)
    go true e = rw e tt
    go false e = let more = not_one depth e in rw e ((omega arith), (omega arith))
      where
        not_one : (d : ℕ) → leb d 1 ≡ false → 2 ≤ d
        not_one zero i = absurd cc
        not_one (suc zero) i = absurd cc
        not_one (suc (suc d)) i = omega arith

lands_delay : (n k : ℕ) (o : Bool) (depth : ℕ) (l : Look) → 1 ≤ depth → depth + suc k ≤ n → Lands n k (at_delay o depth l)
lands_delay n k o depth looks.Open h g = ((omega arith), (omega arith))
lands_delay n k o depth looks.Close h g = lands_closed n k o depth h g
lands_delay n k o depth looks.Barred h g = tt
lands_delay n k o depth looks.End h g = tt
lands_delay n k o depth _ h g = (h, (omega arith))

lands_instance : (n k : ℕ) (o : Bool) (l : Look) → Lands n k (at_instance o l)
lands_instance n k o looks.Name = tt
lands_instance n k o _ = tt

lands_labelled : (n k : ℕ) (o : Bool) (l : Look) → Lands n k (at_labelled o l)
lands_labelled n k o looks.Open = tt
lands_labelled n k o _ = tt

lands_output : (n k : ℕ) (o b : Bool) (l : Look) → Lands n k (at_output o b l)
lands_output n k o b looks.Name = tt
lands_output n k o b _ = tt

lands_terminal : (n k : ℕ) (o : Bool) (l : Look) → Lands n k (at_terminal o l)
lands_terminal n k true looks.Zero = tt
lands_terminal n k true looks.One = tt
lands_terminal n k false looks.Zero = tt
lands_terminal n k false looks.One = tt
lands_terminal n k o _ = tt

lands_terminal_end : (n k : ℕ) (o : Bool) (l : Look) → Lands n k (at_terminal_end o l)
lands_terminal_end n k o looks.Comma = tt
lands_terminal_end n k o _ = tt

lands_last : (n k : ℕ) (o : Bool) (l : Look) → Lands n k (at_last o l)
lands_last n k o looks.Close = tt
lands_last n k o _ = tt

lands_instance_end : (n k : ℕ) (o : Bool) (l : Look) → Lands n k (at_instance_end o l)
lands_instance_end n k o looks.Comma = tt
lands_instance_end n k o _ = tt

lands_specify : (n k line : ℕ) (l : Look) → Lands n k (at_specify line l)
lands_specify n k line looks.Macro = tt
lands_specify n k line _ = tt

lands_specify_line : (n k : ℕ) (b : Bool) (macro line : ℕ) (l : Look) → Lands n k (at_specify_line b macro line l)
lands_specify_line n k false macro line l = lands_specify n k line l
lands_specify_line n k true macro line looks.Macro = tt
lands_specify_line n k true macro line _ = tt

lands : (n k : ℕ) (p : ModulePhase) (line : ℕ) (l : Look) → Sits n (suc k) p → suc k ≤ n → Lands n k (module_move p line l)
lands n k module_phases.Header line l s h = lands_header n k l
lands n k module_phases.Ports line l s h = lands_ports n k l
lands n k module_phases.Port line l s h = lands_port n k l
lands n k module_phases.PortNet line l s h = lands_port_net n k l
lands n k module_phases.PortName line l s h = lands_port_name n k l
lands n k module_phases.PortEnd line l s h = lands_port_end n k l
lands n k module_phases.HeaderEnd line l s h = lands_header_end n k l
lands n k module_phases.Items line l s h = lands_items n k l
lands n k module_phases.Name line l s h = lands_name n k l
lands n k module_phases.NameEnd line l s h = lands_name_end n k l
lands n k (module_phases.Kind o) line l s h = lands_kind n k o l
lands n k (module_phases.Hash o) line l s h = lands_hash n k o l h
lands n k (module_phases.Delay o depth) line l s h = lands_delay n k o depth l s.0 s.1
lands n k (module_phases.Instance o) line l s h = lands_instance n k o l
lands n k (module_phases.Labelled o) line l s h = lands_labelled n k o l
lands n k (module_phases.Output o b) line l s h = lands_output n k o b l
lands n k (module_phases.Terminal o) line l s h = lands_terminal n k o l
lands n k (module_phases.TerminalEnd o) line l s h = lands_terminal_end n k o l
lands n k (module_phases.Last o) line l s h = lands_last n k o l
lands n k (module_phases.InstanceEnd o) line l s h = lands_instance_end n k o l
lands n k module_phases.Specify line l s h = lands_specify n k line l
lands n k (module_phases.SpecifyLine macro) line l s h = lands_specify_line n k (line == macro) macro line l
lands n k module_phases.Done line l s h = tt

-- the new phase sits, where the step leads to one
abbrev pub Settles : ℕ → ℕ → Result ModuleReader Halt → Type 0
Settles n k (Ok r) = Sits n k r.phase
Settles n k (Err e) = Unit {0}

pub settles : (source : List ℕ) (limits : Limits) (n k : ℕ) (m : ModuleReader) (t : Left) → Sits n (suc k) m.phase → suc k ≤ n → Settles n k (modules.taken source limits t m)
unfolding modules.taken
settles source limits n k m t s h = go (module_move m.phase t.token.span.line (look_of source t)) (lands n k m.phase t.token.span.line (look_of source t) s h)
  where
    moved : (p : ModulePhase) (o : Result ModuleText Refusal) → Sits n k p → Settles n k (modules.moved p o)
    moved p (Ok x) g = g
    moved p (Err e) g = tt

    go : (move : ModuleMove) → Lands n k move → Settles n k (modules.led source limits t m move)
    go module_moves.Stop g = tt
    go (module_moves.Go a p) g = moved p (perform source limits a t m.text) g

pub is_open : (n k : ℕ) (p : ModulePhase) → Sits n (suc k) p → suc k ≤ n → modules.is_done p ≡ false → module_bounds.IsOpen n p
is_open n k (module_phases.Delay o depth) s h d = (s.0, (let few = s.1 in omega arith))
is_open n k module_phases.Done s h d = absurd cc
is_open n k _ s h d = omega arith

-- ---- what is read

module _ (source : List ℕ) (limits : Limits) where
  -- what is read where an item leads to this
  abbrev pub module_on : ℕ → Result ModuleReader Halt → Left → List Left → modules_to_come.Reading
  module_on n (Ok r) t ts = modules_to_come.reads source limits n r ts
  module_on n (Err halts.NoMemory) t ts = Err (syntax (t ∷ ts))
  module_on n (Err halts.Syntax) t ts = Err (syntax (t ∷ ts))
  module_on n (Err (halts.Refused e)) t ts = Err (refusal e (t ∷ ts))

  pub module_takes : (n : ℕ) (m : ModuleReader) (t : Left) (ts : List Left) → module_bounds.IsOpen n m.phase
      → modules_to_come.reads source limits n m (t ∷ ts) ≡ module_on n (modules.taken source limits t m) t ts
  unfolding modules.taken
  module_takes n m t ts h = module_follows.follows source limits n m.phase m.text t ts h ∙ go (module_move m.phase t.token.span.line (look_of source t))
    where
      acts : (p : ModulePhase) (o : Result ModuleText Refusal)
          → acting o (λ x. read (modules_to_come.to_come source limits n p) x ts) (λ e. Err (refusal e (t ∷ ts))) ≡ module_on n (modules.moved p o) t ts
      acts p (Ok x) = refl
      acts p (Err e) = refl

      go : (move : ModuleMove) → module_follows.outcome source limits n move t m.text ts ≡ module_on n (modules.led source limits t m move) t ts
      go module_moves.Stop = refl
      go (module_moves.Go a p) = acts p (perform source limits a t m.text)

  abbrev pub udp_on : Result UdpReader Halt → Left → List Left → udps_to_come.Reading
  udp_on (Ok r) t ts = udps_to_come.reads source limits r ts
  udp_on (Err halts.NoMemory) t ts = Err (syntax (t ∷ ts))
  udp_on (Err halts.Syntax) t ts = Err (syntax (t ∷ ts))
  udp_on (Err (halts.Refused e)) t ts = Err (refusal e (t ∷ ts))

  udp_is_open : (p : UdpPhase) → udps.is_done p ≡ false → udp_bounds.IsOpen p
  udp_is_open udp_phases.Done d = absurd cc
  udp_is_open _ d = tt

  pub udp_takes : (m : UdpReader) (t : Left) (ts : List Left) → udps.is_done m.phase ≡ false
      → udps_to_come.reads source limits m (t ∷ ts) ≡ udp_on (udps.taken source limits t m) t ts
  unfolding udps.taken
  udp_takes m t ts h = udp_follows.follows source limits m.phase m.text t ts (udp_is_open m.phase h) ∙ go (udp_move m.phase (are_symbols source t) (look_of source t))
    where
      acts : (p : UdpPhase) (o : Result PrimitiveText Refusal)
          → acting o (λ x. read (udps_to_come.to_come source limits p) x ts) (λ e. Err (refusal e (t ∷ ts))) ≡ udp_on (udps.moved p o) t ts
      acts p (Ok x) = refl
      acts p (Err e) = refl

      go : (move : UdpMove) → udp_follows.outcome source limits move t m.text ts ≡ udp_on (udps.led source limits t m move) t ts
      go udp_moves.Stop = refl
      go (udp_moves.Go a p) = acts p (perform_udp source limits a t m.text)
