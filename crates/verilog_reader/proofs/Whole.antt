-- What the reader tells is what the grammar says of the whole text.
use Rattle.std.proofs.Common.{◌≡◌, ℕ, zero, suc, ◌+◌, ◌≤◌, ◌<◌, ◌^◌, ◌-◌, ◌||◌, ◌==◌, Bool, true, false, cond, List, [], ◌∷◌, length, Result, Ok, Err, ◌⊎◌, inl, inr, refl, sym, ap, subst, ◌∙◌, arith}
use Rattle.text_scan.specs.declared.token.Kind.{Kind}
use Rattle.text_scan.specs.declared.token.Kind.TheVariants as kinds
use Rattle.text_scan.specs.declared.limits.Limits.{Limits}
use Rattle.text_scan.specs.declared.refusal.FileRefusal.{FileRefusal}
use Rattle.text_scan.specs.declared.refusal.FileRefusal.TheVariants as told
use Rattle.text_scan.specs.Left.{is_end}
use Rattle.grammar.specs.Rule.{seq, many}
use Rattle.grammar.specs.Reading.{syntax, ◌>>=◌, read}
use Rattle.verilog_directives.specs.declared.left.Left.{Left}
use Rattle.verilog_directives.specs.declared.left.Role.{Role}
use Rattle.verilog_directives.specs.declared.left.Role.TheVariants as roles
use Rattle.verilog_directives.specs.Left.{is_last, is_last_role, followed, left_of}
use Rattle.verilog_looks.specs.declared.halt.Refusal.{Refusal}
use Rattle.verilog_looks.specs.declared.halt.Refusal.TheVariants as refusals
use Rattle.verilog_looks.specs.declared.halt.Halt.{Halt}
use Rattle.verilog_looks.specs.declared.halt.Halt.TheVariants as halts
use Rattle.verilog_looks.specs.declared.look.Look.{Look}
use Rattle.verilog_looks.specs.declared.look.Look.TheVariants as looks
use Rattle.verilog_modules.specs.declared.module_phase.ModulePhase.{ModulePhase}
use Rattle.verilog_modules.specs.declared.module_phase.ModulePhase.TheVariants as module_phases
use Rattle.verilog_modules.specs.declared.module_phase.ModuleMove.TheVariants as module_moves
use Rattle.verilog_modules.specs.declared.module_text.ModuleText.{ModuleText}
use Rattle.verilog_primitives.specs.declared.udp_text.PrimitiveText.{PrimitiveText}
use Rattle.verilog_modules.specs.declared.module_reader.ModuleReader.{ModuleReader}
use Rattle.verilog_primitives.specs.declared.udp_phase.UdpPhase.{UdpPhase}
use Rattle.verilog_primitives.specs.declared.udp_phase.UdpPhase.TheVariants as udp_phases
use Rattle.verilog_primitives.specs.declared.udp_phase.UdpMove.TheVariants as udp_moves
use Rattle.verilog_primitives.specs.declared.udp_reader.UdpReader.{UdpReader}
use Rattle.verilog_looks.specs.Looks.{look_of, is_passed, are_symbols}
use Rattle.verilog_looks.specs.Names.{word_of}
use Rattle.verilog_modules.specs.ModuleMoves as modules
use Rattle.verilog_modules.specs.ModuleGrammar.{ModuleRule, port_name, net_port, port, further_ports, declared_name, further_names, names_end, names, closing, parentheses, between, delay_value, delay, terminal, further_terminals, terminals_end, terminals, connections, instance, further_instances, instances_end, instances, delayed, beside_line, specified, specify_end, item, module_end, items, header_end, ports_end, listed, ports, module_body}
use Rattle.verilog_primitives.specs.UdpGrammar.{udp_port_name, output_port, udp_port, further_udp_ports, udp_name, further_udp_names, udp_names_end, udp_names, symbols, row_end, row, udp_end, table_end, rows, table, stated, statement_end, statement, after_declarations, declarations, udp_header_end, udp_ports_end, udp_ports, udp_body}
use Rattle.verilog_reader.specs.FileGrammar.{line_rest, passed_line, module_name, primitive_name, outside, unread, part_rest}
use Rattle.verilog_modules.specs.ModuleToCome as modules_to_come
use Rattle.verilog_primitives.specs.UdpToCome as udps_to_come
use Rattle.verilog_modules.specs.ModuleBounds.{IsBounded}
use Rattle.verilog_primitives.specs.UdpMoves as udps
use Rattle.verilog_reader.specs.declared.file_text.FileText.{FileText}
use Rattle.verilog_reader.specs.declared.file_phase.FilePhase.{FilePhase}
use Rattle.verilog_reader.specs.declared.file_phase.FilePhase.TheVariants as phases
use Rattle.verilog_reader.specs.declared.file_phase.FileMove.{FileMove}
use Rattle.verilog_reader.specs.declared.file_phase.FileMove.TheVariants as file_moves
use Rattle.verilog_reader.specs.declared.file_reader.FileReader.{FileReader}
use Rattle.verilog_reader.specs.FileActions.{perform_file, no_file, refused_module, refused_udp}
use Rattle.verilog_reader.specs.File.{FileAnswer, IsSource}
use Rattle.verilog_reader.specs.FileSteps.{Stepped, at_top, at_line, at_module_word, at_primitive_word, outside_step, file_move, rest_step, skipped, moved, stop_module, module_refused, in_module, stop_udp, udp_refused, in_udp, file_taken, file_begun, is_done}
use Rattle.verilog_reader.specs.Bounds.{Sits, IsLive}
use Rattle.file_rules.specs.Told.{Steps}
use Rattle.verilog_reader.specs.Promise.{IsRead}
use Rattle.verilog_reader.proofs.Files.{one_more}
use Rattle.verilog_reader.proofs.PartsFollow.{Settles, settles}
use Rattle.verilog_reader.proofs.Turns.{FromHere, Turned, turned_map, turn}
use Rattle.verilog_reader.proofs.Counts.{few_left}

-- ---- the last item ends the reading

last_kind : (k : Kind) → is_end k ≡ true → k ≡ kinds.End
last_kind kinds.End e = refl
last_kind kinds.Word e = absurd cc
last_kind kinds.Str e = absurd cc
last_kind kinds.Sign e = absurd cc
last_kind kinds.Unfinished e = absurd cc
last_kind kinds.LineEnd e = absurd cc

last_look : (source : List ℕ) (t : Left) → is_last t ≡ true → (look_of source t ≡ looks.Barred) ⊎ (look_of source t ≡ looks.End)
unfolding look_of
last_look source t e = go t.role refl e
  where
    go : (role : Role) → t.role ≡ role → (is_last_role t.role || is_end t.token.kind) ≡ true → (look_of source t ≡ looks.Barred) ⊎ (look_of source t ≡ looks.End)
    go roles.Plain g h = let k = last_kind t.token.kind (rw g at h) in inr (rw (g, k) refl)
    go roles.Macro g h = let k = last_kind t.token.kind (rw g at h) in inl (rw (g, k) refl)
    go roles.Misplaced g h = inl (rw g refl)
    go roles.TooDeep g h = inl (rw g refl)
    go roles.LongName g h = inl (rw g refl)

module _ (source : List ℕ) (limits : Limits) where
  abbrev Stops : Look → Type 0
  Stops l = is_passed l ≡ false

  module_stops : (p : ModulePhase) (line : ℕ) (l : Look) → (l ≡ looks.Barred) ⊎ (l ≡ looks.End) → modules.module_move p line l ≡ module_moves.Stop
  module_stops p line l (inl h) = rw h (barred p line)
    where
      off : (b : Bool) (macro line : ℕ) → modules.at_specify_line b macro line looks.Barred ≡ module_moves.Stop
      off true macro line = refl
      off false macro line = refl

      barred : (p : ModulePhase) (line : ℕ) → modules.module_move p line looks.Barred ≡ module_moves.Stop
      barred (module_phases.SpecifyLine macro) line = off (line == macro) macro line
      barred module_phases.Header line = refl
      barred _ line = refl
  module_stops p line l (inr h) = rw h (ended p line)
    where
      off : (b : Bool) (macro line : ℕ) → modules.at_specify_line b macro line looks.End ≡ module_moves.Stop
      off true macro line = refl
      off false macro line = refl

      ended : (p : ModulePhase) (line : ℕ) → modules.module_move p line looks.End ≡ module_moves.Stop
      ended (module_phases.SpecifyLine macro) line = off (line == macro) macro line
      ended module_phases.Header line = refl
      ended _ line = refl

  udp_stops : (p : UdpPhase) (l : Look) → (l ≡ looks.Barred) ⊎ (l ≡ looks.End) → udps.udp_move p false l ≡ udp_moves.Stop
  udp_stops p l (inl h) = rw h (barred p)
    where
      barred : (p : UdpPhase) → udps.udp_move p false looks.Barred ≡ udp_moves.Stop
      barred udp_phases.Header = refl
      barred _ = refl
  udp_stops p l (inr h) = rw h (ended p)
    where
      ended : (p : UdpPhase) → udps.udp_move p false looks.End ≡ udp_moves.Stop
      ended udp_phases.Header = refl
      ended _ = refl

  not_passed : (l : Look) → (l ≡ looks.Barred) ⊎ (l ≡ looks.End) → is_passed l ≡ false
  not_passed l (inl h) = rw h refl
  not_passed l (inr h) = rw h refl

  no_symbols : (t : Left) → (look_of source t ≡ looks.Barred) ⊎ (look_of source t ≡ looks.End) → are_symbols source t ≡ false
  unfolding are_symbols
  no_symbols t (inl h) = rw h refl
  no_symbols t (inr h) = rw h refl

  -- an item after which nothing is left
  abbrev Last : Left → Type 0
  Last t = (look_of source t ≡ looks.Barred) ⊎ (look_of source t ≡ looks.End)

  module_taken : (m : ModuleReader) (t : Left) → Last t → modules.taken source limits t m ≡ Err halts.Syntax
  unfolding modules.taken
  module_taken m t h = let e = module_stops m.phase t.token.span.line (look_of source t) h in rw e refl

  udp_taken : (m : UdpReader) (t : Left) → Last t → udps.taken source limits t m ≡ Err halts.Syntax
  unfolding udps.taken
  udp_taken m t h = let a = no_symbols t h in let e = udp_stops m.phase (look_of source t) h in rw (a, e) refl

  -- the step to the whole file, or none
  abbrev Ends : Stepped → Type 0
  Ends (Ok m) = is_done m.phase ≡ true
  Ends (Err e) = Unit {0}

  top_ends : (l : Look) (m : FileReader) (t : Left) → (l ≡ looks.Barred) ⊎ (l ≡ looks.End) → Ends (outside_step source limits t m (at_top t.token.span.line l))
  unfolding perform_file
  top_ends l m t (inl h) = rw h tt
  top_ends l m t (inr h) = rw h refl

  line_ends : (b : Bool) (begun : ℕ) (l : Look) (m : FileReader) (t : Left) → (l ≡ looks.Barred) ⊎ (l ≡ looks.End) → Ends (outside_step source limits t m (at_line b begun t.token.span.line l))
  unfolding perform_file
  line_ends true begun l m t (inl h) = rw h tt
  line_ends true begun l m t (inr h) = rw h refl
  line_ends false begun l m t h = top_ends l m t h

  rest_ends : (l : Look) (m : FileReader) (t : Left) → (l ≡ looks.Barred) ⊎ (l ≡ looks.End) → Ends (rest_step limits t l m)
  rest_ends l m t (inl h) = rw h tt
  rest_ends l m t (inr h) = rw h tt

  word_ends : (l : Look) (m : FileReader) (t : Left) → (l ≡ looks.Barred) ⊎ (l ≡ looks.End) → Ends (outside_step source limits t m (at_module_word l)) × Ends (outside_step source limits t m (at_primitive_word l))
  word_ends l m t (inl h) = (rw h tt, rw h tt)
  word_ends l m t (inr h) = (rw h tt, rw h tt)

  pub ends_there : (p : FilePhase) (m : FileReader) (t : Left) → is_last t ≡ true → Ends (file_taken source limits t p m)
  ends_there phases.Top m t e = top_ends (look_of source t) m t (last_look source t e)
  ends_there (phases.Line line) m t e = line_ends (t.token.span.line == line) line (look_of source t) m t (last_look source t e)
  ends_there phases.ModuleWord m t e = (word_ends (look_of source t) m t (last_look source t e)).0
  ends_there phases.PrimitiveWord m t e = (word_ends (look_of source t) m t (last_look source t e)).1
  ends_there phases.Module m t e = let last = last_look source t e in let a = module_taken m.module_reader t last in let b = not_passed (look_of source t) last in rw (a, b) tt
  ends_there phases.Primitive m t e = let last = last_look source t e in let a = udp_taken m.udp_reader t last in let b = not_passed (look_of source t) last in rw (a, b) tt
  ends_there phases.Rest m t e = rest_ends (look_of source t) m t (last_look source t e)
  ends_there phases.Done m t e = tt

  -- ---- parentheses stay few

  abbrev SitsIn : ℕ → ℕ → Stepped → Type 0
  SitsIn n k (Ok m) = Sits n k m.module_reader.phase
  SitsIn n k (Err e) = Unit {0}

  fewer : (n k : ℕ) (p : ModulePhase) → Sits n (suc k) p → Sits n k p
  fewer n k (module_phases.Delay o depth) h = (h.0, (let g = h.1 in omega arith))
  fewer n k module_phases.Header h = tt
  fewer n k _ h = tt

  outside_sits : (n k : ℕ) (m : FileReader) (t : Left) (move : FileMove) → SitsIn n k (outside_step source limits t m move)
  outside_sits n k m t file_moves.Stop = tt
  outside_sits n k m t (file_moves.Go a p) = go (perform_file source limits a t m.text)
    where
      go : (o : Result FileText Refusal) → SitsIn n k (moved source limits t m p o)
      go (Ok f) = tt
      go (Err e) = tt

  rest_sits : (n k : ℕ) (l : Look) (m : FileReader) (t : Left) → Sits n k m.module_reader.phase → SitsIn n k (rest_step limits t l m)
  rest_sits n k looks.EndModule m t h = h
  rest_sits n k looks.EndPrimitive m t h = h
  rest_sits n k looks.Barred m t h = tt
  rest_sits n k looks.End m t h = tt
  rest_sits n k _ m t h = h

  skipped_sits : (n k : ℕ) (m : FileReader) (f : FileText) (t : Left) → SitsIn n k (skipped source limits t m f)
  skipped_sits n k m f t = rest_sits n k (look_of source t) (record { phase = phases.Rest; text = f; module_reader = modules.begun; udp_reader = udps.begun }) t tt

  stop_module_sits : (n k : ℕ) (m : FileReader) (t : Left) → SitsIn n k (stop_module source limits t m)
  stop_module_sits n k m t = go (is_passed (look_of source t)) refl
    where
      go : (b : Bool) → is_passed (look_of source t) ≡ b → SitsIn n k (stop_module source limits t m)
      go true e = rw e (skipped_sits n k m (refused_module m.text (word_of source t) t.token.span.line) t)
      go false e = rw e tt

  module_refused_sits : (n k : ℕ) (m : FileReader) (t : Left) (e : Refusal) → SitsIn n k (module_refused source limits t m e)
  module_refused_sits n k m t (refusals.TooMany kind) = tt
  module_refused_sits n k m t (refusals.BadName token) = tt
  module_refused_sits n k m t (refusals.DoubleName token) = tt
  module_refused_sits n k m t refusals.Here = skipped_sits n k m (refused_module m.text (word_of source t) t.token.span.line) t
  module_refused_sits n k m t (refusals.NoDirection name) = skipped_sits n k m (refused_module m.text name t.token.span.line) t

  in_module_sits : (n k : ℕ) (m : FileReader) (t : Left) (o : Result ModuleReader Halt) → Settles n k o → SitsIn n k (in_module source limits t m o)
  in_module_sits n k m t (Err halts.NoMemory) h = stop_module_sits n k m t
  in_module_sits n k m t (Err halts.Syntax) h = stop_module_sits n k m t
  in_module_sits n k m t (Err (halts.Refused e)) h = module_refused_sits n k m t e
  in_module_sits n k m t (Ok q) h = go (modules.is_done q.phase) refl
    where
      go : (b : Bool) → modules.is_done q.phase ≡ b → SitsIn n k (in_module source limits t m (Ok q))
      go true e = rw e tt
      go false e = rw e h

  stop_udp_sits : (n k : ℕ) (m : FileReader) (t : Left) → SitsIn n k (stop_udp source limits t m)
  stop_udp_sits n k m t = go (is_passed (look_of source t)) refl
    where
      go : (b : Bool) → is_passed (look_of source t) ≡ b → SitsIn n k (stop_udp source limits t m)
      go true e = rw e (skipped_sits n k m (refused_udp m.text (word_of source t) t.token.span.line) t)
      go false e = rw e tt

  udp_refused_sits : (n k : ℕ) (m : FileReader) (t : Left) (e : Refusal) → SitsIn n k (udp_refused source limits t m e)
  udp_refused_sits n k m t (refusals.TooMany kind) = tt
  udp_refused_sits n k m t (refusals.BadName token) = tt
  udp_refused_sits n k m t (refusals.DoubleName token) = tt
  udp_refused_sits n k m t refusals.Here = skipped_sits n k m (refused_udp m.text (word_of source t) t.token.span.line) t
  udp_refused_sits n k m t (refusals.NoDirection name) = skipped_sits n k m (refused_udp m.text name t.token.span.line) t

  in_udp_sits : (n k : ℕ) (m : FileReader) (t : Left) (o : Result UdpReader Halt) → Sits n k m.module_reader.phase → SitsIn n k (in_udp source limits t m o)
  in_udp_sits n k m t (Err halts.NoMemory) h = stop_udp_sits n k m t
  in_udp_sits n k m t (Err halts.Syntax) h = stop_udp_sits n k m t
  in_udp_sits n k m t (Err (halts.Refused e)) h = udp_refused_sits n k m t e
  in_udp_sits n k m t (Ok q) h = go (udps.is_done q.phase) refl
    where
      go : (b : Bool) → udps.is_done q.phase ≡ b → SitsIn n k (in_udp source limits t m (Ok q))
      go true e = rw e h
      go false e = rw e h

  taken_sits : (n k : ℕ) (p : FilePhase) (m : FileReader) (t : Left) → Sits n (suc k) m.module_reader.phase → suc k ≤ n → SitsIn n k (file_taken source limits t p m)
  taken_sits n k phases.Top m t h few = outside_sits n k m t (file_move phases.Top t.token.span.line (look_of source t))
  taken_sits n k (phases.Line line) m t h few = outside_sits n k m t (file_move (phases.Line line) t.token.span.line (look_of source t))
  taken_sits n k phases.ModuleWord m t h few = outside_sits n k m t (file_move phases.ModuleWord t.token.span.line (look_of source t))
  taken_sits n k phases.PrimitiveWord m t h few = outside_sits n k m t (file_move phases.PrimitiveWord t.token.span.line (look_of source t))
  taken_sits n k phases.Module m t h few = in_module_sits n k m t (modules.taken source limits t m.module_reader) (settles source limits n k m.module_reader t h few)
  taken_sits n k phases.Primitive m t h few = in_udp_sits n k m t (udps.taken source limits t m.udp_reader) (fewer n k m.module_reader.phase h)
  taken_sits n k phases.Rest m t h few = rest_sits n k (look_of source t) m t (fewer n k m.module_reader.phase h)
  taken_sits n k phases.Done m t h few = tt

  -- ---- between two items

  abbrev pub n : ℕ
  n = length (left_of source limits) + 1

  -- what holds before these items
  pub record Holds (m : FileReader) (ts : List Left) : Type 0 where
    pub so_far : (r : FileAnswer) → FromHere source limits n m.phase m ts r → IsSource source limits r
    pub live : IsLive m.phase m
    pub sits : is_done m.phase ≡ false → Sits n (length ts) m.module_reader.phase
    pub few : length ts + 1 ≤ n

  pub at_start : (m : FileReader) (ts : List Left) → m ≡ file_begun → ts ≡ left_of source limits → Holds m ts
  at_start m ts f e = let P : FileReader → Type 0 = λ z. Holds z ts in subst P (sym f) (record {
    so_far = λ r g. one_more source limits n no_file (left_of source limits) r (subst (λ z. FromHere source limits n phases.Top file_begun z r) e g);
    live = tt;
    sits = λ d. tt;
    few = let same = ap length e in omega arith;
  })

  not_bounded : (k : ℕ) (p : ModulePhase) → Sits n (suc k) p → n < 2 ^ 64 → IsBounded p
  not_bounded k (module_phases.Delay o depth) h small = let g = h.1 in omega arith
  not_bounded k module_phases.Header h small = omega arith
  not_bounded k _ h small = omega arith

  followed_first : (t : Left) (ts : List Left) → (us : List Left) × (followed t ts ≡ t ∷ us)
  unfolding followed
  followed_first t ts = go (is_last t) refl
    where
      go : (b : Bool) → is_last t ≡ b → (us : List Left) × (followed t ts ≡ t ∷ us)
      go true e = ([], rw e refl)
      go false e = (ts, rw e refl)

  -- the next item can be taken
  pub bounded : (m : FileReader) (t : Left) (os ts : List Left) → Holds m os → os ≡ followed t ts → is_done m.phase ≡ false → length source + 2 < 2 ^ 64 → IsBounded m.module_reader.phase
  bounded m t os ts h e d small =
      let first = followed_first t ts in
      let count : length os ≡ suc (length first.0) = ap length (e ∙ first.1) in
      let sits : Sits n (suc (length first.0)) m.module_reader.phase = subst (λ z. Sits n z m.module_reader.phase) count (h.sits d) in
      let few = few_left source limits in
      not_bounded (length first.0) m.module_reader.phase sits (omega arith)

  -- what a step from here gives
  stepped : (m : FileReader) (t : Left) (os ts : List Left) → Holds m os → os ≡ t ∷ ts → is_done m.phase ≡ false → Turned source limits n (file_taken source limits t m.phase m) (λ r. IsSource source limits r) ts
  stepped m t os ts h e d =
      let count : length os ≡ suc (length ts) = ap length e in
      let sits : Sits n (suc (length ts)) m.module_reader.phase = subst (λ z. Sits n z m.module_reader.phase) count (h.sits d) in
      let few = h.few in
      turned_map source limits n (file_taken source limits t m.phase m) (FromHere source limits n m.phase m (t ∷ ts)) (λ r. IsSource source limits r) ts
      (λ r f. h.so_far r (subst (λ z. FromHere source limits n m.phase m z r) (sym e) f))
      (turn source limits n m.phase m t ts refl d h.live sits (omega arith))

  -- the whole file was read: the items no longer matter
  done_holds : (p : FilePhase) (k m : FileReader) (ts us : List Left) → is_done p ≡ true → (r : FileAnswer) → FromHere source limits n p m ts r → FromHere source limits n p m us r
  done_holds phases.Done k m ts us d r f = f
  done_holds _ k m ts us d r f = absurd cc

  goes_last : (m q : FileReader) (t : Left) (os : List Left) → Holds m os → os ≡ t ∷ [] → is_done m.phase ≡ false → is_last t ≡ true → file_taken source limits t m.phase m ≡ Ok q → Holds q os
  goes_last m q t os h e d l g =
      let led : Turned source limits n (Ok q) (λ r. IsSource source limits r) [] = subst (λ o. Turned source limits n o (λ r. IsSource source limits r) []) g (stepped m t os [] h e d) in
      let done : is_done q.phase ≡ true = subst Ends g (ends_there m.phase m t l) in
      record {
        so_far = λ r f. led.0 r (done_holds q.phase m q os [] done r f);
        live = led.1;
        sits = λ not_done. absurd (let bad = sym done ∙ not_done in cc);
        few = h.few;
      }

  goes_next : (m q : FileReader) (t : Left) (os ts : List Left) → Holds m os → os ≡ t ∷ ts → is_done m.phase ≡ false → file_taken source limits t m.phase m ≡ Ok q → Holds q ts
  goes_next m q t os ts h e d g =
      let led : Turned source limits n (Ok q) (λ r. IsSource source limits r) ts = subst (λ o. Turned source limits n o (λ r. IsSource source limits r) ts) g (stepped m t os ts h e d) in
      let count : length os ≡ suc (length ts) = ap length e in
      let sits : Sits n (suc (length ts)) m.module_reader.phase = subst (λ z. Sits n z m.module_reader.phase) count (h.sits d) in
      let few = h.few in
      record {
        so_far = led.0;
        live = led.1;
        sits = λ not_done. subst (SitsIn n (length ts)) g (taken_sits n (length ts) m.phase m t sits (omega arith));
        few = omega arith;
      }

  -- after an item
  pub goes_on : (m q : FileReader) (t : Left) (os ts : List Left) → Holds m os → os ≡ followed t ts → (is_last t ≡ true → ts ≡ os) → is_done m.phase ≡ false → file_taken source limits t m.phase m ≡ Ok q → Holds q ts
  unfolding followed
  goes_on m q t os ts h e stays d g = go (is_last t) refl
    where
      go : (b : Bool) → is_last t ≡ b → Holds q ts
      go true l = let same = stays l in let P : List Left → Type 0 = λ z. Holds q z in subst P (sym same) (goes_last m q t os h (e ∙ rw l refl) d l g)
      go false l = goes_next m q t os ts h (e ∙ rw l refl) d g

  abbrev pub measure : FilePhase → List Left → ℕ
  measure p ts = cond (is_done p) 0 (suc (length ts))

  pub smaller : (m q : FileReader) (t : Left) (os ts : List Left) → os ≡ followed t ts → (is_last t ≡ true → ts ≡ os) → is_done m.phase ≡ false → file_taken source limits t m.phase m ≡ Ok q → measure q.phase ts < measure m.phase os
  unfolding followed
  smaller m q t os ts e stays d g = go (is_last t) refl
    where
      less : (b : Bool) → is_done q.phase ≡ b → length ts < length os → cond (is_done q.phase) 0 (suc (length ts)) < suc (length os)
      less true i h = rw i (omega arith)
      less false i h = rw i (omega arith)

      go : (b : Bool) → is_last t ≡ b → measure q.phase ts < measure m.phase os
      go true l = let done : is_done q.phase ≡ true = subst Ends g (ends_there m.phase m t l) in rw (d, done) (omega arith)
      go false l = let all : os ≡ t ∷ ts = e ∙ rw l refl in let count : length os ≡ suc (length ts) = ap length all in rw d (less (is_done q.phase) refl (omega arith))

  -- ---- what is told

  -- what is read of no items, where more must come
  around_nothing : (depth room : ℕ) (a : ModuleRule) (s : ModuleText) → read a s [] ≡ Err (syntax []) → read (modules_to_come.around source limits depth room a) s [] ≡ Err (syntax [])
  around_nothing zero room a s h = h
  around_nothing (suc depth) room a s h =
      around_nothing depth (suc room) (seq (seq a (many (between source limits (suc room)))) (closing source limits)) s (ap (λ r. (r >>= λ x. read (many (between source limits (suc room))) x.0 x.1) >>= λ x. read (closing source limits) x.0 x.1) h)

  no_parentheses : (k : ℕ) (s : ModuleText) → read (parentheses source limits k) s [] ≡ Err (syntax [])
  unfolding parentheses
  no_parentheses zero s = refl
  no_parentheses (suc k) s = refl

  no_delay : (o : Bool) (depth : ℕ) (s : ModuleText) → read (modules_to_come.to_come source limits n (module_phases.Delay o depth)) s [] ≡ Err (syntax [])
  unfolding modules_to_come.rest_of_delay closing
  no_delay o depth s =
      ap (λ r. ((r >>= λ x. read (instances source limits o) x.0 x.1) >>= λ x. read (many (item source limits n)) x.0 x.1) >>= λ x. read (module_end source limits) x.0 x.1)
      (around_nothing (depth - 1) (n - depth) (seq (many (between source limits (n - depth))) (closing source limits)) s refl)

  no_hash : (o : Bool) (s : ModuleText) → read (modules_to_come.to_come source limits n (module_phases.Hash o)) s [] ≡ Err (syntax [])
  unfolding delay_value
  no_hash o s =
      ap (λ r. ((r >>= λ x. read (instances source limits o) x.0 x.1) >>= λ x. read (many (item source limits n)) x.0 x.1) >>= λ x. read (module_end source limits) x.0 x.1) (no_parentheses n s)

  -- what is read of no items, where more must come
  no_module_items : (p : ModulePhase) (s : ModuleText) → modules.is_done p ≡ false → read (modules_to_come.to_come source limits n p) s [] ≡ Err (syntax [])
  unfolding module_body header_end ports listed port port_name net_port further_ports ports_end items module_end names declared_name further_names names_end delayed delay instances instance connections terminals terminal further_terminals terminals_end further_instances instances_end specified specify_end beside_line
  no_module_items module_phases.Header s d = refl
  no_module_items module_phases.Ports s d = refl
  no_module_items module_phases.Port s d = refl
  no_module_items module_phases.PortNet s d = refl
  no_module_items module_phases.PortName s d = refl
  no_module_items module_phases.PortEnd s d = refl
  no_module_items module_phases.HeaderEnd s d = refl
  no_module_items module_phases.Items s d = refl
  no_module_items module_phases.Name s d = refl
  no_module_items module_phases.NameEnd s d = refl
  no_module_items (module_phases.Kind o) s d = refl
  no_module_items (module_phases.Hash o) s d = no_hash o s
  no_module_items (module_phases.Delay o depth) s d = no_delay o depth s
  no_module_items (module_phases.Instance o) s d = refl
  no_module_items (module_phases.Labelled o) s d = refl
  no_module_items (module_phases.Output o labelled) s d = refl
  no_module_items (module_phases.Terminal true) s d = refl
  no_module_items (module_phases.Terminal false) s d = refl
  no_module_items (module_phases.TerminalEnd o) s d = refl
  no_module_items (module_phases.Last o) s d = refl
  no_module_items (module_phases.InstanceEnd o) s d = refl
  no_module_items module_phases.Specify s d = refl
  no_module_items (module_phases.SpecifyLine line) s d = refl
  no_module_items module_phases.Done s d = absurd cc

  no_udp_items : (p : UdpPhase) (s : PrimitiveText) → udps.is_done p ≡ false → read (udps_to_come.to_come source limits p) s [] ≡ Err (syntax [])
  unfolding udp_body udp_ports udp_port udp_port_name output_port further_udp_ports udp_ports_end udp_header_end declarations after_declarations table udp_names udp_name further_udp_names udp_names_end statement stated statement_end rows row symbols row_end table_end udp_end
  no_udp_items udp_phases.Header s d = refl
  no_udp_items udp_phases.Port s d = refl
  no_udp_items udp_phases.OutputPort s d = refl
  no_udp_items udp_phases.PortName s d = refl
  no_udp_items udp_phases.PortEnd s d = refl
  no_udp_items udp_phases.HeaderEnd s d = refl
  no_udp_items udp_phases.Declarations s d = refl
  no_udp_items udp_phases.Name s d = refl
  no_udp_items udp_phases.NameEnd s d = refl
  no_udp_items udp_phases.Initial s d = refl
  no_udp_items udp_phases.TableWord s d = refl
  no_udp_items udp_phases.Rows s d = refl
  no_udp_items udp_phases.Row s d = refl
  no_udp_items udp_phases.TableEnd s d = refl
  no_udp_items udp_phases.Done s d = absurd cc

  -- without items, where more must come
  nothing_left : (p : FilePhase) (m : FileReader) → is_done p ≡ false → IsLive p m → (r : FileAnswer) × FromHere source limits n p m [] r
  unfolding outside passed_line line_rest module_name primitive_name part_rest unread
  nothing_left phases.Top m d live = (Err (told.Syntax 0 0), refl)
  nothing_left (phases.Line line) m d live = (Err (told.Syntax 0 0), refl)
  nothing_left phases.ModuleWord m d live = (Err (told.Syntax 0 0), refl)
  nothing_left phases.PrimitiveWord m d live = (Err (told.Syntax 0 0), refl)
  nothing_left phases.Module m d live = let e = no_module_items m.module_reader.phase m.module_reader.text live in (Err (told.Syntax 0 0), rw e refl)
  nothing_left phases.Primitive m d live = let e = no_udp_items m.udp_reader.phase m.udp_reader.text live in (Err (told.Syntax 0 0), rw e refl)
  nothing_left phases.Rest m d live = (Err (told.Syntax 0 0), refl)
  nothing_left phases.Done m d live = absurd cc

  done_text : (p : FilePhase) (q : FileReader) (ts : List Left) → is_done p ≡ true → FromHere source limits n p q ts (Ok q.text)
  done_text phases.Done q ts g = refl
  done_text _ q ts g = absurd cc

  abbrev Answered : FileReader → List Left → Type 0
  Answered m ts = (r : FileAnswer) × FromHere source limits n m.phase m ts r

  answer_next : (q : FileReader) (ts : List Left) → (is_done q.phase ≡ false → Answered q ts) → Answered q ts
  answer_next q ts h = go (is_done q.phase) refl
    where
      go : (b : Bool) → is_done q.phase ≡ b → Answered q ts
      go true e = (Ok q.text, done_text q.phase q ts e)
      go false e = h e

  answer_turn : (o : Stepped) (m : FileReader) (t : Left) (ts : List Left) → Turned source limits n o (λ r. FromHere source limits n m.phase m (t ∷ ts) r) ts → SitsIn n (length ts) o
      → ((q : FileReader) → is_done q.phase ≡ false → IsLive q.phase q → Sits n (length ts) q.module_reader.phase → Answered q ts) → Answered m (t ∷ ts)
  answer_turn (Ok q) m t ts led z h = let w = answer_next q ts (λ d. h q d led.1 z) in (w.0, led.0 w.0 w.1)
  answer_turn (Err e) m t ts led z h = (Err e, led)

  -- from each state the items have an answer
  answer_from : (ts : List Left) (m : FileReader) → is_done m.phase ≡ false → IsLive m.phase m → Sits n (length ts) m.module_reader.phase → length ts ≤ n → Answered m ts
  answer_from [] m d live sits few = nothing_left m.phase m d live
  answer_from (t ∷ ts) m d live sits few =
      answer_turn (file_taken source limits t m.phase m) m t ts (turn source limits n m.phase m t ts refl d live sits few) (taken_sits n (length ts) m.phase m t sits few) (λ q i l z. answer_from ts q i l z (omega arith))

  -- each text has an answer
  pub answer_of : (r : FileAnswer) × IsSource source limits r
  answer_of =
      let w = answer_from (left_of source limits) file_begun refl tt tt (omega arith) in
      (w.0, one_more source limits n no_file (left_of source limits) w.0 w.1)

  -- memory ran out: there is an answer, which isn't told
  pub no_memory : IsRead source limits (Err told.NoMemory)
  no_memory = let w = answer_of in record { answer = w.0; is = w.1; agrees = tt }

  -- a step that refuses the file
  pub told_err : (U : Type 0) (e : FileRefusal) (m q : FileReader) (t : Left) (os ts : List Left) → Holds m os → os ≡ followed t ts → is_done m.phase ≡ false → Steps {U = U} (Err e) q (file_taken source limits t m.phase m) → IsRead source limits (Err e)
  told_err U e m q t os ts h f d g = go e g
    where
      first : (us : List Left) × (followed t ts ≡ t ∷ us)
      first = followed_first t ts

      so : (x : FileRefusal) → file_taken source limits t m.phase m ≡ Err x → IsSource source limits (Err x)
      so x i = subst (λ o. Turned source limits n o (λ r. IsSource source limits r) first.0) i (stepped m t os first.0 h (f ∙ first.1) d)

      go : (x : FileRefusal) → Steps {U = U} (Err x) q (file_taken source limits t m.phase m) → IsRead source limits (Err x)
      go told.NoMemory i = no_memory
      go (told.Syntax line column) i = record { answer = Err (told.Syntax line column); is = so (told.Syntax line column) i; agrees = refl }
      go (told.TooMany kind number) i = record { answer = Err (told.TooMany kind number); is = so (told.TooMany kind number) i; agrees = refl }
      go (told.DoubleName name line) i = record { answer = Err (told.DoubleName name line); is = so (told.DoubleName name line) i; agrees = refl }

  pub whole : (m : FileReader) (ts : List Left) (f : FileText) → Holds m ts → is_done m.phase ≡ true → f ≡ m.text → IsRead source limits (Ok f)
  whole m ts f h d e = record { answer = Ok m.text; is = h.so_far (Ok m.text) (done_text m.phase m ts d); agrees = ap Ok (sym e) }
