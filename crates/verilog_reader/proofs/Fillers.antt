-- Fillers in what a reader passes over.
use Rattle.std.proofs.Common.{◌≡◌, ℕ, suc, ◌≤◌, ◌==◌, Bool, true, false, not, ◌&&◌, ◌||◌, cond, List, [], ◌∷◌, ◌++◌, map, length, Ok, refl, sym, ap, subst, ◌∙◌, arith, length-append}
use Rattle.std.specs.Prelude.{nat_le, codes}
use Rattle.std.specs.List.{list_all}
use Rattle.std.specs.Str.{bytes_eq}
use Rattle.std.proofs.lemmas.Slice.Eq.{bytes_eq-Decides}
use Rattle.text_scan.specs.declared.token.Kind.{Kind}
use Rattle.text_scan.specs.declared.token.Kind.TheVariants as kinds
use Rattle.text_scan.specs.declared.token.Token.{Token}
use Rattle.text_scan.specs.declared.limits.Limits.{Limits}
use Rattle.text_scan.specs.Bytes.{begins_with, begins_with_pair}
use Rattle.text_scan.specs.Left.{is_end}
use Rattle.verilog_directives.specs.declared.left.Left.{Left}
use Rattle.verilog_directives.specs.declared.left.Role.TheVariants.{Plain}
use Rattle.verilog_directives.specs.Left.{item, followed}
use Rattle.verilog_directives.specs.Signs.{text as token_text, is_sign}
use Rattle.verilog_directives.specs.Skims.{begins_end, is_filler_text, is_filler}
use Rattle.verilog_looks.specs.declared.look.Look.{Look}
use Rattle.verilog_looks.specs.declared.look.Look.TheVariants as looks
use Rattle.verilog_modules.specs.declared.module_phase.ModulePhase.{ModulePhase}
use Rattle.verilog_modules.specs.declared.module_phase.ModulePhase.TheVariants as module_phases
use Rattle.verilog_modules.specs.declared.module_reader.ModuleReader.{ModuleReader}
use Rattle.verilog_looks.specs.Looks.{text, look_of, sign_of, word_look, number_look, identifier_look, three_look, four_look, five_look, six_look, seven_look, longer_look, long_look, sign_look, other_look, is_number_byte, is_specified, is_unread}
use Rattle.verilog_modules.specs.ModuleActions.{perform}
use Rattle.verilog_modules.specs.ModuleMoves as modules
use Rattle.verilog_reader.specs.declared.file_phase.FilePhase.{FilePhase}
use Rattle.verilog_reader.specs.declared.file_phase.FilePhase.TheVariants as phases
use Rattle.verilog_reader.specs.declared.file_reader.FileReader.{FileReader}
use Rattle.verilog_reader.specs.FileSteps.{rest_step, file_taken, in_module, is_done}
use Rattle.verilog_reader.specs.Skimming.{passes_over, IsSkimmed}
use Rattle.verilog_reader.proofs.Whole.{Holds, goes_on, measure}

-- ---- how fillers look

-- it may stand in a specify block and in a refused part
abbrev is_idle : Look → Bool
is_idle l = is_specified l && is_unread l

record IsIdle (l : Look) : Type 0 where
  idle : is_idle l ≡ true

at_once : (l : Look) → is_idle l ≡ true → IsIdle l
at_once l e = record { idle = e }

choose : (c : Bool) (x y : Look) → IsIdle x → IsIdle y → IsIdle (cond c x y)
choose true x y h k = h
choose false x y h k = k

either : (c : Bool) (x y : Look) → is_idle x ≡ true → IsIdle y → IsIdle (cond c x y)
either c x y h k = choose c x y (at_once x h) k

-- the second of two, where the test of the first doesn't hold
second : (c : Bool) (x y : Look) → c ≡ false → IsIdle y → IsIdle (cond c x y)
second true x y e k = absurd cc
second false x y e k = k

other_word : (w v : List ℕ) → begins_end w ≡ false → begins_end v ≡ true → bytes_eq w v ≡ false
other_word w v off on = go (bytes_eq w v) refl
  where
    go : (b : Bool) → bytes_eq w v ≡ b → bytes_eq w v ≡ false
    go true e = absurd (let same : begins_end w ≡ begins_end v = ap begins_end ((bytes_eq-Decides w v).0 e) in cc)
    go false e = e

three_idle : (w : List ℕ) → IsIdle (three_look w)
unfolding three_look
three_idle w =
    either (bytes_eq w (codes "and") || bytes_eq w (codes "nor") || bytes_eq w (codes "xor")) looks.Gate _ refl (
    either (bytes_eq w (codes "not") || bytes_eq w (codes "buf")) looks.Buffer _ refl (
    either (bytes_eq w (codes "reg")) looks.Reg _ refl (at_once looks.Name refl)))

four_idle : (w : List ℕ) → IsIdle (four_look w)
unfolding four_look
four_idle w =
    either (bytes_eq w (codes "nand") || bytes_eq w (codes "xnor")) looks.Gate _ refl (
    either (bytes_eq w (codes "wire")) looks.Wire _ refl (at_once looks.Name refl))

five_idle : (w : List ℕ) → IsIdle (five_look w)
unfolding five_look
five_idle w =
    either (bytes_eq w (codes "input")) looks.Input _ refl (
    either (bytes_eq w (codes "inout")) looks.Inout _ refl (
    either (bytes_eq w (codes "table")) looks.Table _ refl (at_once looks.Name refl)))

six_idle : (w : List ℕ) → IsIdle (six_look w)
unfolding six_look
six_idle w =
    either (bytes_eq w (codes "output")) looks.Output _ refl (
    either (bytes_eq w (codes "module")) looks.Module _ refl (at_once looks.Name refl))

seven_idle : (w : List ℕ) → IsIdle (seven_look w)
unfolding seven_look
seven_idle w =
    either (bytes_eq w (codes "supply0")) looks.Supply0 _ refl (
    either (bytes_eq w (codes "supply1")) looks.Supply1 _ refl (
    either (bytes_eq w (codes "specify")) looks.Specify _ refl (
    either (bytes_eq w (codes "initial")) looks.Initial _ refl (at_once looks.Name refl))))

long_idle : (w : List ℕ) → begins_end w ≡ false → IsIdle (long_look w)
unfolding long_look begins_end begins_with_pair begins_with
long_idle w off =
    either (bytes_eq w (codes "endtable")) looks.EndTable _ refl
    (second (bytes_eq w (codes "endmodule")) looks.EndModule _ (other_word w (codes "endmodule") off refl)
    (either (bytes_eq w (codes "primitive")) looks.Primitive _ refl
    (second (bytes_eq w (codes "endspecify")) looks.EndSpecify _ (other_word w (codes "endspecify") off refl)
    (second (bytes_eq w (codes "endprimitive")) looks.EndPrimitive looks.Name (other_word w (codes "endprimitive") off refl) (at_once looks.Name refl)))))

longer_idle : (w : List ℕ) → begins_end w ≡ false → IsIdle (longer_look w)
unfolding longer_look
longer_idle w off = choose (length w == 6) (six_look w) _ (six_idle w) (choose (length w == 7) (seven_look w) (long_look w) (seven_idle w) (long_idle w off))

identifier_idle : (w : List ℕ) → begins_end w ≡ false → IsIdle (identifier_look w)
unfolding identifier_look
identifier_idle w off =
    choose (length w == 2) _ _ (either (bytes_eq w (codes "or")) looks.Gate looks.Name refl (at_once looks.Name refl))
    (choose (length w == 3) (three_look w) _ (three_idle w)
    (choose (length w == 4) (four_look w) _ (four_idle w)
    (choose (length w == 5) (five_look w) (longer_look w) (five_idle w) (longer_idle w off))))

number_idle : (w : List ℕ) → IsIdle (number_look w)
unfolding number_look
number_idle w =
    either (bytes_eq w (codes "1'b0") || bytes_eq w (codes "1'B0")) looks.Zero _ refl
    (either (bytes_eq w (codes "1'b1") || bytes_eq w (codes "1'B1")) looks.One looks.Number refl (at_once looks.Number refl))

word_idle : (w : List ℕ) → begins_end w ≡ false → IsIdle (word_look w)
unfolding word_look
word_idle [] off = at_once looks.Number refl
word_idle (b ∷ bs) off =
    either (b == 92) looks.Name _ refl
    (choose (is_number_byte b) (number_look (b ∷ bs)) (identifier_look (b ∷ bs)) (number_idle (b ∷ bs)) (identifier_idle (b ∷ bs) off))

and_parts : (a b : Bool) → (a && b) ≡ true → (a ≡ true) × (b ≡ true)
and_parts true b e = (refl, e)
and_parts false b e = absurd cc

or_left : (a b : Bool) → (a || b) ≡ false → a ≡ false
or_left true b e = absurd cc
or_left false b e = refl

not_true : (b : Bool) → not b ≡ true → b ≡ false
not_true true e = absurd cc
not_true false e = refl

first : (c : Bool) (x y : Look) → c ≡ true → is_idle x ≡ true → IsIdle (cond c x y)
first true x y e h = at_once x h
first false x y e h = absurd cc

other_idle : (b : ℕ) → (nat_le 33 b && nat_le b 126) ≡ true → IsIdle (other_look b)
unfolding other_look
other_idle b on = first (nat_le 33 b && nat_le b 126) looks.Other looks.Barred on refl

sign_idle : (b : ℕ) → (nat_le 33 b && nat_le b 126) ≡ true → IsIdle (sign_look b)
unfolding sign_look
sign_idle b on =
    either (b == 40) looks.Open _ refl
    (either (b == 41) looks.Close _ refl
    (either (b == 44) looks.Comma _ refl
    (either (b == 59) looks.Semicolon _ refl
    (either (b == 35) looks.Hash (other_look b) refl (other_idle b on)))))

-- a filler is idle, and isn't the end
record Idles (source : List ℕ) (t : Token) : Type 0 where
  looks : is_idle (look_of source (item Plain t)) ≡ true
  shut : is_end t.kind ≡ false

idle : (source : List ℕ) (t : Token) → is_filler source t ≡ true → Idles source t
unfolding is_filler look_of text
idle source t on = go t.kind refl on
  where
    go : (k : Kind) → t.kind ≡ k → is_filler_text k (token_text source t) ≡ true → Idles source t
    go kinds.Word e f = record { looks = rw e (word_idle (token_text source t) (or_left (begins_end (token_text source t)) _ (not_true _ f))).idle; shut = ap is_end e }
    go kinds.Sign e f = record { looks = rw e (sign (token_text source t) f); shut = ap is_end e }
      where
        sign : (w : List ℕ) → (is_sign w && not (bytes_eq w (codes "`"))) ≡ true → is_idle (sign_of w) ≡ true
        sign [] f = absurd cc
        sign (b ∷ bs) f = (sign_idle b (and_parts _ _ f).0).idle
    go kinds.Str e f = absurd cc
    go kinds.Unfinished e f = absurd cc
    go kinds.LineEnd e f = absurd cc
    go kinds.End e f = absurd cc

-- ---- what a reader that passes them over does

rest_stays : (limits : Limits) (t : Left) (l : Look) (m : FileReader) → m.phase ≡ phases.Rest → is_idle l ≡ true → rest_step limits t l m ≡ Ok m
rest_stays limits t looks.EndModule m e i = absurd cc
rest_stays limits t looks.EndPrimitive m e i = absurd cc
rest_stays limits t looks.Barred m e i = absurd cc
rest_stays limits t looks.End m e i = absurd cc
rest_stays limits t _ m e i = ap (λ z. let q : FileReader = record m { phase = z } in Ok q) (sym e)

specify_stays : (line : ℕ) (l : Look) → is_idle l ≡ true → modules.at_specify line l ≡ modules.keep module_phases.Specify
specify_stays line looks.EndSpecify i = absurd cc
specify_stays line looks.Macro i = absurd cc
specify_stays line looks.Barred i = absurd cc
specify_stays line looks.End i = absurd cc
specify_stays line _ i = refl

module_stays : (source : List ℕ) (limits : Limits) (t : Left) (m : FileReader) → m.module_reader.phase ≡ module_phases.Specify → is_idle (look_of source t) ≡ true
    → in_module source limits t m (modules.taken source limits t m.module_reader) ≡ Ok m
unfolding modules.taken perform
module_stays source limits t m e i =
    let move : modules.module_move m.module_reader.phase t.token.span.line (look_of source t) ≡ modules.keep module_phases.Specify
    = ap (λ z. modules.module_move z t.token.span.line (look_of source t)) e ∙ specify_stays t.token.span.line (look_of source t) i in
    ap (λ z. in_module source limits t m (modules.led source limits t m.module_reader z)) move
    ∙ ap (λ z. let r : ModuleReader = record { phase = z; text = m.module_reader.text } in let q : FileReader = record m { module_reader = r } in Ok q) (sym e)

stays : (source : List ℕ) (limits : Limits) (t : Left) (m : FileReader) (p : FilePhase) (q : ModulePhase) → m.phase ≡ p → m.module_reader.phase ≡ q → passes_over p q ≡ true → is_idle (look_of source t) ≡ true
    → file_taken source limits t p m ≡ Ok m
stays source limits t m phases.Rest q e f on i = rest_stays limits t (look_of source t) m e i
stays source limits t m phases.Module module_phases.Specify e f on i = module_stays source limits t m f i
stays source limits t m phases.Module _ e f on i = absurd cc
stays source limits t m _ q e f on i = absurd cc

live : (p : FilePhase) (q : ModulePhase) → passes_over p q ≡ true → is_done p ≡ false
live phases.Done q on = absurd cc
live _ q on = refl

module _ (source : List ℕ) (limits : Limits) where
  one_passed : (m : FileReader) (t : Token) (us : List Left) → passes_over m.phase m.module_reader.phase ≡ true → is_filler source t ≡ true → Holds source limits m (item Plain t ∷ us) → Holds source limits m us
  unfolding followed
  one_passed m t us on is h =
      let idles = idle source t is in
      let shut : is_end t.kind ≡ false = idles.shut in
      let all : item Plain t ∷ us ≡ followed (item Plain t) us = rw shut refl in
      goes_on source limits m m (item Plain t) (item Plain t ∷ us) us h all (λ last. absurd (let open_token = idles.shut in cc)) (live m.phase m.module_reader.phase on)
      (stays source limits (item Plain t) m m.phase m.module_reader.phase refl refl on idles.looks)

  all_passed : (m : FileReader) (ts : List Token) (us : List Left) → passes_over m.phase m.module_reader.phase ≡ true → list_all (is_filler source) ts ≡ true → Holds source limits m (map (item Plain) ts ++ us) → Holds source limits m us
  all_passed m [] us on all h = h
  all_passed m (t ∷ ts) us on all h =
      let parts = and_parts (is_filler source t) _ all in
      all_passed m ts us on parts.1 (one_passed m t (map (item Plain) ts ++ us) on parts.0 h)

  -- what was passed over changes nothing
  skimmed_holds : (m : FileReader) (ts us : List Left) → Holds source limits m ts → IsSkimmed source m ts us → Holds source limits m us
  skimmed_holds m ts us h is = go (passes_over m.phase m.module_reader.phase) refl
    where
      here : Holds source limits m (map (item Plain) is.fillers ++ us)
      here = let P : List Left → Type 0 = λ z. Holds source limits m z in subst P is.front h

      go : (b : Bool) → passes_over m.phase m.module_reader.phase ≡ b → Holds source limits m us
      go true on = all_passed m is.fillers us on is.all here
      go false off = let P : List Token → Type 0 = λ z. Holds source limits m (map (item Plain) z ++ us) in subst P (is.idle off) here

  pub skimmed_at : (text : List ℕ) (m : FileReader) (ts us : List Left) → text ≡ source → Holds source limits m ts → IsSkimmed text m ts us → Holds source limits m us
  skimmed_at text m ts us e h is = skimmed_holds m ts us h (let P : List ℕ → Type 0 = λ z. IsSkimmed z m ts us in subst P e is)

  -- and brings no more items
  pub skimmed_measure : (text : List ℕ) (m : FileReader) (ts us : List Left) → IsSkimmed text m ts us → measure source limits m.phase us ≤ measure source limits m.phase ts
  skimmed_measure text m ts us is = go (is_done m.phase)
    where
      fewer : length us ≤ length ts
      fewer = let count = ap length is.front ∙ length-append (map (item Plain) is.fillers) us in omega arith

      go : (b : Bool) → cond b 0 (suc (length us)) ≤ cond b 0 (suc (length ts))
      go true = omega arith
      go false = let few = fewer in omega arith
