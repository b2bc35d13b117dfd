-- Each line leads to what the grammar says.
use Rattle.std.proofs.Common.{◌≡◌, ℕ, Bool, true, false, cond, ◌||◌, List, [], ◌∷◌, Result, Ok, Err, refl, sym, ap, subst, ◌∙◌}
use Rattle.text_scan.specs.declared.limits.Limits.{Limits}
use Rattle.text_scan.specs.declared.refusal.FileRefusal.{FileRefusal}
use Rattle.text_scan.specs.declared.refusal.FileRefusal.TheVariants as refusals
use Rattle.file_rules.specs.Told.{Agrees, Steps}
use Rattle.grammar.specs.Rule.{none, many, seq}
use Rattle.grammar.specs.Reading.{Stop, syntax, refusal, acting, read, ◌>>=◌}
use Rattle.grammar.specs.Answers.{read_all, to_end}
use Rattle.grammar.proofs.Stops.{many_turn, many_end}
use Rattle.table_source.specs.declared.Tables.{Tables}
use Rattle.correspondence.specs.Lines.{Line}
use Rattle.correspondence.specs.Kinds.{follows, is_kind, kind_of_line}
use Rattle.correspondence.specs.Actions.{enter}
use Rattle.correspondence.specs.Grammar.{LineRule, at_first, at_line, from_nodes, from_pins, from_state, from_udps, from_xpins, line, rows, table, tables, told}
use Rattle.correspondence.specs.Steps.{moved, reads, taken, to_come}
use Rattle.correspondence.specs.declared.kinds.LineKind.{LineKind}
use Rattle.correspondence.specs.declared.kinds.LineKind.TheVariants.{Table, Pins, Xpins, State, Udps, Nodes, Row, End, Other}
use Rattle.correspondence.specs.declared.parts.Parts.{Parts}
use Rattle.correspondence.specs.declared.parts.Reader.{Reader}
use Rattle.correspondence.proofs.Simple.{is_table, is_pins, is_xpins, is_state, is_udps, is_nodes, is_row, is_end, row_simple, table_simple}

abbrev Read : Type 0
Read = Result (Parts × List Line) (Stop Line FileRefusal)

abbrev then : LineRule → Parts × List Line → Read
then r x = read r x.0 x.1

module _ (limits : Limits) (text : List ℕ) where
  abbrev refused : Line → List Line → FileRefusal → Read
  refused l ls e = Err (refusal e (l ∷ ls))

  abbrev pub told_after : Result Reader FileRefusal → List Line → Result Tables FileRefusal
  told_after (Ok m) ls = told text (reads limits m ls)
  told_after (Err e) ls = Err e

  -- what reading on by a rule gives
  abbrev went : LineRule → Result Parts FileRefusal → List Line → Result Tables FileRefusal
  went r (Ok s) ls = told text (read_all r s ls)
  went r (Err e) ls = Err e

  moved_goes : (kind : LineKind) (o : Result Parts FileRefusal) (ls : List Line) → told_after (moved kind o) ls ≡ went (to_come limits kind) o ls
  moved_goes kind (Ok s) ls = refl
  moved_goes kind (Err e) ls = refl

  entered : (rest : LineRule) (o : Result Parts FileRefusal) (l : Line) (ls : List Line)
      → told text (to_end (acting o (λ m. read rest m ls) (refused l ls) >>= then (tables limits))) ≡ went (seq rest (tables limits)) o ls
  unfolding told
  entered rest (Ok s) l ls = refl
  entered rest (Err e) l ls = refl

  abbrev Leads : LineRule → Bool → Parts → Line → List Line → Type 0
  Leads r b s l ls = told text (read_all r s (l ∷ ls)) ≡ told_after (cond b (moved (kind_of_line l) (enter limits l s)) (Err (at_line l))) ls

  goes : (kind : LineKind) (rest : LineRule) → ((k : LineKind) → is_kind kind k ≡ true → k ≡ kind) → to_come limits kind ≡ seq rest (tables limits)
      → (s : Parts) (l : Line) (ls : List Line) → is_kind kind (kind_of_line l) ≡ true → Leads (seq (line limits kind rest) (tables limits)) true s l ls
  goes kind rest is come s l ls h =
      let one : read_all (seq (line limits kind rest) (tables limits)) s (l ∷ ls) ≡ to_end (acting (enter limits l s) (λ m. read rest m ls) (refused l ls) >>= then (tables limits)) = rw h refl in
      ap (told text) one ∙ entered rest (enter limits l s) l ls
      ∙ ap (λ r. went r (enter limits l s) ls) (sym come)
      ∙ ap (λ k. went (to_come limits k) (enter limits l s) ls) (sym (is (kind_of_line l) h))
      ∙ sym (moved_goes (kind_of_line l) (enter limits l s) ls)

  stops : (kind : LineKind) (rest : LineRule) (s : Parts) (l : Line) (ls : List Line) → is_kind kind (kind_of_line l) ≡ false → Leads (seq (line limits kind rest) (tables limits)) false s l ls
  unfolding told
  stops kind rest s l ls h =
      let one : read_all (seq (line limits kind rest) (tables limits)) s (l ∷ ls) ≡ Err (syntax (l ∷ ls)) = rw h refl in
      ap (told text) one

  leads : (b : Bool) (kind : LineKind) (rest : LineRule) → ((k : LineKind) → is_kind kind k ≡ true → k ≡ kind) → to_come limits kind ≡ seq rest (tables limits)
      → (s : Parts) (l : Line) (ls : List Line) → is_kind kind (kind_of_line l) ≡ b → Leads (seq (line limits kind rest) (tables limits)) b s l ls
  leads true kind rest is come s l ls h = goes kind rest is come s l ls h
  leads false kind rest is come s l ls h = stops kind rest s l ls h

  after_table : (s : Parts) (l : Line) (ls : List Line) → Leads (to_come limits Table) (follows Table (kind_of_line l)) s l ls
  unfolding from_pins
  after_table s l ls = leads (is_kind Pins (kind_of_line l)) Pins (from_xpins limits) is_pins refl s l ls refl

  after_xpins : (s : Parts) (l : Line) (ls : List Line) → Leads (to_come limits Xpins) (follows Xpins (kind_of_line l)) s l ls
  unfolding from_state
  after_xpins s l ls = leads (is_kind State (kind_of_line l)) State (from_udps limits) is_state refl s l ls refl

  after_state : (s : Parts) (l : Line) (ls : List Line) → Leads (to_come limits State) (follows State (kind_of_line l)) s l ls
  unfolding from_udps
  after_state s l ls = leads (is_kind Udps (kind_of_line l)) Udps (from_nodes limits) is_udps refl s l ls refl

  after_udps : (s : Parts) (l : Line) (ls : List Line) → Leads (to_come limits Udps) (follows Udps (kind_of_line l)) s l ls
  unfolding from_nodes
  after_udps s l ls = leads (is_kind Nodes (kind_of_line l)) Nodes (rows limits) is_nodes refl s l ls refl

  pins_by : (b : Bool) (s : Parts) (l : Line) (ls : List Line) → is_kind Xpins (kind_of_line l) ≡ b → Leads (to_come limits Pins) (b || is_kind State (kind_of_line l)) s l ls
  unfolding from_xpins
  pins_by true s l ls h =
      let one : read_all (to_come limits Pins) s (l ∷ ls) ≡ read_all (seq (line limits Xpins (from_state limits)) (tables limits)) s (l ∷ ls) = rw h refl in
      ap (told text) one ∙ goes Xpins (from_state limits) is_xpins refl s l ls h
  pins_by false s l ls h =
      let one : read_all (to_come limits Pins) s (l ∷ ls) ≡ read_all (seq (from_state limits) (tables limits)) s (l ∷ ls) = rw h refl in
      ap (told text) one ∙ after_xpins s l ls

  -- ---- rows

  abbrev row : LineRule
  row = line limits Row none

  abbrev last : LineRule
  last = line limits End none

  row_goes : (s : Parts) (l : Line) (ls : List Line) → is_kind Row (kind_of_line l) ≡ true
      → read_all (seq (rows limits) (tables limits)) s (l ∷ ls) ≡ to_end (((acting (enter limits l s) (λ m. read none m ls) (refused l ls) >>= then (many row)) >>= then last) >>= then (tables limits))
  unfolding rows
  row_goes s l ls h =
      let turn : read (many row) s (l ∷ ls) ≡ (read row s (l ∷ ls) >>= then (many row)) = many_turn row (λ t. false) (row_simple limits (λ t. false)) refl s (l ∷ ls) (rw h refl) in
      let one : read row s (l ∷ ls) ≡ acting (enter limits l s) (λ m. read none m ls) (refused l ls) = rw h refl in
      ap (λ r. to_end ((r >>= then last) >>= then (tables limits))) (turn ∙ ap (λ r. r >>= then (many row)) one)

  row_entered : (o : Result Parts FileRefusal) (l : Line) (ls : List Line)
      → told text (to_end (((acting o (λ m. read none m ls) (refused l ls) >>= then (many row)) >>= then last) >>= then (tables limits))) ≡ went (seq (rows limits) (tables limits)) o ls
  unfolding told rows
  row_entered (Ok s) l ls = refl
  row_entered (Err e) l ls = refl

  end_goes : (s : Parts) (l : Line) (ls : List Line) → is_kind Row (kind_of_line l) ≡ false
      → read_all (seq (rows limits) (tables limits)) s (l ∷ ls) ≡ read_all (seq last (tables limits)) s (l ∷ ls)
  unfolding rows
  end_goes s l ls h =
      let turn : read (many row) s (l ∷ ls) ≡ Ok (s, l ∷ ls) = many_end row s (l ∷ ls) (rw h refl) in
      ap (λ r. to_end ((r >>= then last) >>= then (tables limits))) turn

  last_entered : (o : Result Parts FileRefusal) (l : Line) (ls : List Line)
      → told text (to_end (acting o (λ m. read none m ls) (refused l ls) >>= then (tables limits))) ≡ went (tables limits) o ls
  unfolding told
  last_entered (Ok s) l ls = refl
  last_entered (Err e) l ls = refl

  last_by : (b : Bool) (s : Parts) (l : Line) (ls : List Line) → is_kind End (kind_of_line l) ≡ b → Leads (seq last (tables limits)) b s l ls
  unfolding told
  last_by true s l ls h =
      let one : read_all (seq last (tables limits)) s (l ∷ ls) ≡ to_end (acting (enter limits l s) (λ m. read none m ls) (refused l ls) >>= then (tables limits)) = rw h refl in
      ap (told text) one ∙ last_entered (enter limits l s) l ls
      ∙ ap (λ k. went (to_come limits k) (enter limits l s) ls) (sym (is_end (kind_of_line l) h))
      ∙ sym (moved_goes (kind_of_line l) (enter limits l s) ls)
  last_by false s l ls h = stops End none s l ls h

  rows_by : (b : Bool) (s : Parts) (l : Line) (ls : List Line) → is_kind Row (kind_of_line l) ≡ b → Leads (seq (rows limits) (tables limits)) (b || is_kind End (kind_of_line l)) s l ls
  rows_by true s l ls h =
      ap (told text) (row_goes s l ls h) ∙ row_entered (enter limits l s) l ls
      ∙ ap (λ k. went (to_come limits k) (enter limits l s) ls) (sym (is_row (kind_of_line l) h))
      ∙ sym (moved_goes (kind_of_line l) (enter limits l s) ls)
  rows_by false s l ls h = ap (told text) (end_goes s l ls h) ∙ last_by (is_kind End (kind_of_line l)) s l ls refl

  -- ---- tables

  tables_by : (b : Bool) (s : Parts) (l : Line) (ls : List Line) → is_kind Table (kind_of_line l) ≡ b → Leads (tables limits) b s l ls
  unfolding tables told
  tables_by true s l ls h =
      let turn : read (many (table limits)) s (l ∷ ls) ≡ (read (table limits) s (l ∷ ls) >>= then (many (table limits))) = many_turn (table limits) (λ t. false) (table_simple limits (λ t. false)) refl s (l ∷ ls) (rw h refl) in
      let one : read (table limits) s (l ∷ ls) ≡ acting (enter limits l s) (λ m. read (from_pins limits) m ls) (refused l ls) = rw h refl in
      ap (λ r. told text (to_end r)) (turn ∙ ap (λ r. r >>= then (many (table limits))) one)
      ∙ entered (from_pins limits) (enter limits l s) l ls
      ∙ ap (λ k. went (to_come limits k) (enter limits l s) ls) (sym (is_table (kind_of_line l) h))
      ∙ sym (moved_goes (kind_of_line l) (enter limits l s) ls)
  tables_by false s l ls h = ap (λ r. told text (to_end r)) (many_end (table limits) s (l ∷ ls) (rw h refl))

  takes_by : (k : LineKind) (s : Parts) (l : Line) (ls : List Line) → Leads (to_come limits k) (follows k (kind_of_line l)) s l ls
  unfolding told
  takes_by End s l ls = tables_by (is_kind Table (kind_of_line l)) s l ls refl
  takes_by Table s l ls = after_table s l ls
  takes_by Pins s l ls = pins_by (is_kind Xpins (kind_of_line l)) s l ls refl
  takes_by Xpins s l ls = after_xpins s l ls
  takes_by State s l ls = after_state s l ls
  takes_by Udps s l ls = after_udps s l ls
  takes_by Nodes s l ls = rows_by (is_kind Row (kind_of_line l)) s l ls refl
  takes_by Row s l ls = rows_by (is_kind Row (kind_of_line l)) s l ls refl
  takes_by Other s l ls = refl

  takes : (m : Reader) (l : Line) (ls : List Line) → told text (reads limits m (l ∷ ls)) ≡ told_after (taken limits l m) ls
  unfolding taken
  takes m l ls = takes_by m.last m.parts l ls

  -- ---- at a reader's loop

  pub goes_on : (m n : Reader) (l : Line) (ls us vs : List Line) → ls ≡ l ∷ us → vs ≡ us → taken limits l m ≡ Ok n → told text (reads limits n vs) ≡ told text (reads limits m ls)
  goes_on m n l ls us vs e f h = sym (ap (λ z. told text (reads limits m z)) e ∙ takes m l us ∙ rw (h, f) refl)

  refused_so : (e : FileRefusal) (n : Reader) (y : Result Reader FileRefusal) (ls : List Line) (a : Result Tables FileRefusal) → Steps {U = Unit {0}} (Err e) n y → told_after y ls ≡ a → Agrees (Err e) a
  refused_so refusals.NoMemory n y ls a h k = tt
  refused_so (refusals.Syntax line column) n y ls a h k = sym k ∙ rw h refl
  refused_so (refusals.TooMany kind number) n y ls a h k = sym k ∙ rw h refl
  refused_so (refusals.DoubleName name line) n y ls a h k = sym k ∙ rw h refl

  pub stops_so : (e : FileRefusal) (m n : Reader) (l : Line) (ls us : List Line) (a : Result Tables FileRefusal) → ls ≡ l ∷ us → Steps {U = Unit {0}} (Err e) n (taken limits l m)
      → told text (reads limits m ls) ≡ a → Agrees (Err e) a
  stops_so e m n l ls us a f h k = refused_so e n (taken limits l m) us a h (sym (takes m l us) ∙ ap (λ z. told text (reads limits m z)) (sym f) ∙ k)

  -- ---- the end of a text

  ends_by : (k : LineKind) (s : Parts) → (k ≡ End → ⊥) → told text (read_all (to_come limits k) s []) ≡ Err (at_first text [])
  unfolding told tables rows from_pins from_xpins from_state from_udps from_nodes
  ends_by End s n = absurd (n refl)
  ends_by Table s n = refl
  ends_by Pins s n = refl
  ends_by Xpins s n = refl
  ends_by State s n = refl
  ends_by Udps s n = refl
  ends_by Nodes s n = refl
  ends_by Row s n = refl
  ends_by Other s n = refl

  pub ends_early : (m : Reader) (ls : List Line) (e : FileRefusal) (a : Result Tables FileRefusal) → ls ≡ [] → (m.last ≡ End → ⊥) → e ≡ at_first text [] → told text (reads limits m ls) ≡ a → Agrees (Err e) a
  ends_early m ls e a f n h k =
      let told_so : Err (at_first text []) ≡ a = sym (ends_by m.last m.parts n) ∙ ap (λ z. told text (reads limits m z)) (sym f) ∙ k in
      subst (λ z. Agrees (Err z) a) (sym h) (sym told_so)

  pub ends_well : (m : Reader) (ls : List Line) (a : Result Tables FileRefusal) → ls ≡ [] → m.last ≡ End → told text (reads limits m ls) ≡ a → a ≡ Ok (record { tables = m.parts.tables })
  unfolding told tables
  ends_well m ls a f h k = sym k ∙ rw (f, h) refl
