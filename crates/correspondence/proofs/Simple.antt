-- One line of look-ahead is enough.
use Rattle.std.proofs.Common.{◌≡◌, Bool, true, false, ◌||◌, ◌&&◌, refl}
use Rattle.text_scan.specs.declared.limits.Limits.{Limits}
use Rattle.grammar.specs.Rule.{none}
use Rattle.grammar.specs.Reading.{IsSimple, begins}
use Rattle.correspondence.specs.Lines.{Line}
use Rattle.correspondence.specs.Kinds.{is_kind, kind_of_line}
use Rattle.correspondence.specs.Grammar.{from_nodes, from_pins, from_state, from_udps, from_xpins, line, rows, table, tables}
use Rattle.correspondence.specs.declared.kinds.LineKind.{LineKind}
use Rattle.correspondence.specs.declared.kinds.LineKind.TheVariants.{Table, Pins, Xpins, State, Udps, Nodes, Row, End, Other}

-- a test of kinds tells which it is
pub is_table : (k : LineKind) → is_kind Table k ≡ true → k ≡ Table
is_table Table e = refl
is_table Pins e = absurd (cc)
is_table Xpins e = absurd (cc)
is_table State e = absurd (cc)
is_table Udps e = absurd (cc)
is_table Nodes e = absurd (cc)
is_table Row e = absurd (cc)
is_table End e = absurd (cc)
is_table Other e = absurd (cc)

pub is_pins : (k : LineKind) → is_kind Pins k ≡ true → k ≡ Pins
is_pins Table e = absurd (cc)
is_pins Pins e = refl
is_pins Xpins e = absurd (cc)
is_pins State e = absurd (cc)
is_pins Udps e = absurd (cc)
is_pins Nodes e = absurd (cc)
is_pins Row e = absurd (cc)
is_pins End e = absurd (cc)
is_pins Other e = absurd (cc)

pub is_xpins : (k : LineKind) → is_kind Xpins k ≡ true → k ≡ Xpins
is_xpins Table e = absurd (cc)
is_xpins Pins e = absurd (cc)
is_xpins Xpins e = refl
is_xpins State e = absurd (cc)
is_xpins Udps e = absurd (cc)
is_xpins Nodes e = absurd (cc)
is_xpins Row e = absurd (cc)
is_xpins End e = absurd (cc)
is_xpins Other e = absurd (cc)

pub is_state : (k : LineKind) → is_kind State k ≡ true → k ≡ State
is_state Table e = absurd (cc)
is_state Pins e = absurd (cc)
is_state Xpins e = absurd (cc)
is_state State e = refl
is_state Udps e = absurd (cc)
is_state Nodes e = absurd (cc)
is_state Row e = absurd (cc)
is_state End e = absurd (cc)
is_state Other e = absurd (cc)

pub is_udps : (k : LineKind) → is_kind Udps k ≡ true → k ≡ Udps
is_udps Table e = absurd (cc)
is_udps Pins e = absurd (cc)
is_udps Xpins e = absurd (cc)
is_udps State e = absurd (cc)
is_udps Udps e = refl
is_udps Nodes e = absurd (cc)
is_udps Row e = absurd (cc)
is_udps End e = absurd (cc)
is_udps Other e = absurd (cc)

pub is_nodes : (k : LineKind) → is_kind Nodes k ≡ true → k ≡ Nodes
is_nodes Table e = absurd (cc)
is_nodes Pins e = absurd (cc)
is_nodes Xpins e = absurd (cc)
is_nodes State e = absurd (cc)
is_nodes Udps e = absurd (cc)
is_nodes Nodes e = refl
is_nodes Row e = absurd (cc)
is_nodes End e = absurd (cc)
is_nodes Other e = absurd (cc)

pub is_row : (k : LineKind) → is_kind Row k ≡ true → k ≡ Row
is_row Table e = absurd (cc)
is_row Pins e = absurd (cc)
is_row Xpins e = absurd (cc)
is_row State e = absurd (cc)
is_row Udps e = absurd (cc)
is_row Nodes e = absurd (cc)
is_row Row e = refl
is_row End e = absurd (cc)
is_row Other e = absurd (cc)

pub is_end : (k : LineKind) → is_kind End k ≡ true → k ≡ End
is_end Table e = absurd (cc)
is_end Pins e = absurd (cc)
is_end Xpins e = absurd (cc)
is_end State e = absurd (cc)
is_end Udps e = absurd (cc)
is_end Nodes e = absurd (cc)
is_end Row e = absurd (cc)
is_end End e = refl
is_end Other e = absurd (cc)

-- a line that can follow in one way can't follow in another
pub no_state : (k : LineKind) (b : Bool) → is_kind Xpins k ≡ true → (is_kind State k || (false && b)) ≡ false
no_state k b e = let f = is_xpins k e in rw f refl

pub no_end : (k : LineKind) (b : Bool) → is_kind Row k ≡ true → (is_kind End k || (false && b)) ≡ false
no_end k b e = let f = is_row k e in rw f refl

pub row_simple : (limits : Limits) (next : Line → Bool) → IsSimple (line limits Row none) next
unfolding IsSimple
row_simple limits next = λ t e. tt

rows_simple : (limits : Limits) (next : Line → Bool) → IsSimple (rows limits) next
unfolding IsSimple rows
rows_simple limits next = ((refl, refl, (λ t e. no_end (kind_of_line t) (next t) e), (λ t e. tt)), (λ t e. tt))

state_simple : (limits : Limits) (next : Line → Bool) → IsSimple (from_state limits) next
unfolding IsSimple from_state from_udps from_nodes
state_simple limits next = λ t e. λ u f. λ v g. rows_simple limits next

xpins_simple : (limits : Limits) (next : Line → Bool) → IsSimple (from_xpins limits) next
unfolding IsSimple from_xpins from_state
xpins_simple limits next = (refl, (λ t e. no_state (kind_of_line t) (next t) e), (λ t e. state_simple limits next), state_simple limits next)

pub table_simple : (limits : Limits) (next : Line → Bool) → IsSimple (table limits) next
unfolding IsSimple from_pins
table_simple limits next = λ t e. λ u f. xpins_simple limits next

pub tables_simple : (limits : Limits) → IsSimple (tables limits) (λ t. false)
unfolding IsSimple tables
tables_simple limits = (refl, refl, (λ t e. refl), table_simple limits (λ t. begins (table limits) t || false))
