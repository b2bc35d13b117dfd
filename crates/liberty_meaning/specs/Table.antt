-- State tables (Liberty User Guide, "statetable Group"): the first row that matches decides.
use Rattle.std.specs.Prelude.{◌≡◌, ℕ, ◌+◌, Bool, true, false, ◌&&◌, ◌==◌, if◌then◌else◌, List, [], ◌∷◌, ◌++◌, length, take, drop, codes, bytes_eq, slice_get, Option, Some, None}
use Rattle.std.specs.List.{list_all, list_any, zip}
use Rattle.tern_core.specs.declared.tern.Tern.{Tern}
use Rattle.liberty_function.specs.declared.program.Source.{Source}
use Rattle.liberty_meaning.specs.declared.symbols.Symbol.{Symbol}
use Rattle.liberty_meaning.specs.declared.symbols.Role.{Role}
use Rattle.liberty_meaning.specs.declared.symbols.Role.TheVariants.{Input, Node, Next}
use Rattle.liberty_meaning.specs.declared.table.Row.{Row}
use Rattle.liberty_meaning.specs.declared.table.Table.{Table}
use Rattle.liberty_function.specs.Sources.{source_value}
use Rattle.liberty_meaning.specs.Symbols.{symbol_of, is_slash, matches_symbol}

abbrev pub with_symbol : Option Symbol → Option (List Symbol) → Option (List Symbol)
with_symbol None more = None
with_symbol (Some s) None = None
with_symbol (Some s) (Some ss) = Some (s ∷ ss)

-- the symbols of the words; nothing where a word is none
unfoldable pub symbols_of : Role → Bool → List (List ℕ) → Option (List Symbol)
symbols_of role second [] = Some []
symbols_of role second (w ∷ ws) = with_symbol (symbol_of role second w) (symbols_of role second ws)

abbrev pub is_colon : Option (List ℕ) → Bool
is_colon None = false
is_colon (Some w) = bytes_eq w (codes ":")

abbrev pub is_colon_at : List (List ℕ) → ℕ → Bool
is_colon_at words k = is_colon (slice_get words k)

abbrev pub inputs_match : List Source → List Symbol → List Tern → List Tern → Bool
inputs_match columns symbols old new = list_all (λ p. matches_symbol p.0 (source_value old [] p.1) (source_value new [] p.1)) (zip symbols columns)

abbrev pub nodes_match : List Symbol → List Tern → Bool
nodes_match symbols state = list_all (λ p. matches_symbol p.0 p.1 p.1) (zip symbols state)

abbrev pub matches_row : List Source → List Tern → List Tern → List Tern → Row → Bool
matches_row columns old new state row = inputs_match columns row.inputs old new && nodes_match row.nodes state

abbrev pub row_by : Option (List Symbol) → Option (List Symbol) → Option (List Symbol) → Option Row
row_by None b c = None
row_by (Some a) None c = None
row_by (Some a) (Some b) None = None
row_by (Some a) (Some b) (Some c) = Some (record { inputs = a; nodes = b; next = c })

-- so many input words, a colon, node words, a colon and as many next words
abbrev pub has_form : ℕ → ℕ → List (List ℕ) → Bool
has_form n m words = is_colon_at words n && (is_colon_at (drop (n + 1) words) m && length (drop (m + 1) (drop (n + 1) words)) == m)

-- the row of the words, with the first or the second letter of each slash word
abbrev pub row_of : Bool → ℕ → ℕ → List (List ℕ) → Option Row
row_of second n m words =
    if has_form n m words
    then row_by (symbols_of Input second (take n words)) (symbols_of Node second (take m (drop (n + 1) words))) (symbols_of Next second (drop (m + 1) (drop (n + 1) words)))
    else None

abbrev pub seconds : Option Row → Option (List Row)
seconds None = None
seconds (Some r) = Some (r ∷ [])

abbrev pub with_first : Option Row → Option (List Row) → Option (List Row)
with_first None more = None
with_first (Some r) None = None
with_first (Some r) (Some rs) = Some (r ∷ rs)

-- words with slashes stand for two rows, with each first letter and then with each second letter
unfoldable pub made : ℕ → ℕ → List (List ℕ) → Option (List Row)
made n m words = with_first (row_of false n m words) (if list_any is_slash words then seconds (row_of true n m words) else Some [])

abbrev pub PushesRows : Option (List Row) → List Row → List Row → Bool → Type 0
PushesRows None old new good = good ≡ false
PushesRows (Some rs) old new good = (good ≡ true) × (new ≡ old ++ rs)

-- the first row that matches decides
unfoldable pub first_matching : List Source → List Tern → List Tern → List Tern → List Row → Option Row
first_matching columns old new state [] = None
first_matching columns old new state (r ∷ rows) = if matches_row columns old new state r then Some r else first_matching columns old new state rows

abbrev pub first_matching_row : Table → List Tern → List Tern → List Tern → Option Row
first_matching_row t old new state = first_matching t.columns old new state t.rows
