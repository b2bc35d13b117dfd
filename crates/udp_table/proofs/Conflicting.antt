-- The rows that are found to conflict are those that match one case with different values.
use Rattle.std.proofs.Common.{◌≡◌, ◌≢◌, ℕ, suc, ◌+◌, ◌<◌, Bool, true, false, ◌&&◌, ◌||◌, eqb, List, [], ◌∷◌, ◌++◌, length, get_or, take, drop, refl, ap, sym, ◌∙◌, ⊎_elim, arith, eq-eqb}
use Rattle.std.proofs.lemmas.Bool.{and_parts, and_from, or_cases, or_left, or_right, eqb-true}
use Rattle.std.proofs.lemmas.List.{get_or_at, take_at, drop_at, append_assoc, length-append, length_push}
use Rattle.tern_core.specs.declared.tern.Tern.{Tern}
use Rattle.tern_core.specs.declared.tern.Tern.TheVariants.{Zero, One, Unknown}
use Rattle.udp_table.specs.declared.symbol.LevelSymbol.{LevelSymbol}
use Rattle.udp_table.specs.declared.symbol.EdgeSymbol.{EdgeSymbol}
use Rattle.udp_table.specs.declared.symbol.EdgeSymbol.TheVariants.{Between, Rising, Falling, PotentialRising, PotentialFalling, AnyChange}
use Rattle.udp_table.specs.declared.symbol.NextState.{NextState}
use Rattle.udp_table.specs.declared.row.LevelRow.{LevelRow}
use Rattle.udp_table.specs.declared.row.EdgeRow.{EdgeRow}
use Rattle.udp_table.specs.declared.row.Row.{Row}
use Rattle.udp_table.specs.declared.row.Row.TheVariants.{Level, Edge}
use Rattle.udp_table.specs.Symbols.{covers, covers_all, covers_change, differ, next_value}
use Rattle.udp_table.specs.Rows.{Case, case_of, new_of, edge_row_matches}
use Rattle.udp_table.specs.Conflicts.{IsCase, Conflict}
use Rattle.udp_table.specs.Letters.{Fits}
use Rattle.udp_table.proofs.Covers.{covers_all-long}
use Rattle.udp_table.specs.Overlaps.{some_value, overlap, overlap_from, edges_overlap, disagree, all_overlap, level_rows_conflict, edge_rows_conflict, rows_conflict}

-- ---- values

pub some_value-witness : (p : Tern → Bool) → some_value p ≡ true → (v : Tern) × (p v ≡ true)
some_value-witness p h =
    ⊎_elim (λ z. (Zero, z)) (λ k. ⊎_elim (λ o. (One, o)) (λ l. ⊎_elim (λ u. (Unknown, u)) (λ f. absurd (cc)) (or_cases (p Unknown) false l)) (or_cases (p One) (p Unknown || false) k)) (or_cases (p Zero) (p One || (p Unknown || false)) h)

pub some_value-from : (p : Tern → Bool) (v : Tern) → p v ≡ true → some_value p ≡ true
some_value-from p Zero h = or_left (p Zero) (p One || (p Unknown || false)) h
some_value-from p One h = or_right (p Zero) (p One || (p Unknown || false)) (or_left (p One) (p Unknown || false) h)
some_value-from p Unknown h =
    or_right (p Zero) (p One || (p Unknown || false)) (or_right (p One) (p Unknown || false) (or_left (p Unknown) false h))

pub differ-apart : (v w : Tern) → differ v w ≡ true → v ≢ w
differ-apart Zero Zero h e = cc
differ-apart Zero w h e = cc
differ-apart One One h e = cc
differ-apart One w h e = cc
differ-apart Unknown Unknown h e = cc
differ-apart Unknown w h e = cc

pub differ-from : (v w : Tern) → v ≢ w → differ v w ≡ true
differ-from Zero Zero h = absurd (h refl)
differ-from Zero w h = refl
differ-from One One h = absurd (h refl)
differ-from One w h = refl
differ-from Unknown Unknown h = absurd (h refl)
differ-from Unknown w h = refl

-- no symbol covers a change from a value to itself
pub covers_change-differs : (e : EdgeSymbol) (v w : Tern) → covers_change e v w ≡ true → differ v w ≡ true
covers_change-differs (Between s t) v w h = (and_parts (differ v w) (covers s v && covers t w) h).0
covers_change-differs Rising Zero One h = refl
covers_change-differs Rising v w h = cc
covers_change-differs Falling One Zero h = refl
covers_change-differs Falling v w h = cc
covers_change-differs PotentialRising Zero One h = refl
covers_change-differs PotentialRising Zero Unknown h = refl
covers_change-differs PotentialRising Unknown One h = refl
covers_change-differs PotentialRising v w h = cc
covers_change-differs PotentialFalling One Zero h = refl
covers_change-differs PotentialFalling One Unknown h = refl
covers_change-differs PotentialFalling Unknown Zero h = refl
covers_change-differs PotentialFalling v w h = cc
covers_change-differs AnyChange v w h = h

abbrev other : Tern → Tern
other Zero = One
other One = Zero
other Unknown = Zero

other-apart : (v : Tern) → other v ≢ v
other-apart Zero e = cc
other-apart One e = cc
other-apart Unknown e = cc

-- ---- lists of symbols

pub all_overlap-witness : (ss ts : List LevelSymbol) → all_overlap ss ts ≡ true → (vs : List Tern) × (length vs ≡ length ss) × (covers_all ss vs ≡ true) × (covers_all ts vs ≡ true)
all_overlap-witness [] [] h = ([], refl, refl, refl)
all_overlap-witness [] (t ∷ ts) h = cc
all_overlap-witness (s ∷ ss) [] h = cc
all_overlap-witness (s ∷ ss) (t ∷ ts) h =
    let parts = and_parts (overlap s t) (all_overlap ss ts) h in
    let rest = all_overlap-witness ss ts parts.1 in
    let here = some_value-witness (λ v. covers s v && covers t v) parts.0 in
    let both = and_parts (covers s here.0) (covers t here.0) here.1 in
    (here.0 ∷ rest.0, ap suc rest.1, and_from (covers s here.0) (covers_all ss rest.0) both.0 rest.2, and_from (covers t here.0) (covers_all ts rest.0) both.1 rest.3)

pub all_overlap-from : (ss ts : List LevelSymbol) (vs : List Tern) → covers_all ss vs ≡ true → covers_all ts vs ≡ true → all_overlap ss ts ≡ true
all_overlap-from [] [] vs h k = refl
all_overlap-from [] (t ∷ ts) [] h k = cc
all_overlap-from [] (t ∷ ts) (v ∷ vs) h k = cc
all_overlap-from (s ∷ ss) ts [] h k = cc
all_overlap-from (s ∷ ss) [] (v ∷ vs) h k = cc
all_overlap-from (s ∷ ss) (t ∷ ts) (v ∷ vs) h k =
    let left = and_parts (covers s v) (covers_all ss vs) h in
    let right = and_parts (covers t v) (covers_all ts vs) k in
    and_from (overlap s t) (all_overlap ss ts)
    (some_value-from (λ w. covers s w && covers t w) v (and_from (covers s v) (covers t v) left.0 right.0)) (all_overlap-from ss ts vs left.1 right.1)

disagree-witness : (s : LevelSymbol) (n : NextState) (t : LevelSymbol) (m : NextState) → disagree s n t m ≡ true → (v : Tern) × (covers s v ≡ true) × (covers t v ≡ true) × (next_value n v ≢ next_value m v)
disagree-witness s n t m h =
    let here = some_value-witness (λ v. covers s v && covers t v && differ (next_value n v) (next_value m v)) h in
    let parts = and_parts (covers s here.0 && covers t here.0) (differ (next_value n here.0) (next_value m here.0)) here.1 in
    let both = and_parts (covers s here.0) (covers t here.0) parts.0 in
    (here.0, both.0, both.1, differ-apart (next_value n here.0) (next_value m here.0) parts.1)

disagree-from : (s : LevelSymbol) (n : NextState) (t : LevelSymbol) (m : NextState) (v : Tern) → covers s v ≡ true → covers t v ≡ true → next_value n v ≢ next_value m v → disagree s n t m ≡ true
disagree-from s n t m v p q r =
    some_value-from (λ w. covers s w && covers t w && differ (next_value n w) (next_value m w)) v
    (and_from (covers s v && covers t v) (differ (next_value n v) (next_value m v)) (and_from (covers s v) (covers t v) p q) (differ-from (next_value n v) (next_value m v) r))

-- ---- rows

-- a primitive that can be asked at all: a sequential one needs an input that changes
abbrev pub HasCases : Bool → ℕ → Type 0
HasCases false n = Unit {0}
HasCases true n = 0 < n

level_case : (q : Bool) (n : ℕ) (vs : List Tern) (state : Tern) → HasCases q n → length vs ≡ n → IsCase q n (case_of 0 (other (get_or vs 0 Unknown)) vs state)
level_case false n vs state h k = k
level_case true n vs state h k = (k, h, other-apart (get_or vs 0 Unknown))

level_width : (q : Bool) (n : ℕ) (row : LevelRow) → Fits q n (Level row) → length row.levels ≡ n
level_width false n row h = h.0
level_width true n row h = h

level_conflict : (q : Bool) (n : ℕ) (a b : LevelRow) → HasCases q n → Fits q n (Level a) → level_rows_conflict a b ≡ true → Conflict q n (Level a) (Level b)
level_conflict q n a b cases fits h =
    let parts = and_parts (all_overlap a.levels b.levels) (disagree a.state a.next b.state b.next) h in
    let levels = all_overlap-witness a.levels b.levels parts.0 in
    let states = disagree-witness a.state a.next b.state b.next parts.1 in
    (tt, (case_of 0 (other (get_or levels.0 0 Unknown)) levels.0 states.0, level_case q n levels.0 states.0 cases (levels.1 ∙ level_width q n a fits), and_from (covers_all a.levels levels.0) (covers a.state states.0) levels.2 states.1, and_from (covers_all b.levels levels.0) (covers b.state states.0) levels.3 states.2, states.3))

all_five : (a b c d e : Bool) → a ≡ true → b ≡ true → c ≡ true → d ≡ true → e ≡ true → (a && (b && (c && (d && e)))) ≡ true
all_five a b c d e p q r s t =
    and_from a (b && (c && (d && e))) p (and_from b (c && (d && e)) q (and_from c (d && e) r (and_from d e s t)))

five_parts : (a b c d e : Bool) → (a && (b && (c && (d && e)))) ≡ true → (a ≡ true) × (b ≡ true) × (c ≡ true) × (d ≡ true) × (e ≡ true)
five_parts a b c d e h =
    let first = and_parts a (b && (c && (d && e))) h in
    let second = and_parts b (c && (d && e)) first.1 in
    let third = and_parts c (d && e) second.1 in
    let fourth = and_parts d e third.1 in
    (first.0, second.0, third.0, fourth.0, fourth.1)

-- an edge row matches where its parts cover the parts of the levels
edge_matches : (row : EdgeRow) (old : Tern) (before : List Tern) (new : Tern) (after : List Tern) (state : Tern) → length row.before ≡ length before → covers_change row.edge old new ≡ true → covers_all row.before before ≡ true → covers_all row.after after ≡ true → covers row.state state ≡ true → edge_row_matches row (case_of (length before) old (before ++ new ∷ after) state) ≡ true
edge_matches row old before new after state l e b a s =
    let levels = before ++ new ∷ after in
    let place : get_or levels (length before) Unknown ≡ new = get_or_at before new after Unknown (length before) refl in
    let front : take (length before) levels ≡ before = take_at before (new ∷ after) (length before) refl in
    let back : drop (length before + 1) levels ≡ after = ap (drop (length before + 1)) (sym (append_assoc before (new ∷ []) after)) ∙ drop_at (before ++ new ∷ []) after (length before + 1) (length_push before new) in
    all_five (eqb (length row.before) (length before)) (covers_change row.edge old (get_or levels (length before) Unknown)) (covers_all row.before (take (length before) levels)) (covers_all row.after (drop (length before + 1) levels)) (covers row.state state) (eq-eqb (length row.before) (length before) l) (ap (covers_change row.edge old) place ∙ e) (ap (covers_all row.before) front ∙ b) (ap (covers_all row.after) back ∙ a) s

edge_conflict : (n : ℕ) (a b : EdgeRow) → Fits true n (Edge a) → edge_rows_conflict a b ≡ true → Conflict true n (Edge a) (Edge b)
edge_conflict n a b fits h =
    let first = and_parts (all_overlap a.before b.before) (edges_overlap a.edge b.edge && (all_overlap a.after b.after && disagree a.state a.next b.state b.next)) h in
    let second = and_parts (edges_overlap a.edge b.edge) (all_overlap a.after b.after && disagree a.state a.next b.state b.next) first.1 in
    let third = and_parts (all_overlap a.after b.after) (disagree a.state a.next b.state b.next) second.1 in
    let before = all_overlap-witness a.before b.before first.0 in
    let old = some_value-witness (overlap_from a.edge b.edge) second.0 in
    let new = some_value-witness (λ v. covers_change a.edge old.0 v && covers_change b.edge old.0 v) old.1 in
    let edges = and_parts (covers_change a.edge old.0 new.0) (covers_change b.edge old.0 new.0) new.1 in
    let after = all_overlap-witness a.after b.after third.0 in
    let states = disagree-witness a.state a.next b.state b.next third.1 in
    let levels = before.0 ++ new.0 ∷ after.0 in
    let place : get_or levels (length before.0) Unknown ≡ new.0 = get_or_at before.0 new.0 after.0 Unknown (length before.0) refl in
    let long : length levels ≡ length before.0 + suc (length after.0) = length-append before.0 (new.0 ∷ after.0) in
    let same : length b.before ≡ length a.before = covers_all-long b.before before.0 before.3 ∙ before.1 in (
      tt,
      (
        case_of (length before.0) old.0 levels states.0,
        (omega (arith, long, before.1, after.1, fits), omega (arith, long, before.1, after.1, fits), λ e. differ-apart old.0 new.0 (covers_change-differs a.edge old.0 new.0 edges.0) (e ∙ place)),
        edge_matches a old.0 before.0 new.0 after.0 states.0 (sym before.1) edges.0 before.2 after.2 states.1,
        edge_matches b old.0 before.0 new.0 after.0 states.0 (same ∙ sym before.1) edges.1 before.3 after.3 states.2,
        states.3,
      ),
    )

-- ---- both directions

pub conflict-found : (q : Bool) (n : ℕ) (a b : Row) → HasCases q n → Fits q n a → rows_conflict a b ≡ true → Conflict q n a b
conflict-found q n (Level a) (Level b) cases fits h = level_conflict q n a b cases fits h
conflict-found true n (Edge a) (Edge b) cases fits h = edge_conflict n a b fits h
conflict-found false n (Edge a) (Edge b) cases fits h = absurd fits
conflict-found q n (Level a) (Edge b) cases fits h = cc
conflict-found q n (Edge a) (Level b) cases fits h = cc

edge_parts : (row : EdgeRow) (c : Case) → edge_row_matches row c ≡ true → (length row.before ≡ c.input) × (covers_change row.edge c.old (new_of c) ≡ true) × (covers_all row.before (take c.input c.levels) ≡ true) × (covers_all row.after (drop (c.input + 1) c.levels) ≡ true) × (covers row.state c.state ≡ true)
edge_parts row c h =
    let five = five_parts (eqb (length row.before) c.input) (covers_change row.edge c.old (new_of c)) (covers_all row.before (take c.input c.levels)) (covers_all row.after (drop (c.input + 1) c.levels)) (covers row.state c.state) h in
    (eqb-true (length row.before) c.input five.0, five.1, five.2, five.3, five.4)

level_conflict-is : (q : Bool) (n : ℕ) (a b : LevelRow) → Conflict q n (Level a) (Level b) → level_rows_conflict a b ≡ true
level_conflict-is q n a b h =
    let c = h.1.0 in
    let left = and_parts (covers_all a.levels c.levels) (covers a.state c.state) h.1.2 in
    let right = and_parts (covers_all b.levels c.levels) (covers b.state c.state) h.1.3 in
    and_from (all_overlap a.levels b.levels) (disagree a.state a.next b.state b.next)
    (all_overlap-from a.levels b.levels c.levels left.0 right.0) (disagree-from a.state a.next b.state b.next c.state left.1 right.1 h.1.4)

edge_conflict-is : (q : Bool) (n : ℕ) (a b : EdgeRow) → Conflict q n (Edge a) (Edge b) → edge_rows_conflict a b ≡ true
edge_conflict-is q n a b h =
    let c = h.1.0 in
    let left = edge_parts a c h.1.2 in
    let right = edge_parts b c h.1.3 in
    and_from (all_overlap a.before b.before) (edges_overlap a.edge b.edge && (all_overlap a.after b.after && disagree a.state a.next b.state b.next))
    (all_overlap-from a.before b.before (take c.input c.levels) left.2 right.2)
    (and_from (edges_overlap a.edge b.edge) (all_overlap a.after b.after && disagree a.state a.next b.state b.next)
    (some_value-from (overlap_from a.edge b.edge) c.old (some_value-from (λ v. covers_change a.edge c.old v && covers_change b.edge c.old v) (new_of c) (and_from (covers_change a.edge c.old (new_of c)) (covers_change b.edge c.old (new_of c)) left.1 right.1)))
    (and_from (all_overlap a.after b.after) (disagree a.state a.next b.state b.next) (all_overlap-from a.after b.after (drop (c.input + 1) c.levels) left.3 right.3) (disagree-from a.state a.next b.state b.next c.state left.4 right.4 h.1.4)))

pub conflict-is_found : (q : Bool) (n : ℕ) (a b : Row) → Conflict q n a b → rows_conflict a b ≡ true
conflict-is_found q n (Level a) (Level b) h = level_conflict-is q n a b h
conflict-is_found q n (Edge a) (Edge b) h = edge_conflict-is q n a b h
conflict-is_found q n (Level a) (Edge b) h = absurd h.0
conflict-is_found q n (Edge a) (Level b) h = absurd h.0

-- a primitive without cases has no conflict
pub case-exists : (q : Bool) (n : ℕ) (a b : Row) → Conflict q n a b → HasCases q n
case-exists false n a b h = tt
case-exists true n a b h = omega (arith, h.1.1.1)
