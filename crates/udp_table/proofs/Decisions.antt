-- Which row decides, and that it is no matter which of those that match is taken.
use Rattle.std.proofs.Common.{◌≡◌, ◌≢◌, ℕ, zero, suc, ◌<◌, Bool, true, false, cond, ◌&&◌, List, [], ◌∷◌, length, get_or, Option, Some, None, unwrap_or, All, Contains, refl, ap, sym, ◌∙◌, subst, ◌⊎◌, inl, inr, ⊎_elim, arith}
use Rattle.std.proofs.lemmas.Bool.{cond_both, cases_Bool, cases_order, both_ways}
use Rattle.std.proofs.lemmas.List.{get_or_default}
use Rattle.std.proofs.lemmas.List.Elements.{All-head, All-tail}
use Rattle.tern_core.specs.declared.tern.Tern.{Tern}
use Rattle.tern_core.specs.declared.tern.Tern.TheVariants.{Zero, One, Unknown}
use Rattle.udp_table.specs.declared.symbol.NextState.{NextState}
use Rattle.udp_table.specs.declared.symbol.NextState.TheVariants.{Becomes, Stays}
use Rattle.udp_table.specs.declared.symbol.LevelSymbol.TheVariants.{Any}
use Rattle.udp_table.specs.declared.row.LevelRow.{LevelRow}
use Rattle.udp_table.specs.declared.row.EdgeRow.{EdgeRow}
use Rattle.udp_table.specs.declared.row.Row.{Row}
use Rattle.udp_table.specs.declared.row.Row.TheVariants.{Level, Edge}
use Rattle.udp_table.specs.Symbols.{covers, covers_all, differ, next_value}
use Rattle.udp_table.specs.Rows.{Case, matches, value_in, level_row_matches, edge_row_matches}
use Rattle.udp_table.specs.Answers.{level_answer, edge_answer, answer_of}
use Rattle.udp_table.specs.Letters.{Fits}
use Rattle.udp_table.specs.Conflicts.{IsCase, AreOfOneClass, Conflict, HasNoConflict}

-- ---- membership by place

here : {X : Type 0} (x : X) (xs : List X) → Contains (x ∷ xs) x
here x xs = (0, omega arith, refl)

behind : {X : Type 0} (y x : X) (xs : List X) → Contains xs x → Contains (y ∷ xs) x
behind y x xs h = (suc h.0, omega (arith, h.1), h.2)

split_at : {X : Type 0} (y x : X) (xs : List X) (k : ℕ) → k < suc (length xs) → get_or (y ∷ xs) k x ≡ x → (y ≡ x) ⊎ Contains xs x
split_at y x xs zero h e = inl e
split_at y x xs (suc k) h e = inr (k, omega arith, e)

split : {X : Type 0} (y x : X) (xs : List X) → Contains (y ∷ xs) x → (y ≡ x) ⊎ Contains xs x
split y x xs h = split_at y x xs h.0 h.1 h.2

-- ---- one value for a case

same_value : (v w : Tern) → differ v w ≡ false → v ≡ w
same_value Zero Zero h = refl
same_value Zero One h = cc
same_value Zero Unknown h = cc
same_value One Zero h = cc
same_value One One h = refl
same_value One Unknown h = cc
same_value Unknown Zero h = cc
same_value Unknown One h = cc
same_value Unknown Unknown h = refl

other_value : (v w : Tern) → differ v w ≡ true → v ≢ w
other_value Zero Zero h e = cc
other_value Zero w h e = cc
other_value One One h e = cc
other_value One w h e = cc
other_value Unknown Unknown h e = cc
other_value Unknown w h e = cc

one_class-sym : (a b : Row) → AreOfOneClass a b → AreOfOneClass b a
one_class-sym (Level a) (Level b) h = tt
one_class-sym (Edge a) (Edge b) h = tt
one_class-sym (Level a) (Edge b) h = h
one_class-sym (Edge a) (Level b) h = h

module _ (q : Bool) (n : ℕ) (rows : List Row) (free : HasNoConflict q n rows) (c : Case) (asked : IsCase q n c) where
  apart : (a b : Row) (i j : ℕ) → AreOfOneClass a b → i < j → j < length rows → get_or rows i a ≡ a → get_or rows j b ≡ b → matches a c ≡ true → matches b c ≡ true → value_in a c.state ≢ value_in b c.state → ⊥
  apart a b i j class order inside p r m l ne =
      let first : i < length rows = omega arith in
      free i j (
        order,
        inside,
        λ d.
            subst (λ x. Conflict q n x (get_or rows j d)) (sym (get_or_default rows i d a first ∙ p))
            (subst (Conflict q n a) (sym (get_or_default rows j d b inside ∙ r)) (class, (c, asked, m, l, ne))),
      )

  pub one_value : (a b : Row) → Contains rows a → Contains rows b → AreOfOneClass a b → matches a c ≡ true → matches b c ≡ true → value_in a c.state ≡ value_in b c.state
  one_value a b p r class m l =
      ⊎_elim
      (λ ne. absurd (
      let unequal = other_value (value_in a c.state) (value_in b c.state) ne in
      ⊎_elim
      (λ same. unequal (ap (λ x. value_in x c.state) (sym p.2 ∙ get_or_default rows p.0 a b p.1 ∙ ap (λ k. get_or rows k b) same ∙ r.2)))
      (λ order. ⊎_elim
      (λ lt. apart a b p.0 r.0 class lt r.1 p.2 r.2 m l unequal)
      (λ gt. apart b a r.0 p.0 (one_class-sym a b class) gt p.1 r.2 p.2 l m (λ e. unequal (sym e))) order) (cases_order p.0 r.0)))
      (λ eq. same_value (value_in a c.state) (value_in b c.state) eq) (cases_Bool (differ (value_in a c.state) (value_in b c.state)))

-- ---- the rows that decide

level_row-found : (rows : List Row) (levels : List Tern) (state v : Tern) → level_answer rows levels state ≡ Some v → (row : LevelRow) × Contains rows (Level row) × (level_row_matches row levels state ≡ true) × (next_value row.next state ≡ v)
level_row-found [] levels state v h = cc
level_row-found (Edge row ∷ rows) levels state v h =
    let r = level_row-found rows levels state v h in (r.0, behind (Edge row) (Level r.0) rows r.1, r.2, r.3)
level_row-found (Level row ∷ rows) levels state v h =
    cond_both (level_row_matches row levels state) (Some (next_value row.next state)) (level_answer rows levels state) (λ o. o ≡ Some v → (r : LevelRow) × Contains (Level row ∷ rows) (Level r) × (level_row_matches r levels state ≡ true) × (next_value r.next state ≡ v))
    (λ m k. (row, here (Level row) rows, m, cc)) (λ _ k. let r = level_row-found rows levels state v k in (r.0, behind (Level row) (Level r.0) rows r.1, r.2, r.3)) h

level_row-none : (rows : List Row) (levels : List Tern) (state : Tern) → level_answer rows levels state ≡ None → (row : LevelRow) → Contains rows (Level row) → level_row_matches row levels state ≡ false
level_row-none [] levels state h row k = absurd (omega (arith, k.1))
level_row-none (Edge e ∷ rows) levels state h row k = ⊎_elim (λ s. cc) (λ r. level_row-none rows levels state h row r) (split (Edge e) (Level row) rows k)
level_row-none (Level l ∷ rows) levels state h row k =
    cond_both (level_row_matches l levels state) (Some (next_value l.next state)) (level_answer rows levels state) (λ o. o ≡ None → level_row_matches row levels state ≡ false)
    (λ m g. cc)
    (λ m g. ⊎_elim (λ s. let same : l ≡ row = cc in subst (λ r. level_row_matches r levels state ≡ false) same m) (λ r. level_row-none rows levels state g row r) (split (Level l) (Level row) rows k)) h

edge_row-found : (rows : List Row) (c : Case) (v : Tern) → edge_answer rows c ≡ Some v → (row : EdgeRow) × Contains rows (Edge row) × (edge_row_matches row c ≡ true) × (next_value row.next c.state ≡ v)
edge_row-found [] c v h = cc
edge_row-found (Level row ∷ rows) c v h =
    let r = edge_row-found rows c v h in (r.0, behind (Level row) (Edge r.0) rows r.1, r.2, r.3)
edge_row-found (Edge row ∷ rows) c v h =
    cond_both (edge_row_matches row c) (Some (next_value row.next c.state)) (edge_answer rows c) (λ o. o ≡ Some v → (r : EdgeRow) × Contains (Edge row ∷ rows) (Edge r) × (edge_row_matches r c ≡ true) × (next_value r.next c.state ≡ v))
    (λ m k. (row, here (Edge row) rows, m, cc)) (λ _ k. let r = edge_row-found rows c v k in (r.0, behind (Edge row) (Edge r.0) rows r.1, r.2, r.3)) h

edge_row-none : (rows : List Row) (c : Case) → edge_answer rows c ≡ None → (row : EdgeRow) → Contains rows (Edge row) → edge_row_matches row c ≡ false
edge_row-none [] c h row k = absurd (omega (arith, k.1))
edge_row-none (Level e ∷ rows) c h row k = ⊎_elim (λ s. cc) (λ r. edge_row-none rows c h row r) (split (Level e) (Edge row) rows k)
edge_row-none (Edge l ∷ rows) c h row k =
    cond_both (edge_row_matches l c) (Some (next_value l.next c.state)) (edge_answer rows c) (λ o. o ≡ None → edge_row_matches row c ≡ false)
    (λ m g. cc)
    (λ m g. ⊎_elim (λ s. let same : l ≡ row = cc in subst (λ r. edge_row_matches r c ≡ false) same m) (λ r. edge_row-none rows c g row r) (split (Edge l) (Edge row) rows k)) h

-- ---- the laws

level_decides_at : (q : Bool) (n : ℕ) (rows : List Row) → HasNoConflict q n rows → (c : Case) → IsCase q n c → (row : LevelRow) → Contains rows (Level row) → level_row_matches row c.levels c.state ≡ true → (o : Option Tern) → level_answer rows c.levels c.state ≡ o → (d : Tern) → unwrap_or o d ≡ next_value row.next c.state
level_decides_at q n rows free c asked row k m None h d = absurd (both_ways (level_row_matches row c.levels c.state) (level_row-none rows c.levels c.state h row k) m)
level_decides_at q n rows free c asked row k m (Some v) h d =
    let r = level_row-found rows c.levels c.state v h in
    sym r.3 ∙ one_value q n rows free c asked (Level r.0) (Level row) r.1 k tt r.2 m

pub level_decides : (q : Bool) (n : ℕ) (rows : List Row) → HasNoConflict q n rows → (c : Case) → IsCase q n c → (row : LevelRow) → Contains rows (Level row) → level_row_matches row c.levels c.state ≡ true → (d : Tern) → unwrap_or (level_answer rows c.levels c.state) d ≡ next_value row.next c.state
level_decides q n rows free c asked row k m d =
    level_decides_at q n rows free c asked row k m (level_answer rows c.levels c.state) refl d

-- where no level row matches there is no such answer
no_level_at : (rows : List Row) (levels : List Tern) (state : Tern) → ((row : LevelRow) → Contains rows (Level row) → level_row_matches row levels state ≡ false) → (o : Option Tern) → level_answer rows levels state ≡ o → o ≡ None
no_level_at rows levels state none None h = refl
no_level_at rows levels state none (Some v) h =
    let r = level_row-found rows levels state v h in
    absurd (both_ways (level_row_matches r.0 levels state) (none r.0 r.1) r.2)

pub no_level : (rows : List Row) (levels : List Tern) (state : Tern) → ((row : LevelRow) → Contains rows (Level row) → level_row_matches row levels state ≡ false) → level_answer rows levels state ≡ None
no_level rows levels state none = no_level_at rows levels state none (level_answer rows levels state) refl

no_edge_at : (rows : List Row) (c : Case) → ((row : EdgeRow) → Contains rows (Edge row) → edge_row_matches row c ≡ false) → (o : Option Tern) → edge_answer rows c ≡ o → o ≡ None
no_edge_at rows c none None h = refl
no_edge_at rows c none (Some v) h =
    let r = edge_row-found rows c v h in
    absurd (both_ways (edge_row_matches r.0 c) (none r.0 r.1) r.2)

pub no_edge : (rows : List Row) (c : Case) → ((row : EdgeRow) → Contains rows (Edge row) → edge_row_matches row c ≡ false) → edge_answer rows c ≡ None
no_edge rows c none = no_edge_at rows c none (edge_answer rows c) refl

edge_decides_at : (q : Bool) (n : ℕ) (rows : List Row) → HasNoConflict q n rows → (c : Case) → IsCase q n c → (row : EdgeRow) → Contains rows (Edge row) → edge_row_matches row c ≡ true → (o : Option Tern) → edge_answer rows c ≡ o → unwrap_or o Unknown ≡ next_value row.next c.state
edge_decides_at q n rows free c asked row k m None h = absurd (both_ways (edge_row_matches row c) (edge_row-none rows c h row k) m)
edge_decides_at q n rows free c asked row k m (Some v) h =
    let r = edge_row-found rows c v h in
    sym r.3 ∙ one_value q n rows free c asked (Edge r.0) (Edge row) r.1 k tt r.2 m

pub edge_decides : (q : Bool) (n : ℕ) (rows : List Row) → HasNoConflict q n rows → (c : Case) → IsCase q n c → ((row : LevelRow) → Contains rows (Level row) → level_row_matches row c.levels c.state ≡ false) → (row : EdgeRow) → Contains rows (Edge row) → edge_row_matches row c ≡ true → answer_of rows c ≡ next_value row.next c.state
edge_decides q n rows free c asked none row k m =
    ap (λ o. unwrap_or o (unwrap_or (edge_answer rows c) Unknown)) (no_level rows c.levels c.state none)
    ∙ edge_decides_at q n rows free c asked row k m (edge_answer rows c) refl

pub no_row : (rows : List Row) (c : Case) → ((row : LevelRow) → Contains rows (Level row) → level_row_matches row c.levels c.state ≡ false) → ((row : EdgeRow) → Contains rows (Edge row) → edge_row_matches row c ≡ false) → answer_of rows c ≡ Unknown
no_row rows c none no_edges =
    ap (λ o. unwrap_or o (unwrap_or (edge_answer rows c) Unknown)) (no_level rows c.levels c.state none)
    ∙ ap (λ o. unwrap_or o Unknown) (no_edge rows c no_edges)

-- ---- no state in a combinational table

gives : (n : NextState) (s t : Tern) → n ≢ Stays → next_value n s ≡ next_value n t
gives (Becomes v) s t h = refl
gives Stays s t h = absurd (h refl)

one_row : (row : LevelRow) (levels : List Tern) (s t : Tern) → (row.state ≡ Any) × (row.next ≢ Stays) → (level_row_matches row levels s ≡ level_row_matches row levels t) × (next_value row.next s ≡ next_value row.next t)
one_row row levels s t h =
    (ap (λ a. covers_all row.levels levels && covers a s) h.0 ∙ sym (ap (λ a. covers_all row.levels levels && covers a t) h.0), gives row.next s t h.1)

pub any_state : (n : ℕ) (rows : List Row) → All (Fits false n) rows → (levels : List Tern) (s t : Tern) → level_answer rows levels s ≡ level_answer rows levels t
any_state n [] fits levels s t = refl
any_state n (Edge row ∷ rows) fits levels s t = absurd (All-head (Fits false n) (Edge row) rows fits)
any_state n (Level row ∷ rows) fits levels s t =
    let f = All-head (Fits false n) (Level row) rows fits in
    let one = one_row row levels s t (f.1, f.2) in
    let rest = any_state n rows (All-tail (Fits false n) (Level row) rows fits) levels s t in
    ap (λ b. cond b (Some (next_value row.next s)) (level_answer rows levels s)) one.0
    ∙ ap (λ v. cond (level_row_matches row levels t) (Some v) (level_answer rows levels s)) one.1
    ∙ ap (λ o. cond (level_row_matches row levels t) (Some (next_value row.next t)) o) rest
