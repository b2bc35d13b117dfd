-- What is read from the letters of a row is what they are written for, in both directions.
use Rattle.std.proofs.Common.{◌≡◌, ◌≢◌, ℕ, ◌+◌, Bool, true, false, ◌&&◌, cond, eqb, List, [], ◌∷◌, ◌++◌, map, length, Option, Some, None, refl, ap, sym, ◌∙◌, subst, ◌⊎◌, inl, inr, ⊎_elim, eq-eqb}
use Rattle.std.proofs.lemmas.Bool.{cond_both, cond-true, eqb-true, and_parts}
use Rattle.tern_core.specs.declared.tern.Tern.{Tern}
use Rattle.tern_core.specs.declared.tern.Tern.TheVariants.{Zero, One, Unknown}
use Rattle.udp_table.specs.declared.symbol.LevelSymbol.{LevelSymbol}
use Rattle.udp_table.specs.declared.symbol.LevelSymbol.TheVariants.{Only, Binary, Any}
use Rattle.udp_table.specs.declared.symbol.EdgeSymbol.{EdgeSymbol}
use Rattle.udp_table.specs.declared.symbol.EdgeSymbol.TheVariants.{Between, Rising, Falling, PotentialRising, PotentialFalling, AnyChange}
use Rattle.udp_table.specs.declared.symbol.NextState.{NextState}
use Rattle.udp_table.specs.declared.symbol.NextState.TheVariants.{Becomes, Stays}
use Rattle.udp_table.specs.declared.row.LevelRow.{LevelRow}
use Rattle.udp_table.specs.declared.row.EdgeRow.{EdgeRow}
use Rattle.udp_table.specs.declared.row.Row.{Row}
use Rattle.udp_table.specs.declared.row.Row.TheVariants.{Level, Edge}
use Rattle.udp_table.specs.Letters.{value_letter, level_letter, edge_letters, next_letter, ending, row_letters, Fits, AreLetters}
use Rattle.udp_table.specs.Reading.{value_at, level_at, next_at, edge_at, levels_in, after_levels, with_level, past_level, between_in, edge_in, ending_in, level_row_of, edge_row_of, behind_levels, row_in, ◌>>=◌}

-- ---- one letter

-- a test of a letter that gave something: the letter is that one, or the later tests gave it
test : {A : Type 0} (b n : ℕ) (x y z : Option A) → cond (eqb b n) x y ≡ z → ((b ≡ n) × (x ≡ z)) ⊎ (y ≡ z)
test b n x y z h = cond_both (eqb b n) x y (λ w. w ≡ z → ((b ≡ n) × (x ≡ z)) ⊎ (y ≡ z)) (λ e k. inl (eqb-true b n e, k)) (λ _ k. inr k) h

-- the letter of what was read
at_letter : {A : Type 0} (f : A → ℕ) (b n : ℕ) (s t : A) → n ≡ f s → (b ≡ n) × (Some s ≡ Some t) → b ≡ f t
at_letter f b n s t e p = let same : s ≡ t = cc in p.0 ∙ e ∙ ap f same

pub value_at-sound : (b : ℕ) (v : Tern) → value_at b ≡ Some v → b ≡ value_letter v
value_at-sound b v h =
    ⊎_elim (at_letter value_letter b 48 Zero v refl) (λ h.
    ⊎_elim (at_letter value_letter b 49 One v refl) (λ h.
    ⊎_elim (at_letter value_letter b 120 Unknown v refl) (λ h. absurd (cc)) (test b 120 _ _ _ h)) (test b 49 _ _ _ h)) (test b 48 _ _ _ h)

pub value_at-letter : (v : Tern) → value_at (value_letter v) ≡ Some v
value_at-letter Zero = refl
value_at-letter One = refl
value_at-letter Unknown = refl

pub level_at-sound : (b : ℕ) (s : LevelSymbol) → level_at b ≡ Some s → b ≡ level_letter s
level_at-sound b s h =
    ⊎_elim (at_letter level_letter b 48 (Only Zero) s refl) (λ h.
    ⊎_elim (at_letter level_letter b 49 (Only One) s refl) (λ h.
    ⊎_elim (at_letter level_letter b 120 (Only Unknown) s refl) (λ h.
    ⊎_elim (at_letter level_letter b 98 Binary s refl) (λ h.
    ⊎_elim (at_letter level_letter b 63 Any s refl) (λ h. absurd (cc)) (test b 63 _ _ _ h)) (test b 98 _ _ _ h)) (test b 120 _ _ _ h)) (test b 49 _ _ _ h)) (test b 48 _ _ _ h)

pub level_at-letter : (s : LevelSymbol) → level_at (level_letter s) ≡ Some s
level_at-letter (Only Zero) = refl
level_at-letter (Only One) = refl
level_at-letter (Only Unknown) = refl
level_at-letter Binary = refl
level_at-letter Any = refl

pub next_at-sound : (b : ℕ) (n : NextState) → next_at b ≡ Some n → b ≡ next_letter n
next_at-sound b n h =
    ⊎_elim (at_letter next_letter b 48 (Becomes Zero) n refl) (λ h.
    ⊎_elim (at_letter next_letter b 49 (Becomes One) n refl) (λ h.
    ⊎_elim (at_letter next_letter b 120 (Becomes Unknown) n refl) (λ h.
    ⊎_elim (at_letter next_letter b 45 Stays n refl) (λ h. absurd (cc)) (test b 45 _ _ _ h)) (test b 120 _ _ _ h)) (test b 49 _ _ _ h)) (test b 48 _ _ _ h)

pub next_at-letter : (n : NextState) → next_at (next_letter n) ≡ Some n
next_at-letter (Becomes Zero) = refl
next_at-letter (Becomes One) = refl
next_at-letter (Becomes Unknown) = refl
next_at-letter Stays = refl

at_edge : (b n : ℕ) (s t : EdgeSymbol) → n ∷ [] ≡ edge_letters s → (b ≡ n) × (Some s ≡ Some t) → b ∷ [] ≡ edge_letters t
at_edge b n s t e p = let same : s ≡ t = cc in ap (λ x. x ∷ []) p.0 ∙ e ∙ ap edge_letters same

pub edge_at-sound : (b : ℕ) (e : EdgeSymbol) → edge_at b ≡ Some e → b ∷ [] ≡ edge_letters e
edge_at-sound b e h =
    ⊎_elim (at_edge b 114 Rising e refl) (λ h.
    ⊎_elim (at_edge b 102 Falling e refl) (λ h.
    ⊎_elim (at_edge b 112 PotentialRising e refl) (λ h.
    ⊎_elim (at_edge b 110 PotentialFalling e refl) (λ h.
    ⊎_elim (at_edge b 42 AnyChange e refl) (λ h. absurd (cc)) (test b 42 _ _ _ h)) (test b 110 _ _ _ h)) (test b 112 _ _ _ h)) (test b 102 _ _ _ h)) (test b 114 _ _ _ h)

-- ---- levels at the front

one_level : (b : ℕ) (bs : List ℕ) (o : Option LevelSymbol) → level_at b ≡ o → bs ≡ map level_letter (levels_in bs) ++ after_levels bs → b ∷ bs ≡ map level_letter (with_level o (levels_in bs)) ++ past_level o (b ∷ bs) (after_levels bs)
one_level b bs None e h = refl
one_level b bs (Some s) e h = ap (λ x. x ∷ bs) (level_at-sound b s e) ∙ ap (λ xs. level_letter s ∷ xs) h

pub levels_in-sound : (bs : List ℕ) → bs ≡ map level_letter (levels_in bs) ++ after_levels bs
levels_in-sound [] = refl
levels_in-sound (b ∷ bs) = one_level b bs (level_at b) refl (levels_in-sound bs)

pub levels_in-letters : (ss : List LevelSymbol) (rest : List ℕ) → levels_in rest ≡ [] → levels_in (map level_letter ss ++ rest) ≡ ss
levels_in-letters [] rest h = h
levels_in-letters (s ∷ ss) rest h =
    ap (λ o. with_level o (levels_in (map level_letter ss ++ rest))) (level_at-letter s) ∙ ap (λ xs. s ∷ xs) (levels_in-letters ss rest h)

pub after_levels-letters : (ss : List LevelSymbol) (rest : List ℕ) → after_levels rest ≡ rest → after_levels (map level_letter ss ++ rest) ≡ rest
after_levels-letters [] rest h = h
after_levels-letters (s ∷ ss) rest h =
    ap (λ o. past_level o (level_letter s ∷ (map level_letter ss ++ rest)) (after_levels (map level_letter ss ++ rest))) (level_at-letter s) ∙ after_levels-letters ss rest h

-- ---- edges

abbrev with_rest : List ℕ → EdgeSymbol → Option (EdgeSymbol × List ℕ)
with_rest rest e = Some (e, rest)

both_levels : (a b c : ℕ) (bs : List ℕ) (e : EdgeSymbol) (rest : List ℕ) → c ≡ 41 → (v w : Option LevelSymbol) → level_at a ≡ v → level_at b ≡ w → (v >>= λ x. w >>= λ y. with_rest bs (Between x y)) ≡ Some (e, rest) → 40 ∷ a ∷ b ∷ c ∷ bs ≡ edge_letters e ++ rest
both_levels a b c bs e rest k None w p q h = cc
both_levels a b c bs e rest k (Some x) None p q h = cc
both_levels a b c bs e rest k (Some x) (Some y) p q h =
    let first : a ≡ level_letter x = level_at-sound a x p in
    let second : b ≡ level_letter y = level_at-sound b y q in
    let pair : ◌≡◌ {A = EdgeSymbol × List ℕ} (Between x y, bs) (e, rest) = cc in
    let edge = ap (λ (r : EdgeSymbol × List ℕ). r.0) pair in
    let same = ap (λ (r : EdgeSymbol × List ℕ). r.1) pair in
    ap (λ l. 40 ∷ l ∷ b ∷ c ∷ bs) first ∙ ap (λ l. 40 ∷ level_letter x ∷ l ∷ c ∷ bs) second ∙ ap (λ l. 40 ∷ level_letter x ∷ level_letter y ∷ l ∷ bs) k
    ∙ ap (λ l. edge_letters (Between x y) ++ l) same ∙ ap (λ l. edge_letters l ++ rest) edge

between_in-sound : (bs : List ℕ) (e : EdgeSymbol) (rest : List ℕ) → between_in bs ≡ Some (e, rest) → 40 ∷ bs ≡ edge_letters e ++ rest
between_in-sound [] e rest h = cc
between_in-sound (a ∷ []) e rest h = cc
between_in-sound (a ∷ b ∷ []) e rest h = cc
between_in-sound (a ∷ b ∷ c ∷ bs) e rest h =
    ⊎_elim
    (λ p. both_levels a b c bs e rest p.0 (level_at a) (level_at b) refl refl p.1) (λ k. cc) (test c 41 _ _ _ h)

letter_edge : (a : ℕ) (bs : List ℕ) (e : EdgeSymbol) (rest : List ℕ) (o : Option EdgeSymbol) → edge_at a ≡ o → (o >>= with_rest bs) ≡ Some (e, rest) → a ∷ bs ≡ edge_letters e ++ rest
letter_edge a bs e rest None p h = cc
letter_edge a bs e rest (Some x) p h =
    let pair : ◌≡◌ {A = EdgeSymbol × List ℕ} (x, bs) (e, rest) = cc in
    let edge = ap (λ (r : EdgeSymbol × List ℕ). r.0) pair in
    let same = ap (λ (r : EdgeSymbol × List ℕ). r.1) pair in
    ap (λ l. l ++ bs) (edge_at-sound a x p) ∙ ap (λ l. edge_letters x ++ l) same ∙ ap (λ l. edge_letters l ++ rest) edge

pub edge_in-sound : (bs : List ℕ) (e : EdgeSymbol) (rest : List ℕ) → edge_in bs ≡ Some (e, rest) → bs ≡ edge_letters e ++ rest
edge_in-sound [] e rest h = cc
edge_in-sound (a ∷ bs) e rest h =
    ⊎_elim
    (λ p. ap (λ l. l ∷ bs) p.0 ∙ between_in-sound bs e rest p.1) (letter_edge a bs e rest (edge_at a) refl) (test a 40 _ _ _ h)

pub edge_in-letters : (e : EdgeSymbol) (rest : List ℕ) → edge_in (edge_letters e ++ rest) ≡ Some (e, rest)
edge_in-letters (Between v w) rest =
    ap (λ o. o >>= λ x. level_at (level_letter w) >>= λ y. Some (Between x y, rest)) (level_at-letter v) ∙ ap (λ o. o >>= λ y. Some (Between v y, rest)) (level_at-letter w)
edge_in-letters Rising rest = refl
edge_in-letters Falling rest = refl
edge_in-letters PotentialRising rest = refl
edge_in-letters PotentialFalling rest = refl
edge_in-letters AnyChange rest = refl

-- no edge begins with a level
levels_in-edge : (e : EdgeSymbol) (rest : List ℕ) → levels_in (edge_letters e ++ rest) ≡ []
levels_in-edge (Between v w) rest = refl
levels_in-edge Rising rest = refl
levels_in-edge Falling rest = refl
levels_in-edge PotentialRising rest = refl
levels_in-edge PotentialFalling rest = refl
levels_in-edge AnyChange rest = refl

after_levels-edge : (e : EdgeSymbol) (rest : List ℕ) → after_levels (edge_letters e ++ rest) ≡ edge_letters e ++ rest
after_levels-edge (Between v w) rest = refl
after_levels-edge Rising rest = refl
after_levels-edge Falling rest = refl
after_levels-edge PotentialRising rest = refl
after_levels-edge PotentialFalling rest = refl
after_levels-edge AnyChange rest = refl

-- ---- the ending

-- what a combinational ending has
abbrev EndFits : Bool → LevelSymbol × NextState → Type 0
EndFits false end = (end.0 ≡ Any) × (end.1 ≢ Stays)
EndFits true end = Unit {0}

value_end : (a b : ℕ) (end : LevelSymbol × NextState) (o : Option Tern) → a ≡ 58 → value_at b ≡ o → (o >>= λ v. Some (Any, Becomes v)) ≡ Some end → (a ∷ b ∷ [] ≡ ending false end.0 end.1) × EndFits false end
value_end a b end None k p h = cc
value_end a b end (Some v) k p h =
    let same : (Any, Becomes v) ≡ end = cc in
    subst (λ (e : LevelSymbol × NextState). (a ∷ b ∷ [] ≡ ending false e.0 e.1) × EndFits false e) same
    (ap (λ l. l ∷ b ∷ []) k ∙ ap (λ l. 58 ∷ l ∷ []) (value_at-sound b v p), (refl, λ q. cc))

state_end : (a b c d : ℕ) (end : LevelSymbol × NextState) (o : Option LevelSymbol) (p : Option NextState) → a ≡ 58 → c ≡ 58 → level_at b ≡ o → next_at d ≡ p → (o >>= λ s. p >>= λ n. Some (s, n)) ≡ Some end → a ∷ b ∷ c ∷ d ∷ [] ≡ ending true end.0 end.1
state_end a b c d end None p k l q r h = cc
state_end a b c d end (Some s) None k l q r h = cc
state_end a b c d end (Some s) (Some n) k l q r h =
    let same : (s, n) ≡ end = cc in
    ap (λ x. x ∷ b ∷ c ∷ d ∷ []) k ∙ ap (λ x. 58 ∷ x ∷ c ∷ d ∷ []) (level_at-sound b s q) ∙ ap (λ x. 58 ∷ level_letter s ∷ x ∷ d ∷ []) l
    ∙ ap (λ x. 58 ∷ level_letter s ∷ 58 ∷ x ∷ []) (next_at-sound d n r) ∙ ap (λ (e : LevelSymbol × NextState). ending true e.0 e.1) same

pub ending_in-sound : (q : Bool) (bs : List ℕ) (end : LevelSymbol × NextState) → ending_in q bs ≡ Some end → (bs ≡ ending q end.0 end.1) × EndFits q end
ending_in-sound false [] end h = cc
ending_in-sound false (a ∷ []) end h = cc
ending_in-sound false (a ∷ b ∷ []) end h = ⊎_elim (λ p. value_end a b end (value_at b) p.0 refl p.1) (λ k. cc) (test a 58 _ _ _ h)
ending_in-sound false (a ∷ b ∷ c ∷ bs) end h = cc
ending_in-sound true [] end h = cc
ending_in-sound true (a ∷ []) end h = cc
ending_in-sound true (a ∷ b ∷ []) end h = cc
ending_in-sound true (a ∷ b ∷ c ∷ []) end h = cc
ending_in-sound true (a ∷ b ∷ c ∷ d ∷ []) end h =
    cond_both (eqb a 58 && eqb c 58) (level_at b >>= λ s. next_at d >>= λ n. Some (s, n)) None
    (λ w. w ≡ Some end → (a ∷ b ∷ c ∷ d ∷ [] ≡ ending true end.0 end.1) × Unit {0})
    (λ e k. let parts = and_parts (eqb a 58) (eqb c 58) e in
    (state_end a b c d end (level_at b) (next_at d) (eqb-true a 58 parts.0) (eqb-true c 58 parts.1) refl refl k, tt)) (λ _ k. cc) h
ending_in-sound true (a ∷ b ∷ c ∷ d ∷ f ∷ bs) end h = cc

pub ending_in-letters : (s : LevelSymbol) (n : NextState) → ending_in true (ending true s n) ≡ Some (s, n)
ending_in-letters s n = ap (λ o. o >>= λ x. next_at (next_letter n) >>= λ y. Some (x, y)) (level_at-letter s) ∙ ap (λ o. o >>= λ y. Some (s, y)) (next_at-letter n)

pub ending_in-value : (n : NextState) → n ≢ Stays → ending_in false (ending false Any n) ≡ Some (Any, n)
ending_in-value (Becomes v) h = ap (λ o. o >>= λ x. Some (Any, Becomes x)) (value_at-letter v)
ending_in-value Stays h = absurd (h refl)

-- no edge begins an ending
ending_in-other : (a : ℕ) (bs : List ℕ) → eqb a 58 ≡ false → ending_in true (a ∷ bs) ≡ None
ending_in-other a [] h = refl
ending_in-other a (b ∷ []) h = refl
ending_in-other a (b ∷ c ∷ []) h = refl
ending_in-other a (b ∷ c ∷ d ∷ []) h = ap (λ t. cond (t && eqb c 58) (level_at b >>= λ s. next_at d >>= λ n. Some (s, n)) None) h
ending_in-other a (b ∷ c ∷ d ∷ f ∷ bs) h = refl

ending_in-edge : (e : EdgeSymbol) (rest : List ℕ) → ending_in true (edge_letters e ++ rest) ≡ None
ending_in-edge (Between v w) rest = ending_in-other 40 (level_letter v ∷ level_letter w ∷ 41 ∷ rest) refl
ending_in-edge Rising rest = ending_in-other 114 rest refl
ending_in-edge Falling rest = ending_in-other 102 rest refl
ending_in-edge PotentialRising rest = ending_in-other 112 rest refl
ending_in-edge PotentialFalling rest = ending_in-other 110 rest refl
ending_in-edge AnyChange rest = ending_in-other 42 rest refl

levels_in-ending : (q : Bool) (s : LevelSymbol) (n : NextState) → levels_in (ending q s n) ≡ []
levels_in-ending false s n = refl
levels_in-ending true s n = refl

after_levels-ending : (q : Bool) (s : LevelSymbol) (n : NextState) → after_levels (ending q s n) ≡ ending q s n
after_levels-ending false s n = refl
after_levels-ending true s n = refl

-- ---- whole rows

abbrev level_row : List LevelSymbol → LevelSymbol × NextState → Row
level_row levels end = Level (record { levels = levels; state = end.0; next = end.1 })

abbrev edge_row : List LevelSymbol → EdgeSymbol → List LevelSymbol → LevelSymbol × NextState → Row
edge_row before edge after end =
    Edge (record { before = before; edge = edge; after = after; state = end.0; next = end.1 })

level_fits : (q : Bool) (n : ℕ) (levels : List LevelSymbol) (end : LevelSymbol × NextState) → length levels ≡ n → EndFits q end → Fits q n (level_row levels end)
level_fits false n levels end h k = (h, k.0, k.1)
level_fits true n levels end h k = h

level_row-sound : (q : Bool) (n : ℕ) (letters : List ℕ) (levels : List LevelSymbol) (rest : List ℕ) (end : LevelSymbol × NextState) (row : Row) → letters ≡ map level_letter levels ++ rest → (rest ≡ ending q end.0 end.1) × EndFits q end → level_row_of n levels end ≡ Some row → AreLetters q n letters row
level_row-sound q n letters levels rest end row p k h =
    cond_both (eqb (length levels) n) (Some (level_row levels end)) None (λ w. w ≡ Some row → AreLetters q n letters row)
    (λ e g. let same : level_row levels end ≡ row = cc in
    subst (AreLetters q n letters) same
    (level_fits q n levels end (eqb-true (length levels) n e) k.1, p ∙ ap (λ l. map level_letter levels ++ l) k.0)) (λ _ g. cc) h

edge_row-sound : (n : ℕ) (letters : List ℕ) (before : List LevelSymbol) (rest : List ℕ) (edge : EdgeSymbol) (behind : List ℕ) (end : LevelSymbol × NextState) (row : Row) → letters ≡ map level_letter before ++ rest → rest ≡ edge_letters edge ++ behind → after_levels behind ≡ ending true end.0 end.1 → edge_row_of n before edge (levels_in behind) end ≡ Some row → AreLetters true n letters row
edge_row-sound n letters before rest edge behind end row p q r h =
    cond_both (eqb (length before + 1 + length (levels_in behind)) n) (Some (edge_row before edge (levels_in behind) end)) None (λ w. w ≡ Some row → AreLetters true n letters row)
    (λ e g. let same : edge_row before edge (levels_in behind) end ≡ row = cc in
    subst (AreLetters true n letters) same
    (eqb-true (length before + 1 + length (levels_in behind)) n e, p ∙ ap (λ l. map level_letter before ++ l) q ∙ ap (λ l. map level_letter before ++ (edge_letters edge ++ l)) (levels_in-sound behind ∙ ap (λ l. map level_letter (levels_in behind) ++ l) r))) (λ _ g. cc) h

edge_end : (n : ℕ) (letters : List ℕ) (before : List LevelSymbol) (rest : List ℕ) (edge : EdgeSymbol) (behind : List ℕ) (row : Row) (o : Option (LevelSymbol × NextState)) → letters ≡ map level_letter before ++ rest → rest ≡ edge_letters edge ++ behind → ending_in true (after_levels behind) ≡ o → (o >>= edge_row_of n before edge (levels_in behind)) ≡ Some row → AreLetters true n letters row
edge_end n letters before rest edge behind row None p q r h = cc
edge_end n letters before rest edge behind row (Some end) p q r h =
    edge_row-sound n letters before rest edge behind end row p q (ending_in-sound true (after_levels behind) end r).0 h

abbrev behind_edge : ℕ → List LevelSymbol → EdgeSymbol × List ℕ → Option Row
behind_edge n before found = ending_in true (after_levels found.1) >>= edge_row_of n before found.0 (levels_in found.1)

edge_found : (n : ℕ) (letters : List ℕ) (before : List LevelSymbol) (rest : List ℕ) (row : Row) (o : Option (EdgeSymbol × List ℕ)) → letters ≡ map level_letter before ++ rest → edge_in rest ≡ o → (o >>= behind_edge n before) ≡ Some row → AreLetters true n letters row
edge_found n letters before rest row None p q h = cc
edge_found n letters before rest row (Some found) p q h =
    edge_end n letters before rest found.0 found.1 row (ending_in true (after_levels found.1)) p (edge_in-sound rest found.0 found.1 q) refl h

behind-sound : (q : Bool) (n : ℕ) (letters : List ℕ) (row : Row) (o : Option (LevelSymbol × NextState)) → ending_in q (after_levels letters) ≡ o → behind_levels q n (levels_in letters) (after_levels letters) o ≡ Some row → AreLetters q n letters row
behind-sound q n letters row (Some end) p h =
    level_row-sound q n letters (levels_in letters) (after_levels letters) end row (levels_in-sound letters) (ending_in-sound q (after_levels letters) end p) h
behind-sound false n letters row None p h = cc
behind-sound true n letters row None p h =
    edge_found n letters (levels_in letters) (after_levels letters) row (edge_in (after_levels letters)) (levels_in-sound letters) refl h

-- what is read is written so
pub row_in-sound : (q : Bool) (n : ℕ) (letters : List ℕ) (row : Row) → row_in q n letters ≡ Some row → AreLetters q n letters row
row_in-sound q n letters row h = behind-sound q n letters row (ending_in q (after_levels letters)) refl h

level_end : (q : Bool) (n : ℕ) (row : LevelRow) → Fits q n (Level row) → (ending_in q (ending q row.state row.next) ≡ Some (row.state, row.next)) × (length row.levels ≡ n)
level_end false n row h = (ending_in-value row.next h.2 ∙ ap (λ s. Some (s, row.next)) (sym h.1), h.0)
level_end true n row h = (ending_in-letters row.state row.next, h)

level_letters : (q : Bool) (n : ℕ) (row : LevelRow) → Fits q n (Level row) → row_in q n (row_letters q (Level row)) ≡ Some (Level row)
level_letters q n row h =
    let end = ending q row.state row.next in
    let all = map level_letter row.levels ++ end in
    let facts = level_end q n row h in
    ap (λ ls. behind_levels q n ls (after_levels all) (ending_in q (after_levels all))) (levels_in-letters row.levels end (levels_in-ending q row.state row.next))
    ∙ ap (λ r. behind_levels q n row.levels r (ending_in q r)) (after_levels-letters row.levels end (after_levels-ending q row.state row.next))
    ∙ ap (behind_levels q n row.levels end) facts.0
    ∙ cond-true (eqb (length row.levels) n) (Some (Level row)) None (eq-eqb (length row.levels) n facts.1)

edge_row_letters : (n : ℕ) (row : EdgeRow) → Fits true n (Edge row) → row_in true n (row_letters true (Edge row)) ≡ Some (Edge row)
edge_row_letters n row h =
    let end = ending true row.state row.next in
    let tail = map level_letter row.after ++ end in
    let rest = edge_letters row.edge ++ tail in
    let all = map level_letter row.before ++ rest in
    ap (λ ls. behind_levels true n ls (after_levels all) (ending_in true (after_levels all))) (levels_in-letters row.before rest (levels_in-edge row.edge tail))
    ∙ ap (λ r. behind_levels true n row.before r (ending_in true r)) (after_levels-letters row.before rest (after_levels-edge row.edge tail))
    ∙ ap (behind_levels true n row.before rest) (ending_in-edge row.edge tail)
    ∙ ap (λ o. o >>= behind_edge n row.before) (edge_in-letters row.edge tail)
    ∙ ap (λ r. ending_in true r >>= edge_row_of n row.before row.edge (levels_in tail)) (after_levels-letters row.after end (after_levels-ending true row.state row.next))
    ∙ ap (λ o. o >>= edge_row_of n row.before row.edge (levels_in tail)) (ending_in-letters row.state row.next)
    ∙ ap (λ ls. edge_row_of n row.before row.edge ls (row.state, row.next)) (levels_in-letters row.after end (levels_in-ending true row.state row.next))
    ∙ cond-true (eqb (length row.before + 1 + length row.after) n) (Some (Edge row)) None (eq-eqb (length row.before + 1 + length row.after) n h)

-- what is written so is read
pub row_in-letters : (q : Bool) (n : ℕ) (letters : List ℕ) (row : Row) → AreLetters q n letters row → row_in q n letters ≡ Some row
row_in-letters q n letters (Level row) h = ap (row_in q n) h.1 ∙ level_letters q n row h.0
row_in-letters false n letters (Edge row) h = absurd h.0
row_in-letters true n letters (Edge row) h = ap (row_in true n) h.1 ∙ edge_row_letters n row h.0
