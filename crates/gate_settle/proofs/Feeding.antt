-- Rows of the nets that feed each net, one gate more.
use Rattle.std.proofs.Common.{◌≡◌, ℕ, suc, zero, ◌+◌, ◌<◌, ◌≤◌, ◌⊎◌, inl, inr, Bool, true, false, List, [], ◌∷◌, length, get_or, drop, refl, sym, ◌∙◌, ap, subst, arith}
use Rattle.std.specs.Prelude.{◌==◌, ◌&&◌, ◌||◌, sum_by, slice_set, slice_index_or, replicate}
use Rattle.std.proofs.lemmas.List.{at_drop_more, length-replicate}
use Rattle.std.proofs.lemmas.List.Sums.{sum_by-cons}
use Rattle.gate_settle.specs.declared.gate.Operand.{Operand}
use Rattle.gate_settle.specs.declared.gate.Operand.TheVariants.{Net, Constant}
use Rattle.gate_settle.specs.declared.gate.Gate.{Gate}
use Rattle.gate_settle.specs.Gates.{is_among}
use Rattle.gate_settle.specs.Order.{is_input, is_fed_by, DependsOn, directly, through}
use Rattle.gate_settle.specs.Reach.{AreWithin}
use Rattle.gate_settle.specs.declared.reach.Visit.{Visit}
use Rattle.gate_settle.specs.declared.reach.Visit.TheVariants.{New, OnPath, Done}
use Rattle.gate_settle.specs.Search.{is_edge, Reaches, by_edge, by_edges, visit_at, is_new, is_done, is_on_loop, one_if_new, some_in, IsSearch, IsTold}
use Rattle.gate_settle.proofs.Settling.{same_of, eq_self, at_place}
use Rattle.gate_settle.proofs.Loops.{fed_driven}
use Rattle.gate_settle.proofs.Search.{or_false, or_over}

input_one : (x : Operand) (xs : List Operand) (b : ℕ) → (is_input (x ∷ []) b || is_input xs b) ≡ is_input (x ∷ xs) b
input_one (Net n) xs b = ap (λ v. v || is_input xs b) (or_false (n == b))
input_one (Constant v) xs b = refl

-- one input more
pub input_more : (old new : Bool) (xs : List Operand) (i b : ℕ) (d : Operand) → i < length xs → new ≡ (old || is_input (get_or xs i d ∷ []) b) → (new || is_input (drop (i + 1) xs) b) ≡ (old || is_input (drop i xs) b)
input_more old new xs i b d lt h =
    ap (λ v. v || is_input (drop (i + 1) xs) b) h ∙ sym (or_over old (is_input (get_or xs i d ∷ []) b) (is_input (drop (i + 1) xs) b))
    ∙ ap (λ v. old || v) (input_one (get_or xs i d) (drop (i + 1) xs) b ∙ sym (at_drop_more (λ ys. is_input ys b) xs i d lt))

spread : (e x y i : Bool) → ((e || (x && i)) || (y && i)) ≡ (e || ((x || y) && i))
spread true x y i = refl
spread false true true true = refl
spread false true true false = refl
spread false true false true = refl
spread false true false false = refl
spread false false y i = refl

-- one output more
pub output_more : (old new fed : Bool) (os : List ℕ) (i a : ℕ) → i < length os → new ≡ (old || (get_or os i 0 == a && fed)) → (new || (is_among (drop (i + 1) os) a && fed)) ≡ (old || (is_among (drop i os) a && fed))
output_more old new fed os i a lt h =
    ap (λ v. v || (is_among (drop (i + 1) os) a && fed)) h ∙ spread old (get_or os i 0 == a) (is_among (drop (i + 1) os) a) fed ∙ ap (λ v. old || (v && fed)) (sym (at_drop_more (λ ys. is_among ys a) os i 0 lt))

-- one gate more
pub gate_more : (old new : Bool) (gates : List Gate) (g : Gate) (i a b : ℕ) → i < length gates → g ≡ get_or gates i g → new ≡ (old || (is_among g.outputs a && is_input g.inputs b)) → (new || is_fed_by (drop (i + 1) gates) a b) ≡ (old || is_fed_by (drop i gates) a b)
gate_more old new gates g i a b lt e h =
    ap (λ v. v || is_fed_by (drop (i + 1) gates) a b) h ∙ sym (or_over old (is_among g.outputs a && is_input g.inputs b) (is_fed_by (drop (i + 1) gates) a b))
    ∙ ap (λ v. old || v) (sym (at_drop_more (λ gs. is_fed_by gs a b) gates i g lt ∙ ap (λ x. is_fed_by (x ∷ drop (i + 1) gates) a b) (sym e)))

-- the row of one output has grown
pub row_grown : (rows : List (List ℕ)) (o : ℕ) (row : List ℕ) (inputs : List Operand) → o < length rows → ((b : ℕ) → is_among row b ≡ (is_among (slice_index_or rows o []) b || is_input inputs b)) → (a b : ℕ) → is_edge (slice_set rows o row) a b ≡ (is_edge rows a b || (o == a && is_input inputs b))
row_grown rows o row inputs lt h a b = elim (at_place rows o a row [] lt) [
  | inl p ↦
      let t : (o == a) ≡ true = subst (λ n. (o == n) ≡ true) (sym p.0) (eq_self o) in
      ap (λ xs. is_among xs b) p.1 ∙ h b ∙ ap (λ n. is_among (slice_index_or rows n []) b || is_input inputs b) (sym p.0) ∙ ap (λ v. is_edge rows a b || (v && is_input inputs b)) (sym t)
  | inr p ↦
      let f : (o == a) ≡ false = elim (o == a) as (λ v. (o == a) ≡ v → (o == a) ≡ false) [ true ↦ λ e. absurd (p.0 (sym (same_of o a e))) | false ↦ λ e. e ] refl in
      ap (λ xs. is_among xs b) p.1 ∙ sym (or_false (is_edge rows a b)) ∙ ap (λ v. is_edge rows a b || (v && is_input inputs b)) (sym f)
]

no_edge : (n a b : ℕ) → is_edge (replicate n []) a b ≡ false
no_edge zero a b = refl
no_edge (suc n) zero b = refl
no_edge (suc n) (suc a) b = no_edge n a b

pub begins : (rows : List (List ℕ)) (n a b : ℕ) (v : Bool) → rows ≡ replicate n [] → (is_edge rows a b || v) ≡ v
begins rows n a b v e = ap (λ x. x || v) (ap (λ rs. is_edge rs a b) e ∙ no_edge n a b)

past : (rows : List (List ℕ)) (a b : ℕ) → length rows ≤ a → is_edge rows a b ≡ false
past [] a b le = refl
past (r ∷ rows) zero b le = absurd (omega arith)
past (r ∷ rows) (suc a) b le = past rows a b (omega arith)

-- past the last net there is neither a row nor a gate
pub nothing_past : (rows : List (List ℕ)) (gates : List Gate) (nets a b : ℕ) → length rows ≡ nets → AreWithin gates nets → nets ≤ a → is_edge rows a b ≡ is_fed_by gates a b
nothing_past rows gates nets a b l w le =
    past rows a b (omega arith) ∙ sym (elim (is_fed_by gates a b) as (λ v. is_fed_by gates a b ≡ v → is_fed_by gates a b ≡ false) [
      | true ↦ λ e. let lt : a < nets = w a (fed_driven gates a b e) in absurd (omega arith)
      | false ↦ λ e. e
    ] refl)

-- ---- the same relation

pub depends_of : (rows : List (List ℕ)) (gates : List Gate) → ((a b : ℕ) → is_edge rows a b ≡ is_fed_by gates a b) → (a b : ℕ) → Reaches rows a b → DependsOn gates a b
depends_of rows gates h a b (by_edge e) = directly (sym (h a b) ∙ e)
depends_of rows gates h a c (by_edges {b = b} e r) = through (sym (h a b) ∙ e) (depends_of rows gates h b c r)

pub reaches_of : (rows : List (List ℕ)) (gates : List Gate) → ((a b : ℕ) → is_edge rows a b ≡ is_fed_by gates a b) → (a b : ℕ) → DependsOn gates a b → Reaches rows a b
reaches_of rows gates h a b (directly e) = by_edge (h a b ∙ e)
reaches_of rows gates h a c (through {b = b} e r) = by_edges (h a b ∙ e) (reaches_of rows gates h b c r)

-- ---- the search begins, and what is told in the end

fresh_visit : (n k : ℕ) → (visit_at (replicate n New) k ≡ New) ⊎ ((visit_at (replicate n New) k ≡ Done false) × (n ≤ k))
fresh_visit zero k = let le : 0 ≤ k = omega arith in inr (refl, le)
fresh_visit (suc n) zero = inl refl
fresh_visit (suc n) (suc k) = elim (fresh_visit n k) [
  | inl x ↦ inl x
  | inr y ↦ let le : suc n ≤ suc k = omega (arith, y.1) in inr (y.0, le)
]

fresh_count : (n : ℕ) → sum_by one_if_new (replicate n New) ≡ n
fresh_count zero = refl
fresh_count (suc n) = let c = sum_by-cons one_if_new New (replicate n New) in let i = fresh_count n in let o : one_if_new New ≡ 1 = refl in omega (arith, c, i, o)

no_way : (rows : List (List ℕ)) (a b : ℕ) → length rows ≤ a → Reaches rows a b → ⊥
no_way rows a b le (by_edge e) = let f : is_edge rows a b ≡ false = past rows a b le in cc
no_way rows a c le (by_edges {b = b} e r) = let f : is_edge rows a b ≡ false = past rows a b le in cc

begun : (rows : List (List ℕ)) → IsSearch rows (replicate (length rows) New) 0 []
begun rows =
    let n : ℕ = length rows in
    let long : length (replicate (length rows) New) ≡ n = length-replicate (length rows) New in
    record {
      path = tt;
      on_path = λ v k e. elim (fresh_visit (length rows) v) [ inl x ↦ absurd (cc) | inr y ↦ let d = y.0 in absurd (cc) ];
      closed = λ a b d e. elim (fresh_visit (length rows) a) [
        | inl x ↦ let f : is_done New ≡ true = subst (λ v. is_done v ≡ true) x d in absurd (cc)
        | inr y ↦ let f : is_edge rows a b ≡ false = past rows a b y.1 in absurd (cc)
      ];
      looped = λ v e. elim (fresh_visit (length rows) v) [ inl x ↦ absurd (cc) | inr y ↦ let d : Done false ≡ Done true = sym y.0 ∙ e in absurd (cc) ];
      free = λ v e r. elim (fresh_visit (length rows) v) [ inl x ↦ absurd (cc) | inr y ↦ no_way rows v v y.1 r ];
      count = let c = fresh_count (length rows) in omega (arith, c, long);
      long = long;
    }

pub search_begins : (rows : List (List ℕ)) (vs : List Visit) → vs ≡ replicate (length rows) New → IsSearch rows vs 0 []
search_begins rows vs e = subst (λ xs. IsSearch rows xs 0 []) (sym e) (begun rows)

is_told : (rows : List (List ℕ)) (k : ℕ) (v : Visit) → is_new v ≡ false → ((n : ℕ) → v ≡ OnPath n → ⊥) → (v ≡ Done true → Reaches rows k k) → (v ≡ Done false → Reaches rows k k → ⊥) → IsTold rows k v
is_told rows k New n p t f = absurd (cc)
is_told rows k (OnPath m) n p t f = p m refl
is_told rows k (Done true) n p t f = t refl
is_told rows k (Done false) n p t f = f refl

-- where the path is empty, each net is new or told
pub all_told : (rows : List (List ℕ)) (vs : List Visit) (met k : ℕ) → IsSearch rows vs met [] → is_new (visit_at vs k) ≡ false → IsTold rows k (visit_at vs k)
all_told rows vs met k s n = is_told rows k (visit_at vs k) n (λ m e. let f : some_in [] k ≡ true = s.on_path k m e in cc) (s.looped k) (s.free k)

pub told_true : (rows : List (List ℕ)) (k : ℕ) (v : Visit) → IsTold rows k v → is_on_loop v ≡ true → Reaches rows k k
told_true rows k New t h = absurd t
told_true rows k (OnPath m) t h = absurd t
told_true rows k (Done true) t h = t
told_true rows k (Done false) t h = absurd (cc)

pub told_false : (rows : List (List ℕ)) (k : ℕ) (v : Visit) → IsTold rows k v → is_on_loop v ≡ false → Reaches rows k k → ⊥
told_false rows k New t h = absurd t
told_false rows k (OnPath m) t h = absurd t
told_false rows k (Done true) t h = absurd (cc)
told_false rows k (Done false) t h = t
