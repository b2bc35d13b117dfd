-- The first pair of rows that is found is the first pair that conflicts.
use Rattle.std.proofs.Common.{◌≡◌, ℕ, ◌+◌, ◌<◌, Bool, true, false, List, [], ◌∷◌, length, get_or, All, ap, sym, ◌∙◌, subst, ◌⊎◌, ⊎_elim, arith}
use Rattle.std.proofs.lemmas.Bool.{cases_lt, both_ways}
use Rattle.std.proofs.lemmas.List.{get_or_read}
use Rattle.udp_table.specs.declared.row.Row.{Row}
use Rattle.udp_table.specs.Letters.{Fits}
use Rattle.udp_table.specs.Conflicts.{ConflictAt, HasNoConflict, IsFirstConflict}
use Rattle.udp_table.specs.Overlaps.{rows_conflict, NoneFound, AreFound}
use Rattle.udp_table.proofs.Conflicting.{HasCases, conflict-found, conflict-is_found, case-exists}

-- one row further on
pub behind_more : (rows : List Row) (i k : ℕ) (a b : Row) → NoneFound rows i k → i < length rows → k < length rows → a ≡ get_or rows i a → b ≡ get_or rows k b → rows_conflict a b ≡ false → NoneFound rows i (k + 1)
behind_more rows i k a b none p q r s t j low high d =
    ⊎_elim (λ below. none j low below d)
    (λ above.
    let here : k ≡ j = omega arith in
    subst (λ m. rows_conflict (get_or rows i d) (get_or rows m d) ≡ false) here
    (ap (λ x. rows_conflict x (get_or rows k d)) (sym (get_or_read rows i a p r d)) ∙ ap (rows_conflict a) (sym (get_or_read rows k b q s d)) ∙ t)) (cases_lt j k)

some_row : (rows : List Row) (j : ℕ) → j < length rows → Row
some_row [] j h = absurd (omega arith)
some_row (row ∷ rows) j h = row

pub has_cases : (q : Bool) (n : ℕ) → (q ≡ false) ⊎ (0 < n) → HasCases q n
has_cases false n h = tt
has_cases true n h = ⊎_elim (λ e. absurd (cc)) (λ k. k) h

pub no_input : (q : Bool) (n : ℕ) → q ≡ true → n ≡ 0 → HasCases q n → ⊥
no_input false n e z h = cc
no_input true n e z h = omega arith

pub no_cases : (q : Bool) (n : ℕ) (rows : List Row) → (HasCases q n → ⊥) → HasNoConflict q n rows
no_cases q n rows none i j h =
    let d = some_row rows j h.1 in
    none (case-exists q n (get_or rows i d) (get_or rows j d) (h.2 d))

not_there : (q : Bool) (n : ℕ) (rows : List Row) (i j high : ℕ) → j < high → NoneFound rows i high → ConflictAt q n rows i j → ⊥
not_there q n rows i j high below none h =
    let d = some_row rows j h.1 in
    both_ways (rows_conflict (get_or rows i d) (get_or rows j d)) (none j h.0 below d) (conflict-is_found q n (get_or rows i d) (get_or rows j d) (h.2 d))

pub none_at_all : (q : Bool) (n : ℕ) (rows : List Row) → ((i : ℕ) → i < length rows → NoneFound rows i (length rows)) → HasNoConflict q n rows
none_at_all q n rows none i j h =
    let in_rows : i < length rows = omega arith in
    not_there q n rows i j (length rows) h.1 (none i in_rows) h

pub first_here : (q : Bool) (n : ℕ) (rows : List Row) (i j : ℕ) → HasCases q n → All (Fits q n) rows → ((k : ℕ) → k < i → NoneFound rows k (length rows)) → (i < j) × (j < length rows) × AreFound rows i j × NoneFound rows i j → IsFirstConflict q n rows i j
first_here q n rows i j cases fits before h =
    let in_rows : i < length rows = omega arith in
    record {
      here = (h.0, h.1, λ d. conflict-found q n (get_or rows i d) (get_or rows j d) cases (fits i d in_rows) (h.2 d));
      none_before = λ k l order at. ⊎_elim
          (λ below. not_there q n rows k l (length rows) at.1 (before k below) at)
          (λ same. not_there q n rows k l j same.1 (subst (λ m. NoneFound rows m j) (sym same.0) h.3) at) order;
    }

pub place_more : (rows : List Row) (place : ℕ) → ((i : ℕ) → i < place → NoneFound rows i (length rows)) → NoneFound rows place (length rows) → (i : ℕ) → i < place + 1 → NoneFound rows i (length rows)
place_more rows place before here i h =
    ⊎_elim (λ below. before i below)
    (λ above. let same : place ≡ i = omega arith in subst (λ m. NoneFound rows m (length rows)) same here) (cases_lt i place)
