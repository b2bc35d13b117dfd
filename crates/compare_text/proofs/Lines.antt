-- Texts of whole lines, and what their lines say.
use Rattle.std.proofs.Common.{◌≡◌, ℕ, zero, suc, ◌+◌, ◌%◌, ◌/◌, ◌==◌, ◌<◌, refl, sym, ◌∙◌, ap, subst, arith, rules, List, [], ◌∷◌, ◌++◌, append_assoc, append-nil, length, Option, Some, None, Bool, true, false, not, ◌&&◌, nat_lt, nat_le, if◌then◌else◌, codes, decimal, slice_get, map}
use Rattle.std.specs.Fmt.{digits_onto, digits, digit_glyph}
use Rattle.std.specs.List.{flat_map, list_all}
use Rattle.std.specs.Option.{option_or}
use Rattle.std.proofs.lemmas.Bool.Decides.{nat_tests}
use Rattle.std.proofs.lemmas.List.Folds.{list_all-append}
use Rattle.file_rules.specs.Names.{is_graphic, are_graphic}
use Rattle.file_rules.specs.Kept.{both_true}
use Rattle.compare_text.specs.Text.{line}
use Rattle.compare_text.specs.Said.{begin_line, lines_of, behind, first_behind, SaidCell, said_by, cells_said}

-- ---- lines

abbrev pub is_inside : ℕ → Bool
is_inside b = not (b == 10)

-- no line end stands in the words
abbrev pub is_line : List ℕ → Bool
is_line words = list_all is_inside words

by_end : (b : ℕ) (bs : List ℕ) (t : Bool) → (b == 10) ≡ t → not (b == 10) ≡ true → (if t then [] ∷ lines_of bs else begin_line b (lines_of bs)) ≡ begin_line b (lines_of bs)
by_end b bs true e h = absurd (let f : false ≡ true = rw e at h in cc)
by_end b bs false e h = refl

pub one_line : (words rest : List ℕ) → is_line words ≡ true → lines_of (words ++ 10 ∷ rest) ≡ words ∷ lines_of rest
unfolding lines_of
one_line [] rest h = refl
one_line (b ∷ words) rest h =
    let both : (not (b == 10) ≡ true) × (is_line words ≡ true) = both_true _ _ h in
    by_end b (words ++ 10 ∷ rest) (b == 10) refl both.0 ∙ ap (begin_line b) (one_line words rest both.1)

pub many_lines : (ws : List (List ℕ)) (rest : List ℕ) → list_all is_line ws ≡ true → lines_of (flat_map line ws ++ rest) ≡ ws ++ lines_of rest
many_lines [] rest h = refl
many_lines (w ∷ ws) rest h =
    let both : (is_line w ≡ true) × (list_all is_line ws ≡ true) = both_true _ _ h in
    ap lines_of (append_assoc (line w) (flat_map line ws) rest ∙ append_assoc w (10 ∷ []) (flat_map line ws ++ rest))
    ∙ one_line w (flat_map line ws ++ rest) both.0
    ∙ ap (λ ls. w ∷ ls) (many_lines ws rest both.1)

-- ---- words without a line end

pub joined_line : (a b : List ℕ) → is_line a ≡ true → is_line b ≡ true → is_line (a ++ b) ≡ true
joined_line a b h k = rw (list_all-append is_inside a b, h, k) refl

graphic_inside : (b : ℕ) → is_graphic b ≡ true → is_inside b ≡ true
graphic_inside b h = grind (arith, nat_tests)

pub graphic_line : (words : List ℕ) → are_graphic words ≡ true → is_line words ≡ true
graphic_line [] h = refl
graphic_line (b ∷ words) h =
    let both : (is_graphic b ≡ true) × (are_graphic words ≡ true) = both_true _ _ h in
    let first : is_inside b ≡ true = graphic_inside b both.0 in
    let rest : is_line words ≡ true = graphic_line words both.1 in
    rw (first, rest) refl

glyph_inside : (d : ℕ) → is_inside (digit_glyph false d) ≡ true
glyph_inside d = by_test (nat_lt d 10)
  where
    high : (n k : ℕ) → 10 < n → is_inside (n + k) ≡ true
    high n k h = grind (arith, nat_tests)

    by_test : (t : Bool) → is_inside (if t then 48 + d else (87 + d)) ≡ true
    by_test true = high 48 d (omega arith)
    by_test false = high 87 d (omega arith)

digits_line : (k n : ℕ) (acc : List ℕ) → is_line acc ≡ true → is_line (digits_onto k 10 false n acc) ≡ true
digits_line zero n acc h = h
digits_line (suc k) n acc h =
    let more : is_line (digit_glyph false (n % 10) ∷ acc) ≡ true = rw (glyph_inside (n % 10), h) refl in
    by_test (n / 10 == 0) more (digits_line k (n / 10) (digit_glyph false (n % 10) ∷ acc) more)
  where
    by_test : (t : Bool) → is_line (digit_glyph false (n % 10) ∷ acc) ≡ true → is_line (digits_onto k 10 false (n / 10) (digit_glyph false (n % 10) ∷ acc)) ≡ true
        → is_line (if t then digit_glyph false (n % 10) ∷ acc else digits_onto k 10 false (n / 10) (digit_glyph false (n % 10) ∷ acc)) ≡ true
    by_test true here rest = here
    by_test false here rest = rest

pub decimal_line : (n : ℕ) → is_line (decimal n) ≡ true
unfolding digits
decimal_line n = digits_line 64 n [] refl

-- ---- what lines say

abbrev pub is_none_behind : Option (List ℕ) → Bool
is_none_behind None = true
is_none_behind (Some rest) = false

-- the line says nothing of a cell: it begins with neither front
abbrev pub is_quiet : List ℕ → List ℕ → Bool
is_quiet front l = is_none_behind (behind front l) && is_none_behind (behind (codes "verdict ") l)

none_is : (o : Option (List ℕ)) → is_none_behind o ≡ true → o ≡ None
none_is None h = refl
none_is (Some x) h = absurd cc

pub quiet_first : (front : List ℕ) (fs ls : List (List ℕ)) → list_all (is_quiet front) fs ≡ true → first_behind (codes "verdict ") (fs ++ ls) ≡ first_behind (codes "verdict ") ls
unfolding first_behind
quiet_first front [] ls h = refl
quiet_first front (f ∷ fs) ls h =
    let both : (is_quiet front f ≡ true) × (list_all (is_quiet front) fs ≡ true) = both_true _ _ h in
    let none : behind (codes "verdict ") f ≡ None = none_is _ (both_true _ _ both.0).1 in
    ap (λ o. option_or o (first_behind (codes "verdict ") (fs ++ ls))) none ∙ quiet_first front fs ls both.1

pub quiet_said : (front : List ℕ) (fs ls : List (List ℕ)) → list_all (is_quiet front) fs ≡ true → cells_said front (fs ++ ls) ≡ cells_said front ls
unfolding cells_said
quiet_said front [] ls h = refl
quiet_said front (f ∷ fs) ls h =
    let both : (is_quiet front f ≡ true) × (list_all (is_quiet front) fs ≡ true) = both_true _ _ h in
    let none : behind front f ≡ None = none_is _ (both_true _ _ both.0).0 in
    ap (λ o. said_by o (fs ++ ls) ++ cells_said front (fs ++ ls)) none ∙ quiet_said front fs ls both.1

-- ---- the front of a text

-- what is said in the front is said in the whole, maybe with a verdict that the front lacks
pub record IsGoneOn (front whole : SaidCell) : Type 0 where
  pub name : whole.name ≡ front.name
  pub verdict : (v : List ℕ) → front.verdict ≡ Some v → whole.verdict ≡ Some v

gone_on_line : (b : ℕ) (ls more : List (List ℕ)) → (rest : List (List ℕ)) × (begin_line b (ls ++ more) ≡ begin_line b ls ++ rest)
gone_on_line b [] more = (begin_line b more, refl)
gone_on_line b (l ∷ ls) more = (more, refl)

pub front_lines : (a b : List ℕ) → (rest : List (List ℕ)) × (lines_of (a ++ b) ≡ lines_of a ++ rest)
unfolding lines_of
front_lines [] b = (lines_of b, refl)
front_lines (c ∷ a) b = by_test (c == 10) (front_lines a b)
  where
    by_test : (t : Bool) → ((rest : List (List ℕ)) × (lines_of (a ++ b) ≡ lines_of a ++ rest))
        → (rest : List (List ℕ)) × ((if t then [] ∷ lines_of (a ++ b) else begin_line c (lines_of (a ++ b))) ≡ (if t then [] ∷ lines_of a else begin_line c (lines_of a)) ++ rest)
    by_test true r = (r.0, ap (λ ls. [] ∷ ls) r.1)
    by_test false r = let g = gone_on_line c (lines_of a) r.0 in (g.0, ap (begin_line c) r.1 ∙ g.1)

first_gone_on : (front : List ℕ) (ls more : List (List ℕ)) (v : List ℕ) → first_behind front ls ≡ Some v → first_behind front (ls ++ more) ≡ Some v
unfolding first_behind
first_gone_on front [] more v e = absurd cc
first_gone_on front (l ∷ ls) more v e = by_first (behind front l) (λ f. first_gone_on front ls more v f) e
  where
    by_first : (o : Option (List ℕ)) → (first_behind front ls ≡ Some v → first_behind front (ls ++ more) ≡ Some v)
        → option_or o (first_behind front ls) ≡ Some v → option_or o (first_behind front (ls ++ more)) ≡ Some v
    by_first (Some x) rest f = f
    by_first None rest f = rest f

pub said_gone_on : (front : List ℕ) (ls more : List (List ℕ)) (k : ℕ) (s : SaidCell) → slice_get (cells_said front ls) k ≡ Some s
    → (t : SaidCell) × (slice_get (cells_said front (ls ++ more)) k ≡ Some t) × IsGoneOn s t
unfolding cells_said
said_gone_on front [] more k s e = absurd cc
said_gone_on front (l ∷ ls) more k s e = by_line (behind front l) k (λ j f. said_gone_on front ls more j s f) e
  where
    by_line : (o : Option (List ℕ)) (k : ℕ) → ((j : ℕ) → slice_get (cells_said front ls) j ≡ Some s → (t : SaidCell) × (slice_get (cells_said front (ls ++ more)) j ≡ Some t) × IsGoneOn s t)
        → slice_get (said_by o ls ++ cells_said front ls) k ≡ Some s
        → (t : SaidCell) × (slice_get (said_by o (ls ++ more) ++ cells_said front (ls ++ more)) k ≡ Some t) × IsGoneOn s t
    by_line None k rest f = rest k f
    by_line (Some name) zero rest f =
        let is : record { name = name; verdict = first_behind (codes "verdict ") ls } ≡ s = cc in
        let named : name ≡ s.name = ap (λ (x : SaidCell). x.name) is in
        let said : first_behind (codes "verdict ") ls ≡ s.verdict = ap (λ (x : SaidCell). x.verdict) is in (
          record { name = name; verdict = first_behind (codes "verdict ") (ls ++ more) },
          refl,
          record { name = named; verdict = λ v g. first_gone_on (codes "verdict ") ls more v (said ∙ g) },
        )
    by_line (Some name) (suc k) rest f = rest k f
