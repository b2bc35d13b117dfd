-- What waivers keep of their file.
use Rattle.std.proofs.Common.{◌≡◌, ◌≤◌, ◌+◌, ◌++◌, ℕ, Bool, true, false, List, [], ◌∷◌, length, Option, Some, None, refl, sym, ap, ◌∙◌, subst, append_assoc, length-append, arith}
use Rattle.std.specs.Prelude.{ℤ, nat_le, if◌then◌else◌, ◌||◌}
use Rattle.std.specs.List.{cons_option, list_all}
use Rattle.std.proofs.lemmas.Bool.Decides.{nat_tests}
use Rattle.std.proofs.lemmas.List.{append-nil}
use Rattle.std.proofs.lemmas.List.Elements.{filter_map-append}
use Rattle.std.proofs.lemmas.List.Folds.{list_all-append}
use Rattle.csv_records.specs.Answers.{first_refusal, refusal_after}
use Rattle.waivers.proofs.Wrong.{first_none, named_none, not_some, unless_none}
use Rattle.text_scan.specs.declared.limits.Limits.{Limits}
use Rattle.text_scan.specs.declared.refusal.FileRefusal.{FileRefusal}
use Rattle.verdict_text.specs.declared.finding.Code.{Code}
use Rattle.verdict_text.specs.Told.{told_code}
use Rattle.waiver_source.specs.declared.waiver.Waiver.{Waiver}
use Rattle.waiver_source.specs.Waivers.{AreWaivers, is_cell_word, is_dash, is_pin_word, is_reason, is_star, is_waiver}
use Rattle.waivers.specs.Days.{day_of}
use Rattle.waivers.specs.Fields.{wrong, wrong_cell, wrong_of_five, wrong_pin}
use Rattle.waivers.specs.File.{refuses, waiver_by, waiver_of, waivers_of}

unless_so : (b : Bool) (o : Option FileRefusal) (v : Bool) → (if b then None else o) ≡ None → (o ≡ None → v ≡ true) → (b || v) ≡ true
unless_so true o v h k = refl
unless_so false o v h k = k h

cell_right : (limits : Limits) (line : ℕ) (word : List ℕ) → wrong_cell limits line word ≡ None → is_cell_word limits word ≡ true
unfolding wrong_cell
cell_right limits line word h = unless_so (is_star word) _ _ h (λ n. named_none limits line 1 word n)

either : (a b c : Bool) → ((a || b) || c) ≡ true → (a || (b || c)) ≡ true
either true b c h = refl
either false b c h = h

pin_right : (limits : Limits) (line : ℕ) (word : List ℕ) → wrong_pin limits line word ≡ None → is_pin_word limits word ≡ true
unfolding wrong_pin
pin_right limits line word h =
    either (is_star word) (is_dash word) _ (unless_so (is_star word || is_dash word) _ _ h (λ n. named_none limits line 3 word n))

waiver_right : (limits : Limits) (line : ℕ) (cell code pin day reason : List ℕ) (c : Option Code) (d : Option ℤ) (w : Waiver)
    → wrong_of_five limits line cell code pin day reason ≡ None → waiver_by cell c pin d reason ≡ Some w → is_waiver limits w ≡ true
waiver_right limits line cell code pin day reason None d w h e = cc e
waiver_right limits line cell code pin day reason (Some c) None w h e = cc e
waiver_right limits line cell code pin day reason (Some c) (Some d) w h e =
    let first = first_none _ _ h in
    let second = first_none _ _ first.1 in
    let third = first_none _ _ second.1 in
    let fourth = first_none _ _ third.1 in
    let own : is_cell_word limits cell ≡ true = cell_right limits line cell first.0 in
    let pins : is_pin_word limits pin ≡ true = pin_right limits line pin third.0 in
    let why : is_reason reason ≡ true = unless_none _ line 5 fourth.1 in
    let same : record { cell = cell; code = c; pin = pin; last = d; reason = reason } ≡ w = cc e in
    subst (λ (z : Waiver). is_waiver limits z ≡ true) same (rw (own, pins, why) refl)

row_right : (limits : Limits) (line : ℕ) (row : List (List ℕ)) (w : Waiver) → wrong limits line row ≡ None → waiver_of row ≡ Some w → is_waiver limits w ≡ true
row_right limits line (cell ∷ code ∷ pin ∷ day ∷ reason ∷ []) w h e =
    waiver_right limits line cell code pin day reason (told_code code) (day_of day) w h e
row_right limits line _ w h e = cc h

-- the records so far
record AreRight (limits : Limits) (rows : List (List (List ℕ))) : Type 0 where
  count : length rows ≤ limits.records
  few : length (waivers_of rows) ≤ length rows
  right : list_all (is_waiver limits) (waivers_of rows) ≡ true

item_right : (limits : Limits) (o : Option Waiver) → ((w : Waiver) → o ≡ Some w → is_waiver limits w ≡ true) → (list_all (is_waiver limits) (cons_option o []) ≡ true) × (length (cons_option o []) ≤ 1)
item_right limits None h = (refl, omega arith)
item_right limits (Some w) h = let e : is_waiver limits w ≡ true = h w refl in (rw e refl, omega arith)

one_more : (limits : Limits) (rows : List (List (List ℕ))) (row : List (List ℕ)) → AreRight limits rows → refusal_after limits (refuses limits) rows row ≡ None
    → AreRight limits (rows ++ row ∷ [])
unfolding refusal_after
one_more limits rows row s h =
    let room = not_some _ _ _ h in
    let space : nat_le limits.records (length rows) ≡ false = room.0 in
    let item = item_right limits (waiver_of row) (λ w e. row_right limits (length rows + 1) row w room.1 e) in
    let more : waivers_of (rows ++ row ∷ []) ≡ waivers_of rows ++ cons_option (waiver_of row) [] = filter_map-append waiver_of rows (row ∷ []) in
    let all = length-append rows (row ∷ []) in
    let one = item.1 in
    let sum = ap length more ∙ length-append (waivers_of rows) (cons_option (waiver_of row) []) in
    let few = s.few in
    record {
      count = grind (arith, nat_tests);
      few = omega arith;
      right = ap (list_all (is_waiver limits)) more ∙ list_all-append (is_waiver limits) (waivers_of rows) (cons_option (waiver_of row) []) ∙ rw (s.right, item.0) refl;
    }

all_of : (limits : Limits) (before rows : List (List (List ℕ))) → AreRight limits before → first_refusal limits (refuses limits) before rows ≡ None
    → AreRight limits (before ++ rows)
unfolding first_refusal
all_of limits before [] s h = subst (AreRight limits) (sym (append-nil before)) s
all_of limits before (row ∷ rows) s h =
    let parts = first_none _ _ h in
    subst (AreRight limits) (append_assoc before (row ∷ []) rows) (all_of limits (before ++ row ∷ []) rows (one_more limits before row s parts.0) parts.1)

-- the waivers of records of which none is refused
pub kept : (limits : Limits) (rows : List (List (List ℕ))) (waivers : List Waiver) → first_refusal limits (refuses limits) [] rows ≡ None → waivers ≡ waivers_of rows
    → AreWaivers limits waivers
kept limits rows waivers h e =
    let begun : AreRight limits [] = record { count = omega arith; few = omega arith; right = refl } in
    let all = all_of limits [] rows begun h in
    rw e (record { few = omega (arith, all.count, all.few); right = all.right })
