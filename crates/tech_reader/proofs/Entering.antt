-- Entering a record after others.
use Rattle.std.proofs.Common.{◌≡◌, ◌≢◌, ◌≤◌, ◌+◌, ◌++◌, ℕ, zero, suc, true, false, List, [], ◌∷◌, length, subst, Option, Some, None, refl, sym, ap, ◌∙◌, arith}
use Rattle.std.specs.Prelude.{filter_map, if◌then◌else◌}
use Rattle.std.specs.List.{cons_option}
use Rattle.std.proofs.lemmas.List.{map-append}
use Rattle.std.proofs.lemmas.List.Elements.{filter_map-append}
use Rattle.name_index.specs.Places.{is_known}
use Rattle.text_scan.specs.declared.limits.Limits.{Limits}
use Rattle.text_scan.specs.declared.refusal.FileRefusal.{FileRefusal}
use Rattle.text_scan.specs.declared.refusal.FileRefusal.TheVariants as refusals
use Rattle.csv.specs.Records.{field_at}
use Rattle.csv_records.specs.Fields.{first_of}
use Rattle.tech_reader.specs.Fields.{wrong}
use Rattle.tech_reader.specs.Held.{Holds, Kept}
use Rattle.tech_reader.specs.Row.{items_of}
use Rattle.tech_reader.specs.Tech.{double, key, model_of, refuses, size_of, supply_of}
use Rattle.file_rules.specs.Told.{TellsSome}
use Rattle.tech_reader.specs.declared.parts.Parts.{Parts}

-- a field that isn't there is past the end
pub at_none : (xs : List (List ℕ)) (i : ℕ) → field_at xs i ≡ None → length xs ≤ i
unfolding field_at
at_none [] i e = omega arith
at_none (x ∷ xs) zero e = cc e
at_none (x ∷ xs) (suc i) e = let h : length xs ≤ i = at_none xs i e in omega (arith, h)

-- four fields and no more
pub all_four : (xs : List (List ℕ)) (a b c d : List ℕ) → length xs ≡ 4 → field_at xs 0 ≡ Some a → field_at xs 1 ≡ Some b → field_at xs 2 ≡ Some c → field_at xs 3 ≡ Some d
    → xs ≡ a ∷ b ∷ c ∷ d ∷ []
unfolding field_at
all_four [] a b c d e f g h i = cc f
all_four (x ∷ []) a b c d e f g h i = cc g
all_four (x ∷ y ∷ []) a b c d e f g h i = cc h
all_four (x ∷ y ∷ z ∷ []) a b c d e f g h i = cc i
all_four (x ∷ y ∷ z ∷ w ∷ []) a b c d e f g h i = cc (f, g, h, i)
all_four (x ∷ y ∷ z ∷ w ∷ v ∷ vs) a b c d e f g h i = absurd (omega (arith, e))

pub not_four : (limits : Limits) (line : ℕ) (row : List (List ℕ)) → length row ≢ 4 → wrong limits line row ≡ Some (refusals.Syntax line 0)
not_four limits line [] n = refl
not_four limits line (x ∷ []) n = refl
not_four limits line (x ∷ y ∷ []) n = refl
not_four limits line (x ∷ y ∷ z ∷ []) n = refl
not_four limits line (x ∷ y ∷ z ∷ w ∷ []) n = absurd (n refl)
not_four limits line (x ∷ y ∷ z ∷ w ∷ v ∷ vs) n = refl

-- what is told of a record
judged : (limits : Limits) (parts : Parts) (rows : List (List (List ℕ))) (row : List (List ℕ)) (line : ℕ) → Holds parts rows → line ≡ length rows + 1
    → refuses limits rows row ≡ first_of (wrong limits line row) (if is_known (key row) parts.names then double row line else None)
judged limits parts rows row line h m = rw (m, h.names) refl

pub tells : (e : FileRefusal) (o : Option FileRefusal) → o ≡ Some e → TellsSome e o
tells refusals.NoMemory o h = tt
tells (refusals.Syntax line column) o h = h
tells (refusals.TooMany kind number) o h = h
tells (refusals.DoubleName name line) o h = h

one_item : {X : Type 0} (o : Option X) → cons_option o [] ≡ items_of o
one_item None = refl
one_item (Some x) = refl

item_more : {X : Type 0} (g : List (List ℕ) → Option X) (rows : List (List (List ℕ))) (row : List (List ℕ)) → filter_map g (rows ++ row ∷ []) ≡ filter_map g rows ++ items_of (g row)
item_more g rows row = filter_map-append g rows (row ∷ []) ∙ ap (λ z. filter_map g rows ++ z) (one_item (g row))

-- a record that was kept
pub holds_more : (old new : Parts) (rows : List (List (List ℕ))) (row : List (List ℕ)) (name : List ℕ) → Holds old rows → Kept old new row name → name ≡ key row
    → Holds new (rows ++ row ∷ [])
holds_more old new rows row name h k e = record {
  models = k.models ∙ rw h.models (sym (item_more model_of rows row));
  sizes = k.sizes ∙ rw h.sizes (sym (item_more size_of rows row));
  supplies = k.supplies ∙ rw h.supplies (sym (item_more supply_of rows row));
  names = k.names ∙ rw (h.names, e) (sym (map-append key rows (row ∷ [])));
}

-- a record whose number of fields is wrong
pub other_number : (limits : Limits) (rows : List (List (List ℕ))) (row : List (List ℕ)) (line : ℕ) → line ≡ length rows + 1 → length row ≢ 4
    → refuses limits rows row ≡ Some (refusals.Syntax line 0)
other_number limits rows row line m four = rw (← m) (rw (not_four limits line row four) refl)

-- one with a wrong field
pub wrong_field : (limits : Limits) (rows : List (List (List ℕ))) (row : List (List ℕ)) (line : ℕ) (e : FileRefusal) → line ≡ length rows + 1
    → Some e ≡ wrong limits line row → TellsSome e (refuses limits rows row)
wrong_field limits rows row line e m w = tells e _ (rw (← m) (rw (sym w) refl))

-- one that stands a second time
pub second_time : (limits : Limits) (parts : Parts) (rows : List (List (List ℕ))) (row : List (List ℕ)) (line : ℕ) (e : FileRefusal) → Holds parts rows → line ≡ length rows + 1
    → None ≡ wrong limits line row → is_known (key row) parts.names ≡ true → TellsSome e (double row line) → TellsSome e (refuses limits rows row)
second_time limits parts rows row line e h m w k t = subst (λ z. TellsSome e z) (sym (judged limits parts rows row line h m ∙ rw (sym w, k) refl)) t

-- one that is taken
pub taken : (limits : Limits) (parts : Parts) (rows : List (List (List ℕ))) (row : List (List ℕ)) (line : ℕ) → Holds parts rows → line ≡ length rows + 1
    → None ≡ wrong limits line row → is_known (key row) parts.names ≡ false → refuses limits rows row ≡ None
taken limits parts rows row line h m w k = judged limits parts rows row line h m ∙ rw (sym w, k) refl
