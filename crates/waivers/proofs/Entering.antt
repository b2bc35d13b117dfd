-- Entering a record after others.
use Rattle.std.proofs.Common.{◌≡◌, ◌≢◌, ◌+◌, ◌++◌, ℕ, List, [], ◌∷◌, length, Option, Some, None, refl, sym, ap, ◌∙◌, arith}
use Rattle.std.specs.Prelude.{filter_map}
use Rattle.std.specs.List.{cons_option}
use Rattle.std.proofs.lemmas.List.Elements.{filter_map-append}
use Rattle.csv.specs.Records.{field_at}
use Rattle.waivers.proofs.Wrong.{tells}
use Rattle.text_scan.specs.declared.limits.Limits.{Limits}
use Rattle.text_scan.specs.declared.refusal.FileRefusal.{FileRefusal}
use Rattle.text_scan.specs.declared.refusal.FileRefusal.TheVariants as refusals
use Rattle.file_rules.specs.Told.{TellsSome}
use Rattle.waiver_source.specs.declared.waiver.Waiver.{Waiver}
use Rattle.waivers.specs.Fields.{wrong}
use Rattle.waivers.specs.File.{refuses, waiver_of, waivers_of}

-- five fields and no more
pub all_five : (xs : List (List ℕ)) (a b c d e : List ℕ) → length xs ≡ 5 → field_at xs 0 ≡ Some a → field_at xs 1 ≡ Some b → field_at xs 2 ≡ Some c
    → field_at xs 3 ≡ Some d → field_at xs 4 ≡ Some e → xs ≡ a ∷ b ∷ c ∷ d ∷ e ∷ []
unfolding field_at
all_five [] a b c d e n f g h i j = cc f
all_five (x ∷ []) a b c d e n f g h i j = cc g
all_five (x ∷ y ∷ []) a b c d e n f g h i j = cc h
all_five (x ∷ y ∷ z ∷ []) a b c d e n f g h i j = cc i
all_five (x ∷ y ∷ z ∷ w ∷ []) a b c d e n f g h i j = cc j
all_five (x ∷ y ∷ z ∷ w ∷ v ∷ []) a b c d e n f g h i j = cc (f, g, h, i, j)
all_five (x ∷ y ∷ z ∷ w ∷ v ∷ u ∷ us) a b c d e n f g h i j = absurd (omega (arith, n))

not_five : (limits : Limits) (line : ℕ) (row : List (List ℕ)) → length row ≢ 5 → wrong limits line row ≡ Some (refusals.Syntax line 0)
not_five limits line [] n = refl
not_five limits line (x ∷ []) n = refl
not_five limits line (x ∷ y ∷ []) n = refl
not_five limits line (x ∷ y ∷ z ∷ []) n = refl
not_five limits line (x ∷ y ∷ z ∷ w ∷ []) n = refl
not_five limits line (x ∷ y ∷ z ∷ w ∷ v ∷ []) n = absurd (n refl)
not_five limits line (x ∷ y ∷ z ∷ w ∷ v ∷ u ∷ us) n = refl

-- a record whose number of fields is wrong
pub other_number : (limits : Limits) (rows : List (List (List ℕ))) (row : List (List ℕ)) (line : ℕ) → line ≡ length rows + 1 → length row ≢ 5
    → refuses limits rows row ≡ Some (refusals.Syntax line 0)
other_number limits rows row line m five = rw (← m) (not_five limits line row five)

-- one with a wrong field
pub wrong_field : (limits : Limits) (rows : List (List (List ℕ))) (row : List (List ℕ)) (line : ℕ) (e : FileRefusal) → line ≡ length rows + 1
    → Some e ≡ wrong limits line row → TellsSome e (refuses limits rows row)
wrong_field limits rows row line e m w = tells e _ (rw (← m) (sym w))

-- one that is taken
pub taken : (limits : Limits) (rows : List (List (List ℕ))) (row : List (List ℕ)) (line : ℕ) → line ≡ length rows + 1 → None ≡ wrong limits line row
    → refuses limits rows row ≡ None
taken limits rows row line m w = rw (← m) (sym w)

one_item : (o : Option Waiver) (w : Waiver) → o ≡ Some w → cons_option o [] ≡ w ∷ []
one_item o w e = rw e refl

pub held_more : (old new : List Waiver) (rows : List (List (List ℕ))) (row : List (List ℕ)) (w : Waiver) → old ≡ waivers_of rows → waiver_of row ≡ Some w
    → new ≡ old ++ w ∷ [] → new ≡ waivers_of (rows ++ row ∷ [])
held_more old new rows row w h e n =
    n ∙ ap (λ ws. ws ++ w ∷ []) h ∙ sym (filter_map-append waiver_of rows (row ∷ []) ∙ ap (λ ws. filter_map waiver_of rows ++ ws) (one_item (waiver_of row) w e))
