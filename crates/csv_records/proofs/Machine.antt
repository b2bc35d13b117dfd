-- Each record takes a byte at least, and leaves the machine between two records.
use Rattle.std.proofs.Common.{◌≡◌, ◌≤◌, ◌<◌, ◌+◌, ℕ, zero, suc, Bool, true, false, List, [], ◌∷◌, length, Option, Some, None, refl, ap, ◌∙◌, arith}
use Rattle.std.specs.Prelude.{if◌then◌else◌, ◌==◌, ◌||◌}
use Rattle.csv.specs.Machine.{Read, ends_at_end, in_field, is_end, next_record, start_field, start_record, step}
use Rattle.csv.specs.Reading.{default_config, records_from, records_next}
use Rattle.csv.specs.declared.parser.State.{State}
use Rattle.csv.specs.declared.parser.State.TheVariants as st
use Rattle.csv.specs.declared.parser.Action.{Action}
use Rattle.csv_records.specs.Records.{left_of}

-- where the action ends a record, the state is one between two
abbrev Ends : State × Action → Type 0
Ends p = is_end p.1 ≡ true → ends_at_end p.0 ≡ false

choose : (b : Bool) (x y : State × Action) → Ends x → Ends y → Ends (if b then x else y)
choose true x y hx hy = hx
choose false x y hx hy = hy

after : (b : Bool) → ends_at_end (if b then st.AfterCr else st.StartRecord) ≡ false
after true = refl
after false = refl

in_fields : (c : ℕ) → Ends (in_field default_config c)
in_fields c = choose (c == 44) _ _ (λ h. cc h) (choose ((c == 13) || (c == 10)) _ _ (λ h. after (c == 13)) (λ h. cc h))

start_fields : (c : ℕ) → Ends (start_field default_config c)
start_fields c = choose (c == 34) _ _ (λ h. cc h) (in_fields c)

start_records : (c : ℕ) → Ends (start_record default_config c)
start_records c = choose ((c == 13) || (c == 10)) _ _ (λ h. cc h) (start_fields c)

settled : (s : State) (c : ℕ) → Ends (step default_config s c)
settled st.StartRecord c = start_records c
settled st.StartField c = start_fields c
settled st.InField c = in_fields c
settled st.InQuoted c = choose (c == 34) _ _ (λ h. cc h) (λ h. cc h)
settled st.InEscape c = λ h. cc h
settled st.AfterQuote c = choose (c == 34) _ _ (λ h. cc h) (in_fields c)
settled st.InComment c = choose (c == 10) _ _ (λ h. cc h) (λ h. cc h)
settled st.AfterCr c = choose (c == 10) _ _ (λ h. cc h) (start_records c)

-- what is left after the record, if there is one, is at most so much
abbrev Shrinks : ℕ → Option Read → Type 0
Shrinks n None = Unit {0}
Shrinks n (Some q) = (ends_at_end q.1 ≡ false) × (length q.2 ≤ n)

pick : (n : ℕ) (b : Bool) (x y : Option Read) → (b ≡ true → Shrinks n x) → (b ≡ false → Shrinks n y) → Shrinks n (if b then x else y)
pick n true x y hx hy = hx refl
pick n false x y hx hy = hy refl

weaken : (n m : ℕ) (o : Option Read) → n ≤ m → Shrinks n o → Shrinks m o
weaken n m None le h = tt
weaken n m (Some q) le h = (h.0, omega (arith, h.1, le))

next_shrinks : (s : State) (f : List (List ℕ)) (p xs : List ℕ) → Shrinks (length xs) (next_record default_config s f p xs)
unfolding next_record
next_shrinks s f p [] = pick 0 (ends_at_end s) _ _ (λ e. (refl, omega arith)) (λ e. tt)
next_shrinks s f p (c ∷ rest) =
    pick (length (c ∷ rest)) (is_end (step default_config s c).1) _ _ (λ e. (settled s c e, omega arith))
    (λ e. weaken (length rest) (length (c ∷ rest)) _ (omega arith) (next_shrinks (step default_config s c).0 _ _ rest))

-- the same of less than there was
abbrev Below : ℕ → Option Read → Type 0
Below n None = Unit {0}
Below n (Some q) = (ends_at_end q.1 ≡ false) × (length q.2 < n)

below : (n m : ℕ) (o : Option Read) → n < m → Shrinks n o → Below m o
below n m None le h = tt
below n m (Some q) le h = (h.0, omega (arith, h.1, le))

first_shrinks : (s : State) (xs : List ℕ) → ends_at_end s ≡ false → Below (length xs) (next_record default_config s [] [] xs)
unfolding next_record
first_shrinks s [] e = rw e tt
first_shrinks s (c ∷ rest) e =
    below (length rest) (length (c ∷ rest)) _ (omega arith)
    (pick (length rest) (is_end (step default_config s c).1) _ _ (λ t. (settled s c t, omega arith)) (λ t. next_shrinks (step default_config s c).0 _ _ rest))

abbrev Same : ℕ → ℕ → Type 0
Same n m = (s : State) (xs : List ℕ) → ends_at_end s ≡ false → length xs < n → length xs < m → records_from default_config n s xs ≡ records_from default_config m s xs

stepped : (n m k : ℕ) (o : Option Read) → Below k o → k ≤ n → k ≤ m → Same n m → records_next (records_from default_config n) o ≡ records_next (records_from default_config m) o
stepped n m k None h a b same = refl
stepped n m k (Some q) h a b same = ap (λ (rows : List (List (List ℕ))). q.0 ∷ rows) (same q.1 q.2 h.0 (omega (arith, h.1, a)) (omega (arith, h.1, b)))

-- enough turns give all records, however many they are
enough : (n m : ℕ) → Same n m
unfolding records_from
enough zero m s xs e a b = absurd (omega (arith, a))
enough (suc n) zero s xs e a b = absurd (omega (arith, b))
enough (suc n) (suc m) s xs e a b =
    stepped n m (length xs) (next_record default_config s [] [] xs) (first_shrinks s xs e) (omega (arith, a)) (omega (arith, b)) (enough n m)

unrolled : (n : ℕ) (s : State) (xs : List ℕ) → records_from default_config (suc n) s xs ≡ records_next (records_from default_config n) (next_record default_config s [] [] xs)
unfolding records_from
unrolled n s xs = refl

-- the next record, and those after it
pub left_more : (s : State) (xs : List ℕ) (q : Read) → ends_at_end s ≡ false → next_record default_config s [] [] xs ≡ Some q
    → (left_of s xs ≡ q.0 ∷ left_of q.1 q.2) × (ends_at_end q.1 ≡ false)
left_more s xs q e n =
    let h = rw n at (first_shrinks s xs e) in
    let first : left_of s xs ≡ q.0 ∷ records_from default_config (length xs) q.1 q.2 = ap (λ (k : ℕ). records_from default_config k s xs) (omega arith) ∙ unrolled (length xs) s xs ∙ rw n refl in
    (first ∙ ap (λ (rows : List (List (List ℕ))). q.0 ∷ rows) (enough (length xs) (length q.2 + 1) q.1 q.2 h.0 h.1 (omega arith)), h.0)

-- there is none
pub left_none : (s : State) (xs : List ℕ) → next_record default_config s [] [] xs ≡ None → left_of s xs ≡ []
left_none s xs n = ap (λ (k : ℕ). records_from default_config k s xs) (omega arith) ∙ unrolled (length xs) s xs ∙ rw n refl
