use Rattle.std.proofs.Common.{◌≡◌, ◌≢◌, ℕ, zero, suc, ◌+◌, ◌-◌, ◌<◌, ◌≤◌, refl, arith, Bool, true, false, List, [], ◌∷◌, length, get_or, set, drop, drop-cons, add-one, get_or-set_same, get_or-set_other, ◌&&◌}
use Rattle.std.proofs.lemmas.List.{drop_all}
use Rattle.std.proofs.lemmas.Bool.Decides.{nat_tests}
use Rattle.tern_core.specs.declared.tern.Tern.{Tern}
use Rattle.tern_core.specs.declared.tern.Tern.TheVariants as tern
use Rattle.liberty_function.specs.Compiling.{first_values, fits, step_fits, held_after, after_steps, after_step}
use Rattle.liberty_function.specs.Sources.{source_value}
use Rattle.liberty_function.specs.declared.program.Source.{Source}
use Rattle.liberty_function.specs.declared.program.Step.{Step}
use Rattle.liberty_function.specs.declared.program.Step.TheVariants.{Push}
use Rattle.liberty_function.specs.declared.function.Program.{Program}
use Rattle.liberty_function.specs.Texts.{program_value}

-- what is written above doesn't change what is held
pub first_values-set : (values : List Tern) (n k : ℕ) (v : Tern) → n ≤ k → first_values (set values k v) n ≡ first_values values n
unfolding first_values
first_values-set values zero k v h = refl
first_values-set values (suc n) k v h =
    let ne : n ≢ k = omega arith in
    let more = first_values-set values n k v (omega arith) in
    rw (get_or-set_other values k n v tern.Zero ne, more) refl

pub first_values-push : (values : List Tern) (k : ℕ) (v : Tern) → k < length values → first_values (set values k v) (k + 1) ≡ v ∷ first_values values k
unfolding first_values
first_values-push values k v h = rw (add-one, get_or-set_same values k v tern.Zero h, first_values-set values k k v (omega arith)) refl

pub first_values-pop : (values : List Tern) (k : ℕ) → 0 < k → first_values values k ≡ get_or values (k - 1) tern.Zero ∷ first_values values (k - 1)
unfolding first_values
first_values-pop values zero h = absurd (omega arith)
first_values-pop values (suc k) h = let e : suc k - 1 ≡ k = omega arith in rw e refl

pub first_values-one : (values : List Tern) (k : ℕ) → k ≡ 1 → first_values values k ≡ get_or values 0 tern.Zero ∷ []
unfolding first_values
first_values-one values k h = rw h refl

pub first_values-none : (values : List Tern) → first_values values 0 ≡ []
unfolding first_values
first_values-none values = refl

each_true : (a b : Bool) → (a && b) ≡ true → (a ≡ true) × (b ≡ true)
each_true true b e = (refl, e)
each_true false b e = absurd (cc)

pub fits_here : (steps : List Step) (i n : ℕ) (d : Step) → i < length steps → fits (drop i steps) n ≡ true → (step_fits (get_or steps i d) n ≡ true) × (fits (drop (i + 1) steps) (held_after (get_or steps i d) n) ≡ true)
unfolding fits
fits_here steps i n d h f =
    let e : drop i steps ≡ get_or steps i d ∷ drop (suc i) steps = drop-cons steps i d h in
    let g : fits (get_or steps i d ∷ drop (suc i) steps) n ≡ true = rw e at f in
    rw add-one (each_true (step_fits (get_or steps i d) n) (fits (drop (suc i) steps) (held_after (get_or steps i d) n)) g)

pub leads_here : (v : Source → Tern) (steps : List Step) (i : ℕ) (d : Step) (stack : List Tern) → i < length steps → after_steps v (drop i steps) stack ≡ after_steps v (drop (i + 1) steps) (after_step v (get_or steps i d) stack)
unfolding after_steps
leads_here v steps i d stack h = rw (drop-cons steps i d h, add-one) refl

pub fits_end : (steps : List Step) (i n : ℕ) → length steps ≤ i → fits (drop i steps) n ≡ true → n ≡ 1
unfolding fits
fits_end steps i n h f =
    let e : drop i steps ≡ [] = drop_all i steps h in
    let g : fits [] n ≡ true = rw e at f in
    grind (arith, nat_tests, g)

pub leads_end : (v : Source → Tern) (steps : List Step) (i : ℕ) (stack : List Tern) → length steps ≤ i → after_steps v (drop i steps) stack ≡ stack
unfolding after_steps
leads_end v steps i stack h =
    let e : drop i steps ≡ [] = drop_all i steps h in
    rw e refl

-- the function of one source
pub source_program : (p : Program) (s : Source) → p.steps ≡ Push s ∷ [] → (pins state : List Tern) → program_value p pins state ≡ source_value pins state s
unfolding program_value after_steps
source_program p s e pins state = rw e refl
