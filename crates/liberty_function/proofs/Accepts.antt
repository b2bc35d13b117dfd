-- What the compiler makes of a list of tokens.
use Rattle.std.proofs.Common.{◌≡◌, ℕ, ◌+◌, ◌-◌, ◌*◌, ◌≤◌, refl, sym, ◌∙◌, ap, arith, Bool, true, false, if◌then◌else◌, List, [], ◌∷◌, ◌++◌, length, Option, Some, None, nat_lt, nat_le, ◌&&◌, max, append_assoc}
use Rattle.std.proofs.lemmas.List.{append-nil}
use Rattle.std.proofs.lemmas.Bool.Decides.{nat_tests}
use Rattle.tern_core.specs.declared.tern.Tern.{Tern}
use Rattle.tern_core.specs.declared.tern.Tern.TheVariants as tern
use Rattle.liberty_function.specs.declared.words.Word.{Word}
use Rattle.liberty_function.specs.declared.words.Word.TheVariants.{Quote, Bang, Caret, And, Or, Open, Close, Zero, One, Name, Other}
use Rattle.liberty_function.specs.declared.program.Source.{Source}
use Rattle.liberty_function.specs.declared.program.Step.{Step}
use Rattle.liberty_function.specs.declared.program.Step.TheVariants.{Push, Invert, Join}
use Rattle.liberty_function.specs.declared.program.Join as join
use Rattle.liberty_function.specs.declared.program.Join.TheVariants.{Exclusive, Both, Either}
use Rattle.liberty_function.specs.declared.compiler.Part.{Part}
use Rattle.liberty_function.specs.Function.{Function, constant, name, inverse, exclusive, both, either, value_of, Level, atom, factor, exclusive_sum, product, sum, Spells, spells_zero, spells_one, spells_name, in_parentheses, inverted_after, one_atom, inverted_before, one_factor, by_caret, one_exclusive_sum, by_and, side_by_side, one_product, by_or, IsFunction, IsFront}
use Rattle.liberty_function.specs.Compiling.{Standing, taken, began, went_on, after_open, after_and, after_close, start, finished, ends_sum, fits, step_fits, held_after, after_steps}
use Rattle.liberty_function.specs.Sources.{source_value}
use Rattle.liberty_function.proofs.Machine.{Before, Machine, begin, sum_of, next, next_by, run, then_run, run-append}
use Rattle.liberty_function.proofs.Compiles.{constant_source, program_of, standing, machine_standing, compiles, part_of, ends-sum, before_steps}
use Rattle.liberty_function.proofs.Spelling.{reads_from_begin, reads_whole, ending, ends}
use Rattle.liberty_function.proofs.Completes.{goes, EndsSum, at}

pub record IsAfter (sources : List ℕ → Source) (ts : List Word) (c : Standing) : Type 0 where
  pub machine : Machine
  pub ran : run begin ts ≡ Some machine
  pub stands : c ≡ standing sources machine.outer machine.before machine.operand

pub after_none : (sources : List ℕ → Source) (c : Standing) → c ≡ start → IsAfter sources [] c
unfolding run
after_none sources c e = record { machine = begin; ran = refl; stands = e }

some_standing : (sources : List ℕ → Source) (o : Option Machine) (d : Standing) → machine_standing sources o ≡ Some d → (m : Machine) × (o ≡ Some m) × (d ≡ standing sources m.outer m.before m.operand)
some_standing sources None d e = absurd (cc)
some_standing sources (Some m) d e = (m, refl, cc)

none_standing : (sources : List ℕ → Source) (o : Option Machine) → machine_standing sources o ≡ None → o ≡ None
none_standing sources None e = refl
none_standing sources (Some m) e = absurd (cc)

run_more : (ts us : List Word) (m : Machine) (o : Option Machine) → run begin ts ≡ Some m → run m us ≡ o → run begin (ts ++ us) ≡ o
run_more ts us m o e f = run-append ts us begin ∙ (rw e f)

next_run : (m : Machine) (w : Word) (ws : List Word) → run m (w ∷ ws) ≡ then_run (next_by m.outer m.before m.operand w) (λ k. run k ws)
unfolding run next
next_run m w ws = refl

run_none : (m : Machine) → run m [] ≡ Some m
unfolding run
run_none m = refl

ran_one : (m k : Machine) (w : Word) → next_by m.outer m.before m.operand w ≡ Some k → run m (w ∷ []) ≡ Some k
ran_one m k w e = next_run m w [] ∙ (rw e (run_none k))

taken_by : (sources : List ℕ → Source) (c : Standing) (m : Machine) (w : Word) → c ≡ standing sources m.outer m.before m.operand → taken sources c w ≡ machine_standing sources (next_by m.outer m.before m.operand w)
taken_by sources c m w e = rw e (compiles sources m.outer m.before m.operand w)

pub after_more : (sources : List ℕ → Source) (ts : List Word) (c d : Standing) (w : Word) → IsAfter sources ts c → taken sources c w ≡ Some d → IsAfter sources (ts ++ w ∷ []) d
after_more sources ts c d w a e =
    let s = some_standing sources (next_by a.machine.outer a.machine.before a.machine.operand w) d (sym (taken_by sources c a.machine w a.stands) ∙ e) in
    record {
      machine = s.0;
      ran = run_more ts (w ∷ []) a.machine (Some s.0) a.ran (ran_one a.machine s.0 w s.1);
      stands = s.2;
    }

pub after_front : (sources : List ℕ → Source) (ts : List Word) (c : Standing) → IsAfter sources ts c → IsFront ts
after_front sources ts c a =
    let m = a.machine in
    let e = ends m.outer m.before m.operand in
    let w : Machine = record { outer = []; before = e.before; operand = Some e.function } in
    let r = reads_from_begin (ts ++ ending m.outer m.operand) w (run_more ts (ending m.outer m.operand) m (Some w) a.ran e.comes) in
    (ending m.outer m.operand, sum_of e.before e.function, reads_whole e.before e.function (ts ++ ending m.outer m.operand) r)

pub ran_function : (ts : List Word) (f : Function) → IsFunction ts f → EndsSum [] ts f
ran_function ts f h = goes h [] refl

pub stuck : (sources : List ℕ → Source) (ts : List Word) (c : Standing) (w : Word) → IsAfter sources ts c → taken sources c w ≡ None → IsFront (ts ++ w ∷ []) → ⊥
stuck sources ts c w a e front =
    let us = front.0 in
    let n = none_standing sources (next_by a.machine.outer a.machine.before a.machine.operand w) (sym (taken_by sources c a.machine w a.stands) ∙ e) in
    let r = ran_function ((ts ++ w ∷ []) ++ us) front.1 front.2 in
    let s : run begin (ts ++ (w ∷ us)) ≡ None = run_more ts (w ∷ us) a.machine None a.ran (next_run a.machine w us ∙ (rw n refl)) in
    let t : run begin ((ts ++ w ∷ []) ++ us) ≡ None = rw (append_assoc ts (w ∷ []) us) s in
    let q = r.comes in
    cc

-- the finished steps are the program of the function
finish_by : (sources : List ℕ → Source) (outer : List Before) (b : Before) (o : Option Function) (ts : List Word) (steps : List Step) → (let m : Machine = record { outer = outer; before = b; operand = o } in run begin ts ≡ Some m) → finished (standing sources outer b o) ≡ Some steps → (f : Function) × IsFunction ts f × (steps ≡ program_of sources f)
finish_by sources outer b None ts steps r e = absurd (cc)
finish_by sources (c ∷ outer) b (Some f) ts steps r e = absurd (cc)
finish_by sources [] b (Some f) ts steps r e =
    let m : Machine = record { outer = []; before = b; operand = Some f } in
    (sum_of b f, reads_whole b f ts (reads_from_begin ts m r), let s : ([] ++ before_steps sources b) ++ program_of sources f ++ ends_sum (part_of sources b) ≡ steps = cc in sym s ∙ ends-sum sources b.sums b.products b.exclusives b.bangs f)

pub finishes : (sources : List ℕ → Source) (ts : List Word) (c : Standing) (steps : List Step) → IsAfter sources ts c → finished c ≡ Some steps → (f : Function) × IsFunction ts f × (steps ≡ program_of sources f)
finishes sources ts c steps a e = finish_by sources a.machine.outer a.machine.before a.machine.operand ts steps a.ran (rw a.stands at e)

pub too_early : (sources : List ℕ → Source) (ts : List Word) (c : Standing) → IsAfter sources ts c → finished c ≡ None → (f : Function) → IsFunction ts f → ⊥
too_early sources ts c a e f h =
    let r = ran_function ts f h in
    let m : a.machine ≡ at [] r.s r.p r.e (Some r.g) = let p = a.ran in let q = r.comes in cc in
    let s = a.stands in
    let t : c ≡ standing sources [] (record { sums = r.s; products = r.p; exclusives = r.e; bangs = 0 }) (Some r.g) = a.stands ∙ ap (λ (k : Machine). standing sources k.outer k.before k.operand) m in
    let u : finished (standing sources [] (record { sums = r.s; products = r.p; exclusives = r.e; bangs = 0 }) (Some r.g)) ≡ None = rw t at e in
    cc

-- how many values a function's program holds at most
abbrev pub need : Function → ℕ
need (constant a) = 1
need (name n) = 1
need (inverse f) = need f
need (exclusive f g) = max (need f) (need g + 1)
need (both f g) = max (need f) (need g + 1)
need (either f g) = max (need f) (need g + 1)

need_some : (f : Function) → 1 ≤ need f
need_some (constant a) = omega arith
need_some (name n) = omega arith
need_some (inverse f) = need_some f
need_some (exclusive f g) = let h = need_some f in omega arith
need_some (both f g) = let h = need_some f in omega arith
need_some (either f g) = let h = need_some f in omega arith

abbrev pub most : ℕ → Level → ℕ
most room atom = 1 + 3 * room
most room factor = 1 + 3 * room
most room exclusive_sum = 2 + 3 * room
most room product = 3 + 3 * room
most room sum = 4 + 3 * room

pub need_most : {room : ℕ} {level : Level} {ts : List Word} {f : Function} → Spells room level ts f → need f ≤ most room level
need_most spells_zero = omega arith
need_most spells_one = omega arith
need_most spells_name = omega arith
need_most (in_parentheses h) = let i = need_most h in omega arith
need_most (inverted_after h) = need_most h
need_most (one_atom h) = need_most h
need_most (inverted_before h) = need_most h
need_most (one_factor h) = let i = need_most h in omega arith
need_most (by_caret h k) = let i = need_most h in let j = need_most k in omega arith
need_most (one_exclusive_sum h) = let i = need_most h in omega arith
need_most (by_and h k) = let i = need_most h in let j = need_most k in omega arith
need_most (side_by_side h k) = let i = need_most h in let j = need_most k in omega arith
need_most (one_product h) = let i = need_most h in omega arith
need_most (by_or h k) = let i = need_most h in let j = need_most k in omega arith

both_true : (a b : Bool) → a ≡ true → b ≡ true → (a && b) ≡ true
both_true a b p q = rw (p, q) refl

fits_cons : (s : Step) (steps : List Step) (n : ℕ) → step_fits s n ≡ true → fits steps (held_after s n) ≡ true → fits (s ∷ steps) n ≡ true
unfolding fits
fits_cons s steps n h k = both_true (step_fits s n) (fits steps (held_after s n)) h k

module _ (sources : List ℕ → Source) where
  fits_push : (s : Source) (c : List Step) (n : ℕ) → n + 1 ≤ 196 → fits c (n + 1) ≡ true → fits (Push s ∷ c) n ≡ true
  fits_push s c n h k = fits_cons (Push s) c n (grind (arith, nat_tests)) k

  fits_join : (op : join.Join) (f g : Function) (c : List Step) (n : ℕ) → n + max (need f) (need g + 1) ≤ 196 → fits c (n + 1) ≡ true
      → ((d : List Step) → n + need f ≤ 196 → fits d (n + 1) ≡ true → fits (program_of sources f ++ d) n ≡ true)
      → ((d : List Step) → (n + 1) + need g ≤ 196 → fits d ((n + 1) + 1) ≡ true → fits (program_of sources g ++ d) (n + 1) ≡ true)
      → fits (((program_of sources f ++ program_of sources g) ++ Join op ∷ []) ++ c) n ≡ true
  fits_join op f g c n h k left right =
      let s = need_some g in
      let t : step_fits (Join op) ((n + 1) + 1) ≡ true = both_true (nat_le 2 ((n + 1) + 1)) (nat_le ((n + 1) + 1) 196) (grind (arith, nat_tests)) (grind (arith, nat_tests)) in
      let q : ((n + 1) + 1) - 1 ≡ n + 1 = omega arith in
      let u : fits c (((n + 1) + 1) - 1) ≡ true = rw q k in
      rw (append_assoc, append_assoc) (left (program_of sources g ++ Join op ∷ c) (omega arith) (right (Join op ∷ c) (omega arith) (fits_cons (Join op) c ((n + 1) + 1) t u)))

  fits_program : (f : Function) (c : List Step) (n : ℕ) → n + need f ≤ 196 → fits c (n + 1) ≡ true → fits (program_of sources f ++ c) n ≡ true
  fits_program (constant a) c n h k = fits_push (constant_source a) c n h k
  fits_program (name m) c n h k = fits_push (sources m) c n h k
  fits_program (inverse f) c n h k =
      let s = need_some f in
      let t : step_fits Invert (n + 1) ≡ true = both_true (nat_le 1 (n + 1)) (nat_le (n + 1) 196) (grind (arith, nat_tests)) (grind (arith, nat_tests)) in
      rw append_assoc (fits_program f (Invert ∷ c) n h (fits_cons Invert c (n + 1) t k))
  fits_program (exclusive f g) c n h k = fits_join Exclusive f g c n h k (λ d i j. fits_program f d n i j) (λ d i j. fits_program g d (n + 1) i j)
  fits_program (both f g) c n h k = fits_join Both f g c n h k (λ d i j. fits_program f d n i j) (λ d i j. fits_program g d (n + 1) i j)
  fits_program (either f g) c n h k = fits_join Either f g c n h k (λ d i j. fits_program f d n i j) (λ d i j. fits_program g d (n + 1) i j)

  pub fits_function : (ts : List Word) (f : Function) → IsFunction ts f → fits (program_of sources f) 0 ≡ true
  unfolding fits
  fits_function ts f h =
      let m = need_most h in
      let e : fits (program_of sources f ++ []) 0 ≡ true = fits_program f [] 0 (omega arith) refl in
      rw append-nil at e

  module _ (values : Source → Tern) (constants : (a : Tern) → values (constant_source a) ≡ a) where
    abbrev named : List ℕ → Tern
    named n = values (sources n)

    program_value : (f : Function) (c : List Step) (stack : List Tern) → after_steps values (program_of sources f ++ c) stack ≡ after_steps values c (value_of named f ∷ stack)
    unfolding after_steps
    program_value (constant a) c stack = rw (constants a) refl
    program_value (name n) c stack = refl
    program_value (inverse f) c stack = rw append_assoc (program_value f (Invert ∷ c) stack)
    program_value (exclusive f g) c stack = rw (append_assoc, append_assoc) (program_value f (program_of sources g ++ Join Exclusive ∷ c) stack ∙ program_value g (Join Exclusive ∷ c) (value_of named f ∷ stack))
    program_value (both f g) c stack = rw (append_assoc, append_assoc) (program_value f (program_of sources g ++ Join Both ∷ c) stack ∙ program_value g (Join Both ∷ c) (value_of named f ∷ stack))
    program_value (either f g) c stack = rw (append_assoc, append_assoc) (program_value f (program_of sources g ++ Join Either ∷ c) stack ∙ program_value g (Join Either ∷ c) (value_of named f ∷ stack))

    pub program_leaves : (f : Function) → after_steps values (program_of sources f) [] ≡ value_of named f ∷ []
    unfolding after_steps
    program_leaves f = rw (← append-nil (program_of sources f)) (program_value f [] [])

pub constant_value : (pins state : List Tern) (a : Tern) → source_value pins state (constant_source a) ≡ a
constant_value pins state tern.Zero = refl
constant_value pins state tern.One = refl
constant_value pins state tern.Unknown = refl

at_some : (c d : Standing) → Some c ≡ Some d → d.part.inversions ≡ c.part.inversions
at_some c d e = let same : c ≡ d = cc in ap (λ (k : Standing). k.part.inversions) (sym same)

room_inversions : (t : Bool) (c d : Standing) → (if t then Some c else None) ≡ Some d → d.part.inversions ≡ c.part.inversions
room_inversions true c d e = at_some c d e
room_inversions false c d e = absurd (cc)

began_inversions : (sources : List ℕ → Source) (c d : Standing) (w : Word) → began sources c w ≡ Some d → d.part.inversions ≤ c.part.inversions + 1
began_inversions sources c d Bang e = let q = at_some _ d e in omega arith
began_inversions sources c d Open e = let q = room_inversions (nat_lt (length c.outer) 64) (after_open c) d e in omega arith
began_inversions sources c d Zero e = let q = at_some _ d e in omega arith
began_inversions sources c d One e = let q = at_some _ d e in omega arith
began_inversions sources c d (Name n) e = let q = at_some _ d e in omega arith
began_inversions sources c d Quote e = absurd (cc)
began_inversions sources c d Caret e = absurd (cc)
began_inversions sources c d And e = absurd (cc)
began_inversions sources c d Or e = absurd (cc)
began_inversions sources c d Close e = absurd (cc)
began_inversions sources c d Other e = absurd (cc)

close_inversions : (c d : Standing) (outer : List Part) → after_close c outer ≡ Some d → d.part.inversions ≤ c.part.inversions + 1
close_inversions c d [] e = absurd (cc)
close_inversions c d (p ∷ outer) e = let q = at_some _ d e in omega arith

went_inversions : (sources : List ℕ → Source) (c d : Standing) (w : Word) → went_on sources c w ≡ Some d → d.part.inversions ≤ c.part.inversions + 1
went_inversions sources c d Quote e = let q = at_some _ d e in omega arith
went_inversions sources c d Caret e = let q = at_some _ d e in omega arith
went_inversions sources c d And e = let q = at_some _ d e in omega arith
went_inversions sources c d Or e = let q = at_some _ d e in omega arith
went_inversions sources c d Close e = close_inversions c d c.outer e
went_inversions sources c d Other e = absurd (cc)
went_inversions sources c d Bang e = began_inversions sources (after_and c) d Bang e
went_inversions sources c d Open e = began_inversions sources (after_and c) d Open e
went_inversions sources c d Zero e = began_inversions sources (after_and c) d Zero e
went_inversions sources c d One e = began_inversions sources (after_and c) d One e
went_inversions sources c d (Name n) e = began_inversions sources (after_and c) d (Name n) e

either_inversions : (sources : List ℕ → Source) (c d : Standing) (w : Word) (t : Bool) → (if t then went_on sources c w else began sources c w) ≡ Some d → d.part.inversions ≤ c.part.inversions + 1
either_inversions sources c d w true e = went_inversions sources c d w e
either_inversions sources c d w false e = began_inversions sources c d w e

-- a token adds at most one inversion
pub inversions_most : (sources : List ℕ → Source) (c d : Standing) (w : Word) → taken sources c w ≡ Some d → d.part.inversions ≤ c.part.inversions + 1
unfolding taken
inversions_most sources c d w e = either_inversions sources c d w c.operand e
