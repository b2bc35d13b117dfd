-- The compiler is the machine: its flags say which parts wait, and its steps are their programs.
use Rattle.std.proofs.Common.{◌≡◌, ℕ, zero, suc, ◌+◌, refl, sym, ◌∙◌, ap, arith, Bool, true, false, if◌then◌else◌, List, [], ◌∷◌, ◌++◌, length, map, replicate, Option, Some, None, nat_lt, is_some, append_assoc}
use Rattle.std.proofs.lemmas.List.{append-nil, length-map}
use Rattle.std.proofs.lemmas.Grind.{replicate_next}
use Rattle.tern_core.specs.declared.tern.Tern.{Tern}
use Rattle.tern_core.specs.declared.tern.Tern.TheVariants as tern
use Rattle.liberty_function.specs.declared.words.Word.{Word}
use Rattle.liberty_function.specs.declared.words.Word.TheVariants.{Quote, Bang, Caret, And, Or, Open, Close, Zero, One, Name, Other}
use Rattle.liberty_function.specs.declared.program.Source.{Source}
use Rattle.liberty_function.specs.declared.program.Source.TheVariants as source
use Rattle.liberty_function.specs.declared.program.Step.{Step}
use Rattle.liberty_function.specs.declared.program.Step.TheVariants.{Push, Invert, Join}
use Rattle.liberty_function.specs.declared.program.Join.TheVariants.{Exclusive, Both, Either}
use Rattle.liberty_function.specs.declared.compiler.Part.{Part}
use Rattle.liberty_function.specs.Function.{Function, constant, name, inverse, exclusive, both, either}
use Rattle.liberty_function.specs.Compiling.{Standing, taken, began, went_on, ends_exclusive, ends_product, ends_sum, empty_part, after_open, after_and, after_close}
use Rattle.liberty_function.proofs.Machine.{Before, Machine, nothing, inverted, exclusive_of, product_of, sum_of, next_by, wanting, having, past_and, closing}

-- the program of a constant
abbrev pub constant_source : Tern → Source
constant_source tern.Zero = source.Zero
constant_source tern.One = source.One
constant_source tern.Unknown = source.Unknown

module _ (sources : List ℕ → Source) where
  -- operands first, then their operation
  abbrev pub program_of : Function → List Step
  program_of (constant a) = Push (constant_source a) ∷ []
  program_of (name n) = Push (sources n) ∷ []
  program_of (inverse f) = program_of f ++ Invert ∷ []
  program_of (exclusive f g) = (program_of f ++ program_of g) ++ Join Exclusive ∷ []
  program_of (both f g) = (program_of f ++ program_of g) ++ Join Both ∷ []
  program_of (either f g) = (program_of f ++ program_of g) ++ Join Either ∷ []

  abbrev pub waiting : Option Function → List Step
  waiting None = []
  waiting (Some f) = program_of f

  abbrev pub before_steps : Before → List Step
  before_steps b = (waiting b.sums ++ waiting b.products) ++ waiting b.exclusives

  abbrev pub outer_steps : List Before → List Step
  outer_steps [] = []
  outer_steps (b ∷ outer) = outer_steps outer ++ before_steps b

  abbrev pub part_of : Before → Part
  part_of b = record { sum = is_some b.sums; product = is_some b.products; exclusive = is_some b.exclusives; inversions = b.bangs }

  abbrev pub standing : List Before → Before → Option Function → Standing
  standing outer b o = record { outer = map part_of outer; part = part_of b; operand = is_some o; steps = (outer_steps outer ++ before_steps b) ++ waiting o }

  abbrev pub machine_standing : Option Machine → Option Standing
  machine_standing None = None
  machine_standing (Some m) = Some (standing m.outer m.before m.operand)

  pub program-inverted : (n : ℕ) (f : Function) → program_of (inverted n f) ≡ program_of f ++ replicate n Invert
  program-inverted zero f = sym (append-nil (program_of f))
  program-inverted (suc n) f =
      let e = program-inverted n f in
      let q : n + 1 ≡ suc n = omega arith in
      let r : replicate n Invert ++ Invert ∷ [] ≡ replicate (suc n) Invert = sym (replicate_next n Invert) ∙ ap (λ k. replicate k Invert) q in
      rw e (append_assoc (program_of f) (replicate n Invert) (Invert ∷ []) ∙ ap (λ k. program_of f ++ k) r)

  ends-exclusive : (s p e : Option Function) (n : ℕ) (f : Function) → let b : Before = record { sums = s; products = p; exclusives = e; bangs = n } in
      (before_steps b ++ program_of f) ++ ends_exclusive (part_of b) ≡ (waiting s ++ waiting p) ++ program_of (exclusive_of b f)
  ends-exclusive s p None n f = simp (append_assoc, append-nil)
  ends-exclusive s p (Some e) n f = simp (append_assoc, append-nil)

  ends-product : (s p e : Option Function) (n : ℕ) (f : Function) → let b : Before = record { sums = s; products = p; exclusives = e; bangs = n } in
      (before_steps b ++ program_of f) ++ ends_product (part_of b) ≡ waiting s ++ program_of (product_of b f)
  ends-product s None None n f = simp (append_assoc, append-nil)
  ends-product s None (Some e) n f = simp (append_assoc, append-nil)
  ends-product s (Some p) None n f = simp (append_assoc, append-nil)
  ends-product s (Some p) (Some e) n f = simp (append_assoc, append-nil)

  pub ends-sum : (s p e : Option Function) (n : ℕ) (f : Function) → let b : Before = record { sums = s; products = p; exclusives = e; bangs = n } in
      (before_steps b ++ program_of f) ++ ends_sum (part_of b) ≡ program_of (sum_of b f)
  ends-sum None None None n f = simp (append_assoc, append-nil)
  ends-sum None None (Some e) n f = simp (append_assoc, append-nil)
  ends-sum None (Some p) None n f = simp (append_assoc, append-nil)
  ends-sum None (Some p) (Some e) n f = simp (append_assoc, append-nil)
  ends-sum (Some s) None None n f = simp (append_assoc, append-nil)
  ends-sum (Some s) None (Some e) n f = simp (append_assoc, append-nil)
  ends-sum (Some s) (Some p) None n f = simp (append_assoc, append-nil)
  ends-sum (Some s) (Some p) (Some e) n f = simp (append_assoc, append-nil)

  same_steps : (outer : List Part) (part : Part) (operand : Bool) (us vs : List Step) → us ≡ vs → let c : Standing = record { outer = outer; part = part; operand = operand; steps = us } in let d : Standing = record { outer = outer; part = part; operand = operand; steps = vs } in c ≡ d
  same_steps outer part operand us vs e = ap (λ (k : List Step). let c : Standing = record { outer = outer; part = part; operand = operand; steps = k } in c) e

  -- after the steps of what is outside
  onto : (before is ends to : List Step) (outer : List Step) → (before ++ is) ++ ends ≡ to → ((outer ++ before) ++ is) ++ ends ≡ (outer ++ to) ++ []
  onto before is ends to outer e = rw (← e) (simp (append_assoc, append-nil))

  read_operand : (outer : List Before) (b : Before) (f : Function) (steps : List Step) → program_of f ≡ steps → (((outer_steps outer ++ before_steps b) ++ []) ++ steps) ++ replicate b.bangs Invert ≡ (outer_steps outer ++ before_steps b) ++ program_of (inverted b.bangs f)
  read_operand outer b f steps e = rw (program-inverted b.bangs f, e) (simp (append_assoc, append-nil))

  compiles_open : (t : Bool) (outer : List Before) (b : Before) → (if t then Some (after_open (standing outer b None)) else None) ≡ machine_standing (if t then (let m : Machine = record { outer = b ∷ outer; before = nothing; operand = None } in Some m) else None)
  compiles_open true outer b = ap (λ k. Some k) (same_steps (part_of b ∷ map part_of outer) empty_part false _ _ (simp append-nil))
  compiles_open false outer b = refl

  compiles_wanting : (outer : List Before) (b : Before) (w : Word) → began sources (standing outer b None) w ≡ machine_standing (wanting outer b w)
  compiles_wanting outer b Bang = refl
  compiles_wanting outer b Open = rw length-map (compiles_open (nat_lt (length outer) 64) outer b)
  compiles_wanting outer b Zero = ap (λ k. Some k) (same_steps (map part_of outer) _ true _ _ (read_operand outer b (constant tern.Zero) _ refl))
  compiles_wanting outer b One = ap (λ k. Some k) (same_steps (map part_of outer) _ true _ _ (read_operand outer b (constant tern.One) _ refl))
  compiles_wanting outer b (Name n) = ap (λ k. Some k) (same_steps (map part_of outer) _ true _ _ (read_operand outer b (name n) _ refl))
  compiles_wanting outer b Quote = refl
  compiles_wanting outer b Caret = refl
  compiles_wanting outer b And = refl
  compiles_wanting outer b Or = refl
  compiles_wanting outer b Close = refl
  compiles_wanting outer b Other = refl

  compiles_and : (outer : List Before) (b : Before) (f : Function) → after_and (standing outer b (Some f)) ≡ standing outer (past_and b f) None
  compiles_and outer b f = same_steps (map part_of outer) _ false _ _
      (onto (before_steps b) (program_of f) (ends_product (part_of b)) _ (outer_steps outer) (ends-product b.sums b.products b.exclusives b.bangs f ∙ simp append-nil))

  compiles_close : (outer : List Before) (b : Before) (f : Function) → after_close (standing outer b (Some f)) (map part_of outer) ≡ machine_standing (closing outer (sum_of b f))
  compiles_close [] b f = refl
  compiles_close (c ∷ outer) b f = ap (λ k. Some k) (same_steps (map part_of outer) _ true _ _
      (rw (program-inverted c.bangs (sum_of b f), ← ends-sum b.sums b.products b.exclusives b.bangs f) (simp append_assoc)))

  then_and : (outer : List Before) (b : Before) (f : Function) (w : Word) → began sources (after_and (standing outer b (Some f))) w ≡ machine_standing (wanting outer (past_and b f) w)
  then_and outer b f w = ap (λ k. began sources k w) (compiles_and outer b f) ∙ compiles_wanting outer (past_and b f) w

  compiles_having : (outer : List Before) (b : Before) (f : Function) (w : Word) → went_on sources (standing outer b (Some f)) w ≡ machine_standing (having outer b f w)
  compiles_having outer b f Quote = ap (λ k. Some k) (same_steps (map part_of outer) _ true _ _ (append_assoc (outer_steps outer ++ before_steps b) (program_of f) (Invert ∷ [])))
  compiles_having outer b f Caret = ap (λ k. Some k) (same_steps (map part_of outer) _ false _ _
      (onto (before_steps b) (program_of f) (ends_exclusive (part_of b)) _ (outer_steps outer) (ends-exclusive b.sums b.products b.exclusives b.bangs f)))
  compiles_having outer b f And = ap (λ k. Some k) (compiles_and outer b f)
  compiles_having outer b f Or = ap (λ k. Some k) (same_steps (map part_of outer) _ false _ _
      (onto (before_steps b) (program_of f) (ends_sum (part_of b)) _ (outer_steps outer) (ends-sum b.sums b.products b.exclusives b.bangs f ∙ simp append-nil)))
  compiles_having outer b f Close = compiles_close outer b f
  compiles_having outer b f Other = refl
  compiles_having outer b f Bang = then_and outer b f Bang
  compiles_having outer b f Open = then_and outer b f Open
  compiles_having outer b f Zero = then_and outer b f Zero
  compiles_having outer b f One = then_and outer b f One
  compiles_having outer b f (Name n) = then_and outer b f (Name n)

  -- a token is taken as by the machine
  pub compiles : (outer : List Before) (b : Before) (o : Option Function) (w : Word) → taken sources (standing outer b o) w ≡ machine_standing (next_by outer b o w)
  unfolding taken
  compiles outer b None w = compiles_wanting outer b w
  compiles outer b (Some f) w = compiles_having outer b f w
