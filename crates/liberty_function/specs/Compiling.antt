-- The compiler of a function, token by token, and its programs.
use Rattle.std.specs.Prelude.{◌≡◌, ℕ, zero, suc, ◌+◌, ◌-◌, Bool, true, false, ◌&&◌, nat_le, nat_lt, ◌==◌, if◌then◌else◌, List, [], ◌∷◌, ◌++◌, length, replicate, reverse, Option, Some, None, slice_index_or}
use Rattle.tern_core.specs.declared.tern.Tern.{Tern}
use Rattle.tern_core.specs.declared.tern.Tern.TheVariants as tern
use Rattle.tern_core.specs.Values.{not_of, and_of, or_of, xor_of}
use Rattle.liberty_function.specs.declared.words.Word.{Word}
use Rattle.liberty_function.specs.declared.words.Word.TheVariants.{Quote, Bang, Caret, And, Or, Open, Close, Zero, One, Name, Other}
use Rattle.liberty_function.specs.declared.program.Source.{Source}
use Rattle.liberty_function.specs.declared.program.Source.TheVariants as source
use Rattle.liberty_function.specs.declared.program.Step.{Step}
use Rattle.liberty_function.specs.declared.program.Step.TheVariants.{Push, Invert, Join}
use Rattle.liberty_function.specs.declared.program.Join as join
use Rattle.liberty_function.specs.declared.program.Join.TheVariants.{Exclusive, Both, Either}
use Rattle.liberty_function.specs.declared.program.Stack.{Stack}
use Rattle.liberty_function.specs.declared.compiler.Part.{Part}
use Rattle.liberty_function.specs.declared.compiler.Compiler.{Compiler}

-- the first so many values of a list, the last of them first
unfoldable pub first_values : List Tern → ℕ → List Tern
first_values values zero = []
first_values values (suc n) = slice_index_or values n tern.Zero ∷ first_values values n

abbrev pub held_values : Stack → List Tern
held_values s = first_values s.values s.held

-- an operation on the two last values; the list begins with the last
abbrev pub joined_values : (Tern → Tern → Tern) → List Tern → List Tern
joined_values op [] = []
joined_values op (b ∷ []) = []
joined_values op (b ∷ a ∷ rest) = op a b ∷ rest

abbrev pub join_of : join.Join → Tern → Tern → Tern
join_of Exclusive = xor_of
join_of Both = and_of
join_of Either = or_of

abbrev pub inverted_value : List Tern → List Tern
inverted_value [] = []
inverted_value (a ∷ rest) = not_of a ∷ rest

abbrev pub after_step : (Source → Tern) → Step → List Tern → List Tern
after_step values (Push s) stack = values s ∷ stack
after_step values Invert stack = inverted_value stack
after_step values (Join op) stack = joined_values (join_of op) stack

unfoldable pub after_steps : (Source → Tern) → List Step → List Tern → List Tern
after_steps values [] stack = stack
after_steps values (s ∷ steps) stack = after_steps values steps (after_step values s stack)

-- the last value that a program leaves
abbrev pub last_value : List Tern → Tern
last_value [] = tern.Unknown
last_value (a ∷ rest) = a

-- the step finds its values, and room for one more
abbrev pub step_fits : Step → ℕ → Bool
step_fits (Push s) n = nat_lt n 196
step_fits Invert n = nat_le 1 n && nat_le n 196
step_fits (Join op) n = nat_le 2 n && nat_le n 196

abbrev pub StepFits : Step → ℕ → Type 0
StepFits s n = step_fits s n ≡ true

abbrev pub held_after : Step → ℕ → ℕ
held_after (Push s) n = n + 1
held_after Invert n = n
held_after (Join op) n = n - 1

-- from so many values each step finds its own, and one is left
unfoldable pub fits : List Step → ℕ → Bool
fits [] n = n == 1
fits (s ∷ steps) n = step_fits s n && fits steps (held_after s n)

-- where the compiler is: the parts round the open parentheses, innermost first, the part that it reads,
-- whether an operand stands before, and the steps so far
pub record Standing : Type 0 where
  pub outer : List Part
  pub part : Part
  pub operand : Bool
  pub steps : List Step

abbrev pub standing_of : Compiler → Standing
standing_of c = record { outer = reverse c.outer.items; part = c.part; operand = c.operand; steps = c.steps }

abbrev pub empty_part : Part
empty_part = record { sum = false; product = false; exclusive = false; inversions = 0 }

abbrev pub step_if : Bool → Step → List Step
step_if b s = if b then s ∷ [] else []

-- what ends an exclusive sum, a product, a sum
abbrev pub ends_exclusive : Part → List Step
ends_exclusive p = step_if p.exclusive (Join Exclusive)

abbrev pub ends_product : Part → List Step
ends_product p = ends_exclusive p ++ step_if p.product (Join Both)

abbrev pub ends_sum : Part → List Step
ends_sum p = ends_product p ++ step_if p.sum (Join Either)

-- an operand is read, with the inversions before it
abbrev pub with_operand : Standing → List Step → Standing
with_operand c steps = record {
  outer = c.outer;
  part = record c.part { inversions = 0 };
  operand = true;
  steps = (c.steps ++ steps) ++ replicate c.part.inversions Invert;
}

abbrev pub start : Standing
start = record { outer = []; part = empty_part; operand = false; steps = [] }

abbrev pub after_open : Standing → Standing
after_open c = record { outer = c.part ∷ c.outer; part = empty_part; operand = false; steps = c.steps }

abbrev pub if_room : List Part → Standing → Option Standing
if_room outer c = if nat_lt (length outer) 64 then Some c else None

abbrev pub began : (List ℕ → Source) → Standing → Word → Option Standing
began sources c Bang = Some (record c { part = record c.part { inversions = c.part.inversions + 1 } })
began sources c Open = if_room c.outer (after_open c)
began sources c Zero = Some (with_operand c (Push source.Zero ∷ []))
began sources c One = Some (with_operand c (Push source.One ∷ []))
began sources c (Name n) = Some (with_operand c (Push (sources n) ∷ []))
began sources c _ = None

abbrev pub after_caret : Standing → Standing
after_caret c = record { outer = c.outer; part = record c.part { exclusive = true }; operand = false; steps = c.steps ++ ends_exclusive c.part }

abbrev pub after_and : Standing → Standing
after_and c = record { outer = c.outer; part = record c.part { exclusive = false; product = true }; operand = false; steps = c.steps ++ ends_product c.part }

abbrev pub after_or : Standing → Standing
after_or c = record { outer = c.outer; part = record c.part { exclusive = false; product = false; sum = true }; operand = false; steps = c.steps ++ ends_sum c.part }

abbrev pub after_close : Standing → List Part → Option Standing
after_close c [] = None
after_close c (p ∷ outer) = Some (record {
  outer = outer;
  part = record p { inversions = 0 };
  operand = true;
  steps = (c.steps ++ ends_sum c.part) ++ replicate p.inversions Invert;
})

abbrev pub went_on : (List ℕ → Source) → Standing → Word → Option Standing
went_on sources c Quote = Some (record c { steps = c.steps ++ Invert ∷ [] })
went_on sources c Caret = Some (after_caret c)
went_on sources c And = Some (after_and c)
went_on sources c Or = Some (after_or c)
went_on sources c Close = after_close c c.outer
went_on sources c Other = None
went_on sources c Bang = began sources (after_and c) Bang
went_on sources c Open = began sources (after_and c) Open
went_on sources c Zero = began sources (after_and c) Zero
went_on sources c One = began sources (after_and c) One
went_on sources c (Name n) = began sources (after_and c) (Name n)

-- a token is taken; nothing, where it cannot follow
unfoldable pub taken : (List ℕ → Source) → Standing → Word → Option Standing
taken sources c w = if c.operand then went_on sources c w else began sources c w

-- the steps of a whole function
abbrev pub finished_in : Bool → List Part → List Step → Option (List Step)
finished_in true [] steps = Some steps
finished_in true (p ∷ outer) steps = None
finished_in false outer steps = None

abbrev pub finished : Standing → Option (List Step)
finished c = finished_in c.operand c.outer (c.steps ++ ends_sum c.part)
