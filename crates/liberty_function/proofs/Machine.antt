-- The compiler's way over trees: what it has read, as parts that wait for an operand.
use Rattle.std.proofs.Common.{◌≡◌, ℕ, zero, suc, ◌+◌, refl, if◌then◌else◌, List, [], ◌∷◌, ◌++◌, length, Option, Some, None, nat_lt}
use Rattle.tern_core.specs.declared.tern.Tern.TheVariants as tern
use Rattle.liberty_function.specs.declared.words.Word.{Word}
use Rattle.liberty_function.specs.declared.words.Word.TheVariants.{Quote, Bang, Caret, And, Or, Open, Close, Zero, One, Name, Other}
use Rattle.liberty_function.specs.Function.{Function, constant, name, inverse, exclusive, both, either}

-- what stands before an operand between two parentheses
pub record Before : Type 0 where
  pub sums : Option Function
  pub products : Option Function
  pub exclusives : Option Function
  pub bangs : ℕ

-- the parts round the open parentheses, innermost first, the part that is read, and the operand before the next token
pub record Machine : Type 0 where
  pub outer : List Before
  pub before : Before
  pub operand : Option Function

abbrev pub nothing : Before
nothing = record { sums = None; products = None; exclusives = None; bangs = 0 }

abbrev pub begin : Machine
begin = record { outer = []; before = nothing; operand = None }

abbrev pub inverted : ℕ → Function → Function
inverted zero f = f
inverted (suc n) f = inverse (inverted n f)

abbrev pub joined : (Function → Function → Function) → Option Function → Function → Function
joined op None f = f
joined op (Some g) f = op g f

abbrev pub exclusive_of : Before → Function → Function
exclusive_of b f = joined exclusive b.exclusives f

abbrev pub product_of : Before → Function → Function
product_of b f = joined both b.products (exclusive_of b f)

abbrev pub sum_of : Before → Function → Function
sum_of b f = joined either b.sums (product_of b f)

abbrev pub with_atom : List Before → Before → Function → Machine
with_atom outer b f = record { outer = outer; before = record { sums = b.sums; products = b.products; exclusives = b.exclusives; bangs = 0 }; operand = Some (inverted b.bangs f) }

abbrev pub if_open : List Before → Before → Option Machine
if_open outer b = if nat_lt (length outer) 64 then Some (record { outer = b ∷ outer; before = nothing; operand = None }) else None

-- a token where an operand is wanted
abbrev pub wanting : List Before → Before → Word → Option Machine
wanting outer b Bang = Some (record { outer = outer; before = record { sums = b.sums; products = b.products; exclusives = b.exclusives; bangs = b.bangs + 1 }; operand = None })
wanting outer b Open = if_open outer b
wanting outer b Zero = Some (with_atom outer b (constant tern.Zero))
wanting outer b One = Some (with_atom outer b (constant tern.One))
wanting outer b (Name n) = Some (with_atom outer b (name n))
wanting outer b _ = None

abbrev pub past_caret : Before → Function → Before
past_caret b f = record { sums = b.sums; products = b.products; exclusives = Some (exclusive_of b f); bangs = b.bangs }

abbrev pub past_and : Before → Function → Before
past_and b f = record { sums = b.sums; products = Some (product_of b f); exclusives = None; bangs = b.bangs }

abbrev pub past_or : Before → Function → Before
past_or b f = record { sums = Some (sum_of b f); products = None; exclusives = None; bangs = b.bangs }

abbrev pub closing : List Before → Function → Option Machine
closing [] f = None
closing (b ∷ outer) f = Some (with_atom outer b f)

-- a token after an operand
abbrev pub having : List Before → Before → Function → Word → Option Machine
having outer b f Quote = Some (record { outer = outer; before = b; operand = Some (inverse f) })
having outer b f Caret = Some (record { outer = outer; before = past_caret b f; operand = None })
having outer b f And = Some (record { outer = outer; before = past_and b f; operand = None })
having outer b f Or = Some (record { outer = outer; before = past_or b f; operand = None })
having outer b f Close = closing outer (sum_of b f)
having outer b f Other = None
having outer b f Bang = wanting outer (past_and b f) Bang
having outer b f Open = wanting outer (past_and b f) Open
having outer b f Zero = wanting outer (past_and b f) Zero
having outer b f One = wanting outer (past_and b f) One
having outer b f (Name n) = wanting outer (past_and b f) (Name n)

abbrev pub next_by : List Before → Before → Option Function → Word → Option Machine
next_by outer b None w = wanting outer b w
next_by outer b (Some f) w = having outer b f w

unfoldable pub next : Machine → Word → Option Machine
next m w = next_by m.outer m.before m.operand w

abbrev pub then_run : Option Machine → (Machine → Option Machine) → Option Machine
then_run None go = None
then_run (Some m) go = go m

unfoldable pub run : Machine → List Word → Option Machine
run m [] = Some m
run m (w ∷ ws) = then_run (next m w) (λ k. run k ws)

by_next : (us vs : List Word) (o : Option Machine) → ((k : Machine) → run k (us ++ vs) ≡ then_run (run k us) (λ j. run j vs)) → then_run o (λ k. run k (us ++ vs)) ≡ then_run (then_run o (λ k. run k us)) (λ k. run k vs)
by_next us vs None more = refl
by_next us vs (Some k) more = more k

pub run-append : (us vs : List Word) (m : Machine) → run m (us ++ vs) ≡ then_run (run m us) (λ k. run k vs)
unfolding run
run-append [] vs m = refl
run-append (w ∷ us) vs m = by_next us vs (next m w) (λ k. run-append us vs k)
