-- Open conditions and their branches.
use Rattle.std.specs.Prelude.{Bool, true, false, if◌then◌else◌, List}
use Rattle.std.specs.List.{list_all}
use Rattle.verilog_directives.specs.declared.condition.Branch.{Branch}
use Rattle.verilog_directives.specs.declared.condition.Branch.TheVariants.{Waiting, Taken, Passed}
use Rattle.verilog_directives.specs.declared.condition.Condition.{Condition}

-- the first branch is taken where its test holds
abbrev pub first_branch : Bool → Branch
first_branch holds = if holds then Taken else Waiting

-- a later branch is taken where its test holds and no branch before it was taken
abbrev pub next_branch : Bool → Branch → Branch
next_branch holds Waiting = first_branch holds
next_branch holds Taken = Passed
next_branch holds Passed = Passed

abbrev pub is_taken : Branch → Bool
is_taken Waiting = false
is_taken Taken = true
is_taken Passed = false

-- text is read where each open condition is in a branch that is taken
unfoldable pub is_read : List Condition → Bool
is_read conditions = list_all (λ c. is_taken c.branch) conditions

-- a condition at its `ifdef or `ifndef, whose test holds or not
abbrev pub opened : Bool → Condition
opened holds = record { branch = first_branch holds; is_else = false }

-- a condition at its next `elsif, whose test holds or not
abbrev pub at_elsif : Bool → Condition → Condition
at_elsif holds c = record { branch = next_branch holds c.branch; is_else = false }

-- a condition at its `else
abbrev pub at_else : Condition → Condition
at_else c = record { branch = next_branch true c.branch; is_else = true }
