-- Who gives a net its value: what lies outside, and each output that drives it.
use Rattle.std.specs.Prelude.{ℕ, ◌+◌, nat_lt, if◌then◌else◌, List, [], ◌∷◌, slice_index, slice_index_or, slice_set}
use Rattle.gate_settle.specs.declared.gate.Gate.{Gate}
use Rattle.gate_settle.specs.declared.gate.Given.{Given}
use Rattle.gate_settle.specs.declared.gate.Given.TheVariants.{Pin, Fixed, Floating}
use Rattle.gate_settle.specs.Order.{drivers}

abbrev pub claim_of : Given → ℕ
claim_of (Pin k) = 1
claim_of (Fixed v) = 1
claim_of Floating = 0

-- how often a net gets a value
abbrev pub claims_on : List Given → List Gate → ℕ → ℕ
claims_on given gates k = claim_of (slice_index_or given k Floating) + drivers gates k

-- how they are counted, up to two
abbrev pub counted : ℕ → ℕ
counted n = if nat_lt n 2 then n + 1 else n

abbrev pub claimed : List ℕ → List ℕ → List ℕ
claimed [] claims = claims
claimed (o ∷ outputs) claims = claimed outputs (slice_set claims o (counted (slice_index claims o)))

abbrev pub claimed_by : List Gate → List ℕ → List ℕ
claimed_by [] claims = claims
claimed_by (g ∷ gates) claims = claimed_by gates (claimed g.outputs claims)
