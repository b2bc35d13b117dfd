-- Gates in an order of dependence: each stands behind those that drive its inputs.
use Rattle.std.specs.Prelude.{ℕ, Bool, true, false, ◌≡◌, ◌+◌, ◌==◌, ◌&&◌, ◌||◌, not, if◌then◌else◌, List, [], ◌∷◌, sum_by, slice_index_or, slice_set, replicate}
use Rattle.gate_settle.specs.declared.gate.Operand.{Operand}
use Rattle.gate_settle.specs.declared.gate.Operand.TheVariants.{Net, Constant}
use Rattle.gate_settle.specs.declared.gate.Gate.{Gate}
use Rattle.gate_settle.specs.Gates.{is_among}

-- A mark for each net: whether its value is known.
abbrev pub is_known : List Bool → ℕ → Bool
is_known known k = slice_index_or known k true

abbrev pub marked : List ℕ → Bool → List Bool → List Bool
marked [] mark known = known
marked (o ∷ outputs) mark known = marked outputs mark (slice_set known o mark)

abbrev pub is_operand_known : List Bool → Operand → Bool
is_operand_known known (Net k) = is_known known k
is_operand_known known (Constant v) = true

abbrev pub all_known : List Bool → List Operand → Bool
all_known known [] = true
all_known known (x ∷ inputs) = is_operand_known known x && all_known known inputs

abbrev pub all_unknown : List Bool → List ℕ → Bool
all_unknown known [] = true
all_unknown known (o ∷ outputs) = not (is_known known o) && all_unknown known outputs

-- each gate's inputs are known before it, and its outputs only after it
abbrev pub is_ordered : List Bool → List Gate → Bool
is_ordered known [] = true
is_ordered known (g ∷ gates) =
    all_known known g.inputs && (all_unknown known g.outputs && is_ordered (marked g.outputs true known) gates)

-- the marks after gates
abbrev pub known_after : List Gate → Bool → List Bool → List Bool
known_after [] mark known = known
known_after (g ∷ gates) mark known = known_after gates mark (marked g.outputs mark known)

-- so many nets of which those that no gate drives are known
abbrev pub known_at_first : ℕ → List Gate → List Bool
known_at_first nets gates = known_after gates false (replicate nets true)

abbrev pub is_ready : List Bool → Gate → Bool
is_ready known g = all_known known g.inputs && all_unknown known g.outputs

abbrev pub none_ready : List Bool → List Gate → Bool
none_ready known [] = true
none_ready known (g ∷ gates) = not (is_ready known g) && none_ready known gates

-- the same gates, each as often, in whichever order
abbrev pub IsArrangementOf : List Gate → List Gate → Type 0
IsArrangementOf gates others = (f : Gate → ℕ) → sum_by f others ≡ sum_by f gates

-- ---- what depends on what

abbrev pub is_input : List Operand → ℕ → Bool
is_input [] k = false
is_input (Net n ∷ inputs) k = n == k || is_input inputs k
is_input (Constant v ∷ inputs) k = is_input inputs k

-- some gate drives a and has b as an input
abbrev pub is_fed_by : List Gate → ℕ → ℕ → Bool
is_fed_by [] a b = false
is_fed_by (g ∷ gates) a b = is_among g.outputs a && is_input g.inputs b || is_fed_by gates a b

-- a net depends on another one, directly or through others
pub data DependsOn (gates : List Gate) : ℕ → ℕ → Type 0 where
  directly : {a b : ℕ} → is_fed_by gates a b ≡ true → DependsOn gates a b
  through : {a b c : ℕ} → is_fed_by gates a b ≡ true → DependsOn gates b c → DependsOn gates a c

-- how many outputs of gates a net is
abbrev pub times : List ℕ → ℕ → ℕ
times [] k = 0
times (o ∷ outputs) k = (if o == k then 1 else 0) + times outputs k

abbrev pub drivers : List Gate → ℕ → ℕ
drivers gates k = sum_by (λ g. times g.outputs k) gates
