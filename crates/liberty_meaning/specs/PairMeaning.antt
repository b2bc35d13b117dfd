-- What a flip-flop and a latch mean (Liberty User Guide, "ff Group", "latch Group").
use Rattle.std.specs.Prelude.{◌≡◌, ℕ, List, [], ◌∷◌, codes, Option, Some, None, Result, Ok, Err}
use Rattle.tern_core.specs.declared.tern.Tern.{Tern}
use Rattle.liberty_source.specs.declared.Both.{Both}
use Rattle.liberty_source.specs.declared.FfText.{FfText}
use Rattle.liberty_source.specs.declared.LatchText.{LatchText}
use Rattle.liberty_function.specs.Sources.{Named, value_at}
use Rattle.liberty_function.specs.Function.{Function}
use Rattle.liberty_function.specs.Texts.{program_value}
use Rattle.liberty_meaning.specs.declared.pair.Pair.{Pair}
use Rattle.liberty_meaning.specs.declared.pairs.Kind.{Kind}
use Rattle.liberty_meaning.specs.declared.pairs.Kind.TheVariants.{Clocked, Latched}
use Rattle.liberty_meaning.specs.declared.pairs.PairPrograms.{PairPrograms}
use Rattle.liberty_meaning.specs.declared.refusal.MeaningRefusal.{MeaningRefusal}
use Rattle.liberty_meaning.specs.declared.refusal.MeaningRefusal.TheVariants as refusal
use Rattle.liberty_meaning.specs.Pairs.{pair, clocked_pair, latched_pair, controlled_pair, both_at}
use Rattle.liberty_meaning.specs.Meaning.{Valuation, values_of, IsFunctionOf, IsGood, RefusesOptional, UnlessMemory}

-- the two first values of a state
abbrev pub pair_of : List Tern → Pair
pair_of state = pair (value_at state 0) (value_at state 1)

-- The pair before clear and preset: the clock with the old pins and with the new ones, its next value with the old pins;
-- the enable and the data with the new pins; always with the old state.
abbrev pub uncontrolled : Kind → Valuation → Valuation → List Tern → List Tern → List Tern → Pair → Pair
uncontrolled Clocked control value old new state p = clocked_pair (control old state) (control new state) (value old state) p
uncontrolled Latched control value old new state p = latched_pair (control new state) (value new state) p

-- what four programs do
abbrev pub uncontrolled_by : PairPrograms → List Tern → List Tern → List Tern → Pair → Pair
uncontrolled_by q old new state p = uncontrolled q.kind (program_value q.control) (program_value q.value) old new state p

abbrev pub next_pair : PairPrograms → List Tern → List Tern → List Tern → Pair
next_pair q old new state = controlled_pair (program_value q.clear new state) (program_value q.preset new state) (both_at q.both 0) (both_at q.both 1) (pair_of state) (uncontrolled_by q old new state (pair_of state))

-- the functions of a flip-flop or a latch
pub record Functions : Type 0 where
  pub control : Function
  pub value : Function
  pub clear : Function
  pub preset : Function

-- the pair after a change of the pins, with clear and preset on the new pins
abbrev pub pair_after : Kind → List Both → List Named → Functions → List Tern → List Tern → List Tern → Pair
pair_after kind both names fs old new state =
    controlled_pair (values_of names fs.clear new state) (values_of names fs.preset new state) (both_at both 0) (both_at both 1) (pair_of state)
    (uncontrolled kind (values_of names fs.control) (values_of names fs.value) old new state (pair_of state))

-- the functions are those of the texts
pub record AreFunctions (names : List Named) (control value clear preset : Option (List ℕ)) (fs : Functions) : Type 0 where
  pub is_control : IsFunctionOf names control fs.control
  pub is_value : IsFunctionOf names value fs.value
  pub is_clear : IsFunctionOf names clear fs.clear
  pub is_preset : IsFunctionOf names preset fs.preset

-- a pair after a change from old pins to new ones, in an old state
abbrev pub NextPair : Type 0
NextPair = List Tern → List Tern → List Tern → Pair

-- the next pair is that of the functions that the texts spell
pub record IsPair (kind : Kind) (names : List Named) (control value clear preset : Option (List ℕ)) (both : List Both) (next : NextPair) : Type 0 where
  pub functions : Functions
  pub are : AreFunctions names control value clear preset functions
  pub values : (old new state : List Tern) → next old new state ≡ pair_after kind both names functions old new state

-- the first text that is refused comes after those that are not
pub data RefusesFirst (names : List Named) : List (List ℕ × Option (List ℕ)) → MeaningRefusal → Type 0 where
  here : {owner : List ℕ} {text : Option (List ℕ)} {rest : List (List ℕ × Option (List ℕ))} {e : MeaningRefusal} → RefusesOptional names owner text e → RefusesFirst names ((owner, text) ∷ rest) e
  later : {owner : List ℕ} {text : Option (List ℕ)} {rest : List (List ℕ × Option (List ℕ))} {e : MeaningRefusal} → IsGood names text → RefusesFirst names rest e → RefusesFirst names ((owner, text) ∷ rest) e

-- the texts of a flip-flop in their order
abbrev pub ff_texts : FfText → List (List ℕ × Option (List ℕ))
ff_texts ff = (codes "next_state", ff.next_state) ∷ (codes "clocked_on", ff.clocked_on) ∷ (codes "clear", ff.clear) ∷ (codes "preset", ff.preset) ∷ []

abbrev pub latch_texts : LatchText → List (List ℕ × Option (List ℕ))
latch_texts latch = (codes "enable", latch.enable) ∷ (codes "data_in", latch.data_in) ∷ (codes "clear", latch.clear) ∷ (codes "preset", latch.preset) ∷ []

-- the next pair of a flip-flop, which needs both its next state and its clock
abbrev pub IsFfBy : Option (List ℕ) → Option (List ℕ) → List Named → FfText → NextPair → Type 0
IsFfBy (Some a) (Some b) names ff next = IsPair Clocked names ff.clocked_on ff.next_state ff.clear ff.preset ff.both next
IsFfBy (Some a) None names ff next = ⊥
IsFfBy None b names ff next = ⊥

abbrev pub IsFf : List Named → FfText → NextPair → Type 0
IsFf names ff next = IsFfBy ff.next_state ff.clocked_on names ff next

-- the next pair of a latch, which needs both its enable and its data, or neither
abbrev pub IsLatchBy : Option (List ℕ) → Option (List ℕ) → List Named → LatchText → NextPair → Type 0
IsLatchBy (Some a) (Some b) names latch next = IsPair Latched names latch.enable latch.data_in latch.clear latch.preset latch.both next
IsLatchBy (Some a) None names latch next = ⊥
IsLatchBy None (Some b) names latch next = ⊥
IsLatchBy None None names latch next = IsPair Latched names latch.enable latch.data_in latch.clear latch.preset latch.both next

abbrev pub IsLatch : List Named → LatchText → NextPair → Type 0
IsLatch names latch next = IsLatchBy latch.enable latch.data_in names latch next

-- nothing in the texts is refused
abbrev pub AreGood : List Named → List (List ℕ × Option (List ℕ)) → Type 0
AreGood names [] = Unit {0}
AreGood names (t ∷ texts) = IsGood names t.1 × AreGood names texts

abbrev pub IsGoodFfBy : Option (List ℕ) → Option (List ℕ) → List Named → FfText → Type 0
IsGoodFfBy (Some a) (Some b) names ff = AreGood names (ff_texts ff)
IsGoodFfBy (Some a) None names ff = ⊥
IsGoodFfBy None b names ff = ⊥

abbrev pub IsGoodFf : List Named → FfText → Type 0
IsGoodFf names ff = IsGoodFfBy ff.next_state ff.clocked_on names ff

abbrev pub IsGoodLatchBy : Option (List ℕ) → Option (List ℕ) → List Named → LatchText → Type 0
IsGoodLatchBy (Some a) (Some b) names latch = AreGood names (latch_texts latch)
IsGoodLatchBy (Some a) None names latch = ⊥
IsGoodLatchBy None (Some b) names latch = ⊥
IsGoodLatchBy None None names latch = AreGood names (latch_texts latch)

abbrev pub IsGoodLatch : List Named → LatchText → Type 0
IsGoodLatch names latch = IsGoodLatchBy latch.enable latch.data_in names latch

-- a missing text is refused with the group's word and line, before its other texts
abbrev pub RefusesFfBy : Option (List ℕ) → Option (List ℕ) → List Named → FfText → MeaningRefusal → Type 0
RefusesFfBy (Some a) (Some b) names ff e = RefusesFirst names (ff_texts ff) e
RefusesFfBy (Some a) None names ff e = e ≡ refusal.Construct (codes "ff") ff.line
RefusesFfBy None b names ff e = e ≡ refusal.Construct (codes "ff") ff.line

abbrev pub RefusesFf : List Named → FfText → MeaningRefusal → Type 0
RefusesFf names ff e = RefusesFfBy ff.next_state ff.clocked_on names ff e

abbrev pub RefusesLatchBy : Option (List ℕ) → Option (List ℕ) → List Named → LatchText → MeaningRefusal → Type 0
RefusesLatchBy (Some a) (Some b) names latch e = RefusesFirst names (latch_texts latch) e
RefusesLatchBy (Some a) None names latch e = e ≡ refusal.Construct (codes "latch") latch.line
RefusesLatchBy None (Some b) names latch e = e ≡ refusal.Construct (codes "latch") latch.line
RefusesLatchBy None None names latch e = RefusesFirst names (latch_texts latch) e

abbrev pub RefusesLatch : List Named → LatchText → MeaningRefusal → Type 0
RefusesLatch names latch e = RefusesLatchBy latch.enable latch.data_in names latch e

-- the answers of the functions that make the programs
abbrev pub IsConstruct : List ℕ → ℕ → Result PairPrograms MeaningRefusal → Type 0
IsConstruct word line (Ok q) = ⊥
IsConstruct word line (Err e) = UnlessMemory e (e ≡ refusal.Construct word line)

abbrev pub IsFfTextsAnswer : List Named → FfText → Result PairPrograms MeaningRefusal → Type 0
IsFfTextsAnswer names ff (Ok q) = IsPair Clocked names ff.clocked_on ff.next_state ff.clear ff.preset ff.both (next_pair q)
IsFfTextsAnswer names ff (Err e) = UnlessMemory e (RefusesFirst names (ff_texts ff) e)

abbrev pub IsFfAnswer : List Named → FfText → Result PairPrograms MeaningRefusal → Type 0
IsFfAnswer names ff (Ok q) = IsFf names ff (next_pair q)
IsFfAnswer names ff (Err e) = UnlessMemory e (RefusesFf names ff e)

abbrev pub IsLatchTextsAnswer : List Named → LatchText → Result PairPrograms MeaningRefusal → Type 0
IsLatchTextsAnswer names latch (Ok q) = IsPair Latched names latch.enable latch.data_in latch.clear latch.preset latch.both (next_pair q)
IsLatchTextsAnswer names latch (Err e) = UnlessMemory e (RefusesFirst names (latch_texts latch) e)

abbrev pub IsLatchAnswer : List Named → LatchText → Result PairPrograms MeaningRefusal → Type 0
IsLatchAnswer names latch (Ok q) = IsLatch names latch (next_pair q)
IsLatchAnswer names latch (Err e) = UnlessMemory e (RefusesLatch names latch e)
