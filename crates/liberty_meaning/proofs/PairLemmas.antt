-- The programs of a flip-flop or a latch compute what its functions say.
use Rattle.std.proofs.Common.{◌≡◌, ℕ, refl, List, ◌∷◌, Option}
use Rattle.tern_core.specs.declared.tern.Tern.{Tern}
use Rattle.liberty_source.specs.declared.Both.{Both}
use Rattle.liberty_function.specs.Sources.{Named}
use Rattle.liberty_function.specs.declared.function.Program.{Program}
use Rattle.liberty_function.specs.Function.{Function}
use Rattle.liberty_function.specs.Texts.{program_value}
use Rattle.liberty_meaning.specs.declared.pairs.Kind.{Kind}
use Rattle.liberty_meaning.specs.declared.pairs.Kind.TheVariants.{Clocked, Latched}
use Rattle.liberty_meaning.specs.declared.pairs.PairPrograms.{PairPrograms}
use Rattle.liberty_meaning.specs.declared.refusal.MeaningRefusal.{MeaningRefusal}
use Rattle.liberty_meaning.specs.Meaning.{Valuation, values_of, Computes, IsValueOf, IsGood, RefusesOptional, UnlessMemory}
use Rattle.liberty_meaning.specs.PairMeaning.{IsPair, pair_of, uncontrolled, next_pair, RefusesFirst, here, later}
use Rattle.liberty_meaning.proofs.OutputLemmas.{unless}

abbrev pub IsMade : List Named → Option (List ℕ) → Program → Type 0
IsMade names text p = IsValueOf names text (program_value p)

uncontrolled_same : (kind : Kind) (names : List Named) (c v : Valuation) (f g : Function) → Computes names c f → Computes names v g → (old new state : List Tern)
    → uncontrolled kind c v old new state (pair_of state) ≡ uncontrolled kind (values_of names f) (values_of names g) old new state (pair_of state)
uncontrolled_same Clocked names c v f g h k old new state = rw (h old state, h new state, k old state) refl
uncontrolled_same Latched names c v f g h k old new state = rw (h new state, k new state) refl

pub pair_of_programs : (kind : Kind) (names : List Named) (control value clear preset : Option (List ℕ)) (both : List Both) (c v x p : Program)
    → IsMade names control c → IsMade names value v → IsMade names clear x → IsMade names preset p
    → let q : PairPrograms = record { kind = kind; control = c; value = v; clear = x; preset = p; both = both } in IsPair kind names control value clear preset both (next_pair q)
pair_of_programs kind names control value clear preset both c v x p hc hv hx hp = record {
  functions = record { control = hc.0; value = hv.0; clear = hx.0; preset = hp.0 };
  are = record { is_control = hc.1; is_value = hv.1; is_clear = hx.1; is_preset = hp.1 };
  values = λ old new state.
      rw (hx.2 new state, hp.2 new state, uncontrolled_same kind names (program_value c) (program_value v) hc.0 hv.0 hc.2 hv.2 old new state) refl;
}

pub good : (names : List Named) (text : Option (List ℕ)) (p : Program) → IsMade names text p → IsGood names text
good names text p h = (h.0, h.1)

pub refused_here : (names : List Named) (owner : List ℕ) (text : Option (List ℕ)) (rest : List (List ℕ × Option (List ℕ))) (e : MeaningRefusal) → UnlessMemory e (RefusesOptional names owner text e) → UnlessMemory e (RefusesFirst names ((owner, text) ∷ rest) e)
refused_here names owner text rest e h = unless e (RefusesOptional names owner text e) (RefusesFirst names ((owner, text) ∷ rest) e) (λ x. here x) h

pub refused_later : (names : List Named) (owner : List ℕ) (text : Option (List ℕ)) (rest : List (List ℕ × Option (List ℕ))) (e : MeaningRefusal) → IsGood names text → UnlessMemory e (RefusesFirst names rest e) → UnlessMemory e (RefusesFirst names ((owner, text) ∷ rest) e)
refused_later names owner text rest e g h = unless e (RefusesFirst names rest e) (RefusesFirst names ((owner, text) ∷ rest) e) (λ x. later g x) h
