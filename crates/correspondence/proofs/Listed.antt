-- The entries of rows, when one comes and when they are put in order.
use Rattle.std.proofs.Common.{◌≡◌, ◌+◌, ◌<◌, ◌++◌, ◌∷◌, [], ℕ, List, inl, inr, sym, subst, arith}
use Rattle.std.specs.Prelude.{All, Contains, IsPermutation}
use Rattle.std.proofs.lemmas.Bool.{cases_lt}
use Rattle.std.proofs.lemmas.List.Elements.{All-push, Contains-append_left, Contains-push}
use Rattle.std.proofs.lemmas.List.Sorted.{All-permutation, Contains-permutation}
use Rattle.table_source.specs.declared.Row.{Row}
use Rattle.correspondence.specs.Index.{AreEntriesOf, IsEntryOf, IsListed}
use Rattle.correspondence.specs.declared.entry.Entry.{Entry}

pub all_more : (rows : List Row) (old new : List Entry) (e : Entry) → new ≡ old ++ e ∷ [] → All (IsEntryOf rows) old → IsEntryOf rows e → All (IsEntryOf rows) new
all_more rows old new e is own one = subst (All (IsEntryOf rows)) (sym is) (All-push (IsEntryOf rows) old e own one)

pub listed_more : (old new : List Entry) (e : Entry) (i : ℕ) → new ≡ old ++ e ∷ [] → e.row ≡ i → ((place : ℕ) → place < i → IsListed old place)
    → (place : ℕ) → place < i + 1 → IsListed new place
listed_more old new e i is own listed place lt =
    elim (cases_lt place i) [
      | inl before ↦
          let l = listed place before in
          record { entry = l.entry; among = subst (λ es. Contains es l.entry) (sym is) (Contains-append_left old (e ∷ []) l.entry l.among); own = l.own }
      | inr le ↦
          record { entry = e; among = subst (λ es. Contains es e) (sym is) (Contains-push old e); own = omega arith }
    ]

pub permuted : (rows : List Row) (old new : List Entry) → IsPermutation old new → AreEntriesOf rows old → AreEntriesOf rows new
permuted rows old new moved are = record {
  own = All-permutation (IsEntryOf rows) old new moved are.own;
  listed = λ place lt.
      let l = are.listed place lt in
      record { entry = l.entry; among = Contains-permutation old new l.entry moved l.among; own = l.own };
}
