use Rattle.std.proofs.Common.{◌≡◌, ℕ, ◌<◌, List, length, sym, ◌∙◌, arith}
use Rattle.std.proofs.lemmas.List.{same_lists, get_or_default}
use Rattle.tern_core.specs.declared.tern.Tern.{Tern}
use Rattle.tern_core.specs.declared.tern.Tern.TheVariants.{Unknown}
use Rattle.switch_response.specs.Walks.{value_at}

pub same_states : (a b : List Tern) → length a ≡ length b → ((k : ℕ) → k < length a → value_at a k ≡ value_at b k) → b ≡ a
same_states a b e h = sym (same_lists a b e (λ k d lt.
    get_or_default a k d Unknown lt ∙ h k lt ∙ sym (get_or_default b k d Unknown (omega arith))))
