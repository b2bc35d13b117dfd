-- Findings without values that differ.
use Rattle.std.proofs.Common.{◌≡◌, refl, ◌<◌, ℕ, List, [], ◌∷◌, length, Option, Some, None, arith}
use Rattle.std.specs.Option.{option_map}
use Rattle.verdict_text.specs.Told.{told_tail, told_waiver}

pub short_tail : (ws : List (List ℕ)) → length ws < 8 → told_tail ws ≡ option_map (λ w. (None, w)) (told_waiver ws)
short_tail [] h = refl
short_tail (a ∷ []) h = refl
short_tail (a ∷ b ∷ []) h = refl
short_tail (a ∷ b ∷ c ∷ []) h = refl
short_tail (a ∷ b ∷ c ∷ d ∷ []) h = refl
short_tail (a ∷ b ∷ c ∷ d ∷ e ∷ []) h = refl
short_tail (a ∷ b ∷ c ∷ d ∷ e ∷ f ∷ []) h = refl
short_tail (a ∷ b ∷ c ∷ d ∷ e ∷ f ∷ g ∷ []) h = refl
short_tail (a ∷ b ∷ c ∷ d ∷ e ∷ f ∷ g ∷ i ∷ ws) h = absurd (omega arith)
