-- What the actions of a rule keep, its texts keep.
use Rattle.std.proofs.Common.{◌≡◌, ℕ, zero, suc, true, List, Ok, subst, inl, inr}
use Rattle.grammar.specs.Rule.{Rule, none, one, before, seq, alt, many, Takes, Turns}

-- each action that passes keeps P
unfoldable pub Keeps : {T S E : Type 0} → (S → Type 0) → Rule T S E → Type 0
Keeps P none = Unit {0}
Keeps {T} {S} P (one p f k) = ((x : T) (s m : S) → p x ≡ true → P s → f x s ≡ Ok m → P m) × ((x : T) → Keeps P (k x))
Keeps P (before p) = Unit {0}
Keeps P (seq a b) = Keeps P a × Keeps P b
Keeps P (alt a b) = Keeps P a × Keeps P b
Keeps P (many a) = Keeps P a

pub turns_kept : {T S : Type 0} (P : S → Type 0) (R : S → List T → S → List T → Type 0)
    → ((s t : S) (ts rest : List T) → P s → R s ts t rest → P t)
    → (n : ℕ) (s t : S) (ts rest : List T) → P s → Turns R n s ts t rest → P t
unfolding Turns
turns_kept P R h zero s t ts rest p k = subst P k.1 p
turns_kept P R h (suc n) s t ts rest p k = turns_kept P R h n k.1 t k.0 rest (h s k.1 ts k.0 p k.2) k.3

pub rule_kept : {T S E : Type 0} (P : S → Type 0) (a : Rule T S E) → Keeps P a → (s t : S) (ts rest : List T) → P s → Takes a s ts t rest
    → P t
unfolding Keeps Takes
rule_kept P none h s t ts rest p k = subst P k.1 p
rule_kept P (one q f g) h s t ts rest p k = rule_kept P (g k.0) (h.1 k.0) k.2 t k.1 rest (h.0 k.0 s k.2 k.4 p k.5) k.6
rule_kept P (before q) h s t ts rest p k = subst P k.5 p
rule_kept P (seq a b) h s t ts rest p k = rule_kept P b h.1 k.1 t k.0 rest (rule_kept P a h.0 s k.1 ts k.0 p k.2) k.3
rule_kept P (alt a b) h s t ts rest p (inl k) = rule_kept P a h.0 s t ts rest p k
rule_kept P (alt a b) h s t ts rest p (inr k) = rule_kept P b h.1 s t ts rest p k
rule_kept P (many a) h s t ts rest p k = turns_kept P (Takes a) (rule_kept P a h) k.0 s t ts rest p k.1
