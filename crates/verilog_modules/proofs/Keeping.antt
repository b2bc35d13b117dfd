-- What holds of the state before a rule is taken, and what after it.
use Rattle.std.proofs.Common.{◌≡◌, ℕ, zero, suc, Bool, true, List, ◌∷◌, Result, Ok, inl, inr, sym, subst, ◌∙◌}
use Rattle.grammar.specs.Rule.{Rule, none, one, before, seq, alt, many, Takes, Turns}

-- where P holds of a state and the items before it, Q holds of what the rule leaves
abbrev pub Leads : {T S E : Type 0} → (S → List T → Type 0) → Rule T S E → (S → List T → Type 0) → Type 0
Leads {T} {S} P a Q = (s : S) (ts : List T) (t : S) (rest : List T) → P s ts → Takes a s ts t rest → Q t rest

moved : {T S : Type 0} (P : S → List T → Type 0) (s t : S) (ts us : List T) → ts ≡ us → s ≡ t → P s ts → P t us
moved P s t ts us e f h = subst (λ x. P x us) f (subst (P s) e h)

pub leads_none : {T S : Type 0} (E : Type 0) (P : S → List T → Type 0) → Leads {T = T} {S = S} {E = E} P none P
unfolding Takes
leads_none E P s ts t rest h k = moved P s t ts rest k.0 k.1 h

pub leads_before : {T S : Type 0} (E : Type 0) (P Q : S → List T → Type 0) (p : T → Bool) → ((s : S) (x : T) (us : List T) → p x ≡ true → P s (x ∷ us) → Q s (x ∷ us)) → Leads {T = T} {S = S} {E = E} P (before p) Q
unfolding Takes
leads_before E P Q p f s ts t rest h k =
    let at : ts ≡ k.0 ∷ k.1 = k.4 ∙ k.2 in
    moved Q s t (k.0 ∷ k.1) rest (sym k.2) k.5 (f s k.0 k.1 k.3 (subst (P s) at h))

pub leads_one : {T S E : Type 0} (P Q R : S → List T → Type 0) (p : T → Bool) (f : T → S → Result S E) (next : T → Rule T S E)
    → ((x : T) (us : List T) (s m : S) → p x ≡ true → P s (x ∷ us) → f x s ≡ Ok m → Q m us)
    → ((x : T) → p x ≡ true → Leads Q (next x) R) → Leads P (one p f next) R
unfolding Takes
leads_one P Q R p f next act then s ts t rest h k =
    then k.0 k.4 k.2 k.1 t rest (act k.0 k.1 s k.2 k.4 (subst (P s) k.3 h) k.5) k.6

pub leads_seq : {T S E : Type 0} (P Q R : S → List T → Type 0) (a b : Rule T S E) → Leads P a Q → Leads Q b R → Leads P (seq a b) R
unfolding Takes
leads_seq P Q R a b f g s ts t rest h k = g k.1 k.0 t rest (f s ts k.1 k.0 h k.2) k.3

pub leads_alt : {T S E : Type 0} (P Q : S → List T → Type 0) (a b : Rule T S E) → Leads P a Q → Leads P b Q → Leads P (alt a b) Q
unfolding Takes
leads_alt P Q a b f g s ts t rest h (inl k) = f s ts t rest h k
leads_alt P Q a b f g s ts t rest h (inr k) = g s ts t rest h k

turns_lead : {T S E : Type 0} (P : S → List T → Type 0) (a : Rule T S E) → Leads P a P → (n : ℕ) (s : S) (ts : List T) (t : S) (rest : List T) → P s ts → Turns (Takes a) n s ts t rest → P t rest
unfolding Turns
turns_lead P a f zero s ts t rest h k = moved P s t ts rest k.0 k.1 h
turns_lead P a f (suc n) s ts t rest h k = turns_lead P a f n k.1 k.0 t rest (f s ts k.1 k.0 h k.2) k.3

pub leads_many : {T S E : Type 0} (P : S → List T → Type 0) (a : Rule T S E) → Leads P a P → Leads P (many a) P
unfolding Takes
leads_many P a f s ts t rest h k = turns_lead P a f k.0 s ts t rest h k.1

-- what is weaker before, or stronger after
pub leads_from : {T S E : Type 0} (P Q R : S → List T → Type 0) (a : Rule T S E) → ((s : S) (ts : List T) → P s ts → Q s ts) → Leads Q a R → Leads P a R
leads_from P Q R a w f s ts t rest h k = f s ts t rest (w s ts h) k

pub leads_to : {T S E : Type 0} (P Q R : S → List T → Type 0) (a : Rule T S E) → ((s : S) (ts : List T) → Q s ts → R s ts) → Leads P a Q → Leads P a R
leads_to P Q R a w f s ts t rest h k = w t rest (f s ts t rest h k)
