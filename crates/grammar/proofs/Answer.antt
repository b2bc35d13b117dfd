-- What a reader with one token of look-ahead answers is what the rule says.
use Rattle.std.proofs.Common.{◌≡◌, Bool, false, List, [], ◌∷◌, ◌++◌, Result, Ok, Err, refl, sym, ap, subst, ◌∙◌, append_assoc}
use Rattle.std.proofs.lemmas.List.{append-nil, append_cancel_right}
use Rattle.grammar.specs.Rule.{Rule, Front, IsFront, Whole}
use Rattle.grammar.specs.Reading.{Stop, syntax, refusal, read, IsSimple}
use Rattle.grammar.specs.Answers.{NoFurther, StopsAt, RefusesAt, IsAnswer, to_end, read_all}
use Rattle.grammar.proofs.Fronts.{FrontThen}
use Rattle.grammar.proofs.Prefix.{Nothing}
use Rattle.grammar.proofs.Passes.{like_nothing}
use Rattle.grammar.proofs.Cuts.{cuts}
use Rattle.grammar.proofs.Tells.{Tells, tells}
use Rattle.grammar.proofs.Stops.{front_then}
use Rattle.grammar.proofs.Complete.{only}
use Rattle.grammar.proofs.Refuses.{comes, last_on-append}

-- nothing follows the whole list
abbrev nothing_follows : {T : Type 0} → T → Bool
nothing_follows t = false

front_ends : {T S E : Type 0} (a : Rule T S E) (us : List T) (t : T) → (FrontThen a Nothing (us ++ t ∷ []) → (t ∷ []) ≡ []) → IsFront a (us ++ t ∷ []) → ⊥
front_ends a us t h f = absurd (let bad = h (front_then a Nothing (us ++ t ∷ []) f refl) in cc)

stops_here : {T S E : Type 0} (a : Rule T S E) (s : S) (ts rest : List T) → ((m : S) → Whole a s ts m → ⊥) → Tells a nothing_follows s ts (Err (syntax rest)) → StopsAt a s ts rest
stops_here {T} {S} {E} a s ts rest open_end ta = record { us = ta.us; state = ta.shows.0; parts = ta.parts; front = ta.shows.1; no_further = none rest ta }
  where
    none : (rest : List T) → (ta : Tells a nothing_follows s ts (Err (syntax rest))) → NoFurther a s ta.us rest
    none [] ta = λ m w. open_end m (subst (λ z. Whole a s z m) (sym (ta.parts ∙ append-nil ta.us)) w)
    none (t ∷ more) ta = front_ends a ta.us t (λ f. ta.only Nothing (like_nothing nothing_follows) (t ∷ []) refl f)

-- a whole text, and a token more
leftover : {T S E : Type 0} (a : Rule T S E) (s m : S) (ts : List T) (t : T) (more : List T) → Tells a nothing_follows s ts (Ok (m, t ∷ more)) → StopsAt a s ts (t ∷ more)
leftover a s m ts t more ta =
    let c = cuts a s ts m (t ∷ more) ta.shows in
    let same : c.us ≡ ta.us = append_cancel_right c.us ta.us (t ∷ more) (sym c.parts ∙ ta.parts) in
    record {
      us = ta.us;
      state = c.state;
      parts = ta.parts;
      front = subst (λ z. Front a s z (Ok c.state)) same c.front;
      no_further = front_ends a ta.us t (λ f. ta.only Nothing (like_nothing nothing_follows) (t ∷ []) refl f);
    }

refuses_here : {T S E : Type 0} (a : Rule T S E) (s : S) (ts rest : List T) (e : E) → Tells a nothing_follows s ts (Err (refusal e rest)) → RefusesAt a s ts e rest
refuses_here a s ts [] e ta = absurd ta.shows
refuses_here a s ts (t ∷ more) e ta = record { us = ta.us; token = t; more = more; is_rest = refl; parts = ta.parts; front = ta.shows }

-- what is read to the end of the list is its answer
pub answers : {T S E : Type 0} (a : Rule T S E) → IsSimple a (λ t. false) → (s : S) (ts : List T) → IsAnswer a s ts (read_all a s ts)
unfolding Whole
answers {T} {S} {E} a h s ts = go (read a s ts) (tells a (λ t. false) h s ts) (λ m w. only a h s m ts w)
  where
    go : (o : Result (S × List T) (Stop T E)) → Tells a (λ t. false) s ts o → ((m : S) → Whole a s ts m → o ≡ Ok (m, [])) → IsAnswer a s ts (to_end o)
    go (Ok (m, [])) ta w = ta.shows
    go (Ok (m, (t ∷ more))) ta w = leftover a s m ts t more ta
    go (Err (syntax rest)) ta w = stops_here a s ts rest (λ m g. absurd (let bad = w m g in cc)) ta
    go (Err (refusal e rest)) ta w = refuses_here a s ts rest e ta

-- a whole list is read, with its value
pub value_is_read : {T S E : Type 0} (a : Rule T S E) → IsSimple a (λ t. false) → (s m : S) (ts : List T) → Whole a s ts m → read_all a s ts ≡ Ok m
value_is_read a h s m ts w = ap to_end (only a h s m ts w)

-- a refusal is read
pub refusal_is_read : {T S E : Type 0} (a : Rule T S E) → IsSimple a (λ t. false) → (s : S) (ts rest : List T) (e : E) → RefusesAt a s ts e rest → read_all a s ts ≡ Err (refusal e rest)
refusal_is_read {T} a h s ts rest e r =
    let front_of : List T = r.us ++ r.token ∷ [] in
    let whole_list : ts ≡ front_of ++ r.more = r.parts ∙ ap (λ z. r.us ++ z) r.is_rest ∙ sym (append_assoc r.us (r.token ∷ []) r.more) in
    ap (λ z. to_end (read a s z)) whole_list
    ∙ ap to_end (comes a (λ t. false) h s front_of r.more e r.front)
    ∙ ap (λ z. Err (refusal e z)) (last_on-append r.us r.token [] r.more ∙ sym r.is_rest)
