-- What a rule says of the first tokens of a list is what is read of them.
use Rattle.std.proofs.Common.{◌≡◌, Bool, true, false, List, [], ◌∷◌, Ok, Err, refl, sym, ap, subst, ◌∙◌}
use Rattle.grammar.specs.Rule.{Rule, none, one, seq}
use Rattle.grammar.specs.Reading.{◌>>=◌, read, IsSimple}
use Rattle.grammar.specs.Answers.{IsAnswer, read_all, to_end}
use Rattle.grammar.proofs.Answer.{answers}
use Rattle.grammar.proofs.Unique.{answer_is_read}
use Rattle.grammar.proofs.Complete.{Begins, complete}
use Rattle.grammar.proofs.Tells.{Tells, tells}
use Rattle.grammar.proofs.Stops.{many_turn}
use Rattle.lef_reader.specs.First.{First, IsFirst, anything}

abbrev any_token : (T S E : Type 0) → Rule T S E
any_token T S E = one (λ t. true) (λ t s. Ok s) (λ t. none)

one_simple : (T S E : Type 0) (next : T → Bool) → IsSimple (any_token T S E) next
unfolding IsSimple
one_simple T S E next t e = tt

-- anything is read to its end
anything_read : (T S E : Type 0) (s : S) (ts : List T) → read (anything {S = S} {E = E}) s ts ≡ Ok (s, [])
anything_read T S E s [] = refl
anything_read T S E s (t ∷ ts) = many_turn (any_token T S E) (λ t. false) (one_simple T S E _) refl s (t ∷ ts) refl ∙ anything_read T S E s ts

-- the rule is simple, whatever follows it
abbrev pub Simple : {T S E : Type 0} → Rule T S E → Type 0
Simple {T} a = (next : T → Bool) → IsSimple a next

with_anything : {T S E : Type 0} (a : Rule T S E) → Simple a → IsSimple (seq a anything) (λ t. false)
unfolding IsSimple
with_anything {T} {S} {E} a h = (h _, (refl, refl, (λ t e. refl), one_simple T S E (λ t. true)))

read_on : {T S E : Type 0} (a : Rule T S E) (s : S) (ts : List T) (o : First T S E) → read a s ts ≡ o → read_all (seq a anything) s ts ≡ to_end (o >>= λ x. read anything x.0 x.1)
read_on a s ts o e = ap (λ r. to_end (r >>= λ x. read anything x.0 x.1)) e

-- what is read is what the rule says
pub first_answers : {T S E : Type 0} (a : Rule T S E) → Simple a → (s : S) (ts : List T) → IsFirst a s ts (read a s ts)
first_answers {T} {S} {E} a h s ts = go (read a s ts) refl (tells a (λ t. true) (h _) s ts) (answers (seq a anything) (with_anything a h) s ts)
  where
    go : (o : First T S E) → read a s ts ≡ o → Tells a (λ t. true) s ts o → IsAnswer (seq a anything) s ts (read_all (seq a anything) s ts) → IsFirst a s ts o
    go (Ok x) e ta w = ta.shows
    go (Err stop) e ta w = subst (λ r. IsAnswer (seq a anything) s ts r) (read_on a s ts (Err stop) e) w

begins_true : {T : Type 0} (ts : List T) → Begins (λ t. true) ts
begins_true [] = tt
begins_true (t ∷ ts) = refl

-- whatever the rule says is read
pub first_is_read : {T S E : Type 0} (a : Rule T S E) → Simple a → (s : S) (ts : List T) (o : First T S E) → IsFirst a s ts o → read a s ts ≡ o
first_is_read a h s ts (Ok x) w = complete a (λ t. true) (h _) s x.0 ts x.1 w (begins_true x.1)
first_is_read {T} {S} {E} a h s ts (Err stop) w = go (read a s ts) refl
  where
    all : read_all (seq a anything) s ts ≡ Err stop
    all = answer_is_read (seq a anything) (with_anything a h) s ts (Err stop) w

    go : (o : First T S E) → read a s ts ≡ o → o ≡ Err stop
    go (Ok x) e = absurd (let whole : to_end (read (anything {S = S} {E = E}) x.0 x.1) ≡ Ok x.0 = ap to_end (anything_read T S E x.0 x.1) in let bad = sym whole ∙ sym (read_on a s ts (Ok x) e) ∙ all in cc)
    go (Err other) e = let same = sym (read_on a s ts (Err other) e) ∙ all in ap Err (let g : to_end {S = S} (Err other) ≡ Err stop = same in cc)
