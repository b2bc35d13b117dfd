-- The loops over the tokens of a text.
use Rattle.std.proofs.Common.{◌≡◌, ℕ, suc, ◌+◌, ◌<◌, ◌≤◌, refl, sym, ◌∙◌, ap, subst, Bool, true, false, if◌then◌else◌, List, [], ◌∷◌, ◌++◌, length, take, drop, drop-cons, add-one, get_or, Option, Some, None, is_some}
use Rattle.std.proofs.lemmas.List.{take_more, take-append-drop, append-nil, take_all, drop_all, map-append}
use Rattle.tern_core.specs.declared.tern.Tern.{Tern}
use Rattle.liberty_function.specs.declared.words.Word.{Word}
use Rattle.liberty_function.specs.declared.words.Word.TheVariants.{Quote, Bang, Caret, And, Or, Open, Close, Zero, One, Name, Other}
use Rattle.liberty_function.specs.declared.words.Placed.{Placed}
use Rattle.liberty_function.specs.declared.program.Source.{Source}
use Rattle.liberty_function.specs.declared.program.Step.{Step}
use Rattle.liberty_function.specs.Sources.{Named, sources_of, source_value, source_among}
use Rattle.liberty_function.specs.Words.{bare}
use Rattle.liberty_function.specs.Function.{Function, IsFunction, IsFront, CannotFollow, value_of}
use Rattle.liberty_function.specs.Compiling.{Standing, taken, finished, fits, last_value}
use Rattle.liberty_function.specs.Texts.{unknown_or, unknown_among, name_value, steps_value}
use Rattle.liberty_function.proofs.Accepts.{IsAfter, after_more, after_front, stuck, finishes, too_early, fits_function, program_leaves, constant_value}
use Rattle.liberty_function.proofs.Compiles.{program_of}

unknown_if : (names : List Named) (n : List ℕ) (more : Option (List ℕ)) (t : Bool) → (if t then None else Some n) ≡ None → (if t then more else Some n) ≡ more
unknown_if names n more true e = refl
unknown_if names n more false e = absurd (cc)

known_or : (names : List Named) (w : Word) (more : Option (List ℕ)) → unknown_or names w None ≡ None → unknown_or names w more ≡ more
known_or names (Name n) more e = unknown_if names n more (is_some (source_among names n)) e
known_or names Quote more e = refl
known_or names Bang more e = refl
known_or names Caret more e = refl
known_or names And more e = refl
known_or names Or more e = refl
known_or names Open more e = refl
known_or names Close more e = refl
known_or names Zero more e = refl
known_or names One more e = refl
known_or names Other more e = refl

found_if : (n m : List ℕ) (more : Option (List ℕ)) (t : Bool) → (if t then None else Some n) ≡ Some m → (if t then more else Some n) ≡ Some m
found_if n m more true e = absurd (cc)
found_if n m more false e = e

found_or : (names : List Named) (w : Word) (m : List ℕ) (more : Option (List ℕ)) → unknown_or names w None ≡ Some m → unknown_or names w more ≡ Some m
found_or names (Name n) m more e = found_if n m more (is_some (source_among names n)) e
found_or names Quote m more e = absurd (cc)
found_or names Bang m more e = absurd (cc)
found_or names Caret m more e = absurd (cc)
found_or names And m more e = absurd (cc)
found_or names Or m more e = absurd (cc)
found_or names Open m more e = absurd (cc)
found_or names Close m more e = absurd (cc)
found_or names Zero m more e = absurd (cc)
found_or names One m more e = absurd (cc)
found_or names Other m more e = absurd (cc)

pub known_here : (names : List Named) (words : List Placed) (i : ℕ) (p : Placed) → i < length words → p ≡ get_or words i p → unknown_or names p.word None ≡ None → unknown_among names (bare (drop i words)) ≡ unknown_among names (bare (drop (i + 1) words))
unfolding unknown_among
known_here names words i p h is e =
    let d : drop i words ≡ p ∷ drop (i + 1) words = rw add-one (drop-cons words i p h ∙ ap (λ k. k ∷ drop (suc i) words) (sym is)) in
    rw d (known_or names p.word (unknown_among names (bare (drop (i + 1) words))) e)

pub found_here : (names : List Named) (words : List Placed) (i : ℕ) (p : Placed) (n : List ℕ) → i < length words → p ≡ get_or words i p → unknown_or names p.word None ≡ Some n → unknown_among names (bare (drop i words)) ≡ Some n
unfolding unknown_among
found_here names words i p n h is e =
    let d : drop i words ≡ p ∷ drop (i + 1) words = rw add-one (drop-cons words i p h ∙ ap (λ k. k ∷ drop (suc i) words) (sym is)) in
    rw d (found_or names p.word n (unknown_among names (bare (drop (i + 1) words))) e)

pub known_end : (names : List Named) (words : List Placed) (i : ℕ) → length words ≤ i → unknown_among names (bare (drop i words)) ≡ None
unfolding unknown_among
known_end names words i h =
    let d : drop i words ≡ [] = drop_all i words h in
    rw d refl

pub stuck_here : (sources : List ℕ → Source) (words : List Placed) (i end : ℕ) (p : Placed) (c : Standing) → i < length words → p ≡ get_or words i p → IsAfter sources (bare (take i words)) c → taken sources c p.word ≡ None
    → (before : List Placed) × (rest : List Placed) × (words ≡ before ++ rest) × IsFront (bare before) × CannotFollow (bare before) rest end p.place
stuck_here sources words i end p c h is a e =
    let d : drop i words ≡ p ∷ drop (suc i) words = drop-cons words i p h ∙ ap (λ k. k ∷ drop (suc i) words) (sym is) in
    (take i words, p ∷ drop (suc i) words, sym (rw (← d) (take-append-drop i words)), after_front sources (bare (take i words)) c a, (refl, stuck sources (bare (take i words)) c p.word a e))

pub more_here : (sources : List ℕ → Source) (words : List Placed) (i : ℕ) (p : Placed) (c d : Standing) → i < length words → p ≡ get_or words i p → IsAfter sources (bare (take i words)) c → taken sources c p.word ≡ Some d → IsAfter sources (bare (take (i + 1) words)) d
more_here sources words i p c d h is a e =
    let t : take (i + 1) words ≡ take i words ++ p ∷ [] = take_more words i p h ∙ ap (λ k. take i words ++ k ∷ []) (sym is) in
    let b : bare (take i words) ++ p.word ∷ [] ≡ bare (take (i + 1) words) = rw t (sym (map-append (λ (q : Placed). q.word) (take i words) (p ∷ []))) in
    subst (λ k. IsAfter sources k d) b (after_more sources (bare (take i words)) c d p.word a e)

pub whole_after : (sources : List ℕ → Source) (words : List Placed) (i : ℕ) (c : Standing) → length words ≤ i → IsAfter sources (bare (take i words)) c → IsAfter sources (bare words) c
whole_after sources words i c h a = subst (λ k. IsAfter sources (bare k) c) (take_all i words h) a

pub early_here : (sources : List ℕ → Source) (words : List Placed) (end : ℕ) (c : Standing) → IsAfter sources (bare words) c → finished c ≡ None
    → (before : List Placed) × (rest : List Placed) × (words ≡ before ++ rest) × IsFront (bare before) × CannotFollow (bare before) rest end end
early_here sources words end c a e = (words, [], sym (append-nil words), after_front sources (bare words) c a, (refl, too_early sources (bare words) c a e))

made_at : (names : List Named) (ts : List Word) (f : Function) (steps : List Step) → IsFunction ts f → steps ≡ program_of (sources_of names) f
    → (fits steps 0 ≡ true) × ((f : Function) × IsFunction ts f × ((pins : List Tern) (state : List Tern) → steps_value pins state steps ≡ value_of (name_value names pins state) f))
made_at names ts f steps h e = (
  rw e (fits_function (sources_of names) ts f h),
  (f, h, λ pins state. rw e (ap last_value (program_leaves (sources_of names) (source_value pins state) (constant_value pins state) f))),
)

pub made_here : (names : List Named) (ts : List Word) (c : Standing) (steps : List Step) → IsAfter (sources_of names) ts c → finished c ≡ Some steps
    → (fits steps 0 ≡ true) × ((f : Function) × IsFunction ts f × ((pins : List Tern) (state : List Tern) → steps_value pins state steps ≡ value_of (name_value names pins state) f))
made_here names ts c steps a e = let m = finishes (sources_of names) ts c steps a e in made_at names ts m.0 steps m.1 m.2

pub is_else : (b : Bool) (x : Option Standing) (d : Standing) → x ≡ (if b then Some d else None) → b ≡ false → x ≡ None
is_else b x d e f = rw f at e

pub is_then : (b : Bool) (x : Option Standing) (d : Standing) → x ≡ (if b then Some d else None) → b ≡ true → x ≡ Some d
is_then b x d e f = rw f at e
