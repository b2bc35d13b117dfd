-- Tokens that are held before those of a cursor.
use Rattle.std.proofs.Common.{◌≡◌, ℕ, zero, suc, ◌≤◌, ◌<◌, Bool, true, false, not, ◌&&◌, nat_le, List, [], ◌∷◌, ◌++◌, length, drop, refl, sym, ap, ◌∙◌, arith}
use Rattle.std.specs.Prelude.{Some, None, slice_get, if◌then◌else◌}
use Rattle.std.proofs.lemmas.Bool.{leb-true, le-leb}
use Rattle.std.specs.List.{list_all}
use Rattle.text_scan.specs.declared.token.Token.{Token}
use Rattle.text_scan.specs.Left.{is_end, followed, IsSliceOf}
use Rattle.verilog_directives.specs.declared.held.Held.{Held}
use Rattle.verilog_directives.specs.declared.held.Held.TheVariants.{Nothing, One, Two, Three, Four}
use Rattle.verilog_directives.specs.Held.{tokens, is_inside, are_inside}

-- no token is held
pub held_none : (held : Held) → None ≡ slice_get (tokens held) 0 → tokens held ≡ []
held_none Nothing e = refl
held_none (One a) e = cc
held_none (Two a b) e = cc
held_none (Three a b c) e = cc
held_none (Four a b c d) e = cc

pub few_held : (held : Held) → length (tokens held) ≤ 0 → tokens held ≡ []
few_held Nothing e = refl
few_held (One a) e = absurd (omega arith)
few_held (Two a b) e = absurd (omega arith)
few_held (Three a b c) e = absurd (omega arith)
few_held (Four a b c d) e = absurd (omega arith)

-- the first of the tokens that are held
pub held_first : (held : Held) (t : Token) → Some t ≡ slice_get (tokens held) 0 → tokens held ≡ t ∷ drop 1 (tokens held)
held_first Nothing t e = cc
held_first (One a) t e = cc
held_first (Two a b) t e = cc
held_first (Three a b c) t e = cc
held_first (Four a b c d) t e = cc

pub room_after : (held : Held) → length (drop 1 (tokens held)) < 4
room_after Nothing = omega arith
room_after (One a) = omega arith
room_after (Two a b) = omega arith
room_after (Three a b c) = omega arith
room_after (Four a b c d) = omega arith

and_parts : (a b : Bool) → (a && b) ≡ true → (a ≡ true) × (b ≡ true)
and_parts true b e = (refl, e)
and_parts false b e = cc

all_rest : {A : Type 0} (p : A → Bool) (xs : List A) → list_all p xs ≡ true → list_all p (drop 1 xs) ≡ true
all_rest p [] e = refl
all_rest p (x ∷ xs) e = (and_parts (p x) (list_all p xs) e).1

all_first : {A : Type 0} (p : A → Bool) (x : A) (xs : List A) → list_all p (x ∷ xs) ≡ true → p x ≡ true
all_first p x xs e = (and_parts (p x) (list_all p xs) e).0

-- the others are inside where all are
pub inside_rest : (bytes : ℕ) (held rest : Held) → are_inside bytes held ≡ true → tokens rest ≡ drop 1 (tokens held) → are_inside bytes rest ≡ true
inside_rest bytes held rest all e = ap (list_all (is_inside bytes)) e ∙ all_rest (is_inside bytes) (tokens held) all

all_here : {A : Type 0} (p : A → Bool) (xs : List A) (k : ℕ) (x : A) → list_all p xs ≡ true → Some x ≡ slice_get xs k → p x ≡ true
all_here p [] k x all e = cc
all_here p (y ∷ xs) zero x all e = let same : x ≡ y = cc in ap p same ∙ (and_parts (p y) (list_all p xs) all).0
all_here p (y ∷ xs) (suc k) x all e = all_here p xs k x (and_parts (p y) (list_all p xs) all).1 e

all_append : {A : Type 0} (p : A → Bool) (xs : List A) (x : A) → list_all p xs ≡ true → p x ≡ true → list_all p (xs ++ x ∷ []) ≡ true
all_append p [] x all e = ap (λ z. z && true) e
all_append p (y ∷ xs) x all e =
    let parts = and_parts (p y) (list_all p xs) all in
    ap (λ z. z && list_all p (xs ++ x ∷ [])) parts.0 ∙ all_append p xs x parts.1 e

not_true : (b : Bool) → not b ≡ true → b ≡ false
not_true true e = cc
not_true false e = refl

-- a token that isn't the end, and a slice of the text
pub inside_no_end : (bytes : ℕ) (t : Token) → is_inside bytes t ≡ true → is_end t.kind ≡ false
unfolding is_inside
inside_no_end bytes t e = not_true (is_end t.kind) (and_parts (not (is_end t.kind)) _ e).0

pub inside_slice : (text : List ℕ) (t : Token) → is_inside (length text) t ≡ true → IsSliceOf text t
unfolding is_inside
inside_slice text t e =
    let parts = and_parts (nat_le t.span.start t.span.end) (nat_le t.span.end (length text)) (and_parts (not (is_end t.kind)) _ e).1 in
    record { ordered = leb-true _ _ parts.0; inside = leb-true _ _ parts.1 }

pub slice_inside : (text : List ℕ) (t : Token) → IsSliceOf text t → is_end t.kind ≡ false → is_inside (length text) t ≡ true
unfolding is_inside
slice_inside text t slice shut =
    ap (λ z. not z && (nat_le t.span.start t.span.end && nat_le t.span.end (length text))) shut
    ∙ ap (λ z. z && nat_le t.span.end (length text)) (le-leb _ _ slice.ordered) ∙ le-leb _ _ slice.inside

-- a token that is held
pub held_inside : (bytes : ℕ) (held : Held) (k : ℕ) (t : Token) → are_inside bytes held ≡ true → Some t ≡ slice_get (tokens held) k → is_inside bytes t ≡ true
held_inside bytes held k t all e = all_here (is_inside bytes) (tokens held) k t all e

pub inside_first : (bytes : ℕ) (held more : Held) (t : Token) → are_inside bytes held ≡ true → is_inside bytes t ≡ true → tokens more ≡ t ∷ tokens held → are_inside bytes more ≡ true
inside_first bytes held more t all here e = ap (list_all (is_inside bytes)) e ∙ ap (λ z. z && list_all (is_inside bytes) (tokens held)) here ∙ all

pub inside_last : (bytes : ℕ) (held more : Held) (t : Token) → are_inside bytes held ≡ true → is_inside bytes t ≡ true → tokens more ≡ tokens held ++ t ∷ [] → are_inside bytes more ≡ true
inside_last bytes held more t all here e = ap (list_all (is_inside bytes)) e ∙ all_append (is_inside bytes) (tokens held) t all here

all_drop : {A : Type 0} (p : A → Bool) (n : ℕ) (xs : List A) → list_all p xs ≡ true → list_all p (drop n xs) ≡ true
all_drop p zero xs e = e
all_drop p (suc n) [] e = refl
all_drop p (suc n) (x ∷ xs) e = all_drop p n xs (and_parts (p x) (list_all p xs) e).1

pub inside_drop : (bytes n : ℕ) (held rest : Held) → are_inside bytes held ≡ true → tokens rest ≡ drop n (tokens held) → are_inside bytes rest ≡ true
inside_drop bytes n held rest all e = ap (list_all (is_inside bytes)) e ∙ all_drop (is_inside bytes) n (tokens held) all

-- a token and those after it, where it isn't the end
pub followed-open : (t : Token) (ts : List Token) → is_end t.kind ≡ false → followed t ts ≡ t ∷ ts
unfolding followed
followed-open t ts shut = rw shut

-- what follows a token begins with it
pub followed-first : (t : Token) (ts : List Token) → (rest : List Token) × (followed t ts ≡ t ∷ rest)
unfolding followed
followed-first t ts = elim (is_end t.kind) as (λ b. (rest : List Token) × ((if b then t ∷ [] else t ∷ ts) ≡ t ∷ rest)) [ true ↦ ([], refl) | false ↦ (ts, refl) ]

pub get-front : {A : Type 0} (xs ys : List A) (k : ℕ) (x : A) → Some x ≡ slice_get xs k → slice_get (xs ++ ys) k ≡ Some x
get-front [] ys k x e = cc
get-front (y ∷ xs) ys zero x e = sym e
get-front (y ∷ xs) ys (suc k) x e = get-front xs ys k x e

pub get-seam : {A : Type 0} (xs : List A) (x : A) (ys : List A) → slice_get (xs ++ x ∷ ys) (length xs) ≡ Some x
get-seam [] x ys = refl
get-seam (y ∷ xs) x ys = get-seam xs x ys

-- a place that isn't held is not below their number
pub none_past : {A : Type 0} (xs : List A) (k : ℕ) → None ≡ slice_get xs k → length xs ≤ k
none_past [] k e = omega arith
none_past (x ∷ xs) zero e = cc
none_past (x ∷ xs) (suc k) e = let less = none_past xs k e in omega arith

-- a place that is held is
pub some_within : {A : Type 0} (xs : List A) (k : ℕ) (x : A) → Some x ≡ slice_get xs k → k < length xs
some_within [] k x e = cc
some_within (y ∷ xs) zero x e = omega arith
some_within (y ∷ xs) (suc k) x e = let less = some_within xs k x e in omega arith
