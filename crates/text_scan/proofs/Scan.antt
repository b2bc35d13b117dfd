-- One piece further in a text.
use Rattle.std.proofs.Common.{◌≡◌, ℕ, zero, suc, ◌+◌, ◌-◌, ◌<◌, ◌≤◌, List, [], ◌∷◌, length, length-drop, drop, take, true, false, get_or, cond, refl, ap, sym, subst, ◌∙◌, arith}
use Rattle.std.proofs.lemmas.List.{drop_more, take_rest, drop-drop, length-take-le}
use Rattle.std.proofs.Math.ListN.{drop_of_length-le}
use Rattle.text_scan.specs.declared.token.Kind.{Kind}
use Rattle.text_scan.specs.declared.token.Kind.TheVariants.{End, Word}
use Rattle.text_scan.specs.declared.token.Style.{Style}
use Rattle.text_scan.specs.declared.token.Place.{Place}
use Rattle.text_scan.specs.declared.token.Token.{Token}
use Rattle.text_scan.specs.declared.piece.Piece.TheVariants.{Passed, Shown}
use Rattle.text_scan.specs.Pieces.{piece}
use Rattle.text_scan.specs.Tokens.{over, after, token, size, before, tokens}
use Rattle.text_scan.specs.Left.{tokens_at, is_end, left, source, followed, IsSliceOf}
use Rattle.text_scan.specs.declared.cursor.Cursor.{Cursor}
use Rattle.text_scan.proofs.Places.{after_at}
use Rattle.text_scan.specs.Bytes.{until, is_blank}
use Rattle.text_scan.specs.Pieces.{ends_run}
use Rattle.text_scan.specs.Jumps.{forward}
use Rattle.text_scan.proofs.Until.{until-le}
use Rattle.text_scan.proofs.Flat.{after_word, blanks_pass, flat-run}
use Rattle.text_scan.proofs.Size.{piece-fits, ends as ends_text}

-- what is left of a piece is gone over
pub inside : (style : Style) (p : Place) (n : ℕ) (xs : List ℕ) → tokens style p n xs ≡ tokens style (after p (take n xs)) 0 (drop n xs)
unfolding tokens after
inside style p zero [] = refl
inside style p zero (b ∷ bs) = refl
inside style p (suc n) [] = refl
inside style p (suc n) (b ∷ bs) = inside style (over b p) n bs

further : (style : Style) (text : List ℕ) (p : Place) (b : ℕ) (bs : List ℕ) (n : ℕ) → drop p.at text ≡ b ∷ bs → suc n ≤ suc (length bs) → tokens style (over b p) n bs ≡ tokens_at style text (after p (take (suc n) (drop p.at text)))
unfolding tokens_at after
further style text p b bs n e le =
    let at : (after (over b p) (take n bs)).at ≡ p.at + suc n = after_at (b ∷ take n bs) p ∙ ap (λ z. p.at + suc z) (length-take-le n bs (omega arith)) in
    let rest : drop (p.at + suc n) text ≡ drop n bs = sym (drop-drop (suc n) p.at text) ∙ ap (drop (suc n)) e in
    rw e (inside style (over b p) n bs ∙ ap (λ z. tokens style (after (over b p) (take n bs)) 0 z) (sym rest ∙ ap (λ z. drop z text) (sym at)))

suc_of : (n : ℕ) → 0 < n → (m : ℕ) × (n ≡ suc m)
suc_of zero h = absurd (omega arith)
suc_of (suc m) h = (m, refl)

-- a piece before the tokens after it
pub turn : (style : Style) (text : List ℕ) (p : Place) (b : ℕ) (bs : List ℕ) → drop p.at text ≡ b ∷ bs
    → tokens_at style text p ≡ before (piece style b bs) p (tokens_at style text (after p (take (size (piece style b bs)) (drop p.at text))))
unfolding tokens_at tokens
turn style text p b bs e =
    let fits = piece-fits style b bs in
    let m = suc_of (size (piece style b bs)) fits.some in
    let within : suc m.0 ≤ suc (length bs) = subst (λ z. z ≤ suc (length bs)) m.1 fits.within in
    ap (λ z. tokens style p 0 z) e
    ∙ ap (λ z. before (piece style b bs) p (tokens style (over b p) (z - 1) bs)) m.1
    ∙ ap (λ z. before (piece style b bs) p z) (ap (λ z. tokens style (over b p) z bs) (let k : suc m.0 - 1 ≡ m.0 = omega arith in k) ∙ further style text p b bs m.0 e within)
    ∙ ap (λ z. before (piece style b bs) p (tokens_at style text (after p (take z (drop p.at text))))) (sym m.1)

-- a piece that belongs to no token
pub passed : (style : Style) (text : List ℕ) (p : Place) (b : ℕ) (bs : List ℕ) (n : ℕ) → drop p.at text ≡ b ∷ bs → Passed n ≡ piece style b bs
    → tokens_at style text p ≡ tokens_at style text (after p (take n (drop p.at text)))
unfolding before
passed style text p b bs n e is = turn style text p b bs e ∙ ap (λ z. before z p (tokens_at style text (after p (take (size z) (drop p.at text))))) (sym is)

-- a piece that is a token
pub shown : (style : Style) (text : List ℕ) (p : Place) (b : ℕ) (bs : List ℕ) (kind : Kind) (n : ℕ) → drop p.at text ≡ b ∷ bs → Shown kind n ≡ piece style b bs
    → tokens_at style text p ≡ token kind p (p.at + n) ∷ tokens_at style text (after p (take n (drop p.at text)))
unfolding before
shown style text p b bs kind n e is = turn style text p b bs e ∙ ap (λ z. before z p (tokens_at style text (after p (take (size z) (drop p.at text))))) (sym is)

-- no piece is the end
pub shown-no_end : (style : Style) (b : ℕ) (bs : List ℕ) (kind : Kind) (n : ℕ) → Shown kind n ≡ piece style b bs → is_end kind ≡ false
shown-no_end style b bs kind n is = ap ends_text is ∙ (piece-fits style b bs).no_end

pub all_read : (style : Style) (text : List ℕ) (p : Place) → length text ≤ p.at → tokens_at style text p ≡ token End p p.at ∷ []
unfolding tokens_at tokens
all_read style text p h = ap (tokens style p 0) (drop_of_length-le text h)

-- ---- a cursor

pub left_read : (c : Cursor) → length c.source.now ≤ c.place.at → left c ≡ token End c.place c.place.at ∷ []
unfolding left
left_read c h = all_read c.style c.source.now c.place h

pub same_source : (c d : Cursor) → c.source.now ≡ d.source.now → source c ≡ source d
unfolding source
same_source c d h = h

pub ends_here : (p : Place) (n : ℕ) (ts : List Token) → followed (token End p n) ts ≡ token End p n ∷ []
unfolding followed token
ends_here p n ts = refl

-- what is left of a text at a place, as a slice gives it
abbrev pub rest_at : List ℕ → ℕ → List ℕ
rest_at text i = take (length text - i) (drop i text)

-- its first byte and what follows, as slices give them
parts : (text : List ℕ) (i : ℕ) → i < length text → drop i text ≡ get_or (rest_at text i) 0 0 ∷ rest_at (rest_at text i) 1
parts text i h =
    let same = take_rest text i in
    let len : length (rest_at text i) ≡ length text - i = ap length same ∙ length-drop i text in
    sym same ∙ drop_more (rest_at text i) 0 0 (omega arith) ∙ ap (λ z. get_or (rest_at text i) 0 0 ∷ z) (sym (take_rest (rest_at text i) 1))

moved : (c d : Cursor) (n : ℕ) → d.source.now ≡ c.source.now → d.style ≡ c.style → d.place ≡ after c.place (take n (drop c.place.at c.source.now))
    → tokens_at c.style c.source.now (after c.place (take n (drop c.place.at c.source.now))) ≡ left d
unfolding left
moved c d n source style place = sym (ap (λ z. tokens_at z d.source.now d.place) style ∙ ap (λ z. tokens_at c.style z d.place) source ∙ ap (tokens_at c.style c.source.now) place)

pub left_passed : (c d : Cursor) (n : ℕ) → c.place.at < length c.source.now
    → Passed n ≡ piece c.style (get_or (rest_at c.source.now c.place.at) 0 0) (rest_at (rest_at c.source.now c.place.at) 1)
    → d.source.now ≡ c.source.now → d.style ≡ c.style → d.place ≡ after c.place (take n (drop c.place.at c.source.now)) → left c ≡ left d
unfolding left
left_passed c d n h is source style place = passed c.style c.source.now c.place _ _ n (parts c.source.now c.place.at h) is ∙ moved c d n source style place

-- the place after a word
pub word_place : (c : Cursor) (n : ℕ) → c.place.at < length c.source.now
    → Shown Word n ≡ piece c.style (get_or (rest_at c.source.now c.place.at) 0 0) (rest_at (rest_at c.source.now c.place.at) 1)
    → forward n c.place ≡ after c.place (take n (drop c.place.at c.source.now))
word_place c n h is = sym (ap (λ z. after c.place (take n z)) (parts c.source.now c.place.at h) ∙ after_word c.style _ _ n c.place is)

blank_some : (xs : List ℕ) → is_blank (get_or xs 0 0) ≡ true → 0 < length xs → 0 < until (ends_run is_blank) xs
unfolding until ends_run
blank_some [] h le = absurd (omega arith)
blank_some (b ∷ bs) h le = subst (λ z. 0 < cond (cond z false true) 0 (suc (until (ends_run is_blank) bs))) (sym h) (omega arith)

blank_stops : (xs : List ℕ) → ends_run is_blank (10 ∷ xs) ≡ true
unfolding ends_run is_blank
blank_stops xs = refl

-- the run of blanks that a cursor stands before
pub record Blanks (c : Cursor) : Type 0 where
  pub some : 0 < until (ends_run is_blank) (rest_at c.source.now c.place.at)
  pub same : until (ends_run is_blank) (rest_at c.source.now c.place.at) ≡ until (ends_run is_blank) (drop c.place.at c.source.now)
  pub place : after c.place (take (until (ends_run is_blank) (drop c.place.at c.source.now)) (drop c.place.at c.source.now)) ≡ forward (until (ends_run is_blank) (rest_at c.source.now c.place.at)) c.place

pub blanks : (c : Cursor) → c.place.at < length c.source.now → is_blank (get_or c.source.now c.place.at 0) ≡ true → Blanks c
blanks c h b =
    let xs : List ℕ = drop c.place.at c.source.now in
    let same : rest_at c.source.now c.place.at ≡ xs = take_rest c.source.now c.place.at in
    let len : length xs ≡ length c.source.now - c.place.at = length-drop c.place.at c.source.now in
    let head : get_or xs 0 0 ≡ get_or c.source.now c.place.at 0 = ap (λ z. get_or z 0 0) (drop_more c.source.now c.place.at 0 h) in
    let some : 0 < until (ends_run is_blank) xs = blank_some xs (ap is_blank head ∙ b) (omega arith) in
    let moved : until (ends_run is_blank) (rest_at c.source.now c.place.at) ≡ until (ends_run is_blank) xs = ap (until (ends_run is_blank)) same in
    record {
      some = omega arith;
      same = moved;
      place = flat-run (ends_run is_blank) blank_stops xs c.place some ∙ ap (λ z. forward z c.place) (sym moved);
    }

pub left_blanks : (c d : Cursor) → c.place.at < length c.source.now → is_blank (get_or c.source.now c.place.at 0) ≡ true
    → d.source.now ≡ c.source.now → d.style ≡ c.style → d.place ≡ forward (until (ends_run is_blank) (rest_at c.source.now c.place.at)) c.place → left c ≡ left d
unfolding left tokens_at
left_blanks c d h b source style place =
    let xs : List ℕ = drop c.place.at c.source.now in
    let n : ℕ = until (ends_run is_blank) xs in
    let run = blanks c h b in
    let le : n ≤ length xs = until-le (ends_run is_blank) xs in
    let at : (after c.place (take n xs)).at ≡ c.place.at + n = after_at (take n xs) c.place ∙ ap (λ z. c.place.at + z) (length-take-le n xs le) in
    blanks_pass c.style c.place xs
    ∙ ap (tokens c.style (after c.place (take n xs)) 0) (drop-drop n c.place.at c.source.now ∙ ap (λ z. drop z c.source.now) (sym at))
    ∙ moved c d n source style (place ∙ sym run.place)

pub left_shown : (c d : Cursor) (kind : Kind) (n : ℕ) → c.place.at < length c.source.now
    → Shown kind n ≡ piece c.style (get_or (rest_at c.source.now c.place.at) 0 0) (rest_at (rest_at c.source.now c.place.at) 1)
    → d.source.now ≡ c.source.now → d.style ≡ c.style → d.place ≡ after c.place (take n (drop c.place.at c.source.now)) → left c ≡ token kind c.place (c.place.at + n) ∷ left d
unfolding left
left_shown c d kind n h is source style place =
    shown c.style c.source.now c.place _ _ kind n (parts c.source.now c.place.at h) is ∙ ap (λ z. token kind c.place (c.place.at + n) ∷ z) (moved c d n source style place)

pub end_slice : (c : Cursor) → IsSliceOf (source c) (token End c.place c.place.at)
unfolding source token
end_slice c = record { ordered = omega arith; inside = c.within }

-- a token before the end is followed by what is left
pub goes_on_from : (kind : Kind) (p : Place) (n : ℕ) (ts : List Token) → is_end kind ≡ false → followed (token kind p n) ts ≡ token kind p n ∷ ts
unfolding followed token
goes_on_from kind p n ts h = ap (λ z. cond z (token kind p n ∷ []) (token kind p n ∷ ts)) h

-- a token up to the place where a cursor stands
pub slice_up_to : (c : Cursor) (kind : Kind) (p : Place) → p.at < c.place.at → IsSliceOf (source c) (token kind p c.place.at)
unfolding source token
slice_up_to c kind p h = record { ordered = omega arith; inside = c.within }

-- what a token before the end tells a reader of the tokens that are left
pub goes_on : (t : Token) (ts : List Token) → is_end t.kind ≡ false → followed t ts ≡ t ∷ ts
unfolding followed
goes_on t ts h = ap (λ z. cond z (t ∷ []) (t ∷ ts)) h

-- and the end
pub ends : (t : Token) (ts : List Token) → is_end t.kind ≡ true → followed t ts ≡ t ∷ []
unfolding followed
ends t ts h = ap (λ z. cond z (t ∷ []) (t ∷ ts)) h

pub token_kind : (kind : Kind) (p : Place) (n : ℕ) → (token kind p n).kind ≡ kind
unfolding token
token_kind kind p n = refl
