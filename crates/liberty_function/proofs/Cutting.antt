use Rattle.std.proofs.Common.{◌≡◌, ℕ, ◌+◌, ◌<◌, ◌≤◌, refl, sym, ◌∙◌, ap, arith, Bool, true, false, List, [], ◌∷◌, ◌++◌, length, get_or, drop, drop-cons, add-one, append_assoc, if◌then◌else◌}
use Rattle.std.proofs.lemmas.List.{drop_all}
use Rattle.liberty_function.specs.Words.{goes_on, closed, signs, begun, words_from, words_of, is_letter}
use Rattle.liberty_function.specs.declared.words.Placed.{Placed}

pub one_more : (place : ℕ) (name : List ℕ) (b : ℕ) (bs : List ℕ) → goes_on name b ≡ true → words_from place name (b ∷ bs) ≡ words_from (place + 1) (name ++ b ∷ []) bs
unfolding words_from
one_more place name b bs h = rw h refl

pub one_apart : (place : ℕ) (name : List ℕ) (b : ℕ) (bs : List ℕ) → goes_on name b ≡ false → words_from place name (b ∷ bs) ≡ (closed place name ++ signs place b) ++ words_from (place + 1) (begun b) bs
unfolding words_from
one_apart place name b bs h = rw h refl

pub cut_here : (text : List ℕ) (i : ℕ) → i < length text → drop i text ≡ get_or text i 0 ∷ drop (i + 1) text
cut_here text i h = rw (add-one, drop-cons text i 0) refl

pub begin_cut : (text : List ℕ) → words_of text ≡ [] ++ words_from 0 [] (drop 0 text)
unfolding words_of
begin_cut text = refl

pub end_cut : (place : ℕ) (name : List ℕ) → words_from place name [] ≡ closed place name
unfolding words_from
end_cut place name = refl

short_if : (t : Bool) (b : ℕ) → length (if t then b ∷ [] else []) ≤ 1
short_if true b = omega arith
short_if false b = omega arith

pub begun_short : (b : ℕ) → length (begun b) ≤ 1
unfolding begun
begun_short b = short_if (is_letter b) b

pub joins_apart : (old closed signs mid new rest : List Placed) → mid ≡ old ++ closed → new ≡ mid ++ signs → old ++ ((closed ++ signs) ++ rest) ≡ new ++ rest
joins_apart old closed signs mid new rest e f = rw (f, e) (simp append_assoc)

pub whole_cut : (text : List ℕ) (i : ℕ) (name : List ℕ) (words new : List Placed) → length text ≤ i → i ≤ length text → words_of text ≡ words ++ words_from i name (drop i text) → new ≡ words ++ closed (length text) name → new ≡ words_of text
whole_cut text i name words new h k e f =
    let d : drop i text ≡ [] = drop_all i text h in
    let same : i ≡ length text = omega arith in
    let g : words_of text ≡ words ++ words_from i name [] = rw d at e in
    f ∙ sym (g ∙ ap (λ k. words ++ k) (end_cut i name ∙ ap (λ k. closed k name) same))
