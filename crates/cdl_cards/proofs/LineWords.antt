-- The next word of a line.
use Rattle.std.proofs.Common.{◌≡◌, ◌≤◌, ◌<◌, ◌+◌, ◌-◌, ℕ, zero, suc, Bool, true, false, cond, List, [], ◌∷◌, length, take, drop, refl, sym, ap, ◌∙◌, arith}
use Rattle.std.proofs.lemmas.List.{take_rest}
use Rattle.text_scan.specs.Bytes.{until, is_space}
use Rattle.text_scan.specs.Pieces.{begins_space, ends_run}
use Rattle.cdl_cards.specs.Words.{blanks, words, word_at, column_of}
use Rattle.cdl_cards.specs.Kinds.{after_first}

pub inside_dropped : (number size n : ℕ) (bs : List ℕ) → words number size n bs ≡ words number size 0 (drop n bs)
unfolding words
inside_dropped number size zero bs = refl
inside_dropped number size (suc n) [] = refl
inside_dropped number size (suc n) (b ∷ bs) = inside_dropped number size n bs

module _ (number size : ℕ) where
  pub none_cut : (bs : List ℕ) → drop (blanks bs) bs ≡ [] → words number size 0 bs ≡ []
  unfolding words until ends_run
  none_cut [] h = refl
  none_cut (c ∷ cs) h = go (is_space c) (none_cut cs) h
    where
      go : (g : Bool) → (drop (blanks cs) cs ≡ [] → words number size 0 cs ≡ []) → drop (cond (cond g false true) 0 (suc (blanks cs))) (c ∷ cs) ≡ []
          → cond g (words number size 0 cs) (word_at number size (c ∷ cs) (suc (until begins_space cs)) ∷ words number size (until begins_space cs) cs) ≡ []
      go true e h = e h
      go false e h = absurd cc

  pub word_cut : (bs : List ℕ) (b : ℕ) (more : List ℕ) → drop (blanks bs) bs ≡ b ∷ more
      → words number size 0 bs ≡ word_at number size (b ∷ more) (suc (until begins_space more)) ∷ words number size 0 (drop (until begins_space more) more)
  unfolding words until ends_run
  word_cut [] b more h = absurd cc
  word_cut (c ∷ cs) b more h = go (is_space c) (word_cut cs b more) h
    where
      go : (g : Bool)
          → (drop (blanks cs) cs ≡ b ∷ more → words number size 0 cs ≡ word_at number size (b ∷ more) (suc (until begins_space more)) ∷ words number size 0 (drop (until begins_space more) more))
          → drop (cond (cond g false true) 0 (suc (blanks cs))) (c ∷ cs) ≡ b ∷ more
          → cond g (words number size 0 cs) (word_at number size (c ∷ cs) (suc (until begins_space cs)) ∷ words number size (until begins_space cs) cs)
          ≡ word_at number size (b ∷ more) (suc (until begins_space more)) ∷ words number size 0 (drop (until begins_space more) more)
      go true e h = e h
      go false e h =
          let x : c ≡ b = cc in
          let y : cs ≡ more = cc in
          rw (x, y) (ap (λ z. word_at number size (b ∷ more) (suc (until begins_space more)) ∷ z) (inside_dropped number size (until begins_space more) more))

pub behind_first : (bs : List ℕ) → after_first bs ≡ drop 1 (drop (blanks bs) bs)
unfolding after_first until ends_run
behind_first [] = refl
behind_first (c ∷ cs) = go (is_space c) (behind_first cs)
  where
    go : (g : Bool) → after_first cs ≡ drop 1 (drop (blanks cs) cs) → cond g (after_first cs) cs ≡ drop 1 (drop (cond (cond g false true) 0 (suc (blanks cs))) (c ∷ cs))
    go true e = e
    go false e = refl

-- the word that a text begins with
pub word_here : (number size : ℕ) (bs text : List ℕ) (n column : ℕ) → text ≡ drop (blanks bs) bs → 1 ≤ length text
    → n ≡ until begins_space (take (length text - 1) (drop 1 text)) → column ≡ column_of size (length text)
    → words number size 0 bs ≡ record { bytes = take (n + 1) text; line = number; column = column }
    ∷ words number size 0 (take (length (take (length text - 1) (drop 1 text)) - n) (drop n (take (length text - 1) (drop 1 text))))
word_here number size bs [] n column e h m k = absurd (omega (arith, h))
word_here number size bs (b ∷ more) n column e h m k =
    let t : take (length (b ∷ more) - 1) (drop 1 (b ∷ more)) ≡ more = take_rest (b ∷ more) 1 in
    let m' : n ≡ until begins_space more = m ∙ ap (until begins_space) t in
    let one : n + 1 ≡ suc n = omega arith in
    rw (t, k, one, take_rest more n, m') (word_cut number size bs b more (sym e))

pub no_word : (number size : ℕ) (bs text : List ℕ) → text ≡ drop (blanks bs) bs → length text < 1 → words number size 0 bs ≡ []
no_word number size bs [] e h = none_cut number size bs (sym e)
no_word number size bs (b ∷ more) e h = absurd (omega (arith, h))
