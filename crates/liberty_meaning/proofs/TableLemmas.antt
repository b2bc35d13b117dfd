-- The cutting of a table's text.
use Rattle.std.proofs.Common.{arith, ◌≡◌, ℕ, ◌+◌, ◌<◌, ◌≤◌, refl, sym, ◌∙◌, ap, Bool, true, false, ◌==◌, List, [], ◌∷◌, ◌++◌, length, drop, get_or, append_assoc, Option, Some, None}
use Rattle.std.proofs.lemmas.List.{drop_all, append-nil}
use Rattle.liberty_meaning.specs.declared.table_text.RowWords.{RowWords}
use Rattle.std.proofs.lemmas.Bool.Decides.{nat_tests}
use Rattle.liberty_meaning.specs.declared.symbols.Symbol.{Symbol}
use Rattle.liberty_meaning.specs.declared.symbols.Role.{Role}
use Rattle.liberty_meaning.specs.Symbols.{symbol_of, is_slash}
use Rattle.std.specs.List.{list_any}
use Rattle.tern_core.specs.declared.tern.Tern.{Tern}
use Rattle.liberty_function.specs.declared.program.Source.{Source}
use Rattle.liberty_meaning.specs.declared.table.Row.{Row}
use Rattle.liberty_meaning.specs.Table.{with_symbol, symbols_of, matches_row, first_matching, row_of, made, PushesRows}
use Rattle.liberty_meaning.proofs.Naming.{next_item}
use Rattle.liberty_function.specs.Words.{is_blank}
use Rattle.liberty_meaning.specs.TableText.{row_words, ended, last_row, rows_from, rows_of}

pub comma_cut : (row : List (List ℕ)) (word : List ℕ) (b : ℕ) (bs : List ℕ) → (b == 44) ≡ true → rows_from row word (b ∷ bs) ≡ row_words (row ++ ended word) ∷ rows_from [] [] bs
unfolding rows_from
comma_cut row word b bs h = rw h refl

pub blank_cut : (row : List (List ℕ)) (word : List ℕ) (b : ℕ) (bs : List ℕ) → (b == 44) ≡ false → is_blank b ≡ true → rows_from row word (b ∷ bs) ≡ rows_from (row ++ ended word) [] bs
unfolding rows_from
blank_cut row word b bs h k = rw (h, k) refl

pub byte_cut : (row : List (List ℕ)) (word : List ℕ) (b : ℕ) (bs : List ℕ) → (b == 44) ≡ false → is_blank b ≡ false → rows_from row word (b ∷ bs) ≡ rows_from row (word ++ b ∷ []) bs
unfolding rows_from
byte_cut row word b bs h k = rw (h, k) refl

pub begin_rows : (text : List ℕ) → rows_of text ≡ rows_from [] [] text
unfolding rows_of
begin_rows text = refl

pub end_rows : (row : List (List ℕ)) (word : List ℕ) → rows_from row word [] ≡ last_row (row ++ ended word)
unfolding rows_from
end_rows row word = refl

pub whole_rows : (text : List ℕ) (i : ℕ) (rows mid new : List RowWords) (row last : List (List ℕ)) (word : List ℕ) → length text ≤ i → rows_of text ≡ rows ++ rows_from row word (drop i text) → mid ≡ rows → last ≡ row ++ ended word → new ≡ mid ++ last_row last → new ≡ rows_of text
whole_rows text i rows mid new row last word h e m l n =
    let d : drop i text ≡ [] = drop_all i text h in
    let g : rows_of text ≡ rows ++ rows_from row word [] = rw d at e in
    n ∙ (rw (m, l) (sym (g ∙ ap (λ k. rows ++ k) (end_rows row word))))

pub last_none : (row : List (List ℕ)) → length row ≤ 0 → last_row row ≡ []
last_none [] h = refl
last_none (w ∷ ws) h = absurd (omega arith)

pub last_some : (row : List (List ℕ)) → 0 < length row → last_row row ≡ row_words row ∷ []
last_some [] h = absurd (omega arith)
last_some (w ∷ ws) h = refl

pub cut_row : (rows mid new : List RowWords) (row second third : List (List ℕ)) (word v w : List ℕ) (b : ℕ) (bs : List ℕ) → b ≡ 44
    → mid ≡ rows → second ≡ row ++ ended word → v ≡ [] → new ≡ mid ++ row_words second ∷ [] → third ≡ [] → w ≡ v
    → rows ++ rows_from row word (b ∷ bs) ≡ new ++ rows_from third w bs
cut_row rows mid new row second third word v w b bs e m r z n t s =
    let q : (b == 44) ≡ true = grind (arith, nat_tests) in
    rw (comma_cut row word b bs q, n, m, r, t, s, z) (sym (append_assoc rows (row_words (row ++ ended word) ∷ []) (rows_from [] [] bs)))

abbrev pub before_symbols : List Symbol → Option (List Symbol) → Option (List Symbol)
before_symbols ss None = None
before_symbols ss (Some ts) = Some (ss ++ ts)

pub none_before : (o : Option (List Symbol)) → o ≡ before_symbols [] o
none_before None = refl
none_before (Some ts) = refl

some_before : (ss : List Symbol) (s : Symbol) (o : Option (List Symbol)) → before_symbols ss (with_symbol (Some s) o) ≡ before_symbols (ss ++ s ∷ []) o
some_before ss s None = refl
some_before ss s (Some ts) = ap (λ k. Some k) (sym (append_assoc ss (s ∷ []) ts))

pub symbol_here : (role : Role) (second : Bool) (words : List (List ℕ)) (i : ℕ) (w : List ℕ) (s : Symbol) (ss new : List Symbol) → i < length words → w ≡ get_or words i w → symbol_of role second w ≡ Some s → symbols_of role second words ≡ before_symbols ss (symbols_of role second (drop i words)) → new ≡ ss ++ s ∷ []
    → symbols_of role second words ≡ before_symbols new (symbols_of role second (drop (i + 1) words))
unfolding symbols_of
symbol_here role second words i w s ss new h is e g n =
    let d = next_item words i w h is in
    let k : symbols_of role second (drop i words) ≡ with_symbol (Some s) (symbols_of role second (drop (i + 1) words)) = rw (d, e) refl in
    rw n (g ∙ (rw k (some_before ss s (symbols_of role second (drop (i + 1) words)))))

pub no_symbol_here : (role : Role) (second : Bool) (words : List (List ℕ)) (i : ℕ) (w : List ℕ) (ss : List Symbol) → i < length words → w ≡ get_or words i w → symbol_of role second w ≡ None → symbols_of role second words ≡ before_symbols ss (symbols_of role second (drop i words)) → None ≡ symbols_of role second words
unfolding symbols_of
no_symbol_here role second words i w ss h is e g =
    let d = next_item words i w h is in
    let k : symbols_of role second (drop i words) ≡ None = rw (d, e) refl in
    sym (g ∙ (rw k refl))

pub symbols_end : (role : Role) (second : Bool) (words : List (List ℕ)) (i : ℕ) (ss : List Symbol) → length words ≤ i → symbols_of role second words ≡ before_symbols ss (symbols_of role second (drop i words)) → Some ss ≡ symbols_of role second words
unfolding symbols_of
symbols_end role second words i ss h g =
    let d : drop i words ≡ [] = drop_all i words h in
    let k : symbols_of role second (drop i words) ≡ Some [] = rw d refl in
    sym (g ∙ (rw k (ap (λ k. Some k) (append-nil ss))))

pub first_here : (columns : List Source) (old new state : List Tern) (rows : List Row) (i : ℕ) (r : Row) → i < length rows → r ≡ get_or rows i r → matches_row columns old new state r ≡ true → first_matching columns old new state (drop i rows) ≡ Some r
unfolding first_matching
first_here columns old new state rows i r h is e = rw (next_item rows i r h is, e) refl

pub not_first_here : (columns : List Source) (old new state : List Tern) (rows : List Row) (i : ℕ) (r : Row) → i < length rows → r ≡ get_or rows i r → matches_row columns old new state r ≡ false → first_matching columns old new state (drop i rows) ≡ first_matching columns old new state (drop (i + 1) rows)
unfolding first_matching
not_first_here columns old new state rows i r h is e = rw (next_item rows i r h is, e) refl

pub no_first : (columns : List Source) (old new state : List Tern) (rows : List Row) (i : ℕ) → length rows ≤ i → first_matching columns old new state (drop i rows) ≡ None
unfolding first_matching
no_first columns old new state rows i h = let d : drop i rows ≡ [] = drop_all i rows h in rw d refl

pub pushes_none : (n m : ℕ) (words : List (List ℕ)) (old new : List Row) → row_of false n m words ≡ None → PushesRows (made n m words) old new false
unfolding made
pushes_none n m words old new e = rw e refl

pub pushes_half : (n m : ℕ) (words : List (List ℕ)) (old new : List Row) (r : Row) → row_of false n m words ≡ Some r → list_any is_slash words ≡ true → row_of true n m words ≡ None → PushesRows (made n m words) old new false
unfolding made
pushes_half n m words old new r e t f = rw (e, t, f) refl

pub pushes_one : (n m : ℕ) (words : List (List ℕ)) (old new : List Row) (r : Row) → row_of false n m words ≡ Some r → list_any is_slash words ≡ false → new ≡ old ++ r ∷ [] → PushesRows (made n m words) old new true
unfolding made
pushes_one n m words old new r e t n' = rw (e, t) (refl, n')

pub pushes_two : (n m : ℕ) (words : List (List ℕ)) (old mid new : List Row) (r s : Row) → row_of false n m words ≡ Some r → list_any is_slash words ≡ true → row_of true n m words ≡ Some s → mid ≡ old ++ r ∷ [] → new ≡ mid ++ s ∷ [] → PushesRows (made n m words) old new true
unfolding made
pushes_two n m words old mid new r s e t f a b = rw (e, t, f) (refl, b ∙ (rw a (append_assoc old (r ∷ []) (s ∷ []))))
