-- The loops over the rows and the columns of a table.
use Rattle.std.proofs.Common.{◌≡◌, ℕ, suc, ◌+◌, ◌<◌, ◌≤◌, refl, sym, ◌∙◌, ap, arith, Bool, true, false, List, [], ◌∷◌, ◌++◌, length, take, drop, drop-cons, get_or, Option, Some, None, append_assoc, length-take}
use Rattle.std.proofs.lemmas.List.{take_more, take-append-drop, take_all, append-nil}
use Rattle.liberty_function.specs.declared.program.Source.{Source}
use Rattle.liberty_function.specs.Sources.{Named, source_among}
use Rattle.liberty_meaning.specs.declared.table.Row.{Row}
use Rattle.liberty_meaning.specs.declared.table_text.RowWords.{RowWords}
use Rattle.liberty_meaning.specs.declared.refusal.MeaningRefusal.TheVariants as refusal
use Rattle.liberty_meaning.specs.Table.{made, PushesRows}
use Rattle.liberty_meaning.specs.Meaning.{told}
use Rattle.liberty_meaning.specs.TableMeaning.{appended, all_made, RefusesRows, with_column, columns_in, RefusesColumns}

pub made_none : (n m : ℕ) (rows : List Row) → rows ≡ [] → all_made n m [] ≡ Some rows
unfolding all_made
made_none n m rows e = rw e refl

appended-snoc : (o p q : Option (List Row)) (rs new : List Row) → ((a : List Row) → p ≡ Some a → q ≡ Some (a ++ new)) → appended o p ≡ Some rs → appended o q ≡ Some (rs ++ new)
appended-snoc None p q rs new f e = absurd (cc)
appended-snoc (Some o) None q rs new f e = absurd (cc)
appended-snoc (Some o) (Some a) q rs new f e =
    let s : o ++ a ≡ rs = cc in
    let g : q ≡ Some (a ++ new) = f a refl in
    rw g (ap (λ k. Some k) (sym (append_assoc o a new) ∙ ap (λ k. k ++ new) s))

made_last : (n m : ℕ) (p : RowWords) (new : List Row) → made n m p.words ≡ Some new → all_made n m (p ∷ []) ≡ Some new
unfolding all_made
made_last n m p new e = rw e (ap (λ k. Some k) (append-nil new))

pub made_more : (n m : ℕ) (ts : List RowWords) (p : RowWords) (rs new : List Row) → all_made n m ts ≡ Some rs → made n m p.words ≡ Some new → all_made n m (ts ++ p ∷ []) ≡ Some (rs ++ new)
unfolding all_made
made_more n m [] p rs new e f = let s : [] ≡ rs = cc in rw (← s) (made_last n m p new f)
made_more n m (t ∷ ts) p rs new e f = appended-snoc (made n m t.words) (all_made n m ts) (all_made n m (ts ++ p ∷ [])) rs new (λ a g. made_more n m ts p a new g f) e

pushed : (o : Option (List Row)) (old new : List Row) → PushesRows o old new true → (rs : List Row) × (o ≡ Some rs) × (new ≡ old ++ rs)
pushed None old new h = absurd (cc)
pushed (Some rs) old new h = (rs, refl, h.1)

not_pushed : (o : Option (List Row)) (old new : List Row) → PushesRows o old new false → o ≡ None
not_pushed None old new h = refl
not_pushed (Some rs) old new h = absurd (let e = h.0 in cc)

pub rows_step : (n m : ℕ) (texts : List RowWords) (i : ℕ) (p : RowWords) (old new : List Row) (b : Bool) → i < length texts → p ≡ get_or texts i p → all_made n m (take i texts) ≡ Some old → PushesRows (made n m p.words) old new b → b ≡ true → all_made n m (take (i + 1) texts) ≡ Some new
rows_step n m texts i p old new b h is e f t =
    let g : PushesRows (made n m p.words) old new true = rw t at f in
    let k = pushed (made n m p.words) old new g in
    let s : take (i + 1) texts ≡ take i texts ++ p ∷ [] = take_more texts i p h ∙ ap (λ k. take i texts ++ k ∷ []) (sym is) in
    rw s (made_more n m (take i texts) p old k.0 e k.1 ∙ ap (λ j. Some j) (sym k.2))

pub rows_bad : (n m : ℕ) (texts : List RowWords) (i place : ℕ) (p : RowWords) (old new : List Row) (b : Bool) → i < length texts → p ≡ get_or texts i p → all_made n m (take i texts) ≡ Some old → PushesRows (made n m p.words) old new b → b ≡ false → place ≡ told (i + 1) → RefusesRows n m texts (refusal.BadStateRow place)
rows_bad n m texts i place p old new b h is e f t q =
    let g : PushesRows (made n m p.words) old new false = rw t at f in
    let d : drop i texts ≡ p ∷ drop (suc i) texts = drop-cons texts i p h ∙ ap (λ k. k ∷ drop (suc i) texts) (sym is) in
    let l : length (take i texts) ≡ i = simp length-take (omega arith) in
    record {
      before = take i texts;
      bad = p;
      after = drop (suc i) texts;
      whole = sym (rw (← d) (take-append-drop i texts));
      rows = old;
      good = e;
      refused = not_pushed (made n m p.words) old new g;
      error = ap (λ k. refusal.BadStateRow k) (q ∙ ap (λ k. told (k + 1)) (sym l));
    }

pub rows_whole : (n m : ℕ) (texts : List RowWords) (i : ℕ) (rows : List Row) → length texts ≤ i → all_made n m (take i texts) ≡ Some rows → all_made n m texts ≡ Some rows
rows_whole n m texts i rows h e = rw (take_all i texts h) at e

pub columns_none : (inputs : List Named) (cs : List Source) → cs ≡ [] → columns_in inputs [] ≡ Some cs
unfolding columns_in
columns_none inputs cs e = rw e refl

column-snoc : (o : Option Source) (p q : Option (List Source)) (cs : List Source) (c : Source) → ((a : List Source) → p ≡ Some a → q ≡ Some (a ++ c ∷ [])) → with_column o p ≡ Some cs → with_column o q ≡ Some (cs ++ c ∷ [])
column-snoc None p q cs c f e = absurd (cc)
column-snoc (Some o) None q cs c f e = absurd (cc)
column-snoc (Some o) (Some a) q cs c f e =
    let s : o ∷ a ≡ cs = cc in
    let g : q ≡ Some (a ++ c ∷ []) = f a refl in
    rw (g, ← s) refl

columns_more : (inputs : List Named) (ns : List (List ℕ)) (n : List ℕ) (cs : List Source) (c : Source) → columns_in inputs ns ≡ Some cs → source_among inputs n ≡ Some c → columns_in inputs (ns ++ n ∷ []) ≡ Some (cs ++ c ∷ [])
unfolding columns_in
columns_more inputs [] n cs c e f = let s : [] ≡ cs = cc in rw (← s, f) refl
columns_more inputs (k ∷ ns) n cs c e f = column-snoc (source_among inputs k) (columns_in inputs ns) (columns_in inputs (ns ++ n ∷ [])) cs c (λ a g. columns_more inputs ns n a c g f) e

pub columns_step : (inputs : List Named) (names : List (List ℕ)) (i : ℕ) (n : List ℕ) (cs new : List Source) (c : Source) → i < length names → n ≡ get_or names i n → columns_in inputs (take i names) ≡ Some cs → source_among inputs n ≡ Some c → new ≡ cs ++ c ∷ [] → columns_in inputs (take (i + 1) names) ≡ Some new
columns_step inputs names i n cs new c h is e f g =
    let s : take (i + 1) names ≡ take i names ++ n ∷ [] = take_more names i n h ∙ ap (λ k. take i names ++ k ∷ []) (sym is) in
    rw (s, g) (columns_more inputs (take i names) n cs c e f)

pub columns_bad : (inputs : List Named) (names : List (List ℕ)) (i : ℕ) (n m : List ℕ) (cs : List Source) → i < length names → n ≡ get_or names i n → columns_in inputs (take i names) ≡ Some cs → source_among inputs n ≡ None → m ≡ n → RefusesColumns inputs names (refusal.UnknownName m)
columns_bad inputs names i n m cs h is e f q =
    let d : drop i names ≡ n ∷ drop (suc i) names = drop-cons names i n h ∙ ap (λ k. k ∷ drop (suc i) names) (sym is) in
    record {
      before = take i names;
      bad = n;
      after = drop (suc i) names;
      whole = sym (rw (← d) (take-append-drop i names));
      columns = cs;
      good = e;
      refused = f;
      error = ap (λ k. refusal.UnknownName k) q;
    }

pub columns_whole : (inputs : List Named) (names : List (List ℕ)) (i : ℕ) (cs : List Source) → length names ≤ i → columns_in inputs (take i names) ≡ Some cs → columns_in inputs names ≡ Some cs
columns_whole inputs names i cs h e = rw (take_all i names h) at e
