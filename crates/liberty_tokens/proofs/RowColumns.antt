-- The columns of a row, a byte further.
use Rattle.std.proofs.Common.{◌≡◌, ℕ, ◌<◌, ◌≤◌, true, false, List, [], ◌∷◌, ◌++◌, length, drop, get_or, refl, ap, ◌∙◌, append_assoc}
use Rattle.std.proofs.lemmas.List.{drop_more}
use Rattle.std.proofs.Math.ListN.{drop_of_length-le}
use Rattle.liberty_tokens.specs.Names.{columns_from, ended_column, is_break}

ended_then : (column : List ℕ) (rest : List (List ℕ)) → ended_column column rest ≡ ended_column column [] ++ rest
ended_then [] rest = refl
ended_then (c ∷ cs) rest = refl

pub broken : (column bs : List ℕ) → 0 < length bs → is_break (get_or bs 0 0) ≡ true → columns_from column bs ≡ ended_column column [] ++ columns_from [] (drop 1 bs)
broken column bs h e = ap (columns_from column) (drop_more bs 0 0 h) ∙ (rw e refl) ∙ ended_then column (columns_from [] (drop 1 bs))

pub longer : (column bs : List ℕ) → 0 < length bs → is_break (get_or bs 0 0) ≡ false → columns_from column bs ≡ columns_from (column ++ get_or bs 0 0 ∷ []) (drop 1 bs)
longer column bs h e = ap (columns_from column) (drop_more bs 0 0 h) ∙ rw e refl

pub joined : (xs ys zs : List (List ℕ)) → (xs ++ ys) ++ zs ≡ xs ++ (ys ++ zs)
joined xs ys zs = append_assoc xs ys zs

pub no_more : (column bs : List ℕ) (at : ℕ) → length bs ≤ at → columns_from column (drop at bs) ≡ ended_column column []
no_more column bs at h = ap (columns_from column) (drop_of_length-le bs h)
