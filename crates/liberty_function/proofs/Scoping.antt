-- Names beside their sources.
use Rattle.std.proofs.Common.{◌≡◌, ℕ, suc, ◌+◌, refl, sym, ◌∙◌, ap, Bool, true, false, cond, if◌then◌else◌, List, [], ◌∷◌, ◌++◌, length, Option, Some, None, slice_get, add-one, option_map, option_and_then, arith}
use Rattle.std.specs.List.{position_from}
use Rattle.std.specs.Str.{bytes_eq}
use Rattle.name_index.specs.Places.{place_of}
use Rattle.liberty_function.specs.declared.program.Source.{Source}
use Rattle.liberty_function.specs.Sources.{Named, named_of, source_among}

shifted_at : (b : Bool) (i : ℕ) (o p : Option ℕ) → p ≡ option_map suc o → cond b (Some (i + 1)) p ≡ option_map suc (cond b (Some i) o)
shifted_at true i o p e = rw add-one refl
shifted_at false i o p e = e

-- places counted from one more
position_shifted : {X : Type 0} (t : X → Bool) (i : ℕ) (xs : List X) → position_from t (i + 1) xs ≡ option_map suc (position_from t i xs)
position_shifted t i [] = refl
position_shifted t i (x ∷ xs) = shifted_at (t x) i (position_from t (i + 1) xs) (position_from t ((i + 1) + 1) xs) (position_shifted t (i + 1) xs)

no_source : (o : Option ℕ) → None ≡ option_and_then (λ k. slice_get {X = Source} [] k) o
no_source None = refl
no_source (Some k) = refl

source_at : (b : Bool) (s : Source) (ss : List Source) (rest : Option Source) (o : Option ℕ) → rest ≡ option_and_then (λ k. slice_get ss k) o
    → (if b then Some s else rest) ≡ option_and_then (λ k. slice_get (s ∷ ss) k) (cond b (Some 0) (option_map suc o))
source_at true s ss rest o e = refl
source_at false s ss rest None e = e
source_at false s ss rest (Some k) e = e

-- a name's source stands at the name's place
pub source_among-named_of : (ns : List (List ℕ)) (ss : List Source) (q : List ℕ) → source_among (named_of ns ss) q ≡ option_and_then (λ k. slice_get ss k) (place_of ns q)
unfolding source_among named_of
source_among-named_of [] ss q = refl
source_among-named_of (n ∷ ns) [] q = no_source (place_of (n ∷ ns) q)
source_among-named_of (n ∷ ns) (s ∷ ss) q =
    source_at (bytes_eq q n) s ss (source_among (named_of ns ss) q) (place_of ns q) (source_among-named_of ns ss q)
    ∙ ap (λ k. option_and_then (λ j. slice_get (s ∷ ss) j) (cond (bytes_eq q n) (Some 0) k)) (sym (position_shifted (bytes_eq q) 0 ns))

pub named_more : (ns : List (List ℕ)) (ss : List Source) (n : List ℕ) (s : Source) → length ns ≡ length ss → let d : Named = record { name = n; source = s } in named_of (ns ++ n ∷ []) (ss ++ s ∷ []) ≡ named_of ns ss ++ d ∷ []
unfolding named_of
named_more [] [] n s e = refl
named_more [] (t ∷ ss) n s e = absurd (omega (arith, e))
named_more (m ∷ ns) [] n s e = absurd (omega (arith, e))
named_more (m ∷ ns) (t ∷ ss) n s e = ap (λ k. (let d : Named = record { name = m; source = t } in d) ∷ k) (named_more ns ss n s (omega (arith, e)))
