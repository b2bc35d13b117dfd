-- The place after the last byte, a byte further.
use Rattle.std.proofs.Common.{◌≡◌, ◌<◌, ◌+◌, ℕ, Bool, true, false, cond, List, [], length, drop, get_or, eqb, min, refl}
use Rattle.std.proofs.lemmas.List.{drop_more}
use Rattle.text_scan.specs.Tokens.{after, over}
use Rattle.text_scan.specs.declared.token.Place.{Place}

pub after_more : (text : List ℕ) (i : ℕ) (p : Place) → i < length text → after p (drop i text) ≡ after (over (get_or text i 0) p) (drop (i + 1) text)
unfolding after
after_more text i p h = rw (drop_more text i 0 h) refl

pub over_at : (b : ℕ) (p : Place) → (over b p).at ≡ p.at + 1
unfolding over
over_at b p = go (eqb b 10)
  where
    go : (g : Bool) → (cond {A = Place} g (record { at = p.at + 1; line = min (p.line + 1) 4294967295; column = 1 }) (record { at = p.at + 1; line = p.line; column = min (p.column + 1) 4294967295 })).at ≡ p.at + 1
    go true = refl
    go false = refl

pub after_none : (p : Place) → after p [] ≡ p
unfolding after
after_none p = refl
