-- Texts that are joined by a comma.
use Rattle.std.proofs.Common.{◌≡◌, ℕ, Bool, true, false, ◌&&◌, List, [], ◌∷◌, refl}
use Rattle.file_rules.specs.Names.{has_name_bytes, is_name_byte, is_no_name_byte}
use Rattle.tech_reader.specs.Tech.{joined}

both : (x y : Bool) → (x && y) ≡ true → (x ≡ true) × (y ≡ true)
both true true h = (refl, refl)
both true false h = cc h
both false y h = cc h

-- a comma is no byte of a name
no_comma : (b : ℕ) → 44 ≡ b → is_name_byte b ≡ true → ⊥
unfolding is_name_byte is_no_name_byte
no_comma b e h = let no : false ≡ true = rw (← e) at h in cc no

pub apart : (a c b d : List ℕ) → has_name_bytes a ≡ true → has_name_bytes c ≡ true → joined a b ≡ joined c d → (a ≡ c) × (b ≡ d)
apart [] [] b d f g h = (refl, cc)
apart [] (y ∷ c) b d f g h = let e : 44 ≡ y = cc in absurd (no_comma y e (both (is_name_byte y) (has_name_bytes c) g).0)
apart (x ∷ a) [] b d f g h = let e : 44 ≡ x = cc in absurd (no_comma x e (both (is_name_byte x) (has_name_bytes a) f).0)
apart (x ∷ a) (y ∷ c) b d f g h =
    let e : x ≡ y = cc in
    let rest : joined a b ≡ joined c d = cc in
    let r = apart a c b d (both (is_name_byte x) (has_name_bytes a) f).1 (both (is_name_byte y) (has_name_bytes c) g).1 rest in
    let same : a ≡ c = r.0 in
    (cc, r.1)
