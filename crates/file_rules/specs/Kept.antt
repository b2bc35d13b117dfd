-- Facts of names and shown words that readers keep.
use Rattle.std.specs.Prelude.{◌≡◌, ℕ, Bool, true, false, not, ◌&&◌, ◌||◌, nat_le, nat_lt, if◌then◌else◌, List, [], ◌∷◌, ◌++◌, length, codes}
use Rattle.std.specs.List.{list_any}
use Rattle.std.specs.Str.{bytes_eq}
use Rattle.std.proofs.Common.{refl, sym, arith}
use Rattle.std.proofs.lemmas.Bool.Decides.{nat_tests}
use Rattle.std.proofs.lemmas.List.Folds.{list_any-append}
use Rattle.std.proofs.lemmas.Slice.Eq.{bytes_eq-Decides}
use Rattle.text_scan.specs.declared.limits.Limits.{Limits}
use Rattle.file_rules.specs.Names.{is_name, is_too_long, is_name_within, is_distinct, is_shown, shown_word, shown_string, is_graphic, are_graphic, is_name_byte, is_no_name_byte, is_mark, has_name_bytes}

-- equality of texts goes both ways
refused_by : (a b : List ℕ) (v : Bool) → bytes_eq b a ≡ v → bytes_eq a b ≡ false → v ≡ false
refused_by a b false e h = refl
refused_by a b true e h =
    let back : bytes_eq a b ≡ true = (bytes_eq-Decides a b).1 (sym ((bytes_eq-Decides b a).0 e)) in
    cc

pub bytes_eq-refused : (a b : List ℕ) → bytes_eq a b ≡ false → bytes_eq b a ≡ false
bytes_eq-refused a b h = refused_by a b (bytes_eq b a) refl h

-- both sides of a test that holds
pub both_true : (a b : Bool) → (a && b) ≡ true → (a ≡ true) × (b ≡ true)
both_true true true h = (refl, refl)
both_true true false h = cc
both_true false b h = cc

pub neither_true : (a b : Bool) → (a || b) ≡ false → (a ≡ false) × (b ≡ false)
neither_true false false h = (refl, refl)
neither_true false true h = cc
neither_true true b h = cc

not_true : (a : Bool) → not a ≡ true → a ≡ false
not_true false h = refl
not_true true h = cc

-- a name that isn't among those before it leaves them distinct
pub is_distinct-push : (names : List (List ℕ)) (name : List ℕ) → is_distinct names ≡ true → list_any (bytes_eq name) names ≡ false
    → is_distinct (names ++ name ∷ []) ≡ true
is_distinct-push [] name h k = refl
is_distinct-push (n ∷ names) name h k =
    let d : (not (list_any (bytes_eq n) names) ≡ true) × (is_distinct names ≡ true) = both_true _ _ h in
    let apart : (bytes_eq name n ≡ false) × (list_any (bytes_eq name) names ≡ false) = neither_true _ _ k in
    let rest : is_distinct (names ++ name ∷ []) ≡ true = is_distinct-push names name d.1 apart.1 in
    let none : list_any (bytes_eq n) names ≡ false = not_true _ d.0 in
    let other : bytes_eq n name ≡ false = bytes_eq-refused name n apart.0 in
    rw (list_any-append (bytes_eq n) names (name ∷ []), none, other, rest) refl

pub name_within : (limits : Limits) (name : List ℕ) → is_name name ≡ true → is_too_long limits name ≡ false → is_name_within limits name ≡ true
name_within limits name h k = grind (arith, nat_tests)

shown_by : (w : List ℕ) (v : Bool) → is_shown w ≡ v → is_shown (if v then w else codes "wide") ≡ true
shown_by w true e = e
shown_by w false e = refl

-- each word by which a construct is shown can be shown
pub shown_word-shown : (w : List ℕ) → is_shown (shown_word w) ≡ true
shown_word-shown w = shown_by w (is_shown w) refl

byte_graphic : (b : ℕ) → is_name_byte b ≡ true → is_graphic b ≡ true
unfolding is_name_byte
byte_graphic b h =
    let both : (nat_le 33 b ≡ true) × ((nat_le b 126 && (if is_no_name_byte b then false else true)) ≡ true) = both_true _ _ h in
    let low : nat_le b 126 ≡ true = (both_true _ _ both.1).0 in
    rw (both.0, low) refl

pub names_graphic : (bs : List ℕ) → has_name_bytes bs ≡ true → are_graphic bs ≡ true
names_graphic [] h = refl
names_graphic (b ∷ bs) h =
    let both : (is_name_byte b ≡ true) × (has_name_bytes bs ≡ true) = both_true _ _ h in
    let first : is_graphic b ≡ true = byte_graphic b both.0 in
    let rest : are_graphic bs ≡ true = names_graphic bs both.1 in
    rw (first, rest) refl

-- a name of at most 128 bytes can be shown
pub name_shown : (s : List ℕ) → is_name s ≡ true → nat_le (length s) 128 ≡ true → is_shown s ≡ true
unfolding is_name
name_shown s h k =
    let parts : (nat_lt 0 (length s) ≡ true) × ((has_name_bytes s && (if is_mark s then false else true)) ≡ true) = both_true _ _ h in
    let graphic : are_graphic s ≡ true = names_graphic s (both_true _ _ parts.1).0 in
    rw (parts.0, k, graphic) refl

shown_string_by : (s : List ℕ) (v : Bool) → (is_name s && nat_le (length s) 128) ≡ v → is_shown (if v then s else codes "string") ≡ true
shown_string_by s true e = name_shown s (both_true _ _ e).0 (both_true _ _ e).1
shown_string_by s false e = refl

pub shown_string-shown : (s : List ℕ) → is_shown (shown_string s) ≡ true
shown_string-shown s = shown_string_by s (is_name s && nat_le (length s) 128) refl
