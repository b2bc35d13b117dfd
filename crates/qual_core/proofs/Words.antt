-- Words as pairs, two at a time.
use Rattle.std.proofs.Common.{◌≡◌, ◌≤◌, ◌<◌, ◌+◌, ◌-◌, length-drop, take, ◌∙◌, Option, ℕ, List, [], ◌∷◌, length, get_or, drop, refl, arith, String, Some, None, Bool, true, false, ◌&&◌, ◌==◌, not, string_bytes, bytes_eq, map}
use Rattle.std.specs.List.{list_all}
use Rattle.std.proofs.Math.Seq.{take-length}
use Rattle.std.specs.declared.alloc.Global.{Global}
use Rattle.qual_core.specs.Names.{is_among, is_distinct}
use Rattle.qual_core.specs.Command.{texts, options, pairs, are_pairs, is_pair_of, is_option_of, are_options_of, place_from}
use Rattle.qual_core.specs.declared.command.CommandName.{CommandName}

pub options-short : (w : List (String Global)) → length w < 2 → options (texts w) ≡ []
options-short [] h = refl
options-short (a ∷ []) h = refl
options-short (a ∷ b ∷ w) h = absurd (omega arith)

pub options-step : (w : List (String Global)) (d : String Global) → 2 ≤ length w → options (texts w) ≡ string_bytes (get_or w 0 d) ∷ options (texts (drop 2 w))
options-step [] d h = absurd (omega arith)
options-step (a ∷ []) d h = absurd (omega arith)
options-step (a ∷ b ∷ w) d h = refl

pub place-short : (n : ℕ) (w : List (String Global)) (wanted : List ℕ) → length w < 2 → place_from n (texts w) wanted ≡ None
place-short n [] wanted h = refl
place-short n (a ∷ []) wanted h = refl
place-short n (a ∷ b ∷ w) wanted h = absurd (omega arith)

pub place-here : (n : ℕ) (w : List (String Global)) (wanted : List ℕ) (d : String Global) → 2 ≤ length w → bytes_eq (string_bytes (get_or w 0 d)) wanted ≡ true → place_from n (texts w) wanted ≡ Some (n + 1)
place-here n [] wanted d h e = absurd (omega arith)
place-here n (a ∷ []) wanted d h e = absurd (omega arith)
place-here n (a ∷ b ∷ w) wanted d h e = rw e refl

pub place-later : (n : ℕ) (w : List (String Global)) (wanted : List ℕ) (d : String Global) → 2 ≤ length w → bytes_eq (string_bytes (get_or w 0 d)) wanted ≡ false → place_from n (texts w) wanted ≡ place_from (n + 2) (texts (drop 2 w)) wanted
place-later n [] wanted d h e = absurd (omega arith)
place-later n (a ∷ []) wanted d h e = absurd (omega arith)
place-later n (a ∷ b ∷ w) wanted d h e = rw e refl

-- the same, by how many words are left
pub place-now : (n : ℕ) (w : List (String Global)) (wanted : List ℕ) (d : String Global) → 2 ≤ length w → length w ≤ n → bytes_eq (string_bytes (get_or w 0 d)) wanted ≡ true → place_from (1 + (n - length w)) (texts w) wanted ≡ Some ((n - length w) + 2)
place-now n w wanted d h k e =
    let f : (n - length w) + 2 ≡ (1 + (n - length w)) + 1 = omega arith in
    rw f (place-here (1 + (n - length w)) w wanted d h e)

pub place-on : (n : ℕ) (w : List (String Global)) (wanted : List ℕ) (d : String Global) → 2 ≤ length w → length w ≤ n → bytes_eq (string_bytes (get_or w 0 d)) wanted ≡ false → place_from (1 + (n - length w)) (texts w) wanted ≡ place_from (1 + (n - length (drop 2 w))) (texts (drop 2 w)) wanted
place-on n w wanted d h k e =
    let f : 1 + (n - length (drop 2 w)) ≡ (1 + (n - length w)) + 2 = omega (arith, length-drop 2 w) in
    rw f (place-later (1 + (n - length w)) w wanted d h e)

-- what is left behind a pair
rest-of : (w : List (String Global)) → take (length w - 2) (drop 2 w) ≡ drop 2 w
rest-of w =
    let g : length (drop 2 w) ≡ length w - 2 = length-drop 2 w in
    rw (← g) (take-length (drop 2 w))

pub place-next : (whole : Option ℕ) (n : ℕ) (w : List (String Global)) (wanted : List ℕ) (d : String Global) → 2 ≤ length w → length w ≤ n → bytes_eq (string_bytes (get_or w 0 d)) wanted ≡ false → whole ≡ place_from (1 + (n - length w)) (texts w) wanted → (length (take (length w - 2) (drop 2 w)) ≤ n) × (whole ≡ place_from (1 + (n - length (take (length w - 2) (drop 2 w)))) (texts (take (length w - 2) (drop 2 w))) wanted)
place-next whole n w wanted d h k e f =
    let g : length (drop 2 w) ≡ length w - 2 = length-drop 2 w in
    rw (rest-of w) (omega arith, f ∙ place-on n w wanted d h k e)

pub ruleset word_lemmas = (options-short, options-step, place-short, place-now)

-- the tests of a first pair and of the pairs behind it
regrouped : (p d k pair again : Bool) → p && (not again && d) && (pair && k) ≡ (pair && not again) && (p && d && k)
regrouped true true true true true = refl
regrouped true true true true false = refl
regrouped true true true false true = refl
regrouped true true true false false = refl
regrouped true true false true true = refl
regrouped true true false true false = refl
regrouped true true false false true = refl
regrouped true true false false false = refl
regrouped true false k true true = refl
regrouped true false k true false = refl
regrouped true false k false true = refl
regrouped true false k false false = refl
regrouped false d k true true = refl
regrouped false d k true false = refl
regrouped false d k false true = refl
regrouped false d k false false = refl

options-split : (name : CommandName) (w : List (String Global)) (d : String Global) → 2 ≤ length w → are_options_of name (texts w) ≡ is_option_of name (string_bytes (get_or w 0 d)) (string_bytes (get_or w 1 d)) (texts (drop 2 w)) && are_options_of name (texts (drop 2 w))
options-split name [] d h = absurd (omega arith)
options-split name (a ∷ []) d h = absurd (omega arith)
options-split name (a ∷ b ∷ w) d h =
    regrouped (are_pairs (texts w)) (is_distinct (options (texts w))) (list_all (is_pair_of name) (pairs (texts w)))
    (is_pair_of name (string_bytes a, string_bytes b)) (is_among (options (texts w)) (string_bytes a))

pub options_end : (name : CommandName) (w : List (String Global)) → length w < 2 → are_options_of name (texts w) ≡ (length w == 0)
options_end name [] h = refl
options_end name (a ∷ []) h = refl
options_end name (a ∷ b ∷ w) h = absurd (omega arith)

pub options-bad : (name : CommandName) (w : List (String Global)) (d e : String Global) → 2 ≤ length w → is_option_of name (string_bytes (get_or w 0 d)) (string_bytes (get_or w 1 e)) (texts (drop 2 w)) ≡ false → are_options_of name (texts w) ≡ false
options-bad name [] d e h f = absurd (omega arith)
options-bad name (a ∷ []) d e h f = absurd (omega arith)
options-bad name (a ∷ b ∷ w) d e h f = rw (options-split name (a ∷ b ∷ w) d h) (rw f refl)

pub options-good : (name : CommandName) (w : List (String Global)) (d e : String Global) → 2 ≤ length w → is_option_of name (string_bytes (get_or w 0 d)) (string_bytes (get_or w 1 e)) (texts (drop 2 w)) ≡ true → are_options_of name (texts w) ≡ are_options_of name (texts (drop 2 w))
options-good name [] d e h f = absurd (omega arith)
options-good name (a ∷ []) d e h f = absurd (omega arith)
options-good name (a ∷ b ∷ w) d e h f = rw (options-split name (a ∷ b ∷ w) d h) (rw f refl)

pub bad-pair : (name : CommandName) (w : List (String Global)) (o v : List ℕ) (d e : String Global) → 2 ≤ length w → o ≡ string_bytes (get_or w 0 d) → v ≡ string_bytes (get_or w 1 e) → is_option_of name o v (texts (take (length w - 2) (drop 2 w))) ≡ false → are_options_of name (texts w) ≡ false
bad-pair name w o v d e h p q f =
    let k : is_option_of name (string_bytes (get_or w 0 d)) (string_bytes (get_or w 1 e)) (texts (drop 2 w)) ≡ false = rw (p, q, rest-of w) at f in
    options-bad name w d e h k

pub good-pair : (name : CommandName) (w : List (String Global)) (o v : List ℕ) (d e : String Global) → 2 ≤ length w → o ≡ string_bytes (get_or w 0 d) → v ≡ string_bytes (get_or w 1 e) → is_option_of name o v (texts (take (length w - 2) (drop 2 w))) ≡ true → are_options_of name (texts w) ≡ are_options_of name (texts (take (length w - 2) (drop 2 w)))
good-pair name w o v d e h p q f =
    let k : is_option_of name (string_bytes (get_or w 0 d)) (string_bytes (get_or w 1 e)) (texts (drop 2 w)) ≡ true = rw (p, q, rest-of w) at f in
    rw (rest-of w) (options-good name w d e h k)
