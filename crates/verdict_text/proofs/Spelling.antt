-- Words of well-formed results, and what they tell again.
use Rattle.std.proofs.Common.{◌≡◌, refl, ◌∙◌, sym, ap, ◌<◌, ◌^◌, ℕ, zero, suc, Bool, true, false, not, ◌&&◌, ◌||◌, ◌==◌, nat_le, nat_lt, if◌then◌else◌, List, [], ◌∷◌, ◌++◌, length, Option, Some, None, arith, codes, decimal, lit<}
use Rattle.std.specs.List.{list_all}
use Rattle.std.specs.Char.{is_ascii_digit}
use Rattle.std.specs.Str.{bytes_eq}
use Rattle.std.specs.Str.Parse.{digits_value}
use Rattle.std.proofs.lemmas.Bool.Decides.{nat_tests}
use Rattle.std.proofs.lemmas.Slice.Eq.{bytes_eq-Decides}
use Rattle.std.proofs.lemmas.Fmt.{digits_decimal, digits_value-decimal, decimal_digit}
use Rattle.tern_core.specs.declared.tern.Tern.{Tern}
use Rattle.tern_core.specs.declared.tern.Tern.TheVariants as terns
use Rattle.tern_core.specs.Values.{symbol_of}
use Rattle.text_scan.specs.Limits.{word_of}
use Rattle.text_scan.specs.declared.limits.LimitKind.{LimitKind}
use Rattle.text_scan.specs.declared.limits.LimitKind.TheVariants as kinds
use Rattle.file_rules.specs.Names.{is_name, is_mark, is_shown, is_graphic, are_graphic, is_name_byte, is_no_name_byte, has_name_bytes}
use Rattle.file_rules.specs.Kept.{both_true, neither_true, names_graphic}
use Rattle.verdict_text.specs.Words.{view_word, code_word}
use Rattle.verdict_text.specs.Lines.{change_word, any_change_word, pin_word, value_word}
use Rattle.verdict_text.specs.WellFormed.{is_told_name, is_number, is_ordinal, is_change, is_any_change, is_any_pin}
use Rattle.verdict_text.specs.Told.{told_number, told_value, told_change, told_any_change, told_pin, told_view, told_code, told_kind, sides_of, change_of, told_change_of}
use Rattle.verdict_text.specs.declared.finding.View.{View}
use Rattle.verdict_text.specs.declared.finding.View.TheVariants as views
use Rattle.verdict_text.specs.declared.finding.Code.{Code}
use Rattle.verdict_text.specs.declared.finding.Code.TheVariants as finding_codes
use Rattle.verdict_text.specs.declared.finding.Change.{Change}
use Rattle.verdict_text.proofs.Cutting.{lacks, split_first, split_whole}
use Rattle.verdict_text.proofs.Numbers.{own, told_some}

-- ---- numbers

digit_graphic : (b : ℕ) → is_ascii_digit b ≡ true → is_graphic b ≡ true
digit_graphic b h = grind (arith, nat_tests)

digits_graphic : (bs : List ℕ) → list_all is_ascii_digit bs ≡ true → are_graphic bs ≡ true
digits_graphic [] h = refl
digits_graphic (b ∷ bs) h =
    let both = both_true (is_ascii_digit b) (list_all is_ascii_digit bs) h in
    rw (digit_graphic b both.0, digits_graphic bs both.1) refl

small : (n : ℕ) → is_number n ≡ true → n < 2 ^ 32
small n h = grind (arith, nat_tests)

wide : (n : ℕ) → n < 2 ^ 32 → n < 2 ^ 64
wide n h = omega arith

pub number_graphic : (n : ℕ) → is_number n ≡ true → are_graphic (decimal n) ≡ true
number_graphic n h = digits_graphic (decimal n) (digits_decimal own n (wide n (small n h)))

some_digit : (ds : List ℕ) (n : ℕ) → decimal n ≡ ds → digits_value 10 ds ≡ n → nat_lt 0 (length ds) ≡ true
some_digit [] zero e v =
    let d : decimal 0 ≡ 48 ∷ [] = decimal_digit 0 (lit< tt) in
    cc
some_digit [] (suc n) e v = cc
some_digit (d ∷ ds) n e v = grind (arith, nat_tests)

has_digit : (n : ℕ) → digits_value 10 (decimal n) ≡ n → 0 < length (decimal n)
has_digit n v =
    let h = some_digit (decimal n) n refl v in
    grind (arith, nat_tests)

pub number_back : (n : ℕ) → is_number n ≡ true → told_number (decimal n) ≡ Some n
number_back n h =
    let l = wide n (small n h) in
    let v : digits_value 10 (decimal n) ≡ n = digits_value-decimal own n l in
    let s : digits_value 10 (decimal n) < 2 ^ 32 = rw v (small n h) in
    told_some (decimal n) n (digits_decimal own n l) (has_digit n v) s (sym v)

pub ordinal_number : (n : ℕ) → is_ordinal n ≡ true → is_number n ≡ true
ordinal_number n h = (both_true (nat_le 1 n) (is_number n) h).1

pub ordinal_graphic : (n : ℕ) → is_ordinal n ≡ true → are_graphic (decimal n) ≡ true
ordinal_graphic n h = number_graphic n (ordinal_number n h)

pub ordinal_back : (n : ℕ) → is_ordinal n ≡ true → told_number (decimal n) ≡ Some n
ordinal_back n h = number_back n (ordinal_number n h)

-- ---- names

name_parts : (w : List ℕ) → is_name w ≡ true → (has_name_bytes w ≡ true) × (is_mark w ≡ false)
unfolding is_name
name_parts w h =
    let rest = (both_true (nat_lt 0 (length w)) (has_name_bytes w && (if is_mark w then false else true)) h).1 in
    let both = both_true (has_name_bytes w) (if is_mark w then false else true) rest in
    (both.0, unmarked (is_mark w) both.1)
  where
    unmarked : (v : Bool) → (if v then false else true) ≡ true → v ≡ false
    unmarked false k = refl
    unmarked true k = cc

told_name : (w : List ℕ) → is_told_name w ≡ true → is_name w ≡ true
told_name w h = (both_true (is_name w) (nat_le (length w) 128) h).0

pub name_graphic : (w : List ℕ) → is_told_name w ≡ true → are_graphic w ≡ true
name_graphic w h = names_graphic w (name_parts w (told_name w h)).0

pub shown_graphic : (w : List ℕ) → is_shown w ≡ true → are_graphic w ≡ true
shown_graphic w h =
    (both_true (nat_le (length w) 128) (are_graphic w) (both_true (nat_lt 0 (length w)) (nat_le (length w) 128 && are_graphic w) h).1).1

equal_apart : (x : ℕ) (v : Bool) → (x == 61) ≡ v → is_name_byte x ≡ true → not v ≡ true
unfolding is_name_byte is_no_name_byte
equal_apart x false e h = refl
equal_apart x true e h = grind (arith, nat_tests)

bytes_lack : (w : List ℕ) → has_name_bytes w ≡ true → lacks 61 w ≡ true
bytes_lack [] h = refl
bytes_lack (x ∷ xs) h =
    let both = both_true (is_name_byte x) (has_name_bytes xs) h in
    rw (equal_apart x (x == 61) refl both.0, bytes_lack xs both.1) refl

pub name_lacks : (w : List ℕ) → is_told_name w ≡ true → lacks 61 w ≡ true
name_lacks w h = bytes_lack w (name_parts w (told_name w h)).0

no_dash : (w : List ℕ) → is_mark w ≡ false → bytes_eq w (45 ∷ []) ≡ false
unfolding is_mark
no_dash w h = (neither_true (bytes_eq w (45 ∷ [])) (bytes_eq w (42 ∷ [])) h).0

pub name_no_dash : (w : List ℕ) → is_told_name w ≡ true → bytes_eq w (codes "-") ≡ false
name_no_dash w h = no_dash w (name_parts w (told_name w h)).1

pub pin_back : (p : Option (List ℕ)) → is_any_pin p ≡ true → told_pin (pin_word p) ≡ p
unfolding told_pin
pin_back None h = refl
pin_back (Some w) h = rw (name_no_dash w h) refl

pub pin_graphic : (p : Option (List ℕ)) → is_any_pin p ≡ true → are_graphic (pin_word p) ≡ true
pin_graphic None h = refl
pin_graphic (Some w) h = name_graphic w h

-- ---- the words of views, codes, kinds and values

pub view_graphic : (v : View) → are_graphic (view_word v) ≡ true
view_graphic views.Liberty = refl
view_graphic views.Verilog = refl
view_graphic views.Cdl = refl
view_graphic views.Lef = refl

pub view_back : (v : View) → told_view (view_word v) ≡ Some v
view_back views.Liberty = refl
view_back views.Verilog = refl
view_back views.Cdl = refl
view_back views.Lef = refl

pub code_graphic : (c : Code) → are_graphic (code_word c) ≡ true
code_graphic finding_codes.P1 = refl
code_graphic finding_codes.P2 = refl
code_graphic finding_codes.P3 = refl
code_graphic finding_codes.P4 = refl
code_graphic finding_codes.H1 = refl
code_graphic finding_codes.H2 = refl
code_graphic finding_codes.H3 = refl
code_graphic finding_codes.H4 = refl
code_graphic finding_codes.H5 = refl
code_graphic finding_codes.M1 = refl
code_graphic finding_codes.M2 = refl
code_graphic finding_codes.Z1 = refl
code_graphic finding_codes.Z2 = refl

pub code_back : (c : Code) → told_code (code_word c) ≡ Some c
code_back finding_codes.P1 = refl
code_back finding_codes.P2 = refl
code_back finding_codes.P3 = refl
code_back finding_codes.P4 = refl
code_back finding_codes.H1 = refl
code_back finding_codes.H2 = refl
code_back finding_codes.H3 = refl
code_back finding_codes.H4 = refl
code_back finding_codes.H5 = refl
code_back finding_codes.M1 = refl
code_back finding_codes.M2 = refl
code_back finding_codes.Z1 = refl
code_back finding_codes.Z2 = refl

pub kind_graphic : (k : LimitKind) → are_graphic (word_of k) ≡ true
kind_graphic kinds.Inputs = refl
kind_graphic kinds.Gates = refl
kind_graphic kinds.Transistors = refl
kind_graphic kinds.Nodes = refl
kind_graphic kinds.Rows = refl
kind_graphic kinds.Pins = refl
kind_graphic kinds.UdpInputs = refl
kind_graphic kinds.Cells = refl
kind_graphic kinds.Name = refl
kind_graphic kinds.Nesting = refl
kind_graphic kinds.Records = refl
kind_graphic kinds.Rects = refl

pub kind_back : (k : LimitKind) → told_kind (word_of k) ≡ Some k
kind_back kinds.Inputs = refl
kind_back kinds.Gates = refl
kind_back kinds.Transistors = refl
kind_back kinds.Nodes = refl
kind_back kinds.Rows = refl
kind_back kinds.Pins = refl
kind_back kinds.UdpInputs = refl
kind_back kinds.Cells = refl
kind_back kinds.Name = refl
kind_back kinds.Nesting = refl
kind_back kinds.Records = refl
kind_back kinds.Rects = refl

pub value_graphic : (t : Tern) → are_graphic (value_word t) ≡ true
value_graphic terns.Zero = refl
value_graphic terns.One = refl
value_graphic terns.Unknown = refl

pub value_back : (t : Tern) → told_value (value_word t) ≡ Some t
unfolding told_value
value_back terns.Zero = refl
value_back terns.One = refl
value_back terns.Unknown = refl

value_lacks : (t : Tern) → lacks 61 (value_word t) ≡ true
value_lacks terns.Zero = refl
value_lacks terns.One = refl
value_lacks terns.Unknown = refl

-- ---- changes

graphic_joined : (xs ys : List ℕ) → are_graphic xs ≡ true → are_graphic ys ≡ true → are_graphic (xs ++ ys) ≡ true
graphic_joined [] ys h k = k
graphic_joined (x ∷ xs) ys h k =
    let both = both_true (is_graphic x) (are_graphic xs) h in
    rw (both.0, graphic_joined xs ys both.1 k) refl

pub change_graphic : (c : Change) → is_change c ≡ true → are_graphic (change_word c) ≡ true
change_graphic c h = graphic_joined c.pin (61 ∷ value_word c.value) (name_graphic c.pin h) (value_graphic c.value)

pub change_back : (c : Change) → is_change c ≡ true → told_change (change_word c) ≡ Some c
change_back c h =
    ap told_change_of
    (split_first 61 c.pin (value_word c.value) (name_lacks c.pin h) ∙ ap (λ rest. c.pin ∷ rest) (split_whole 61 (value_word c.value) (value_lacks c.value)))
    ∙ (rw (value_back c.value) refl)

pub any_change_graphic : (o : Option Change) → is_any_change o ≡ true → are_graphic (any_change_word o) ≡ true
any_change_graphic None h = refl
any_change_graphic (Some c) h = change_graphic c h

no_lone_dash : (w : List ℕ) (v : ℕ) → bytes_eq (w ++ 61 ∷ v ∷ []) (codes "-") ≡ false
no_lone_dash [] v = refl
no_lone_dash (x ∷ []) v = grind (arith, nat_tests)
no_lone_dash (x ∷ y ∷ w) v = grind (arith, nat_tests)

pub any_change_back : (o : Option Change) → is_any_change o ≡ true → told_any_change (any_change_word o) ≡ Some o
unfolding told_any_change
any_change_back None h = refl
any_change_back (Some c) h = rw (no_lone_dash c.pin (symbol_of c.value), change_back c h) refl
