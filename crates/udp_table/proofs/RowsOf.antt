-- The rows of a text, one by one.
use Rattle.std.proofs.Common.{◌≡◌, ℕ, suc, ◌+◌, ◌<◌, Bool, List, [], ◌∷◌, zero, ◌++◌, length, take, get_or, Option, Some, None, MatchOption, ap, sym, ◌∙◌, subst, arith}
use Rattle.std.specs.List.{AllZip}
use Rattle.std.specs.Str.{str_to_ascii_lowercase}
use Rattle.std.proofs.lemmas.Slice.Zip.{all_zipped_more}
use Rattle.std.proofs.lemmas.List.{take_more, get_or_read, get_or-take, length-take-le}
use Rattle.verilog_source.specs.declared.primitive.UdpText.{UdpText}
use Rattle.udp_table.specs.declared.row.Row.{Row}
use Rattle.udp_table.specs.Letters.{Fits, IsRow}
use Rattle.udp_table.specs.Building.{IsGoodRow, IsFirstBadRow}
use Rattle.udp_table.specs.Reading.{row_in}
use Rattle.udp_table.proofs.Grammar.{row_in-sound, row_in-letters}

-- what is found, or that there is no row
abbrev pub IsFound : Bool → ℕ → List ℕ → Option Row → Type 0
IsFound q n bytes found = MatchOption found ((row : Row) → IsRow q n bytes row → ⊥) (IsRow q n bytes)

pub row_is_found : (q : Bool) (n : ℕ) (bytes letters : List ℕ) (found : Option Row) → letters ≡ str_to_ascii_lowercase bytes → found ≡ row_in q n letters → IsFound q n bytes found
row_is_found q n bytes letters None l h =
    λ row k. let e = row_in-letters q n (str_to_ascii_lowercase bytes) row k in absurd (cc (ap (row_in q n) l))
row_is_found q n bytes letters (Some row) l h =
    row_in-sound q n (str_to_ascii_lowercase bytes) row (ap (row_in q n) (sym l) ∙ sym h)

good_at : (q : Bool) (n : ℕ) (texts : List (List ℕ)) (rows : List Row) (k : ℕ) → AllZip (IsRow q n) texts rows → k < length texts → (row : Row) × IsRow q n (get_or texts k []) row
good_at q n [] rows k all h = absurd (omega arith)
good_at q n (t ∷ texts) [] k all h = absurd all
good_at q n (t ∷ texts) (row ∷ rows) zero all h = (row, all.0)
good_at q n (t ∷ texts) (row ∷ rows) (suc k) all h = good_at q n texts rows k all.1 (omega arith)

pub first_bad : (text : UdpText) (place : ℕ) (rows : List Row) (found : Option Row) (bytes item : List ℕ) → place < length text.rows → found ≡ None → IsFound text.sequential text.inputs bytes found → bytes ≡ item → item ≡ get_or text.rows place item → AllZip (IsRow text.sequential text.inputs) (take place text.rows) rows → IsFirstBadRow text place
first_bad text place rows found bytes item inside none is p q all =
    let same : bytes ≡ get_or text.rows place [] = p ∙ get_or_read text.rows place item inside q [] in
    let nothing : (row : Row) → IsRow text.sequential text.inputs bytes row → ⊥ = subst (IsFound text.sequential text.inputs bytes) none is in
    record {
      in_text = inside;
      bad = λ good. nothing good.0 (subst (λ b. IsRow text.sequential text.inputs b good.0) (sym same) good.1);
      good_before = λ k below.
          subst (IsGoodRow text) (get_or-take place text.rows k [] below)
          (good_at text.sequential text.inputs (take place text.rows) rows k all (omega (arith, length-take-le place text.rows (omega arith))));
    }

pub one_more : (text : UdpText) (place : ℕ) (rows more : List Row) (found : Option Row) (row : Row) (bytes item : List ℕ) → place < length text.rows → found ≡ Some row → IsFound text.sequential text.inputs bytes found → bytes ≡ item → item ≡ get_or text.rows place item → more ≡ rows ++ row ∷ [] → AllZip (IsRow text.sequential text.inputs) (take place text.rows) rows → AllZip (IsRow text.sequential text.inputs) (take (place + 1) text.rows) more
one_more text place rows more found row bytes item inside some is p q m all =
    let here : IsRow text.sequential text.inputs bytes row = subst (IsFound text.sequential text.inputs bytes) some is in
    let longer : take (place + 1) text.rows ≡ take place text.rows ++ item ∷ [] =
    take_more text.rows place item inside ∙ ap (λ t. take place text.rows ++ t ∷ []) (sym q) in
    rw (longer, m)
    (all_zipped_more (IsRow text.sequential text.inputs) (take place text.rows) rows item row all (subst (λ b. IsRow text.sequential text.inputs b row) p here))

pub all_fit : (q : Bool) (n : ℕ) (texts : List (List ℕ)) (rows : List Row) → AllZip (IsRow q n) texts rows → (k : ℕ) (d : Row) → k < length rows → Fits q n (get_or rows k d)
all_fit q n texts [] all k d h = absurd (omega arith)
all_fit q n [] (row ∷ rows) all k d h = absurd all
all_fit q n (t ∷ texts) (row ∷ rows) all zero d h = all.0.0
all_fit q n (t ∷ texts) (row ∷ rows) all (suc k) d h = all_fit q n texts rows all.1 k d (omega arith)
