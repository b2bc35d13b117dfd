-- The five fields of a record as the code has them.
use Rattle.std.specs.Prelude.{◌≡◌, ℕ, List, [], ◌∷◌, Some}
use Rattle.verdict_text.specs.Told.{told_code}
use Rattle.waivers.specs.Days.{day_of}
use Rattle.waivers.specs.File.{waivers_of}
use Rattle.waivers.specs.declared.fields.Fields.{Fields}
use Rattle.waivers.specs.declared.fields.Terms.{Terms}
use Rattle.waivers.specs.declared.rows.Rows.{Rows}

-- the record that they are
abbrev pub row_of : Fields → List (List ℕ)
row_of f = f.cell.now ∷ f.code.now ∷ f.pin.now ∷ f.day.now ∷ f.reason.now ∷ []

-- the code and the day that the fields tell
abbrev pub AreTerms : Fields → Terms → Type 0
AreTerms f t = (told_code f.code.now ≡ Some t.code) × (day_of f.day.now ≡ Some t.last)

-- the waivers of these records
abbrev pub Holds : Rows → List (List (List ℕ)) → Type 0
Holds r rows = r.rows ≡ waivers_of rows
