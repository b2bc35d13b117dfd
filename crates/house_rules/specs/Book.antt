-- The rules of a book.
use Rattle.std.specs.Prelude.{◌≡◌, ◌<◌, ◌++◌, ◌∷◌, [], ℕ, List, length, map, Option, Result, Ok, Err}
use Rattle.std.specs.List.{slice_get}
use Rattle.std.specs.Option.{option_map}
use Rattle.verdict_text.specs.declared.finding.Code.{Code}
use Rattle.house_rules.specs.Rules.{Rule, rule}
use Rattle.house_rules.specs.declared.refusal.BookRefusal.{BookRefusal}
use Rattle.house_rules.specs.declared.refusal.BookRefusal.TheVariants as refusals
use Rattle.house_rules.specs.declared.book.HouseBook.{HouseBook}
use Rattle.house_rules.specs.declared.rule.HouseRule.{HouseRule}

abbrev pub rule_of : {g : _} {f : _} {m : _} → HouseRule g f m → Rule
rule_of r = rule r.code r.setting

-- in their order
abbrev pub rules_of : {g : _} {f : _} {m : _} → HouseBook g f m → List Rule
rules_of book = map rule_of book.rules.items

abbrev pub code_at : List Rule → ℕ → Option Code
code_at rules place = option_map (λ r. r.code) (slice_get rules place)

abbrev pub setting_at : List Rule → ℕ → Option (List ℕ)
setting_at rules place = option_map (λ r. r.setting) (slice_get rules place)

-- A rule comes behind the others where they are fewer than 16. Where there are 16 it is refused as Full, and then or where
-- memory is refused the book is as it was.
abbrev pub Pushed : List Rule → Rule → List Rule → Result (Unit {0}) BookRefusal → Type 0
Pushed old r new (Ok u) = (length old < 16) × (new ≡ old ++ r ∷ [])
Pushed old r new (Err refusals.Full) = (length old ≡ 16) × (new ≡ old)
Pushed old r new (Err refusals.NoMemory) = (length old < 16) × (new ≡ old)
