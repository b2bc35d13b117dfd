-- Where what becomes more known does not keep what was known.
use Rattle.std.proofs.Common.{◌≡◌, ◌∙◌, ap, refl, codes, true, List, [], ◌∷◌}
use Rattle.tern_core.specs.declared.tern.Tern.{Tern}
use Rattle.tern_core.specs.declared.tern.Tern.TheVariants.{Zero, One, Unknown}
use Rattle.liberty_function.specs.declared.program.Source.TheVariants as source
use Rattle.liberty_meaning.specs.declared.symbols.Symbol.TheVariants as symbol
use Rattle.liberty_meaning.specs.Pairs.{pair}
use Rattle.liberty_meaning.specs.Table.{first_matching, made, symbols_of}
use Rattle.liberty_meaning.proofs.TableLemmas.{begin_rows, end_rows, comma_cut, blank_cut, byte_cut}
use Rattle.liberty_meaning.specs.declared.table_text.RowWords.{RowWords}
use Rattle.liberty_meaning.specs.TableMeaning.{all_made}
use Rattle.liberty_meaning.specs.TableText.{rows_of, rows_from, ended, row_words}
use Rattle.liberty_meaning.specs.Known.{may_rise, LosesAtRise, LosesAtKnown}

pub loses_at_rise : (before after : Tern) → may_rise before after ≡ true → LosesAtRise before after
loses_at_rise Zero Zero e = absurd (cc)
loses_at_rise Zero One e = record { next = Zero; old = pair One Zero; lost = λ h. let a = h.0 in cc }
loses_at_rise Zero Unknown e = record { next = Zero; old = pair One Zero; lost = λ h. let a = h.0 in cc }
loses_at_rise One after e = absurd (cc)
loses_at_rise Unknown Zero e = absurd (cc)
loses_at_rise Unknown One e = record { next = Zero; old = pair One Zero; lost = λ h. let a = h.0 in cc }
loses_at_rise Unknown Unknown e = absurd (cc)

-- the rows of the table's text
second_row : rows_from [] [] (codes " - : - : L") ≡ row_words (codes "-" ∷ codes ":" ∷ codes "-" ∷ codes ":" ∷ codes "L" ∷ []) ∷ []
unfolding ended
second_row =
    blank_cut _ _ _ _ refl refl
    ∙ byte_cut _ _ _ _ refl refl
    ∙ blank_cut _ _ _ _ refl refl
    ∙ byte_cut _ _ _ _ refl refl
    ∙ blank_cut _ _ _ _ refl refl
    ∙ byte_cut _ _ _ _ refl refl
    ∙ blank_cut _ _ _ _ refl refl
    ∙ byte_cut _ _ _ _ refl refl
    ∙ blank_cut _ _ _ _ refl refl
    ∙ byte_cut _ _ _ _ refl refl
    ∙ end_rows _ _

both_rows : rows_of (codes "H : - : H, - : - : L") ≡ row_words (codes "H" ∷ codes ":" ∷ codes "-" ∷ codes ":" ∷ codes "H" ∷ []) ∷ row_words (codes "-" ∷ codes ":" ∷ codes "-" ∷ codes ":" ∷ codes "L" ∷ []) ∷ []
unfolding ended
both_rows =
    begin_rows _
    ∙ byte_cut _ _ _ _ refl refl
    ∙ blank_cut _ _ _ _ refl refl
    ∙ byte_cut _ _ _ _ refl refl
    ∙ blank_cut _ _ _ _ refl refl
    ∙ byte_cut _ _ _ _ refl refl
    ∙ blank_cut _ _ _ _ refl refl
    ∙ byte_cut _ _ _ _ refl refl
    ∙ blank_cut _ _ _ _ refl refl
    ∙ byte_cut _ _ _ _ refl refl
    ∙ comma_cut _ _ _ _ refl
    ∙ ap (λ (k : List RowWords). row_words (codes "H" ∷ codes ":" ∷ codes "-" ∷ codes ":" ∷ codes "H" ∷ []) ∷ k) second_row

pub loses_at_known : LosesAtKnown
unfolding all_made made symbols_of first_matching
loses_at_known = record {
  columns = source.Input 0 ∷ [];
  rows = record { inputs = symbol.High ∷ []; nodes = symbol.Any ∷ []; next = symbol.High ∷ [] } ∷ record { inputs = symbol.Any ∷ []; nodes = symbol.Any ∷ []; next = symbol.Low ∷ [] } ∷ [];
  text = ap (λ k. all_made 1 1 k) both_rows ∙ refl;
  less = Unknown ∷ [];
  more = One ∷ [];
  at_most = (tt, tt);
  state = Unknown ∷ [];
  lost = λ a h. let e : Zero ≡ One = h in cc;
}
