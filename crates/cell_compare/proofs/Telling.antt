-- Each text that a comparison shows can be shown.
use Rattle.std.proofs.Common.{◌≡◌, ℕ, refl, sym, ◌∙◌, ap, subst, List, [], ◌∷◌, map, length, Option, Some, None, Bool, true, false, slice_get}
use Rattle.std.specs.List.{flat_map, list_all}
use Rattle.std.specs.Option.{option_map}
use Rattle.text_scan.specs.declared.limits.Limits.{Limits}
use Rattle.file_rules.specs.Names.{are_graphic, is_shown}
use Rattle.file_rules.specs.Kept.{both_true}
use Rattle.liberty_source.specs.declared.CellPart.{CellPart}
use Rattle.liberty_source.specs.declared.CellPart.TheVariants as cells
use Rattle.liberty_source.specs.declared.LibertyCell.{LibertyCell}
use Rattle.liberty_source.specs.Library.{is_part, is_cell, is_pin}
use Rattle.verilog_source.specs.declared.Source.{Source}
use Rattle.verilog_source.specs.declared.module.Module.{Module}
use Rattle.verilog_source.specs.declared.module.ModulePart.{ModulePart}
use Rattle.verilog_source.specs.declared.module.ModulePart.TheVariants as modules
use Rattle.verilog_source.specs.declared.primitive.UdpPart.{UdpPart}
use Rattle.verilog_source.specs.Source.{IsSource, is_module, is_module_part, is_udp_part, is_element, module_name}
use Rattle.liberty_meaning.specs.declared.behaviour.Behaviour.{Behaviour}
use Rattle.name_index.specs.Places.{place_of}
use Rattle.udp_table.specs.Table.{Table}
use Rattle.module_net.specs.Building.{NamedNetwork}
use Rattle.verdict_text.specs.declared.finding.Finding.{Finding}
use Rattle.verdict_text.specs.declared.reason.Reason.{Reason}
use Rattle.cell_compare.specs.declared.comparison.Comparison.{Comparison}
use Rattle.cell_compare.specs.declared.comparison.Comparison.TheVariants.{Refused, Pins, Vectors}
use Rattle.cell_compare.specs.declared.tally.Disagreement.{Disagreement}
use Rattle.cell_compare.specs.Parts.{module_named, udp_name, part_at, first_reason}
use Rattle.cell_compare.specs.Pins.{compared, two_views, have_many_pins}
use Rattle.cell_compare.specs.Rows.{first_disagreement, defined_count, outputs_of}
use Rattle.cell_compare.specs.Compare as compare
use Rattle.cell_compare.specs.Compare.{finding_of, AreCompared, IsComparison}
use Rattle.cell_compare.specs.Telling.{told_texts, reason_texts, finding_texts, AreGraphic}
use Rattle.cell_compare.proofs.Graphic.{all_at, shown_graphic, one_graphic}
use Rattle.cell_compare.proofs.MeaningTexts.{meaning_told}
use Rattle.cell_compare.proofs.FindingTexts.{pins_told, gates_told, primitives_told, output_told}

either : {P Q R : Type 0} (b : Bool) → compare.Either b P Q → (P → R) → (Q → R) → R
either true h f g = f h
either false h f g = g h

refused_told : (r : Reason) (c : Comparison) → AreGraphic (reason_texts r) → c ≡ Refused r → AreGraphic (told_texts c)
refused_told r c h e = rw e h

first_told : (d : Option Disagreement) (f : Disagreement → Finding) (n m : ℕ) (c : Comparison) → ((x : Disagreement) → AreGraphic (finding_texts (f x))) → c ≡ Vectors n m (option_map f d) → AreGraphic (told_texts c)
first_told None f n m c h e = rw e refl
first_told (Some d) f n m c h e = rw e (h d)

module _ (limits : Limits) (source : Source) (is : IsSource limits source) (cell : LibertyCell) (kept : is_cell limits cell ≡ true) (c : Comparison) where
  pins : list_all (is_pin limits) cell.pins ≡ true
  pins = (both_true _ _ (both_true _ _ (both_true _ _ kept).0).0).1

  elements : (m : Module) → is_module limits m ≡ true → list_all (is_element limits) m.elements ≡ true
  elements m h = (both_true _ _ h).1

  over_tables : (m : Module) → is_module limits m ≡ true → (b : Behaviour) (tables : List Table) → compare.IsOverTables b cell m tables c → AreGraphic (told_texts c)
  over_tables m h b tables (compare.no_network e f r k x) = refused_told r c (gates_told limits m tables _ _ e r h f k) x
  over_tables m h b tables (compare.network net n x) =
      either (compare.holds_state cell net) x (refused_told _ c refl)
      (λ y. first_told (first_disagreement 1 y.rows) (finding_of (outputs_of net.names cell.pins)) (length y.rows) (defined_count y.rows) c (λ d. output_told limits net.names cell.pins d pins) y.found)

  over_reason : (o : Option Reason) {P : Type 0} → ((r : Reason) → o ≡ Some r → AreGraphic (reason_texts r)) → compare.IsOverReason o P c → (P → AreGraphic (told_texts c)) → AreGraphic (told_texts c)
  over_reason (Some r) told x f = refused_told r c (told r refl) x
  over_reason None told x f = f x

  over_elements : (m : Module) → is_module limits m ≡ true → (b : Behaviour) → compare.IsOverElements b cell m source.primitives c → AreGraphic (told_texts c)
  over_elements m h b (compare.drive_constants n x) = refused_told _ c refl x
  over_elements m h b (compare.drive_nets n p) =
      over_reason (first_reason (map udp_name source.primitives) p.flaws m.elements)
      (λ r e. primitives_told limits (map udp_name source.primitives) source.primitives p.flaws p.tables m.elements r is.primitives (elements m h) p.made e) p.found
      (λ x. over_tables m h b p.tables x)

  over_meaning : (m : Module) → is_module limits m ≡ true → compare.IsOverMeaning cell m source.primitives c → AreGraphic (told_texts c)
  over_meaning m h (compare.no_meaning e f r k x) = refused_told r c (meaning_told limits cell e r kept f k) x
  over_meaning m h (compare.meaning b means x) = either _ x (refused_told _ c refl) (over_elements m h b)

  over_module : (o : Option Module) → ((m : Module) → o ≡ Some m → is_module limits m ≡ true) → compare.IsOverModule cell o source.primitives c → AreGraphic (told_texts c)
  over_module None h x = absurd x
  over_module (Some m) h x = either _ x (refused_told _ c refl) (over_meaning m (h m refl))

  over_findings : (found : List Finding) (o : Option Module) → ((m : Module) → o ≡ Some m → is_module limits m ≡ true) → AreGraphic (flat_map finding_texts found) → compare.IsOverFindings found cell o source.primitives c
      → AreGraphic (told_texts c)
  over_findings (f ∷ found) o h told x = rw x told
  over_findings [] o h told x = over_module o h x

  over_views : (o : Option Module) → ((m : Module) → o ≡ Some m → is_module limits m ≡ true) → compare.IsOverViews cell o source.primitives c → AreGraphic (told_texts c)
  over_views o h x =
      either (have_many_pins (two_views cell o)) x (refused_told _ c refl)
      (λ p. over_findings (compared p.findings) o h (pins_told limits cell o p.findings pins h p.are) p.found)

  over_part : (o : Option ModulePart) → ((p : ModulePart) → o ≡ Some p → is_module_part limits p ≡ true) → compare.IsOverPart cell o source.primitives c → AreGraphic (told_texts c)
  over_part (Some (modules.Refused name construct line)) h x = refused_told _ c (one_graphic construct (shown_graphic construct (both_true _ _ (h _ refl)).1)) x
  over_part (Some (modules.Whole m)) h x = over_views (Some m) (λ n e. let same : m ≡ n = cc in subst (λ k. is_module limits k ≡ true) same (h _ refl)) x
  over_part None h x = over_views None (λ n e. absurd cc) x

  named_part : (place : Option ℕ) (p : ModulePart) → part_at source.modules place ≡ Some p → is_module_part limits p ≡ true
  named_part None p e = absurd cc
  named_part (Some k) p e = all_at (is_module_part limits) source.modules k p is.modules e

pub texts_told : (limits : Limits) (part : CellPart) (source : Source) (c : Comparison) → is_part limits part ≡ true → IsSource limits source → IsComparison part source c → AreGraphic (told_texts c)
texts_told limits (cells.Refused name construct line) source c h is x = refused_told _ c (one_graphic construct (shown_graphic construct (both_true _ _ h).1)) x
texts_told limits (cells.Whole cell) source c h is x =
    over_part limits source is cell h c (module_named source.modules cell.name) (λ p e. named_part limits source is cell h c _ p e) x
