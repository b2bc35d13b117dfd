-- The steps of a comparison.
use Rattle.std.proofs.Common.{◌≡◌, ◌<◌, ◌≤◌, ℕ, refl, sym, ◌∙◌, ap, subst, arith, List, [], ◌∷◌, map, length, Option, None, false}
use Rattle.tern_core.specs.declared.tern.Tern.{Tern}
use Rattle.liberty_source.specs.declared.LibertyCell.{LibertyCell}
use Rattle.verilog_source.specs.declared.module.Module.{Module}
use Rattle.verilog_source.specs.declared.primitive.UdpPart.{UdpPart}
use Rattle.liberty_meaning.specs.declared.behaviour.Behaviour.{Behaviour}
use Rattle.liberty_meaning.specs.declared.refusal.MeaningRefusal.{MeaningRefusal}
use Rattle.liberty_meaning.specs.declared.refusal.MeaningRefusal.TheVariants as meanings
use Rattle.liberty_meaning.specs.Meaning.{UnlessMemory}
use Rattle.liberty_meaning.specs.Names.{output_pins}
use Rattle.liberty_meaning.specs.Cell.{Refuses}
use Rattle.module_net.specs.declared.refusal.GateRefusal.{GateRefusal}
use Rattle.module_net.specs.Building.{NamedNetwork, IsNetOf, IsRefused}
use Rattle.pin_tables.specs.declared.table.FourViews.{FourViews}
use Rattle.pin_tables.specs.Findings.{ArePinFindings}
use Rattle.verdict_text.specs.declared.finding.Finding.{Finding}
use Rattle.verdict_text.specs.declared.reason.Reason.{Reason}
use Rattle.cell_compare.specs.declared.comparison.Comparison.{Comparison}
use Rattle.cell_compare.specs.declared.comparison.Comparison.TheVariants as comparison
use Rattle.cell_compare.specs.declared.primitives.PrimitiveTables.{PrimitiveTables}
use Rattle.cell_compare.specs.Parts.{IsPrimitivesOf, first_reason, udp_name}
use Rattle.cell_compare.specs.Pins.{two_views, have_many_pins, compared, input_names, supplies_of}
use Rattle.cell_compare.specs.Reasons.{IsMeaningReason, IsGateReason}
use Rattle.cell_compare.specs.Compare.{IsOverNetwork, IsOverTables, no_network, network, IsOverPrimitives, IsOverMeaning, no_meaning, IsOverModule, IsOverFindings, IsOverViews}
use Rattle.cell_compare.proofs.Pinning.{few_outputs}

module _ (b : Behaviour) (cell : LibertyCell) (m : Module) (parts : List UdpPart) (p : PrimitiveTables) where
  no_reason : (reason : Option Reason) → IsPrimitivesOf parts p → reason ≡ first_reason p.names p.flaws m.elements → reason ≡ None → first_reason (map udp_name parts) p.flaws m.elements ≡ None
  no_reason reason i r none = sym (ap (λ ns. first_reason ns p.flaws m.elements) i.names) ∙ sym r ∙ none

  over : (reason : Option Reason) (c : Comparison) → IsPrimitivesOf parts p → reason ≡ first_reason p.names p.flaws m.elements → reason ≡ None → IsOverTables b cell m p.tables c → IsOverPrimitives b cell m parts c
  over reason c i r none h = record { flaws = p.flaws; tables = p.tables; made = i.made; found = rw (no_reason reason i r none) h }

  pub over_made : (reason : Option Reason) (inputs : List (List ℕ)) (supplies : List (List ℕ × Tern)) (net : NamedNetwork) (c : Comparison)
      → IsPrimitivesOf parts p → reason ≡ first_reason p.names p.flaws m.elements → reason ≡ None → inputs ≡ input_names cell → supplies ≡ supplies_of cell
      → IsNetOf m p.tables inputs supplies net → IsOverNetwork b cell net c → IsOverPrimitives b cell m parts c
  over_made reason inputs supplies net c i r none e f is h =
      over reason c i r none (network net (subst (λ s. IsNetOf m p.tables (input_names cell) s net) f (subst (λ n. IsNetOf m p.tables n supplies net) e is)) h)

  pub over_refused : (reason : Option Reason) (inputs : List (List ℕ)) (supplies : List (List ℕ × Tern)) (e : GateRefusal) (r : Reason)
      → IsPrimitivesOf parts p → reason ≡ first_reason p.names p.flaws m.elements → reason ≡ None → inputs ≡ input_names cell → supplies ≡ supplies_of cell
      → IsRefused m p.tables inputs supplies e → IsGateReason e r → IsOverPrimitives b cell m parts (comparison.Refused r)
  over_refused reason inputs supplies e r i o none f g is told =
      over reason (comparison.Refused r) i o none (no_network e (subst (λ s. IsRefused m p.tables (input_names cell) s e) g (subst (λ n. IsRefused m p.tables n supplies e) f is)) r told refl)

-- a refusal that is told isn't want of memory
unless : (e : MeaningRefusal) (r : Reason) (P : Type 0) → IsMeaningReason e r → UnlessMemory e P → P
unless meanings.NoMemory r P h u = absurd h
unless (meanings.UnknownName n) r P h u = u
unless (meanings.BadFunction o k) r P h u = u
unless (meanings.BadStateRow row) r P h u = u
unless (meanings.Construct word line) r P h u = u

pub meaning_refused : (cell : LibertyCell) (m : Module) (parts : List UdpPart) (e : MeaningRefusal) (r : Reason)
    → UnlessMemory e (Refuses cell e) → IsMeaningReason e r → IsOverMeaning cell m parts (comparison.Refused r)
meaning_refused cell m parts e r u h = no_meaning e (unless e r (Refuses cell e) h u) r h refl

module _ (cell : LibertyCell) (m : Option Module) (parts : List UdpPart) (views : FourViews) (found kept : List Finding) where
  few : views ≡ two_views cell m → have_many_pins views ≡ false → have_many_pins (two_views cell m) ≡ false
  few v h = sym (ap have_many_pins v) ∙ h

  over_pins : (c : Comparison) → views ≡ two_views cell m → have_many_pins views ≡ false → ArePinFindings views found → IsOverFindings (compared found) cell m parts c → IsOverViews cell m parts c
  over_pins c v h are f = rw (few v h) (record { findings = found; are = subst (λ k. ArePinFindings k found) v are; found = f })

  pub pins_found : views ≡ two_views cell m → have_many_pins views ≡ false → ArePinFindings views found → kept ≡ compared found → 0 < length kept → IsOverViews cell m parts (comparison.Pins kept)
  pins_found v h are k some = over_pins (comparison.Pins kept) v h are (subst (λ fs. IsOverFindings fs cell m parts (comparison.Pins kept)) k (each kept some))
    where
      each : (fs : List Finding) → 0 < length fs → IsOverFindings fs cell m parts (comparison.Pins fs)
      each [] some = absurd (omega arith)
      each (f ∷ fs) some = refl

  pub pins_equal : (c : Comparison) → views ≡ two_views cell m → have_many_pins views ≡ false → ArePinFindings views found → kept ≡ compared found → length kept ≡ 0 → IsOverModule cell m parts c → IsOverViews cell m parts c
  pins_equal c v h are k none o = over_pins c v h are (subst (λ fs. IsOverFindings fs cell m parts c) k (each kept none))
    where
      each : (fs : List Finding) → length fs ≡ 0 → IsOverFindings fs cell m parts c
      each [] none = o
      each (f ∷ fs) none = absurd (omega arith)

  pub few_named : views ≡ two_views cell m → have_many_pins views ≡ false → length (output_pins cell.pins) ≤ 64
  few_named v h = few_outputs cell m (few v h)
