-- The first row that covers.
use Rattle.std.proofs.Common.{◌≡◌, ◌≤◌, ℕ, List, Option, Some, None, inl, inr, refl, ap, arith}
use Rattle.std.specs.Prelude.{slice_get}
use Rattle.std.proofs.lemmas.Bool.{cases_lt}
use Rattle.tern_core.specs.declared.tern.Tern.{Tern}
use Rattle.tern_core.specs.Order.{AreAtMost}
use Rattle.tern_core.proofs.Lists.{all_same, all_through}
use Rattle.table_source.specs.declared.Row.{Row}
use Rattle.correspondence.specs.Cover.{Covers, IsFirstCover, IsAtOrBefore}

pub more_known : (row : Row) (pins liberty udps nodes more : List Tern) → AreAtMost nodes more → Covers row pins liberty udps nodes → Covers row pins liberty udps more
more_known row pins liberty udps nodes more up h = record {
  same_pins = h.same_pins;
  same_liberty = h.same_liberty;
  same_udps = h.same_udps;
  nodes_at_most = all_through row.nodes nodes more h.nodes_at_most up;
}

pub own : (row : Row) → Covers row row.pins row.liberty row.udps row.nodes
own row = record { same_pins = refl; same_liberty = refl; same_udps = refl; nodes_at_most = all_same row.nodes }

-- where a row covers, the first one stands there or before
pub at_or_before : (rows : List Row) (pins liberty udps nodes : List Tern) (place : ℕ) (row : Row) (o : Option ℕ) → slice_get rows place ≡ Some row
    → Covers row pins liberty udps nodes → IsFirstCover rows pins liberty udps nodes o → IsAtOrBefore place o
at_or_before rows pins liberty udps nodes place row None at h first = first place row at h
at_or_before rows pins liberty udps nodes place row (Some k) at h first =
    elim (cases_lt place k) [ inl lt ↦ absurd (first.none_before place row lt at h) | inr le ↦ le ]

pub one_first : (rows : List Row) (pins liberty udps nodes : List Tern) (o p : Option ℕ) → IsFirstCover rows pins liberty udps nodes o
    → IsFirstCover rows pins liberty udps nodes p → o ≡ p
one_first rows pins liberty udps nodes None None h k = refl
one_first rows pins liberty udps nodes None (Some j) h k = absurd (h j k.row k.at_place k.covers)
one_first rows pins liberty udps nodes (Some i) None h k = absurd (k i h.row h.at_place h.covers)
one_first rows pins liberty udps nodes (Some i) (Some j) h k =
    let le : j ≤ i = at_or_before rows pins liberty udps nodes i h.row (Some j) h.at_place h.covers k in
    let ge : i ≤ j = at_or_before rows pins liberty udps nodes j k.row (Some i) k.at_place k.covers h in
    let same : i ≡ j = omega arith in
    ap Some same
