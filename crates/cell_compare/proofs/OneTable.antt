-- A primitive has one table, or one flaw.
use Rattle.std.proofs.Common.{◌≡◌, inl, inr, ℕ, zero, suc, ◌<◌, ◌≤◌, Bool, List, [], ◌∷◌, length, Option, Some, None, refl, sym, ◌∙◌, ap, subst, arith}
use Rattle.std.specs.Prelude.{slice_index_or}
use Rattle.std.specs.List.{AllZip}
use Rattle.std.specs.Str.{str_to_ascii_lowercase}
use Rattle.verilog_source.specs.declared.primitive.UdpPart.{UdpPart}
use Rattle.verilog_source.specs.declared.primitive.UdpPart.TheVariants as primitives
use Rattle.verilog_source.specs.declared.primitive.UdpText.{UdpText}
use Rattle.udp_table.specs.declared.row.Row.{Row}
use Rattle.udp_table.specs.declared.refusal.UdpRefusal.{UdpRefusal}
use Rattle.udp_table.specs.declared.refusal.UdpRefusal.TheVariants as refusal
use Rattle.udp_table.specs.Letters.{IsRow}
use Rattle.udp_table.specs.Conflicts.{HasNoConflict, IsFirstConflict}
use Rattle.udp_table.specs.Table.{Table}
use Rattle.udp_table.specs.Building.{number_at, AreRowsOf, IsFirstBadRow, IsBuilt, IsRefused}
use Rattle.udp_table.proofs.Grammar.{row_in-letters}
use Rattle.cell_compare.specs.declared.reasons.Flaw.{Flaw}
use Rattle.cell_compare.specs.declared.reasons.Flaw.TheVariants.{BadRow, RowsConflict, TooManyInputs}
use Rattle.cell_compare.specs.Reasons.{IsFlaw}
use Rattle.cell_compare.specs.Parts.{IsPartFlawed, IsPartBuilt, AreMade}
use Rattle.cell_compare.proofs.Cuts.{same_some, same_place}

-- ---- rows

row_once : (q : Bool) (n : ℕ) (bytes : List ℕ) (one other : Row) → IsRow q n bytes one → IsRow q n bytes other → one ≡ other
row_once q n bytes one other h k =
    same_some _ one other (row_in-letters q n (str_to_ascii_lowercase bytes) one h) (row_in-letters q n (str_to_ascii_lowercase bytes) other k)

rows_once : (q : Bool) (n : ℕ) (texts : List (List ℕ)) (rows others : List Row) → AllZip (IsRow q n) texts rows → AllZip (IsRow q n) texts others → rows ≡ others
rows_once q n [] [] [] h k = refl
rows_once q n [] [] (o ∷ others) h k = absurd k
rows_once q n [] (row ∷ rows) others h k = absurd h
rows_once q n (t ∷ texts) [] others h k = absurd h
rows_once q n (t ∷ texts) (row ∷ rows) [] h k = absurd k
rows_once q n (t ∷ texts) (row ∷ rows) (o ∷ others) h k =
    ap (λ z. z ∷ rows) (row_once q n t row o h.0 k.0) ∙ ap (λ z. o ∷ z) (rows_once q n texts rows others h.1 k.1)

good_at : (q : Bool) (n : ℕ) (texts : List (List ℕ)) (rows : List Row) (k : ℕ) → AllZip (IsRow q n) texts rows → k < length texts → (row : Row) × IsRow q n (slice_index_or texts k []) row
good_at q n [] rows k all h = absurd (omega arith)
good_at q n (t ∷ texts) [] k all h = absurd all
good_at q n (t ∷ texts) (row ∷ rows) zero all h = (row, all.0)
good_at q n (t ∷ texts) (row ∷ rows) (suc k) all h = good_at q n texts rows k all.1 (omega arith)

not_bad : (text : UdpText) (rows : List Row) (place : ℕ) → AreRowsOf text rows → IsFirstBadRow text place → ⊥
not_bad text rows place all bad = bad.bad (good_at text.sequential text.inputs text.rows rows place all bad.in_text)

bad_once : (text : UdpText) (p q : ℕ) → IsFirstBadRow text p → IsFirstBadRow text q → p ≡ q
bad_once text p q a b = same_place p q (λ less. a.bad (b.good_before p less)) (λ less. b.bad (a.good_before q less))

conflict_once : (q : Bool) (n : ℕ) (rows : List Row) (i j k l : ℕ) → IsFirstConflict q n rows i j → IsFirstConflict q n rows k l → (i ≡ k) × (j ≡ l)
conflict_once q n rows i j k l a b =
    let first : i ≡ k = same_place i k (λ less. b.none_before i j (inl less) a.here) (λ less. a.none_before k l (inl less) b.here) in
    (first, same_place j l (λ less. b.none_before i j (inr (first, less)) a.here) (λ less. a.none_before k l (inr (sym first, less)) b.here))

-- ---- tables

table_once : (text : UdpText) (one other : Table) → IsBuilt text one → IsBuilt text other → one ≡ other
table_once text one other a b =
    let make : List ℕ → Bool → ℕ → List Row → Table = λ w x y z. record { name = w; sequential = x; inputs = y; rows = z } in
    ap (λ w. make w one.sequential one.inputs one.rows) (a.name ∙ sym b.name)
    ∙ ap (λ x. make other.name x one.inputs one.rows) (a.sequential ∙ sym b.sequential)
    ∙ ap (λ y. make other.name other.sequential y one.rows) (a.inputs ∙ sym b.inputs)
    ∙ ap (λ z. make other.name other.sequential other.inputs z) (rows_once text.sequential text.inputs text.rows one.rows other.rows a.rows b.rows)

-- why a table isn't built
data Cause (text : UdpText) (f : Flaw) : Type 0 where
  many : 10 < text.inputs → f ≡ TooManyInputs → Cause text f
  bad_row : text.inputs ≤ 10 → (place : ℕ) → IsFirstBadRow text place → f ≡ BadRow (number_at place) → Cause text f
  conflict : text.inputs ≤ 10 → (rows : List Row) → AreRowsOf text rows → (i j : ℕ) → IsFirstConflict text.sequential text.inputs rows i j → f ≡ RowsConflict (number_at i) (number_at j) → Cause text f

cause_of : (text : UdpText) (e : UdpRefusal) (f : Flaw) → IsRefused text e → IsFlaw e f → Cause text f
cause_of text refusal.NoMemory f h k = absurd k
cause_of text (refusal.TooManyInputs n) f h k = many h.0 k
cause_of text (refusal.BadRow n) f h k = bad_row h.0 h.1.0 h.1.1 (k ∙ ap (λ z. BadRow z) h.1.2)
cause_of text (refusal.RowsConflict m n) f h k =
    let c = h.1.2 in
    conflict h.0 h.1.0 h.1.1 c.0 c.1.0 c.1.1 (k ∙ ap (λ z. RowsConflict z n) c.1.2 ∙ ap (λ z. RowsConflict (number_at c.0) z) c.1.3)

flaw_once : (text : UdpText) (f g : Flaw) → Cause text f → Cause text g → f ≡ g
flaw_once text f g (many h e) (many k d) = e ∙ sym d
flaw_once text f g (many h e) (bad_row k p b d) = absurd (omega arith)
flaw_once text f g (many h e) (conflict k rows all i j c d) = absurd (omega arith)
flaw_once text f g (bad_row h q a e) (many k d) = absurd (omega arith)
flaw_once text f g (bad_row h q a e) (bad_row k p b d) = e ∙ ap (λ z. BadRow (number_at z)) (bad_once text q p a b) ∙ sym d
flaw_once text f g (bad_row h q a e) (conflict k rows all i j c d) = absurd (not_bad text rows q all a)
flaw_once text f g (conflict h rows all i j c e) (many k d) = absurd (omega arith)
flaw_once text f g (conflict h rows all i j c e) (bad_row k p b d) = absurd (not_bad text rows p all b)
flaw_once text f g (conflict h rows all i j c e) (conflict k others too m n b d) =
    let same : rows ≡ others = rows_once text.sequential text.inputs text.rows rows others all too in
    let places = conflict_once text.sequential text.inputs others i j m n (subst (λ z. IsFirstConflict text.sequential text.inputs z i j) same c) b in
    e ∙ ap (λ z. RowsConflict (number_at z) (number_at j)) places.0 ∙ ap (λ z. RowsConflict (number_at m) (number_at z)) places.1 ∙ sym d

not_built : (text : UdpText) (f : Flaw) (t : Table) → IsBuilt text t → Cause text f → ⊥
not_built text f t b (many h e) = let few = b.few_inputs in omega arith
not_built text f t b (bad_row h p bad e) = not_bad text t.rows p b.rows bad
not_built text f t b (conflict h rows all i j c e) =
    let same : rows ≡ t.rows = rows_once text.sequential text.inputs text.rows rows t.rows all b.rows in
    let none : HasNoConflict text.sequential text.inputs t.rows = subst (λ n. HasNoConflict text.sequential n t.rows) b.inputs (subst (λ q. HasNoConflict q t.inputs t.rows) b.sequential b.no_conflict) in
    none i j (subst (λ z. IsFirstConflict text.sequential text.inputs z i j) same c).here

-- ---- the primitives of a source text

part_flaw_once : (p : UdpPart) (f g : Flaw) → IsPartFlawed p f → IsPartFlawed p g → f ≡ g
part_flaw_once (primitives.Whole u) f g h k = flaw_once u f g (cause_of u h.0 f h.1 h.2) (cause_of u k.0 g k.1 k.2)
part_flaw_once (primitives.Refused name construct line) f g h k = h ∙ sym k

part_table_once : (p : UdpPart) (t s : Table) → IsPartBuilt p t → IsPartBuilt p s → t ≡ s
part_table_once (primitives.Whole u) t s h k = table_once u t s h k
part_table_once (primitives.Refused name construct line) t s h k = absurd h

part_not_both : (p : UdpPart) (f : Flaw) (t : Table) → IsPartFlawed p f → IsPartBuilt p t → ⊥
part_not_both (primitives.Whole u) f t h k = not_built u f t k (cause_of u h.0 f h.1 h.2)
part_not_both (primitives.Refused name construct line) f t h k = k

-- they have one list of flaws and one of tables
pub made_once : (parts : List UdpPart) (flaws : List (Option Flaw)) (tables : List Table) (other_flaws : List (Option Flaw)) (others : List Table)
    → AreMade parts flaws tables → AreMade parts other_flaws others → (flaws ≡ other_flaws) × (tables ≡ others)
made_once [] [] [] [] [] a b = (refl, refl)
made_once [] [] [] [] (u ∷ us) a b = absurd b
made_once [] [] [] (g ∷ gs) us a b = absurd b
made_once [] [] (t ∷ ts) gs us a b = absurd a
made_once [] (f ∷ fs) ts gs us a b = absurd a
made_once (p ∷ ps) [] ts gs us a b = absurd a
made_once (p ∷ ps) (Some f ∷ fs) ts [] us a b = absurd b
made_once (p ∷ ps) (Some f ∷ fs) ts (Some g ∷ gs) us a b =
    let rest = made_once ps fs ts gs us a.1 b.1 in
    (ap (λ z. Some z ∷ fs) (part_flaw_once p f g a.0 b.0) ∙ ap (λ z. Some g ∷ z) rest.0, rest.1)
made_once (p ∷ ps) (Some f ∷ fs) ts (None ∷ gs) [] a b = absurd b
made_once (p ∷ ps) (Some f ∷ fs) ts (None ∷ gs) (u ∷ us) a b = absurd (part_not_both p f u a.0 b.0)
made_once (p ∷ ps) (None ∷ fs) [] gs us a b = absurd a
made_once (p ∷ ps) (None ∷ fs) (t ∷ ts) [] us a b = absurd b
made_once (p ∷ ps) (None ∷ fs) (t ∷ ts) (Some g ∷ gs) us a b = absurd (part_not_both p g t b.0 a.0)
made_once (p ∷ ps) (None ∷ fs) (t ∷ ts) (None ∷ gs) [] a b = absurd b
made_once (p ∷ ps) (None ∷ fs) (t ∷ ts) (None ∷ gs) (u ∷ us) a b =
    let rest = made_once ps fs ts gs us a.1 b.1 in
    (ap (λ z. None ∷ z) rest.0, ap (λ z. z ∷ ts) (part_table_once p t u a.0 b.0) ∙ ap (λ z. u ∷ z) rest.1)
