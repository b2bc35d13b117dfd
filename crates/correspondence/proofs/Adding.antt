-- What lines add.
use Rattle.std.proofs.Common.{◌≡◌, ◌<◌, ◌≤◌, ◌++◌, ◌∷◌, [], ℕ, true, false, List, length, map, Option, Some, None, Result, Ok, Err, refl, sym, ap, subst, ◌∙◌, append_assoc, append-nil, arith}
use Rattle.std.specs.Prelude.{nat_le}
use Rattle.text_scan.specs.declared.limits.Limits.{Limits}
use Rattle.text_scan.specs.declared.limits.LimitKind.TheVariants as limit_kinds
use Rattle.text_scan.specs.declared.refusal.FileRefusal.{FileRefusal}
use Rattle.text_scan.specs.declared.refusal.FileRefusal.TheVariants as refusals
use Rattle.text_scan.specs.declared.token.Token.{Token}
use Rattle.file_rules.specs.Refusals.{at_token, too_many}
use Rattle.file_rules.specs.Told.{Agrees, Steps, TellsSome}
use Rattle.grammar.specs.Reading.{◌>>=◌}
use Rattle.table_source.specs.declared.Row.{Row}
use Rattle.correspondence.specs.Lines.{PlacedWord}
use Rattle.correspondence.specs.Words.{bytes_of, first_of, more_refusal, name_refusal, names_of, names_refusal, row_of, unless}
use Rattle.correspondence.specs.Parts.{made, no_table, with_names}
use Rattle.correspondence.specs.Actions.{add_names, add_row, begin, cell_of, cell_refusal, close, new_name_refusal, opened}
use Rattle.correspondence.specs.declared.kinds.LineKind.{LineKind}
use Rattle.correspondence.specs.declared.table.NamesLine.{NamesLine}
use Rattle.correspondence.specs.declared.parts.Parts.{Parts}
use Rattle.correspondence.proofs.Taking.{agrees_unless, steps_on, steps_unless}

pub tells_first : (e : FileRefusal) (o p : Option FileRefusal) → TellsSome e o → TellsSome e (first_of o p)
tells_first refusals.NoMemory o p h = tt
tells_first (refusals.Syntax line column) o p h = ap (λ z. first_of z p) h
tells_first (refusals.TooMany kind number) o p h = ap (λ z. first_of z p) h
tells_first (refusals.DoubleName name line) o p h = ap (λ z. first_of z p) h

pub tells_next : (e : FileRefusal) (o p : Option FileRefusal) → o ≡ None → TellsSome e p → TellsSome e (first_of o p)
tells_next e o p n h = subst (λ z. TellsSome e (first_of z p)) (sym n) h

-- ---- names

names_cons : (limits : Limits) (w : PlacedWord) (ws : List PlacedWord) → names_refusal limits (w ∷ ws) ≡ first_of (name_refusal limits w) (names_refusal limits ws)
unfolding names_refusal
names_cons limits w ws = refl

names_nil : (limits : Limits) → names_refusal limits [] ≡ None
unfolding names_refusal
names_nil limits = refl

names_is : (limits : Limits) (line : ℕ) (ws : List PlacedWord) → names_of limits line ws ≡ unless (names_refusal limits ws) (record { names = map bytes_of ws; line = line })
unfolding names_of
names_is limits line ws = refl

pub names_fail : (limits : Limits) (line : ℕ) (all ws us : List PlacedWord) (w : PlacedWord) (e : FileRefusal) → names_refusal limits all ≡ names_refusal limits ws → ws ≡ w ∷ us
    → TellsSome e (name_refusal limits w) → Agrees {X = NamesLine} (Err e) (names_of limits line all)
names_fail limits line all ws us w e h k t =
    let same : names_refusal limits all ≡ first_of (name_refusal limits w) (names_refusal limits us) = h ∙ ap (names_refusal limits) k ∙ names_cons limits w us in
    subst (Agrees {X = NamesLine} (Err e)) (sym (names_is limits line all))
    (agrees_unless e (names_refusal limits all) (record { names = map bytes_of all; line = line })
    (subst (TellsSome e) (sym same) (tells_first e (name_refusal limits w) (names_refusal limits us) t)))

pub names_more : (limits : Limits) (all ws us : List PlacedWord) (w : PlacedWord) → names_refusal limits all ≡ names_refusal limits ws → ws ≡ w ∷ us → name_refusal limits w ≡ None
    → names_refusal limits all ≡ names_refusal limits us
names_more limits all ws us w h k n = h ∙ ap (names_refusal limits) k ∙ names_cons limits w us ∙ ap (λ o. first_of o (names_refusal limits us)) n

pub made_more : (all ws us : List PlacedWord) (w : PlacedWord) (old new : List (List ℕ)) (name : List ℕ) → map bytes_of all ≡ old ++ map bytes_of ws → ws ≡ w ∷ us → name ≡ w.bytes → new ≡ old ++ name ∷ []
    → map bytes_of all ≡ new ++ map bytes_of us
made_more all ws us w old new name h k e n =
    let snoc : (old ++ w.bytes ∷ []) ++ map bytes_of us ≡ old ++ w.bytes ∷ map bytes_of us = rw append_assoc refl in
    h ∙ ap (λ z. old ++ map bytes_of z) k ∙ sym snoc
    ∙ ap (λ b. (old ++ b ∷ []) ++ map bytes_of us) (sym e) ∙ ap (λ z. z ++ map bytes_of us) (sym n)

pub names_end : (limits : Limits) (line : ℕ) (all ws : List PlacedWord) (names : List (List ℕ)) → names_refusal limits all ≡ names_refusal limits ws → ws ≡ []
    → map bytes_of all ≡ names ++ map bytes_of ws → names_of limits line all ≡ Ok (record { names = names; line = line })
names_end limits line all ws names h k m =
    let none : names_refusal limits all ≡ None = h ∙ ap (names_refusal limits) k ∙ names_nil limits in
    let same : map bytes_of all ≡ names = m ∙ ap (λ z. names ++ map bytes_of z) k ∙ append-nil names in
    names_is limits line all ∙ ap (λ o. unless o (record { names = map bytes_of all; line = line })) none
    ∙ ap (λ z. Ok (record { names = z; line = line })) same

-- ---- the first line of a table

pub cell_missing : (limits : Limits) (names : List (List ℕ)) (ws : List PlacedWord) (ending t : Token) → ws ≡ [] → ending ≡ t → cell_refusal limits names ws ending ≡ Some (at_token t)
unfolding cell_refusal
cell_missing limits names ws ending t e f = rw (e, f) refl

pub cell_is : (limits : Limits) (names : List (List ℕ)) (ws us : List PlacedWord) (w : PlacedWord) (ending : Token) → ws ≡ w ∷ us
    → cell_refusal limits names ws ending ≡ first_of (new_name_refusal limits names w) (more_refusal us)
unfolding cell_refusal
cell_is limits names ws us w ending e = rw e refl

pub cell_named : (ws us : List PlacedWord) (w : PlacedWord) → ws ≡ w ∷ us → cell_of ws ≡ w.bytes
cell_named ws us w e = rw e refl

pub begin_full : (limits : Limits) (line : ℕ) (ws : List PlacedWord) (ending : Token) (s : Parts) → limits.cells ≤ length s.tables → begin limits line ws ending s ≡ Err (too_many limits limit_kinds.Cells)
unfolding begin
begin_full limits line ws ending s h = let yes : nat_le limits.cells (length s.tables) ≡ true = grind arith in rw yes refl

pub begin_is : (limits : Limits) (line : ℕ) (ws : List PlacedWord) (ending : Token) (s : Parts) → length s.tables < limits.cells
    → begin limits line ws ending s ≡ unless (cell_refusal limits s.names ws ending) (opened line (cell_of ws) s)
unfolding begin
begin_is limits line ws ending s h = let no : nat_le limits.cells (length s.tables) ≡ false = grind arith in rw no refl

pub begin_fails : (limits : Limits) (line : ℕ) (ws : List PlacedWord) (ending : Token) (s new : Parts) (e : FileRefusal) → length s.tables < limits.cells
    → TellsSome e (cell_refusal limits s.names ws ending) → Steps {U = Unit {0}} (Err e) new (begin limits line ws ending s)
begin_fails limits line ws ending s new e h t =
    subst (Steps {U = Unit {0}} (Err e) new) (sym (begin_is limits line ws ending s h)) (steps_unless e (cell_refusal limits s.names ws ending) new (opened line (cell_of ws) s) t)

pub begin_opens : (limits : Limits) (line : ℕ) (ws : List PlacedWord) (ending : Token) (s : Parts) (cell : List ℕ) → length s.tables < limits.cells
    → cell_refusal limits s.names ws ending ≡ None → cell_of ws ≡ cell → begin limits line ws ending s ≡ Ok (opened line cell s)
begin_opens limits line ws ending s cell h n c =
    begin_is limits line ws ending s h ∙ ap (λ o. unless o (opened line (cell_of ws) s)) n ∙ ap (λ z. Ok (opened line z s)) c

-- ---- the other lines

abbrev pub named : LineKind → Parts → NamesLine → Result Parts FileRefusal
named kind s n = Ok (record s { current = with_names kind n s.current })

pub add_names_is : (limits : Limits) (kind : LineKind) (line : ℕ) (ws : List PlacedWord) (s : Parts) → add_names limits kind line ws s ≡ (names_of limits line ws >>= named kind s)
unfolding add_names
add_names_is limits kind line ws s = refl

pub add_names_fails : (limits : Limits) (kind : LineKind) (line : ℕ) (ws : List PlacedWord) (s new : Parts) (e : FileRefusal) → Agrees {X = NamesLine} (Err e) (names_of limits line ws)
    → Steps {U = Unit {0}} (Err e) new (add_names limits kind line ws s)
add_names_fails limits kind line ws s new e h =
    subst (Steps {U = Unit {0}} (Err e) new) (sym (add_names_is limits kind line ws s)) (steps_on e (names_of limits line ws) (named kind s) new h)

abbrev pub with_row : Parts → Row → Result Parts FileRefusal
with_row s r = Ok (record s { current = record s.current { rows = s.current.rows ++ r ∷ [] } })

pub add_row_is : (line : ℕ) (ws : List PlacedWord) (ending : Token) (s : Parts) → add_row line ws ending s ≡ (row_of line ws ending >>= with_row s)
unfolding add_row
add_row_is line ws ending s = refl

pub add_row_fails : (line : ℕ) (ws : List PlacedWord) (ending : Token) (s new : Parts) (e : FileRefusal) → Agrees {X = Row} (Err e) (row_of line ws ending)
    → Steps {U = Unit {0}} (Err e) new (add_row line ws ending s)
add_row_fails line ws ending s new e h =
    subst (Steps {U = Unit {0}} (Err e) new) (sym (add_row_is line ws ending s)) (steps_on e (row_of line ws ending) (with_row s) new h)

abbrev pub closed : Parts → Parts
closed s = record s { tables = s.tables ++ made s.current ∷ []; current = no_table }

pub close_is : (ws : List PlacedWord) (s : Parts) → close ws s ≡ unless (more_refusal ws) (closed s)
unfolding close
close_is ws s = refl

pub close_fails : (ws : List PlacedWord) (s new : Parts) (e : FileRefusal) → TellsSome e (more_refusal ws) → Steps {U = Unit {0}} (Err e) new (close ws s)
close_fails ws s new e h = subst (Steps {U = Unit {0}} (Err e) new) (sym (close_is ws s)) (steps_unless e (more_refusal ws) new (closed s) h)
