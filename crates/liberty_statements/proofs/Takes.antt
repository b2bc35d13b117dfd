-- Each token that is taken leads to what the grammar says of the tokens that are visible.
use Rattle.std.proofs.Common.{◌≡◌, ℕ, zero, suc, ◌≤◌, leb, Bool, true, false, ◌&&◌, List, ◌∷◌, Ok, Err, refl, ap, subst, ◌∙◌, arith}
use Rattle.text_scan.specs.declared.token.Token.{Token}
use Rattle.text_scan.specs.declared.limits.Limits.{Limits}
use Rattle.liberty_tokens.specs.declared.look.Look.{Look}
use Rattle.liberty_tokens.specs.declared.look.Look.TheVariants as looks
use Rattle.liberty_statements.specs.declared.machine.Phase.{Phase}
use Rattle.liberty_statements.specs.declared.machine.Phase.TheVariants as phases
use Rattle.liberty_statements.specs.declared.machine.Machine.{Machine}
use Rattle.liberty_tokens.specs.Looks.{look_of, text, is_word, shows, goes_on, before_them, visible}
use Rattle.liberty_tokens.specs.Words.{is_library, is_include}
use Rattle.liberty_statements.specs.Actions.{Outcome, begin_statement, add_arg, add_value, settle, enter, open_library, name_library}
use Rattle.liberty_statements.specs.Steps.{Moved, moved, deepened, in_title, in_title_word, in_title_open, in_title_name, in_title_closed, in_closing, in_statement, in_word, in_value, in_open, in_arg, in_comma, unless_included, in_closed, in_library, in_semicolon, step, is_in_value, step_if, taken}
use Rattle.liberty_statements.specs.ToCome.{Answer, reads, stop, outcome, IsPlaced}
use Rattle.liberty_statements.proofs.Follows.{step_ok}

-- the new state is in its place, and knows whether a value is read
abbrev pub Fine : Bool → Look → Moved → Type 0
Fine in_value l (Ok m) = IsPlaced m.phase m.depth × (goes_on in_value l ≡ is_in_value m.phase)
Fine in_value l (Err e) = Unit {0}

moved_fine : (v : Bool) (l : Look) (p : Phase) (m : Machine) (o : Outcome) → IsPlaced p m.depth → goes_on v l ≡ is_in_value p → Fine v l (moved p m o)
moved_fine v l p m (Ok s) d e = (d, e)
moved_fine v l p m (Err r) d e = tt

deepened_fine : (v : Bool) (m : Machine) (o : Outcome) → Fine v looks.OpenBrace (deepened m o)
deepened_fine v m (Ok s) = ((omega arith), refl)
deepened_fine v m (Err r) = tt

not_one : (n : ℕ) → leb n 1 ≡ false → 2 ≤ n
not_one zero h = absurd cc
not_one (suc zero) h = absurd cc
not_one (suc (suc n)) h = omega arith

closing_fine : (v : Bool) (source : List ℕ) (m : Machine) → Fine v looks.CloseBrace (in_closing source m)
unfolding in_closing
closing_fine v source m = go (leb m.depth 1) refl
  where
    go : (g : Bool) → leb m.depth 1 ≡ g → Fine v looks.CloseBrace (in_closing source m)
    go true e = rw e (tt, refl)
    go false e = let deep = not_one m.depth e in rw e ((omega arith), refl)

statement_fine : (source : List ℕ) (t : Token) (l : Look) (m : Machine) → 1 ≤ m.depth → Fine false l (in_statement source t l m)
statement_fine source t looks.Semicolon m d = (d, refl)
statement_fine source t looks.Word m d = moved_fine false looks.Word phases.Word m (begin_statement t m.statements) d refl
statement_fine source t looks.CloseBrace m d = closing_fine false source m
statement_fine source t _ m d = tt

word_fine : (l : Look) (m : Machine) → 1 ≤ m.depth → Fine false l (in_word l m)
word_fine looks.Colon m d = (d, refl)
word_fine looks.OpenParen m d = (d, refl)
word_fine _ m d = tt

value_fine : (source : List ℕ) (limits : Limits) (t : Token) (l : Look) (m : Machine) → 1 ≤ m.depth → Fine true l (in_value source limits t l m)
value_fine source limits t looks.Semicolon m d = moved_fine true looks.Semicolon phases.Statement m (settle source t m.statements) d refl
value_fine source limits t looks.LineEnd m d = moved_fine true looks.LineEnd phases.Statement m (settle source t m.statements) d refl
value_fine source limits t looks.CloseBrace m d = closing_fine true source m
value_fine source limits t looks.OpenBrace m d = tt
value_fine source limits t looks.Colon m d = tt
value_fine source limits t looks.End m d = tt
value_fine source limits t looks.Unfinished m d = tt
value_fine source limits t looks.Unnamed m d = tt
value_fine source limits t l m d = moved_fine true l phases.Value m (add_value source limits t m.statements) d refl

open_fine : (t : Token) (l : Look) (m : Machine) → 1 ≤ m.depth → Fine false l (in_open t l m)
open_fine t looks.Word m d = moved_fine false looks.Word phases.Arg m (add_arg t m.statements) d refl
open_fine t looks.Str m d = moved_fine false looks.Str phases.Arg m (add_arg t m.statements) d refl
open_fine t looks.CloseParen m d = (d, refl)
open_fine t _ m d = tt

arg_fine : (t : Token) (l : Look) (m : Machine) → 1 ≤ m.depth → Fine false l (in_arg t l m)
arg_fine t looks.Word m d = moved_fine false looks.Word phases.Arg m (add_arg t m.statements) d refl
arg_fine t looks.Str m d = moved_fine false looks.Str phases.Arg m (add_arg t m.statements) d refl
arg_fine t looks.Comma m d = (d, refl)
arg_fine t looks.CloseParen m d = (d, refl)
arg_fine t _ m d = tt

comma_fine : (t : Token) (l : Look) (m : Machine) → 1 ≤ m.depth → Fine false l (in_comma t l m)
comma_fine t looks.Word m d = moved_fine false looks.Word phases.Arg m (add_arg t m.statements) d refl
comma_fine t looks.Str m d = moved_fine false looks.Str phases.Arg m (add_arg t m.statements) d refl
comma_fine t _ m d = tt

unless_fine : (g : Bool) (l : Look) (next : Moved) → Fine false l next → Fine false l (unless_included g next)
unless_fine true l next h = tt
unless_fine false l next h = h

closed_fine : (source : List ℕ) (limits : Limits) (t : Token) (l : Look) (m : Machine) → 1 ≤ m.depth → Fine false l (in_closed source limits t l m)
closed_fine source limits t looks.OpenBrace m d = deepened_fine false m (enter source limits m.room t m.statements)
closed_fine source limits t l m d = unless_fine (is_include (text source m.statements.word)) l (in_statement source t l m) (statement_fine source t l m d)

title_fine : (g : Bool) (l : Look) (m : Machine) → (is_word l ≡ false → g ≡ false) → m.depth ≡ 0 → Fine false l (in_title g m)
title_fine false l m h d = tt
title_fine true looks.Word m h d = (d, refl)
title_fine true l m h d = absurd (let bad = h refl in cc)

title_word_fine : (l : Look) (m : Machine) → m.depth ≡ 0 → Fine false l (in_title_word l m)
title_word_fine looks.OpenParen m d = (d, refl)
title_word_fine _ m d = tt

title_open_fine : (source : List ℕ) (limits : Limits) (t : Token) (l : Look) (m : Machine) → m.depth ≡ 0 → Fine false l (in_title_open source limits t l m)
title_open_fine source limits t looks.Word m d = moved_fine false looks.Word phases.TitleName m (name_library source limits t m.statements) d refl
title_open_fine source limits t looks.Str m d = moved_fine false looks.Str phases.TitleName m (name_library source limits t m.statements) d refl
title_open_fine source limits t _ m d = tt

title_name_fine : (l : Look) (m : Machine) → m.depth ≡ 0 → Fine false l (in_title_name l m)
title_name_fine looks.CloseParen m d = (d, refl)
title_name_fine _ m d = tt

title_closed_fine : (t : Token) (l : Look) (m : Machine) → Fine false l (in_title_closed t l m)
title_closed_fine t looks.OpenBrace m = deepened_fine false m (open_library m.room t m.statements)
title_closed_fine t _ m = tt

library_fine : (l : Look) (m : Machine) → Fine false l (in_library l m)
library_fine looks.Semicolon m = (tt, refl)
library_fine looks.End m = (tt, refl)
library_fine _ m = tt

semicolon_fine : (l : Look) (m : Machine) → Fine false l (in_semicolon l m)
semicolon_fine looks.End m = (tt, refl)
semicolon_fine _ m = tt

no_word : (g x : Bool) → g ≡ false → (g && x) ≡ false
no_word true x h = absurd cc
no_word false x h = refl

step_fine : (source : List ℕ) (limits : Limits) (t : Token) (l : Look) (p : Phase) (m : Machine) → IsPlaced p m.depth → Fine (is_in_value p) l (step source limits t l p m)
unfolding step
step_fine source limits t l phases.Title m d = title_fine (is_word l && is_library (text source t)) l m (no_word (is_word l) (is_library (text source t))) d
step_fine source limits t l phases.TitleWord m d = title_word_fine l m d
step_fine source limits t l phases.TitleOpen m d = title_open_fine source limits t l m d
step_fine source limits t l phases.TitleName m d = title_name_fine l m d
step_fine source limits t l phases.TitleClosed m d = title_closed_fine t l m
step_fine source limits t l phases.Statement m d = statement_fine source t l m d
step_fine source limits t l phases.Word m d = word_fine l m d
step_fine source limits t l phases.Value m d = value_fine source limits t l m d
step_fine source limits t l phases.Open m d = open_fine t l m d
step_fine source limits t l phases.Arg m d = arg_fine t l m d
step_fine source limits t l phases.Comma m d = comma_fine t l m d
step_fine source limits t l phases.Closed m d = closed_fine source limits t l m d
step_fine source limits t l phases.Library m d = library_fine l m
step_fine source limits t l phases.Semicolon m d = semicolon_fine l m
step_fine source limits t l phases.File m d = tt

hidden : (v : Bool) (l : Look) → shows v l ≡ false → goes_on v l ≡ v
hidden true l h = absurd cc
hidden false looks.LineEnd h = refl
hidden false _ h = absurd cc

-- what is read of the tokens of a text, where these are left
abbrev pub reads_left : List ℕ → Limits → Machine → List Token → Answer
reads_left source limits m ts = reads source limits m (visible source (is_in_value m.phase) ts)

-- what a token leads to, where these follow
abbrev pub leads_to : List ℕ → Limits → Machine → Moved → Token → List Token → Answer
leads_to source limits old (Ok m) t ts = reads_left source limits m ts
leads_to source limits old (Err e) t ts = stop e (t ∷ visible source (goes_on (is_in_value old.phase) (look_of source t)) ts)

pub take_ok : (source : List ℕ) (limits : Limits) (m : Machine) (t : Token) (ts : List Token) → IsPlaced m.phase m.depth
    → reads_left source limits m (t ∷ ts) ≡ leads_to source limits m (taken source limits t m) t ts
unfolding taken
take_ok source limits m t ts d = go (shows (is_in_value m.phase) (look_of source t)) refl
  where
    ok : (o : Moved) → Fine (is_in_value m.phase) (look_of source t) o
        → outcome source limits o t (visible source (goes_on (is_in_value m.phase) (look_of source t)) ts) ≡ leads_to source limits m o t ts
    ok (Ok n) f = ap (λ v. reads source limits n (visible source v ts)) f.1
    ok (Err e) f = refl

    go : (g : Bool) → shows (is_in_value m.phase) (look_of source t) ≡ g
        → reads source limits m (before_them (shows (is_in_value m.phase) (look_of source t)) t (visible source (goes_on (is_in_value m.phase) (look_of source t)) ts))
        ≡ leads_to source limits m (step_if (shows (is_in_value m.phase) (look_of source t)) (step source limits t (look_of source t) m.phase m) m) t ts
    go true e = rw e (step_ok source limits m.phase m t (visible source (goes_on (is_in_value m.phase) (look_of source t)) ts) d ∙ ok (step source limits t (look_of source t) m.phase m) (step_fine source limits t (look_of source t) m.phase m d))
    go false e = rw e (ap (λ v. reads source limits m (visible source v ts)) (hidden (is_in_value m.phase) (look_of source t) e))

pub take_placed : (source : List ℕ) (limits : Limits) (m n : Machine) (t : Token) → IsPlaced m.phase m.depth → taken source limits t m ≡ Ok n → IsPlaced n.phase n.depth
unfolding taken
take_placed source limits m n t d e = go (shows (is_in_value m.phase) (look_of source t)) e
  where
    fine : (o : Moved) → Fine (is_in_value m.phase) (look_of source t) o → o ≡ Ok n → IsPlaced n.phase n.depth
    fine (Ok k) f g = let same : k ≡ n = cc in subst (λ z. IsPlaced z.phase z.depth) same f.0
    fine (Err r) f g = absurd cc

    go : (g : Bool) → step_if g (step source limits t (look_of source t) m.phase m) m ≡ Ok n → IsPlaced n.phase n.depth
    go true h = fine (step source limits t (look_of source t) m.phase m) (step_fine source limits t (look_of source t) m.phase m d) h
    go false h = let same : m ≡ n = cc in subst (λ z. IsPlaced z.phase z.depth) same d
