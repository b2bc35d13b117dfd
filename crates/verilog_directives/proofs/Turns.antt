-- The turns of tokens, and what is left after them.
use Rattle.std.proofs.Common.{◌≡◌, ℕ, zero, suc, ◌+◌, ◌<◌, ◌≤◌, true, false, List, [], ◌∷◌, length, drop, refl, sym, ap, ◌∙◌, arith, length-drop, length-append}
use Rattle.std.proofs.lemmas.List.{drop-drop}
use Rattle.std.specs.Prelude.{None}
use Rattle.text_scan.specs.declared.token.Token.{Token}
use Rattle.text_scan.specs.declared.limits.Limits.{Limits}
use Rattle.text_scan.specs.Left.{is_end}
use Rattle.verilog_directives.specs.declared.left.Left.{Left}
use Rattle.verilog_directives.specs.declared.left.Role.TheVariants.{Macro}
use Rattle.verilog_directives.specs.declared.order.Order.{Order}
use Rattle.verilog_directives.specs.declared.order.Order.TheVariants.{End, Pass, Show, ShowAlone, ShowText, PassLine, Define, Undefine, Open, OpenUnread, Elsif, Else, Close}
use Rattle.verilog_directives.specs.Left.{State, Goes, item, left_from, is_last, followed}
use Rattle.verilog_directives.specs.Orders.{size, shown, state_after, turn_by, IsLawful}
use Rattle.verilog_directives.specs.Behind.{moved_on}
use Rattle.verilog_directives.specs.declared.lookahead.Lookahead.{Lookahead}
use Rattle.verilog_directives.specs.Held.{tokens}
use Rattle.verilog_directives.specs.Lookahead.{to_come}
use Rattle.verilog_directives.specs.Directives.{before, left_by}

-- the tokens that belong to a directive are gone over
pub gone_over : (text : List ℕ) (limits : Limits) (s : State) (n : ℕ) (ts : List Token) → left_from text limits s n ts ≡ left_from text limits s 0 (drop n ts)
unfolding left_from
gone_over text limits s zero ts = refl
gone_over text limits s (suc n) [] = refl
gone_over text limits s (suc n) (t ∷ ts) = gone_over text limits s n ts

pub followed-last : (i : Left) (items : List Left) → is_last i ≡ true → followed i items ≡ i ∷ []
unfolding followed
followed-last i items last = rw last

pub followed-more : (i : Left) (items : List Left) → is_last i ≡ false → followed i items ≡ i ∷ items
unfolding followed
followed-more i items more = rw more

goes : (text : List ℕ) (limits : Limits) (s : State) (n : ℕ) (ts : List Token) → left_from text limits s 0 (drop (suc n) ts) ≡ left_by text limits (Goes n s) (drop 1 ts)
unfolding left_by
goes text limits s n ts =
    let places : 1 + n ≡ suc n = omega arith in
    ap (left_from text limits s 0) (ap (λ z. drop z ts) (sym places) ∙ sym (drop-drop n 1 ts)) ∙ sym (gone_over text limits s n (drop 1 ts))

-- what is left where a directive's order is carried out is what is left by its turn
pub carried : (text : List ℕ) (limits : Limits) (s : State) (mark : Token) (order : Order) (ts : List Token) → IsLawful text s order → is_end mark.kind ≡ false
    → before (shown mark order) (left_from text limits (state_after s mark order) 0 (drop (size order) ts)) ≡ left_by text limits (turn_by s mark order) (drop 1 ts)
unfolding left_by
carried text limits s mark (End i) ts lawful open_mark = followed-last i _ lawful.0
carried text limits s mark Show ts lawful open_mark = followed-more (item Macro mark) _ open_mark ∙ ap (λ z. item Macro mark ∷ z) (goes text limits _ 1 ts)
carried text limits s mark ShowAlone ts lawful open_mark = followed-more (item Macro mark) _ open_mark
carried text limits s mark ShowText ts lawful open_mark = followed-more (item Macro mark) _ open_mark
carried text limits s mark Pass ts lawful open_mark = refl
carried text limits s mark PassLine ts lawful open_mark = refl
carried text limits s mark (Define name) ts lawful open_mark = goes text limits _ 2 ts
carried text limits s mark (Undefine name) ts lawful open_mark = goes text limits _ 2 ts
carried text limits s mark (Open c) ts lawful open_mark = goes text limits _ 2 ts
carried text limits s mark (OpenUnread c) ts lawful open_mark = goes text limits _ 1 ts
carried text limits s mark (Elsif c) ts lawful open_mark = goes text limits _ 2 ts
carried text limits s mark (Else c) ts lawful open_mark = goes text limits _ 1 ts
carried text limits s mark Close ts lawful open_mark = goes text limits _ 1 ts

-- a directive that leaves no item has its ` gone over
pub fewer_left : (mark : Token) (order : Order) (ts : List Token) → 1 ≤ length ts → shown mark order ≡ None → length (drop (size order) ts) < length ts
fewer_left mark (End i) ts some none = cc
fewer_left mark Show ts some none = cc
fewer_left mark ShowAlone ts some none = cc
fewer_left mark ShowText ts some none = cc
fewer_left mark Pass ts some none = omega (arith, length-drop 1 ts)
fewer_left mark PassLine ts some none = omega (arith, length-drop 1 ts)
fewer_left mark (Define name) ts some none = omega (arith, length-drop 3 ts)
fewer_left mark (Undefine name) ts some none = omega (arith, length-drop 3 ts)
fewer_left mark (Open c) ts some none = omega (arith, length-drop 3 ts)
fewer_left mark (OpenUnread c) ts some none = omega (arith, length-drop 2 ts)
fewer_left mark (Elsif c) ts some none = omega (arith, length-drop 3 ts)
fewer_left mark (Else c) ts some none = omega (arith, length-drop 2 ts)
fewer_left mark Close ts some none = omega (arith, length-drop 2 ts)

-- what is held is to come
pub held_comes : (l : Lookahead) → length (tokens l.held) ≤ length (to_come l)
unfolding to_come
held_comes l = omega (arith, length-append (tokens l.held) (moved_on l.place l.cursor))
