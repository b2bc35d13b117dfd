-- One card of look-ahead is enough.
use Rattle.std.proofs.Common.{◌≡◌, Bool, true, false, ◌||◌, ◌&&◌, List, [], ◌∷◌, refl}
use Rattle.text_scan.specs.declared.limits.Limits.{Limits}
use Rattle.grammar.specs.Reading.{IsSimple, begins}
use Rattle.cdl_cards.specs.Words.{PlacedWord}
use Rattle.cdl_cards.specs.Cards.{Card}
use Rattle.cdl_reader.specs.Words.{kind_of_card, behind, operands}
use Rattle.cdl_reader.specs.Actions.{enter}
use Rattle.cdl_reader.specs.Grammar.{after_begin, body, card, is_begin, is_end, is_plain, item, netlist}
use Rattle.cdl_reader.specs.declared.kinds.CardKind.{CardKind}
use Rattle.cdl_reader.specs.declared.kinds.CardKind.TheVariants as kinds

not_end : (k : CardKind) (b : Bool) → is_plain k ≡ true → (is_end k || (false && b)) ≡ false
not_end kinds.Begin b e = refl
not_end kinds.End b e = absurd cc
not_end kinds.Transistor b e = refl
not_end kinds.Capacitor b e = refl
not_end kinds.PinInfo b e = refl
not_end kinds.Stray b e = refl
not_end kinds.Other b e = refl

not_begin : (k : CardKind) (b : Bool) → is_plain k ≡ true → (is_begin k || (false && b)) ≡ false
not_begin kinds.Begin b e = absurd cc
not_begin kinds.End b e = refl
not_begin kinds.Transistor b e = refl
not_begin kinds.Capacitor b e = refl
not_begin kinds.PinInfo b e = refl
not_begin kinds.Stray b e = refl
not_begin kinds.Other b e = refl

pub inner_simple : (limits : Limits) (next : Card → Bool) → IsSimple (card is_plain (enter limits)) next
unfolding IsSimple
inner_simple limits next = λ t e. tt

body_simple : (limits : Limits) (next : Card → Bool) → IsSimple (body limits) next
unfolding IsSimple body
body_simple limits next = ((refl, refl, (λ t e. not_end (kind_of_card t) (next t) e), (λ t e. tt)), (λ t e. tt))

after_simple : (limits : Limits) (ws : List PlacedWord) (next : Card → Bool) → IsSimple (after_begin limits ws) next
unfolding IsSimple
after_simple limits [] next = tt
after_simple limits (w ∷ ws) next = body_simple limits next

pub item_simple : (limits : Limits) (next : Card → Bool) → IsSimple (item limits) next
unfolding IsSimple
item_simple limits next = (refl, (λ t e. not_begin (kind_of_card t) (next t) e), (λ t e. tt), (λ t e. after_simple limits (operands (behind t)) next))

pub netlist_simple : (limits : Limits) → IsSimple (netlist limits) (λ t. false)
unfolding IsSimple netlist
netlist_simple limits = (refl, refl, (λ t e. refl), item_simple limits (λ t. begins (item limits) t || false))
