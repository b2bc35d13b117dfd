-- The ends of cards, card by card.
use Rattle.std.proofs.Common.{◌≡◌, ℕ, ◌<◌, inl, inr, List, [], ◌∷◌, ◌++◌, length, get_or, Some, sym, ◌∙◌, ap, subst, append_assoc, refl}
use Rattle.std.specs.Prelude.{slice_get}
use Rattle.std.proofs.lemmas.Option.{get_or_from_slice_get}
use Rattle.circuit.specs.declared.netlist.Transistor.{Transistor as Card}
use Rattle.switch_response.specs.declared.naming.Place.{Place}
use Rattle.switch_response.specs.declared.naming.Place.TheVariants.{Storage, Input}
use Rattle.switch_response.specs.declared.naming.Ends.{Ends}
use Rattle.switch_response.specs.Wiring.{firsts, names_on, card_names}
use Rattle.switch_response.specs.Places.{IsPlaceOf, Grows, AreEndsOf, AreAllEnds}
use Rattle.switch_response.proofs.NameLists.{get_front, get_push}

pub place_grows : (before old more new : List (List ℕ)) (name : List ℕ) (place : Place) → Grows before old more new → IsPlaceOf old before name place → IsPlaceOf new before name place
place_grows before old more new name (Storage k) h p = subst (λ names. slice_get names k ≡ Some name) (sym h) (get_front old (firsts (before ++ old) more) k name p)
place_grows before old more new name (Input k) h p = p

pub ends_grow : (before old more new : List (List ℕ)) (card : Card) (e : Ends) → Grows before old more new → AreEndsOf old before card e → AreEndsOf new before card e
ends_grow before old more new card e h a = record {
  drain = place_grows before old more new card.drain e.drain h a.drain;
  gate = place_grows before old more new card.gate e.gate h a.gate;
  source = place_grows before old more new card.source e.source h a.source;
}

-- one card more
pub ends_push : (before old more new : List (List ℕ)) (cards : List Card) (ends : List Ends) (card : Card) (e : Ends)
    → Grows before old more new → AreAllEnds old before cards ends → length ends < length cards → card ≡ get_or cards (length ends) card → AreEndsOf new before card e → AreAllEnds new before cards (ends ++ e ∷ [])
ends_push before old more new cards ends card e h all lt is a k c f at got = elim (get_push ends e f k got) [
  | inl g ↦ ends_grow before old more new c f h (all k c f at g)
  | inr g ↦
      let same : c ≡ card = sym (get_or_from_slice_get cards k c card at) ∙ ap (λ j. get_or cards j card) g.0 ∙ sym is in
      subst (λ c. AreEndsOf new before c f) (sym same) (subst (AreEndsOf new before card) g.1 a)
]

pub card_names_more : (cards : List Card) (card : Card) → card_names (cards ++ card ∷ []) ≡ card_names cards ++ names_on card
card_names_more [] card = refl
card_names_more (c ∷ cards) card = ap (λ xs. names_on c ++ xs) (card_names_more cards card) ∙ sym (append_assoc (names_on c) (card_names cards) (names_on card))
