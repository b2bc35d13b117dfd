-- A macro that is read has pins with names and directions, and no pin twice.
use Rattle.std.proofs.Common.{◌≡◌, ◌++◌, inl, inr, ℕ, Bool, true, false, List, [], ◌∷◌, map, subst, Result, Ok, Err, refl, sym, ap, ◌∙◌}
use Rattle.std.specs.Prelude.{◌||◌, if◌then◌else◌}
use Rattle.std.specs.List.{list_all}
use Rattle.std.proofs.lemmas.List.{map-append}
use Rattle.std.proofs.lemmas.List.Folds.{list_all-append}
use Rattle.text_scan.specs.declared.limits.Limits.{Limits}
use Rattle.text_scan.specs.declared.token.Token.{Token}
use Rattle.file_rules.specs.Names.{is_distinct, is_name, is_name_within, is_too_long}
use Rattle.file_rules.specs.Kept.{is_distinct-push, name_within, both_true}
use Rattle.name_index.specs.Places.{is_known}
use Rattle.grammar.specs.Rule.{none, many, Takes}
use Rattle.lef_source.specs.Lef.{pin_name, is_told_direction, is_pin, is_macro}
use Rattle.lef_tokens.specs.declared.look.Look.{Look}
use Rattle.lef_tokens.specs.declared.look.Look.TheVariants as looks
use Rattle.lef_tokens.specs.Looks as of_look
use Rattle.lef_tokens.specs.Looks.{text, look_of, is_word_kind, can_name}
use Rattle.lef_reader.specs.declared.halt.Refusal.{Refusal}
use Rattle.lef_reader.specs.declared.halt.Refusal.TheVariants as refusals
use Rattle.lef_reader.specs.declared.macro_text.MacroText.{MacroText}
use Rattle.lef_reader.specs.declared.until.Until.{Until}
use Rattle.lef_reader.specs.declared.until.Until.TheVariants as untils
use Rattle.lef_reader.specs.Passing.{stops, is_name_of}
use Rattle.lef_reader.specs.MacroActions.{no_macro, no_pin, name_pin, direction_of, set_direction, set_kind, with_port, with_pin, end_pin, end_macro, macro_of}
use Rattle.lef_reader.specs.MacroGrammar.{rest_to, rest_from, semicolon, direction_end, direction, use_statement, port_rest, port, pin_statement, pin_item, pin_end, pin_body, shapes, size_rest, size, macro_statement, macro_end, pin, item, macro_body}
use Rattle.lef_reader.proofs.Keeps.{Keeps, rule_kept, turns_kept}

-- an action that passes with a state leaves it
abbrev pub done : {S : Type 0} → S → Result S Refusal
done s = Ok s

pub passes : {S : Type 0} (P : S → Type 0) (s m : S) → P s → done s ≡ Ok m → P m
passes P s m p e = let same : s ≡ m = cc e in subst P same p

-- a token that can stand for a name and isn't too long is one
pub named : (source : List ℕ) (limits : Limits) (t : Token) → can_name source limits t ≡ true → is_too_long limits (text source t) ≡ false
    → is_name_within limits (text source t) ≡ true
unfolding can_name
named source limits t h k =
    let either : (is_too_long limits (text source t) || is_name (text source t)) ≡ true = (both_true _ _ h).1 in
    name_within limits (text source t) (go _ _ either k) k
  where
    go : (long name : Bool) → (long || name) ≡ true → long ≡ false → name ≡ true
    go true name e f = cc f
    go false name e f = e

direction_told : (l : Look) → is_told_direction (direction_of l) ≡ true
direction_told looks.Output = refl
direction_told looks.Inout = refl
direction_told looks.Feedthru = refl
direction_told _ = refl

both_all : {X : Type 0} (p : X → Bool) (xs ys : List X) → list_all p xs ≡ true → list_all p ys ≡ true → list_all p (xs ++ ys) ≡ true
both_all p xs ys h k = list_all-append p xs ys ∙ rw (h, k) refl

-- ---- what is passed over

module _ (source : List ℕ) where
  pub rest_to_keeps : {S : Type 0} (P : S → Type 0) (until : Until) → Keeps P (rest_to source until)
  unfolding Keeps rest_to
  rest_to_keeps P until = ((λ x s m q p e. passes P s m p e, λ x. tt), (λ x s m q p e. passes P s m p e, λ x. tt))

  pub rest_from_keeps : {S : Type 0} (P : S → Type 0) (t : Token) → Keeps P (rest_from source t)
  unfolding Keeps rest_from
  rest_from_keeps {S} P t = go (stops source untils.Semicolon t)
    where
      go : (b : Bool) → Keeps P (if b then none else rest_to source untils.Semicolon)
      go true = tt
      go false = rest_to_keeps P untils.Semicolon

-- ---- a macro so far

record IsOutside (limits : Limits) (m : MacroText) : Type 0 where
  distinct : is_distinct m.names ≡ true
  names : m.names ≡ map pin_name m.pins
  pins : list_all (is_pin limits) m.pins ≡ true

-- within a pin, whose name stands last
record IsInside (limits : Limits) (m : MacroText) : Type 0 where
  distinct : is_distinct m.names ≡ true
  names : m.names ≡ map pin_name m.pins ++ m.pin.name ∷ []
  pins : list_all (is_pin limits) m.pins ≡ true
  pin : is_pin limits m.pin ≡ true

module _ (source : List ℕ) (limits : Limits) where
  abbrev In : MacroText → Type 0
  In m = IsInside limits m

  abbrev Out : MacroText → Type 0
  Out m = IsOutside limits m

  -- ---- within a pin

  direction_set : (x : Token) (s m : MacroText) → In s → set_direction source x s ≡ Ok m → In m
  unfolding set_direction
  direction_set x s m p e =
      let name : is_name_within limits s.pin.name ≡ true = (both_true _ _ p.pin).0 in
      let direction : is_told_direction (direction_of (look_of source x)) ≡ true = direction_told (look_of source x) in
      passes In (record s { pin = record s.pin { direction = direction_of (look_of source x) } }) m (record {
        distinct = p.distinct;
        names = p.names;
        pins = p.pins;
        pin = rw (name, direction) refl;
      }) e

  kind_set : (x : Token) (s m : MacroText) → In s → set_kind source x s ≡ Ok m → In m
  unfolding set_kind
  kind_set x s m p e = passes In _ m (record { distinct = p.distinct; names = p.names; pins = p.pins; pin = p.pin }) e

  semicolon_keeps : (P : MacroText → Type 0) → Keeps P (semicolon source)
  unfolding Keeps semicolon
  semicolon_keeps P = (λ x s m q p e. passes P s m p e, λ x. tt)

  direction_end_keeps : (b : Bool) → Keeps In (direction_end source b)
  unfolding Keeps direction_end
  direction_end_keeps true = ((λ x s m q p e. passes In s m p e, λ x. semicolon_keeps In), semicolon_keeps In)
  direction_end_keeps false = semicolon_keeps In

  direction_keeps : Keeps In (direction source)
  unfolding Keeps direction
  direction_keeps = (
    λ x s m q p e. passes In s m p e,
    λ x. (λ y s m q p e. direction_set y s m p e, λ y. direction_end_keeps (of_look.is_output (look_of source y))),
  )

  use_keeps : Keeps In (use_statement source)
  unfolding Keeps use_statement
  use_keeps = (λ x s m q p e. passes In s m p e, λ x. (λ y s m q p e. kind_set y s m p e, λ y. semicolon_keeps In))

  port_kept : (s m : MacroText) → In s → done (with_port source s) ≡ Ok m → In m
  port_kept s m p e = passes In (with_port source s) m (record { distinct = p.distinct; names = p.names; pins = p.pins; pin = p.pin }) e

  port_rest_keeps : Keeps In (port_rest source)
  unfolding Keeps port_rest
  port_rest_keeps = (
    (λ x s m q p e. passes In _ m (record { distinct = p.distinct; names = p.names; pins = p.pins; pin = p.pin }) e, λ x. tt),
    (λ x s m q p e. port_kept s m p e, λ x. tt),
  )

  port_keeps : Keeps In (port source)
  unfolding Keeps port
  port_keeps = (
    λ x s m q p e. passes In _ m (record { distinct = p.distinct; names = p.names; pins = p.pins; pin = p.pin }) e,
    λ x. port_rest_keeps,
  )

  pin_statement_keeps : Keeps In (pin_statement source)
  unfolding Keeps pin_statement
  pin_statement_keeps = (λ x s m q p e. passes In s m p e, λ x. rest_from_keeps source In x)

  pin_items_keep : Keeps In (many (pin_item source))
  unfolding Keeps pin_item
  pin_items_keep = (direction_keeps, (use_keeps, (port_keeps, pin_statement_keeps)))

  -- ---- a whole pin

  pin_named : (x : Token) (s m : MacroText) → can_name source limits x ≡ true → Out s → name_pin source limits x s ≡ Ok m → In m
  unfolding name_pin
  pin_named x s m c p e = go (is_too_long limits (text source x)) (is_known (text source x) s.names) refl refl e
    where
      go : (long known : Bool) → is_too_long limits (text source x) ≡ long → is_known (text source x) s.names ≡ known
          → (if long then Err refusals.LongName else if known then Err refusals.DoubleName else Ok
          (record s { names = s.names ++ text source x ∷ []; pin = no_pin (text source x) })) ≡ Ok m → In m
      go true known f g k = cc k
      go false true f g k = cc k
      go false false f g k =
          let name : is_name_within limits (text source x) ≡ true = named source limits x c f in
          passes In (record s { names = s.names ++ text source x ∷ []; pin = no_pin (text source x) }) m (record {
            distinct = is_distinct-push s.names (text source x) p.distinct g;
            names = ap (λ (z : List (List ℕ)). z ++ text source x ∷ []) p.names;
            pins = p.pins;
            pin = rw name refl;
          }) k

  pin_ended : (name x : Token) (s m : MacroText) → In s → end_pin source name x s ≡ Ok m → Out m
  unfolding end_pin
  pin_ended name x s m p e = go (is_name_of source name x) e
    where
      go : (same : Bool) → (if same then Ok (with_pin s) else Err refusals.OtherEnd) ≡ Ok m → Out m
      go false k = cc k
      go true k =
          let last : list_all (is_pin limits) (s.pin ∷ []) ≡ true = rw p.pin refl in
          passes Out (with_pin s) m (record {
            distinct = p.distinct;
            names = p.names ∙ sym (map-append pin_name s.pins (s.pin ∷ []));
            pins = both_all (is_pin limits) s.pins (s.pin ∷ []) p.pins last;
          }) k

  pin_end_taken : (name : Token) (s t : MacroText) (ts rest : List Token) → In s → Takes (pin_end source name) s ts t rest → Out t
  unfolding Takes pin_end
  pin_end_taken name s t ts rest p k =
      let before = passes In s k.2 p k.5 in
      subst Out k.6.6.1 (pin_ended name k.6.0 k.2 k.6.2 before k.6.5)

  pin_body_taken : (name : Token) (s t : MacroText) (ts rest : List Token) → In s → Takes (pin_body source name) s ts t rest → Out t
  unfolding Takes pin_body
  pin_body_taken name s t ts rest p k = pin_end_taken name k.1 t k.0 rest
      (rule_kept In (many (pin_item source)) pin_items_keep s k.1 ts k.0 p k.2) k.3

  pin_taken : (s t : MacroText) (ts rest : List Token) → Out s → Takes (pin source limits) s ts t rest → Out t
  unfolding Takes pin
  pin_taken s t ts rest p k =
      let before = passes Out s k.2 p k.5 in
      pin_body_taken k.6.0 k.6.2 t k.6.1 rest (pin_named k.6.0 k.2 k.6.2 k.6.4 before k.6.5) k.6.6

  -- ---- a whole macro

  shapes_keeps : Keeps Out (shapes source)
  unfolding Keeps shapes
  shapes_keeps = (λ x s m q p e. passes Out s m p e, λ x. rest_to_keeps source Out untils.End)

  size_rest_keeps : Keeps Out (size_rest source)
  unfolding Keeps size_rest
  size_rest_keeps = (
    (λ x s m q p e. passes Out _ m (record { distinct = p.distinct; names = p.names; pins = p.pins }) e, λ x. tt),
    semicolon_keeps Out,
  )

  size_keeps : Keeps Out (size source)
  unfolding Keeps size
  size_keeps = (λ x s m q p e. passes Out _ m (record { distinct = p.distinct; names = p.names; pins = p.pins }) e, λ x. size_rest_keeps)

  macro_statement_keeps : Keeps Out (macro_statement source)
  unfolding Keeps macro_statement
  macro_statement_keeps = (λ x s m q p e. passes Out s m p e, λ x. rest_from_keeps source Out x)

  item_taken : (s t : MacroText) (ts rest : List Token) → Out s → Takes (item source limits) s ts t rest → Out t
  unfolding Takes item
  item_taken s t ts rest p (inl k) = pin_taken s t ts rest p k
  item_taken s t ts rest p (inr (inl k)) = rule_kept Out (shapes source) shapes_keeps s t ts rest p k
  item_taken s t ts rest p (inr (inr (inl k))) = rule_kept Out (size source) size_keeps s t ts rest p k
  item_taken s t ts rest p (inr (inr (inr k))) = rule_kept Out (macro_statement source) macro_statement_keeps s t ts rest p k

  macro_ended : (name x : Token) (s m : MacroText) → Out s → end_macro source name x s ≡ Ok m → Out m
  unfolding end_macro
  macro_ended name x s m p e = go (is_name_of source name x) e
    where
      go : (same : Bool) → (if same then Ok s else Err refusals.OtherEnd) ≡ Ok m → Out m
      go false k = cc k
      go true k = passes Out s m p k

  macro_end_taken : (name : Token) (s t : MacroText) (ts rest : List Token) → Out s → Takes (macro_end source name) s ts t rest → Out t
  unfolding Takes macro_end
  macro_end_taken name s t ts rest p k =
      let before = passes Out s k.2 p k.5 in
      subst Out k.6.6.1 (macro_ended name k.6.0 k.2 k.6.2 before k.6.5)

  body_taken : (name : Token) (t : MacroText) (ts rest : List Token) → Takes (macro_body source limits name) no_macro ts t rest → Out t
  unfolding Takes macro_body
  body_taken name t ts rest k =
      macro_end_taken name k.1 t k.0 rest
      (turns_kept Out (Takes (item source limits)) item_taken k.2.0 no_macro k.1 ts k.0
      (record { distinct = refl; names = refl; pins = refl }) k.2.1) k.3

  -- the macro of a name that is read
  pub macro_kept : (name : Token) (t : MacroText) (ts rest : List Token) → is_name_within limits (text source name) ≡ true
      → Takes (macro_body source limits name) no_macro ts t rest
      → is_macro limits (macro_of source (text source name) t) ≡ true
  macro_kept name t ts rest h k =
      let p = body_taken name t ts rest k in
      let apart : is_distinct (map pin_name t.pins) ≡ true = subst (λ (z : List (List ℕ)). is_distinct z ≡ true) p.names p.distinct in
      rw (h, p.pins, apart) refl
