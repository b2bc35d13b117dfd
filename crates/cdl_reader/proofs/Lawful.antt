-- A netlist that is read has names, told directions, words that can be shown, and no subcircuit twice.
use Rattle.std.proofs.Common.{◌≡◌, ◌≤◌, ◌<◌, ◌+◌, ◌++◌, ◌⊎◌, inl, inr, ℕ, zero, suc, Bool, true, false, List, [], ◌∷◌, length, take, drop, ◌-◌, map, subst, Option, Some, None, Result, Ok, Err, refl, sym, ap, ◌∙◌, append_assoc, arith}
use Rattle.std.specs.Prelude.{◌&&◌, ◌||◌, ◌==◌, if◌then◌else◌, nat_le, filter_map}
use Rattle.std.specs.List.{cons_option, list_all, list_any}
use Rattle.std.specs.Str.{bytes_eq}
use Rattle.std.proofs.lemmas.Bool.Decides.{nat_tests}
use Rattle.std.proofs.lemmas.List.{append-nil, length-append, map-append}
use Rattle.std.proofs.lemmas.List.Folds.{list_all-append}
use Rattle.text_scan.specs.declared.limits.Limits.{Limits}
use Rattle.text_scan.specs.declared.pins.Direction.{Direction}
use Rattle.text_scan.specs.declared.pins.Direction.TheVariants as directions
use Rattle.text_scan.specs.declared.refusal.FileRefusal.{FileRefusal}
use Rattle.file_rules.specs.Names.{is_distinct, is_name, is_name_within, is_shown, is_too_long, shown_word}
use Rattle.file_rules.specs.Kept.{is_distinct-push, name_within, shown_word-shown}
use Rattle.file_rules.specs.Told.{Agrees}
use Rattle.circuit.specs.declared.netlist.Netlist.{Netlist}
use Rattle.circuit.specs.declared.netlist.SubcircuitPart.{SubcircuitPart}
use Rattle.circuit.specs.declared.netlist.Transistor.{Transistor}
use Rattle.circuit.specs.Netlist.{IsNetlist, is_part, is_pin, is_told_direction, is_transistor, subcircuit_name}
use Rattle.grammar.specs.Rule.{many, Takes, Turns, Whole}
use Rattle.grammar.specs.Reading.{syntax, refusal}
use Rattle.grammar.specs.Answers.{IsAnswer}
use Rattle.cdl_cards.specs.Words.{PlacedWord}
use Rattle.cdl_cards.specs.Cards.{Card, cards_of}
use Rattle.cdl_reader.specs.Words.{Fault, too_long, no_name, fault_among, fault_of, first_fault, first_of, kind_of_card, behind, operands}
use Rattle.cdl_reader.specs.Pins.{directed, direction_by, direction_of, first_told, flipped, for_pin, told_by, told_by_end, told_by_word, told_by_words}
use Rattle.cdl_reader.specs.Parts.{construct_of, made, made_by, no_part, refused_at, transistor_of, with_transistor}
use Rattle.cdl_reader.specs.Actions.{adds, begin, begun_part, close, end_refusal, enter, enter_part, entered, fault_of_transistor, name_refusal, named_part, opened, refusal_by, refused_by, unless_refused, unless_told, with_part, word_bytes}
use Rattle.cdl_reader.specs.Grammar.{after_begin, body, card, is_end, is_plain, item, keep, netlist, nothing}
use Rattle.cdl_reader.specs.Told.{Answer, IsAnswered, told}
use Rattle.cdl_reader.specs.declared.kinds.CardKind.{CardKind}
use Rattle.cdl_reader.specs.declared.kinds.CardKind.TheVariants as kinds
use Rattle.cdl_reader.specs.declared.part.Construct.{Construct}
use Rattle.cdl_reader.specs.declared.part.Part.{Part}
use Rattle.cdl_reader.specs.declared.parts.Parts.{Parts}

-- ---- words without a fault are names

first_none : {X : Type 0} (a b : Option X) → first_of a b ≡ None → (a ≡ None) × (b ≡ None)
first_none None b h = (refl, h)
first_none (Some x) b h = cc h

named : (limits : Limits) (w : PlacedWord) → fault_of limits w ≡ None → is_name_within limits w.bytes ≡ true
unfolding fault_of
named limits w h = go (is_too_long limits w.bytes) (is_name w.bytes) refl refl h
  where
    go : (long name : Bool) → is_too_long limits w.bytes ≡ long → is_name w.bytes ≡ name → (if long then Some too_long else if name then None else Some (no_name w)) ≡ None
        → is_name_within limits w.bytes ≡ true
    go true name e f k = cc k
    go false false e f k = cc k
    go false true e f k = name_within limits w.bytes f e

are_named : (limits : Limits) (ws : List PlacedWord) → first_fault limits ws ≡ None → list_all (is_name_within limits) (map word_bytes ws) ≡ true
unfolding first_fault
are_named limits [] h = refl
are_named limits (w ∷ ws) h =
    let parts = first_none _ _ h in
    let first : is_name_within limits w.bytes ≡ true = named limits w parts.0 in
    let rest : list_all (is_name_within limits) (map word_bytes ws) ≡ true = are_named limits ws parts.1 in
    rw (first, rest) refl

-- one of the six words of a transistor, and those behind it
next_named : (limits : Limits) (first w : PlacedWord) (n : ℕ) (ws : List PlacedWord) → fault_among limits first (suc n) (w ∷ ws) ≡ None → (is_name_within limits w.bytes ≡ true) × (fault_among limits first n ws ≡ None)
unfolding fault_among
next_named limits first w n ws h = let parts = first_none _ _ h in (named limits w parts.0, parts.1)

-- ---- what is kept of a transistor

abbrev is_good : Limits → Option Transistor → Bool
is_good limits None = true
is_good limits (Some t) = is_transistor limits t

transistor_named : (limits : Limits) (c : Card) → fault_of_transistor limits c ≡ None → is_good limits (transistor_of c) ≡ true
transistor_named limits (a ∷ b ∷ c ∷ d ∷ e ∷ f ∷ rest) h =
    let ha = next_named limits a a 5 (b ∷ c ∷ d ∷ e ∷ f ∷ rest) h in
    let hb = next_named limits a b 4 (c ∷ d ∷ e ∷ f ∷ rest) ha.1 in
    let hc = next_named limits a c 3 (d ∷ e ∷ f ∷ rest) hb.1 in
    let hd = next_named limits a d 2 (e ∷ f ∷ rest) hc.1 in
    let he = next_named limits a e 1 (f ∷ rest) hd.1 in
    let hf = next_named limits a f 0 rest he.1 in
    rw (ha.0, hb.0, hc.0, hd.0, hf.0) refl
transistor_named limits _ h = refl

-- ---- directions that are told

abbrev tells : List ℕ × Direction → Bool
tells t = is_told_direction t.1

direction_told : (b : ℕ) (pin : List ℕ) (o : Option Direction) → direction_by b ≡ o → list_all tells (cons_option (for_pin pin o) []) ≡ true
unfolding direction_by
direction_told b pin None e = refl
direction_told b pin (Some d) e = go (b == 73 || b == 105) (b == 79 || b == 111) (b == 66 || b == 98) e
  where
    go : (i o io : Bool) → (if i then Some directions.Input else if o then Some directions.Output else if io then Some directions.Inout else None) ≡ Some d → list_all tells ((pin, d) ∷ []) ≡ true
    go true o io k = let e : directions.Input ≡ d = cc k in rw (← e) refl
    go false true io k = let e : directions.Output ≡ d = cc k in rw (← e) refl
    go false false true k = let e : directions.Inout ≡ d = cc k in rw (← e) refl
    go false false false k = cc k

chosen : (g : Bool) (o : Option (List ℕ × Direction)) → list_all tells (cons_option o []) ≡ true → list_all tells (cons_option (if g then o else None) []) ≡ true
chosen true o h = h
chosen false o h = refl

end_told : (pin end : List ℕ) → list_all tells (cons_option (told_by_end pin end) []) ≡ true
end_told pin (c ∷ b ∷ []) = chosen (c == 58) (for_pin pin (direction_by b)) (direction_told b pin (direction_by b) refl)
end_told pin [] = refl
end_told pin (c ∷ []) = refl
end_told pin (c ∷ b ∷ d ∷ ds) = refl

word_told : (w : PlacedWord) → list_all tells (cons_option (told_by_word w) []) ≡ true
unfolding told_by
word_told w = end_told (take (length w.bytes - 2) w.bytes) (drop (length w.bytes - 2) w.bytes)

before_told : (o : Option (List ℕ × Direction)) (ts : List (List ℕ × Direction)) → list_all tells (cons_option o []) ≡ true → list_all tells ts ≡ true → list_all tells (cons_option o ts) ≡ true
before_told None ts h k = k
before_told (Some t) ts h k = go (tells t) h
  where
    go : (g : Bool) → (g && true) ≡ true → (g && list_all tells ts) ≡ true
    go true e = k
    go false e = cc e

words_told : (ws : List PlacedWord) → list_all tells (told_by_words ws) ≡ true
words_told [] = refl
words_told (w ∷ ws) = before_told (told_by_word w) (told_by_words ws) (word_told w) (words_told ws)

both_all : {X : Type 0} (p : X → Bool) (xs ys : List X) → list_all p xs ≡ true → list_all p ys ≡ true → list_all p (xs ++ ys) ≡ true
both_all p xs ys h k = list_all-append p xs ys ∙ rw (h, k) refl

head_all : {X : Type 0} (p : X → Bool) (x : X) (xs : List X) → list_all p (x ∷ xs) ≡ true → (p x ≡ true) × (list_all p xs ≡ true)
head_all p x xs h = go (p x) (list_all p xs) h
  where
    go : (a b : Bool) → (a && b) ≡ true → (a ≡ true) × (b ≡ true)
    go true true e = (refl, refl)
    go true false e = cc e
    go false b e = cc e

flipped_told : (ts : List (List ℕ × Direction)) → list_all tells ts ≡ true → list_all tells (flipped ts) ≡ true
unfolding flipped
flipped_told [] h = refl
flipped_told (t ∷ ts) h =
    let parts = head_all tells t ts h in
    let one : list_all tells (t ∷ []) ≡ true = rw parts.0 refl in
    both_all tells (flipped ts) (t ∷ []) (flipped_told ts parts.1) one

first_is_told : (pin : List ℕ) (ts : List (List ℕ × Direction)) → list_all tells ts ≡ true → is_told_direction (first_told pin ts) ≡ true
unfolding first_told
first_is_told pin [] h = refl
first_is_told pin (t ∷ ts) h =
    let parts = head_all tells t ts h in
    go (bytes_eq pin t.0) parts.0 (first_is_told pin ts parts.1)
  where
    go : (g : Bool) → is_told_direction t.1 ≡ true → is_told_direction (first_told pin ts) ≡ true → is_told_direction (if g then t.1 else first_told pin ts) ≡ true
    go true a b = a
    go false a b = b

pins_directed : (limits : Limits) (ts : List (List ℕ × Direction)) (pins : List (List ℕ)) → list_all tells ts ≡ true → list_all (is_name_within limits) pins ≡ true
    → list_all (is_pin limits) (directed ts pins) ≡ true
unfolding direction_of
pins_directed limits ts [] h k = refl
pins_directed limits ts (pin ∷ pins) h k =
    let parts = head_all (is_name_within limits) pin pins k in
    let direction : is_told_direction (first_told pin (flipped ts)) ≡ true = first_is_told pin (flipped ts) (flipped_told ts h) in
    let rest : list_all (is_pin limits) (directed ts pins) ≡ true = pins_directed limits ts pins h parts.1 in
    rw (parts.0, direction, rest) refl

-- ---- a subcircuit that is read

abbrev is_refused_well : Option Construct → Bool
is_refused_well None = true
is_refused_well (Some c) = is_shown c.card

-- the part so far, of the subcircuit of this name
record IsPart (limits : Limits) (name : List ℕ) (p : Part) : Type 0 where
  called : p.name ≡ name
  is_name : is_name_within limits p.name ≡ true
  pins : list_all (is_name_within limits) p.pins ≡ true
  told : list_all tells p.told ≡ true
  transistors : list_all (is_transistor limits) p.transistors ≡ true
  refusal : is_refused_well p.refusal ≡ true

module _ (limits : Limits) where
  module _ (name : List ℕ) where
    refused_part : (w : PlacedWord) (p : Part) → IsPart limits name p → IsPart limits name (refused_at w p)
    refused_part w p h = record { called = h.called; is_name = h.is_name; pins = h.pins; told = h.told; transistors = h.transistors; refusal = shown_word-shown w.bytes }

    part_refused_by : (c : Card) (p : Part) → IsPart limits name p → IsPart limits name (refused_by c p)
    part_refused_by [] p h = h
    part_refused_by (w ∷ ws) p h = refused_part w p h

    part_added : (o : Option Fault) (new old m : Part) → (o ≡ None → IsPart limits name new) → IsPart limits name old → adds limits o new old ≡ Ok m → IsPart limits name m
    part_added None new old m f h e = let same : new ≡ m = cc e in subst (IsPart limits name) same (f refl)
    part_added (Some too_long) new old m f h e = cc e
    part_added (Some (no_name w)) new old m f h e = let same : refused_at w old ≡ m = cc e in subst (IsPart limits name) same (refused_part w old h)

    with_good : (o : Option Transistor) (p : Part) → is_good limits o ≡ true → IsPart limits name p → IsPart limits name (with_transistor o p)
    with_good None p g h = h
    with_good (Some t) p g h =
        let one : list_all (is_transistor limits) (t ∷ []) ≡ true = rw g refl in
        record { called = h.called; is_name = h.is_name; pins = h.pins; told = h.told; transistors = both_all (is_transistor limits) p.transistors (t ∷ []) h.transistors one; refusal = h.refusal }

    with_told : (c : Card) (p : Part) → IsPart limits name p → IsPart limits name (record p { told = p.told ++ told_by_words (behind c) })
    with_told c p h = record {
      called = h.called;
      is_name = h.is_name;
      pins = h.pins;
      told = both_all tells p.told (told_by_words (behind c)) h.told (words_told (behind c));
      transistors = h.transistors;
      refusal = h.refusal;
    }

    entered_by : (k : CardKind) (c : Card) (p m : Part) → IsPart limits name p → entered limits k c p ≡ Ok m → IsPart limits name m
    entered_by kinds.Transistor c p m h e = part_added (fault_of_transistor limits c) _ p m (λ n. with_good (transistor_of c) p (transistor_named limits c n) h) h e
    entered_by kinds.Capacitor c p m h e = let same : p ≡ m = cc e in subst (IsPart limits name) same h
    entered_by kinds.PinInfo c p m h e = let same : record p { told = p.told ++ told_by_words (behind c) } ≡ m = cc e in subst (IsPart limits name) same (with_told c p h)
    entered_by kinds.Begin c p m h e = let same : refused_by c p ≡ m = cc e in subst (IsPart limits name) same (part_refused_by c p h)
    entered_by kinds.End c p m h e = let same : refused_by c p ≡ m = cc e in subst (IsPart limits name) same (part_refused_by c p h)
    entered_by kinds.Stray c p m h e = let same : refused_by c p ≡ m = cc e in subst (IsPart limits name) same (part_refused_by c p h)
    entered_by kinds.Other c p m h e = let same : refused_by c p ≡ m = cc e in subst (IsPart limits name) same (part_refused_by c p h)

    part_entered : (c : Card) (p m : Part) → IsPart limits name p → enter_part limits c p ≡ Ok m → IsPart limits name m
    unfolding enter_part
    part_entered c p m h e = go p.refusal e
      where
        go : (o : Option Construct) → unless_refused o (entered limits (kind_of_card c) c p) (Ok p) ≡ Ok m → IsPart limits name m
        go None k = entered_by (kind_of_card c) c p m h k
        go (Some x) k = let same : p ≡ m = cc k in subst (IsPart limits name) same h

    part_begun : (pins : List PlacedWord) (m : Part) → is_name_within limits name ≡ true → begun_part limits name pins ≡ Ok m → IsPart limits name m
    unfolding begun_part
    part_begun pins m h e =
        part_added (first_fault limits pins) _ (named_part name) m
        (λ n. record { called = refl; is_name = h; pins = are_named limits pins n; told = refl; transistors = refl; refusal = refl })
        (record { called = refl; is_name = h; pins = refl; told = refl; transistors = refl; refusal = refl })
        e

    made_well : (p : Part) (o : Option Construct) → IsPart limits name p → is_refused_well o ≡ true → (is_part limits (made_by p o) ≡ true) × (subcircuit_name (made_by p o) ≡ name)
    made_well p None h k =
        let pins : list_all (is_pin limits) (directed p.told p.pins) ≡ true = pins_directed limits p.told p.pins h.told h.pins in
        (rw (h.is_name, pins, h.transistors) refl, h.called)
    made_well p (Some c) h k = (rw (h.is_name, k) refl, h.called)

  -- ---- outside subcircuits, and in one

  record IsOutside (s : Parts) : Type 0 where
    distinct : is_distinct s.names ≡ true
    names : s.names ≡ map subcircuit_name s.parts
    few : length s.parts ≤ limits.cells
    parts : list_all (is_part limits) s.parts ≡ true

  record IsInside (s : Parts) : Type 0 where
    name : List ℕ
    distinct : is_distinct s.names ≡ true
    names : s.names ≡ map subcircuit_name s.parts ++ name ∷ []
    few : length s.parts < limits.cells
    parts : list_all (is_part limits) s.parts ≡ true
    part : IsPart limits name s.part

  told_none : {X : Type 0} (o : Option FileRefusal) (r : Result X FileRefusal) (x : X) → unless_told o r ≡ Ok x → (o ≡ None) × (r ≡ Ok x)
  told_none None r x h = (refl, h)
  told_none (Some e) r x h = cc h

  fault_none : (o : Option Fault) → refusal_by limits o ≡ None → o ≡ None
  fault_none None h = refl
  fault_none (Some too_long) h = cc h
  fault_none (Some (no_name w)) h = cc h

  not_some : (b : Bool) (e : FileRefusal) → (if b then Some e else None) ≡ None → b ≡ false
  not_some true e h = cc h
  not_some false e h = refl

  -- a step that leaves another part
  parted : (s m : Parts) (r : Result Part FileRefusal) (P : Parts → Type 0) → with_part s r ≡ Ok m → ((p : Part) → r ≡ Ok p → P (record s { part = p })) → P m
  parted s m (Ok p) P h f = let same : record s { part = p } ≡ m = cc h in subst P same (f p refl)
  parted s m (Err e) P h f = cc h

  opened_well : (s m : Parts) (w : PlacedWord) (pins : List PlacedWord) → IsOutside s → length s.parts < limits.cells → opened limits s (w ∷ pins) ≡ Ok m → IsInside m
  opened_well s m w pins h less e =
      let ready = told_none (name_refusal limits s.names w) _ m e in
      let judged = first_none _ _ ready.0 in
      let good : is_name_within limits w.bytes ≡ true = named limits w (fault_none _ judged.0) in
      let new : list_any (bytes_eq w.bytes) s.names ≡ false = not_some _ _ judged.1 in
      parted (record s { names = s.names ++ w.bytes ∷ [] }) m (begun_part limits w.bytes pins) IsInside ready.1 (
      λ p k. record {
        name = w.bytes;
        distinct = is_distinct-push s.names w.bytes h.distinct new;
        names = ap (λ (z : List (List ℕ)). z ++ w.bytes ∷ []) h.names;
        few = less;
        parts = h.parts;
        part = part_begun w.bytes pins p good k;
      })

  begun_by : (s m : Parts) (room : Bool) (ws : List PlacedWord) (e : FileRefusal) → nat_le limits.cells (length s.parts) ≡ room → IsOutside s → (w : PlacedWord) (pins : List PlacedWord) → ws ≡ w ∷ pins
      → (if room then Err e else opened limits s ws) ≡ Ok m → IsInside m
  begun_by s m true ws e r h w pins i k = cc k
  begun_by s m false ws e r h w pins i k =
      let less : length s.parts < limits.cells = grind (arith, nat_tests) in
      opened_well s m w pins h less (rw i at k)

  begun_well : (c : Card) (s m : Parts) (w : PlacedWord) (pins : List PlacedWord) → operands (behind c) ≡ w ∷ pins → IsOutside s → begin limits c s ≡ Ok m → IsInside m
  unfolding begin
  begun_well c s m w pins i h e = begun_by s m _ (operands (behind c)) _ refl h w pins i e

  entered_well : (c : Card) (s m : Parts) → IsInside s → enter limits c s ≡ Ok m → IsInside m
  unfolding enter
  entered_well c s m h e =
      parted s m (enter_part limits c s.part) IsInside e (
      λ p k. record {
        name = h.name;
        distinct = h.distinct;
        names = h.names;
        few = h.few;
        parts = h.parts;
        part = part_entered h.name c s.part p h.part k;
      })

  closed_well : (c : Card) (s m : Parts) → IsInside s → close limits c s ≡ Ok m → IsOutside m
  unfolding close
  closed_well c s m h e =
      let ready = told_none (end_refusal limits (behind c)) _ m e in
      let good = made_well h.name s.part s.part.refusal h.part h.part.refusal in
      let one : list_all (is_part limits) (made s.part ∷ []) ≡ true = rw good.0 refl in
      let same : record s { parts = s.parts ++ made s.part ∷ []; part = no_part } ≡ m = cc (ready.1) in
      let more : length (s.parts ++ made s.part ∷ []) ≡ length s.parts + 1 = length-append s.parts (made s.part ∷ []) in
      subst IsOutside same (record {
        distinct = h.distinct;
        names = h.names ∙ ap (λ (z : List ℕ). map subcircuit_name s.parts ++ z ∷ []) (sym good.1) ∙ sym (map-append subcircuit_name s.parts (made s.part ∷ []));
        few = omega (arith, h.few, more);
        parts = both_all (is_part limits) s.parts (made s.part ∷ []) h.parts one;
      })

  -- ---- what the grammar takes

  inner_turns : (n : ℕ) (s t : Parts) (ts rest : List Card) → IsInside s → Turns (Takes (card is_plain (enter limits))) n s ts t rest → IsInside t
  unfolding Turns Takes
  inner_turns zero s t ts rest h k = subst IsInside k.1 h
  inner_turns (suc n) s t ts rest h k = inner_turns n k.1 t k.0 rest (subst IsInside k.2.6.1 (entered_well k.2.0 s k.2.2 h k.2.5)) k.3

  body_taken : (s t : Parts) (ts rest : List Card) → IsInside s → Takes (body limits) s ts t rest → IsOutside t
  unfolding body Takes
  body_taken s t ts rest h k =
      let inner = inner_turns k.2.0 s k.1 ts k.0 h k.2.1 in
      subst IsOutside k.3.6.1 (closed_well k.3.0 k.1 k.3.2 inner k.3.5)

  begun_taken : (c : Card) (ws : List PlacedWord) (s m t : Parts) (ts rest : List Card) → operands (behind c) ≡ ws → IsOutside s → begin limits c s ≡ Ok m → Takes (after_begin limits ws) m ts t rest → IsOutside t
  unfolding Takes
  begun_taken c [] s m t ts rest i h e k = cc (k.3)
  begun_taken c (w ∷ pins) s m t ts rest i h e k = body_taken m t ts rest (begun_well c s m w pins i h e) k

  item_taken : (s t : Parts) (ts rest : List Card) → IsOutside s → Takes (item limits) s ts t rest → IsOutside t
  unfolding Takes
  item_taken s t ts rest h (inl k) = let kept : s ≡ k.2 = cc (k.5) in subst IsOutside (kept ∙ k.6.1) h
  item_taken s t ts rest h (inr k) = begun_taken k.0 (operands (behind k.0)) s k.2 t k.1 rest refl h k.5 k.6

  item_turns : (n : ℕ) (s t : Parts) (ts rest : List Card) → IsOutside s → Turns (Takes (item limits)) n s ts t rest → IsOutside t
  unfolding Turns
  item_turns zero s t ts rest h k = subst IsOutside k.1 h
  item_turns (suc n) s t ts rest h k = item_turns n k.1 t k.0 rest (item_taken s k.1 ts k.0 h k.2) k.3

  whole_well : (s : Parts) (cs : List Card) → Whole (netlist limits) nothing cs s → IsOutside s
  unfolding netlist Takes Whole
  whole_well s cs k = item_turns k.0 nothing s cs [] (record { distinct = refl; names = refl; few = omega arith; parts = refl }) k.1

  answer_well : (text : List ℕ) (cs : List Card) (o : Answer) (n : Netlist) → IsAnswer (netlist limits) nothing cs o → told text o ≡ Ok n → IsNetlist limits n
  unfolding told
  answer_well text cs (Ok s) n h e =
      let well = whole_well s cs h in
      let same : record { parts = s.parts } ≡ n = cc e in
      subst (IsNetlist limits) same (record { few = well.few; parts = well.parts; distinct = subst (λ (z : List (List ℕ)). is_distinct z ≡ true) well.names well.distinct })
  answer_well text cs (Err (syntax rest)) n h e = cc e
  answer_well text cs (Err (refusal f rest)) n h e = cc e

  -- a netlist that is answered
  pub lawful : (text : List ℕ) (n : Netlist) → IsAnswered text limits (Ok n) → IsNetlist limits n
  lawful text n h = answer_well text (cards_of text) h.answer n h.is h.agrees
