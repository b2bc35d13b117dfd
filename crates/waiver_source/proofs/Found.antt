-- What is found in an index of waivers.
use Rattle.std.proofs.Common.{◌≡◌, ◌<◌, ◌≤◌, ◌+◌, ℕ, ℤ, Bool, true, false, cond, List, length, slice_index_or, Option, Some, None, inl, inr, refl, sym, ap, subst, ◌∙◌, arith}
use Rattle.std.specs.Prelude.{◌≤ℤ◌, ◌&&◌, slice_get}
use Rattle.std.specs.Int.Signed.{le_z, lt_z}
use Rattle.std.specs.Ordering.{is_eq}
use Rattle.std.specs.Str.{bytes_eq}
use Rattle.std.specs.Cmp.Lexicographic.{bytes_decides}
use Rattle.std.specs.declared.cmp.Ordering.{Ordering}
use Rattle.std.specs.declared.cmp.Ordering.TheVariants.{Less, Equal, Greater}
use Rattle.std.specs.List.Sorted.{IsPartitionPoint, IsPartitionedBy}
use Rattle.std.proofs.lemmas.Bool.{cases_lt}
use Rattle.std.proofs.lemmas.Int.{ints}
use Rattle.std.proofs.lemmas.Option.{get_or_from_slice_get, slice_get_within, slice_get-get_or}
use Rattle.file_rules.specs.Kept.{both_true}
use Rattle.verdict_text.specs.declared.finding.Code.{Code}
use Rattle.verdict_text.specs.Words.{code_word}
use Rattle.waiver_source.specs.Places.{first_place, is_of}
use Rattle.waiver_source.specs.Index.{HasLatest, IsFirstAt, IsIndexOf, IsUpTo, Words, before_by, is_before, placed_of, words, words_cmp, words_for, words_of}
use Rattle.waiver_source.specs.declared.waiver.Waiver.{Waiver}
use Rattle.waiver_source.specs.declared.entry.Entry.{Entry}
use Rattle.waiver_source.proofs.Orders.{Stands, equal_itself, far, never_greater, not_below, same_words, words_total}
use Rattle.waiver_source.proofs.Listed.{entry_at, key_at, placed_at}
use Rattle.waiver_source.proofs.Firsts.{position_none, position_some}

pub first_from_cut : (es : List Entry) (q : Words) (day : ℤ) (i : ℕ) → i ≤ length es
    → IsPartitionPoint (λ e. is_before q day e ≡ true) (λ e. is_before q day e ≡ false) es i → IsFirstAt es q day i
first_from_cut es q day i le cut = record {
  below = λ j e lt at. subst (λ (x : Entry). is_before q day x ≡ true) (get_or_from_slice_get es j e e at) (cut.0 j e (omega arith) lt);
  others = λ j e ge at. subst (λ (x : Entry). is_before q day x ≡ false) (get_or_from_slice_get es j e e at) (cut.1 j e ge (slice_get_within es j e at));
}

less_day : (a b day : ℤ) → a ≤ℤ b → lt_z b day ≡ true → lt_z a day ≡ true
less_day a b day le h = grind (arith, ints)

day_reached : (day a b : ℤ) → day ≤ℤ a → a ≤ℤ b → lt_z b day ≡ false
day_reached day a b h k = grind (arith, ints)

not_past : (a day : ℤ) → lt_z a day ≡ false → day ≤ℤ a
not_past a day h = grind (arith, ints)

not_both : {b : Bool} → b ≡ true → b ≡ false → ⊥
not_both {b} t f = let c : true ≡ false = sym t ∙ f in cc

module _ (waivers : List Waiver) (es : List Entry) (ix : IsIndexOf waivers es) where
  stand : (i j : ℕ) (a b : Entry) → i ≤ j → slice_get es i ≡ Some a → slice_get es j ≡ Some b → Stands a.placed b.placed
  stand i j a b le at bt = far _ ix.sorted i j a.placed b.placed le (placed_at es i a at) (placed_at es j b bt)

  latest_at : (i : ℕ) (e : Entry) → slice_get es i ≡ Some e → HasLatest waivers e
  latest_at i e at = subst (HasLatest waivers) (get_or_from_slice_get es i e e at) (ix.latest i e (slice_get_within es i e at))

  -- behind an entry with the same words the latest last day is no earlier
  rises : (i j : ℕ) (a b : Entry) → slice_get es i ≡ Some a → slice_get es j ≡ Some b → words_of a.placed.key ≡ words_of b.placed.key → a.placed.place ≤ b.placed.place → a.latest ≤ℤ b.latest
  rises i j a b at bt same le =
      let h = latest_at i a at in
      let r = h.reached in
      let n = r.no_later in
      let up = (latest_at j b bt).upper h.of (record { at = r.at; no_later = omega arith; at_place = r.at_place; own = r.own ∙ same }) in
      subst (λ z. z ≤ℤ b.latest) h.same up

  module _ (q : Words) (day : ℤ) where
    before_less : (e : Entry) → words_cmp (words_of e.placed.key) q ≡ Less → is_before q day e ≡ true
    before_less e h = ap (λ c. before_by c (lt_z e.latest day)) h

    before_equal : (e : Entry) → words_of e.placed.key ≡ q → is_before q day e ≡ lt_z e.latest day
    before_equal e h = ap (λ c. before_by c (lt_z e.latest day)) (subst (λ z. words_cmp z q ≡ Equal) (sym h) (equal_itself q))

    before_too : (c : Ordering) (a b : Entry) → words_cmp (words_of b.placed.key) q ≡ c → before_by c (lt_z b.latest day) ≡ true → Stands a.placed b.placed
        → (words_of a.placed.key ≡ words_of b.placed.key → a.placed.place ≤ b.placed.place → a.latest ≤ℤ b.latest) → is_before q day a ≡ true
    before_too Less a b e h s r = before_less a (elim s [
      | inl l ↦ words_total.trans _ (words_of b.placed.key) q l e
      | inr l ↦ subst (λ z. words_cmp z q ≡ Less) (sym l.0) e
    ])
    before_too Equal a b e h s r =
        let same = same_words _ q e in
        elim s [
          | inl l ↦ before_less a (subst (λ z. words_cmp (words_of a.placed.key) z ≡ Less) same l)
          | inr l ↦ before_equal a (l.0 ∙ same) ∙ less_day a.latest b.latest day (r l.0 l.1) h
        ]
    before_too Greater a b e h s r = absurd (cc)

    -- the entries that stand before are the first ones
    pub partitioned : IsPartitionedBy (is_before q day) es
    partitioned i j d le lt h =
        let at = slice_get-get_or es i d (omega arith) in
        let bt = slice_get-get_or es j d lt in
        let a = slice_index_or es i d in
        let b = slice_index_or es j d in
        before_too (words_cmp (words_of b.placed.key) q) a b refl h (stand i j a b le at bt) (λ same places. rises i j a b at bt same places)

    module _ (p : ℕ) (cut : IsFirstAt es q day p) where
      -- what is known of a waiver that has the words and the day
      record Behind (place : ℕ) : Type 0 where
        at : ℕ
        entry : Entry
        no_earlier : p ≤ at
        at_place : slice_get es at ≡ Some entry
        own : entry.placed.place ≡ place
        same : words_of entry.placed.key ≡ q

      behind : (j : ℕ) (w : Waiver) → slice_get waivers j ≡ Some w → words w ≡ q → day ≤ℤ w.last → Behind j
      behind j w wt e h =
          let k = key_at waivers _ ix.keys j w wt in
          let x = entry_at es k.at k.key k.at_place in
          let same : words_of x.entry.placed.key ≡ q = subst (λ z. words_of z.key ≡ q) (sym x.same) (k.same ∙ e) in
          let own : x.entry.placed.place ≡ j = subst (λ z. z.place ≡ j) (sym x.same) k.own in
          let up = (latest_at k.at x.entry x.at_place).upper w (record { at = j; no_later = omega arith; at_place = wt; own = e ∙ sym same }) in
          record {
            at = k.at;
            entry = x.entry;
            no_earlier = elim (cases_lt k.at p) [
              | inl lt ↦
                  let t : is_before q day x.entry ≡ true = cut.below k.at x.entry lt x.at_place in
                  let f : is_before q day x.entry ≡ false = before_equal x.entry same ∙ day_reached day w.last x.entry.latest h up in
                  absurd (cc)
              | inr le ↦ le
            ];
            at_place = x.at_place;
            own = own;
            same = same;
          }

      none_earlier : (e : Entry) → slice_get es p ≡ Some e → words_of e.placed.key ≡ q → (j : ℕ) (w : Waiver) → slice_get waivers j ≡ Some w → words w ≡ q → day ≤ℤ w.last → e.placed.place ≤ j
      none_earlier e et same j w wt is h =
          let b = behind j w wt is h in
          let o = b.own in
          elim (stand p b.at e b.entry b.no_earlier et b.at_place) [
            | inl s ↦ absurd (not_below _ _ (same ∙ sym b.same) s)
            | inr s ↦ let l = s.1 in omega arith
          ]

      record First (place : ℕ) : Type 0 where
        waiver : Waiver
        at_place : slice_get waivers place ≡ Some waiver
        own : words waiver ≡ q
        holds : day ≤ℤ waiver.last

      first_here : (e : Entry) → slice_get es p ≡ Some e → words_of e.placed.key ≡ q → First e.placed.place
      first_here e et same =
          let h = latest_at p e et in
          let r = h.reached in
          let past = not_past e.latest day (sym (before_equal e same) ∙ cut.others p e (omega arith) et) in
          let holds : day ≤ℤ h.of.last = subst (λ z. day ≤ℤ z) (sym h.same) past in
          let le = none_earlier e et same r.at h.of r.at_place (r.own ∙ same) holds in
          let one : r.at ≡ e.placed.place = (let n = r.no_later in omega arith) in
          record { waiver = h.of; at_place = subst (λ n. slice_get waivers n ≡ Some h.of) one r.at_place; own = r.own ∙ same; holds = holds }

      none_here : ((e : Entry) → slice_get es p ≡ Some e → words_of e.placed.key ≡ q → ⊥) → (j : ℕ) (w : Waiver) → slice_get waivers j ≡ Some w → words w ≡ q → day ≤ℤ w.last → ⊥
      none_here other j w wt is h =
          let b = behind j w wt is h in
          let le = b.no_earlier in
          let within = slice_get_within es b.at b.entry b.at_place in
          let a : Entry = slice_index_or es p b.entry in
          let et = slice_get-get_or es p b.entry (omega arith) in
          elim (stand p b.at a b.entry b.no_earlier et b.at_place) [
            | inl s ↦ not_both (before_less a (subst (λ z. words_cmp (words_of a.placed.key) z ≡ Less) b.same s)) (cut.others p a (omega arith) et)
            | inr s ↦ other a et (s.0 ∙ b.same)
          ]

same_bytes : (a b : List ℕ) → a ≡ b → bytes_eq a b ≡ true
same_bytes a b e = (bytes_decides a b).1 e

both : (a b : Bool) → a ≡ true → b ≡ true → (a && b) ≡ true
both true b h k = k
both false b h k = absurd (cc)

day_of : (day last : ℤ) → le_z day last ≡ true → day ≤ℤ last
day_of day last h = grind (arith, ints)

of_day : (day last : ℤ) → day ≤ℤ last → le_z day last ≡ true
of_day day last h = grind (arith, ints)

module _ (cell : List ℕ) (code : Code) (pin : List ℕ) (day : ℤ) where
  is_told : (w : Waiver) → words w ≡ words_for cell code pin → day ≤ℤ w.last → is_of cell code pin day w ≡ true
  is_told w e h =
      both _ _ (same_bytes w.cell cell (ap (λ q. q.1.0) e)) (both _ _ (same_bytes (code_word w.code) (code_word code) (ap (λ q. q.0) e))
      (both _ _ (same_bytes w.pin pin (ap (λ q. q.1.1) e)) (of_day day w.last h)))

  told_words : (w : Waiver) → is_of cell code pin day w ≡ true → (words w ≡ words_for cell code pin) × (day ≤ℤ w.last)
  told_words w h =
      let a = both_true _ _ h in
      let b = both_true _ _ a.1 in
      let c = both_true _ _ b.1 in
      let x = (bytes_decides w.cell cell).0 a.0 in
      let y = (bytes_decides (code_word w.code) (code_word code)).0 b.0 in
      let z = (bytes_decides w.pin pin).0 c.0 in
      (rw (x, y, z) refl, day_of day w.last c.1)

  module _ (waivers : List Waiver) (es : List Entry) (ix : IsIndexOf waivers es) (p : ℕ) (cut : IsFirstAt es (words_for cell code pin) day p) where
    pub found : (e : Entry) → slice_get es p ≡ Some e → words_cmp (words_of e.placed.key) (words_for cell code pin) ≡ Equal → first_place waivers cell code pin day ≡ Some e.placed.place
    found e et is =
        let same = same_words _ _ is in
        let f = first_here waivers es ix (words_for cell code pin) day p cut e et same in
        position_some (is_of cell code pin day) e.placed.place f.waiver waivers f.at_place (is_told f.waiver f.own f.holds)
        (λ j w lt wt t.
        let k = told_words w t in
        let le = none_earlier waivers es ix (words_for cell code pin) day p cut e et same j w wt k.0 k.1 in
        omega arith)

    pub not_found : ((e : Entry) → slice_get es p ≡ Some e → words_of e.placed.key ≡ words_for cell code pin → ⊥) → first_place waivers cell code pin day ≡ None
    not_found other =
        position_none (is_of cell code pin day) waivers
        (λ j w wt t. let k = told_words w t in none_here waivers es ix (words_for cell code pin) day p cut other j w wt k.0 k.1)

    module _ (e : Entry) (et : slice_get es p ≡ Some e) where
      other_words : (words_of e.placed.key ≡ words_for cell code pin → ⊥) → first_place waivers cell code pin day ≡ None
      other_words other = not_found (λ x xt same. let one : x ≡ e = cc in other (subst (λ z. words_of z.placed.key ≡ words_for cell code pin) one same))

      -- what an entry there tells
      told_by : (c : Ordering) → words_cmp (words_of e.placed.key) (words_for cell code pin) ≡ c → cond (is_eq c) (Some e.placed.place) None ≡ first_place waivers cell code pin day
      told_by Equal is = sym (found e et is)
      told_by Less is = sym (other_words (λ same. not_below _ _ same is))
      told_by Greater is = sym (other_words (λ same. never_greater _ _ same is))

      pub told_at : (b : Bool) (word : List ℕ) (c : Ordering) → word ≡ code_word code → c ≡ words_cmp (words_of e.placed.key) (word, (cell, pin)) → b ≡ is_eq c
          → cond b (Some e.placed.place) None ≡ first_place waivers cell code pin day
      told_at b word c own is same =
          subst (λ t. cond t (Some e.placed.place) None ≡ first_place waivers cell code pin day) (sym same)
          (told_by c (sym (is ∙ ap (λ w. words_cmp (words_of e.placed.key) (w, (cell, pin))) own)))

    -- where there is no entry
    pub told_end : slice_get es p ≡ None → None ≡ first_place waivers cell code pin day
    told_end h = sym (not_found (λ x xt same. let c : None ≡ Some x = sym h ∙ xt in cc))
