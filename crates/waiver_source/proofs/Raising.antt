-- The latest last days, from entry to entry.
use Rattle.std.proofs.Common.{◌≡◌, ◌+◌, ◌<◌, ◌≤◌, ◌++◌, ◌∷◌, [], ℕ, ℤ, zero, suc, List, Bool, true, false, map, take, length, cond, Option, Some, None, inl, inr, refl, sym, ap, subst, ◌∙◌, arith}
use mathlib.Core.Logic.{◌⊎◌}
use Rattle.std.specs.Prelude.{◌≤ℤ◌, IsSorted, slice_get}
use Rattle.std.specs.Int.{int_max}
use Rattle.std.specs.Prelude.{int_lt}
use Rattle.std.specs.Ordering.{is_eq}
use Rattle.std.specs.declared.cmp.Ordering.{Ordering}
use Rattle.std.specs.declared.cmp.Ordering.TheVariants.{Less, Equal, Greater}
use Rattle.std.proofs.lemmas.Bool.{cases_lt}
use Rattle.std.proofs.lemmas.Int.{ints, clamps}
use Rattle.waiver_source.specs.Index.{AreKeysOf, HasLatest, IsKeyOf, IsLatest, IsUpTo, Words, latest_behind, placed_cmp, words, words_cmp, words_of}
use Rattle.waiver_source.specs.declared.waiver.Waiver.{Waiver}
use Rattle.waiver_source.specs.declared.entry.Entry.{Entry}
use Rattle.waiver_source.specs.declared.entry.PlacedKey.{PlacedKey}
use Rattle.waiver_source.proofs.Orders.{Stands, far, never_greater, not_below, same_words, words_total}
use Rattle.waiver_source.proofs.Listed.{key_at}

max_bounds : (x y : ℤ) → (x ≤ℤ int_max x y) × (y ≤ℤ int_max x y)
max_bounds x y = (omega (arith, ints, clamps), omega (arith, ints, clamps))

one_of : (b : Bool) (x y : ℤ) → (cond b x y ≡ x) ⊎ (cond b x y ≡ y)
one_of true x y = inl refl
one_of false x y = inr refl

max_one : (x y : ℤ) → (int_max x y ≡ x) ⊎ (int_max x y ≡ y)
max_one x y = by (int_lt y x) refl where
  by : (b : Bool) → int_lt y x ≡ b → (int_max x y ≡ x) ⊎ (int_max x y ≡ y)
  by true e = inl (ap (λ b. cond b x y) e)
  by false e = inr (ap (λ b. cond b x y) e)

-- what comes before a place of keys: nothing, or the entry of the key before it
abbrev pub Behind : List PlacedKey → ℕ → Option Entry → Type 0
Behind ks i None = i ≡ 0
Behind ks i (Some e) = (j : ℕ) × (i ≡ j + 1) × (slice_get ks j ≡ Some e.placed)

module _ (waivers : List Waiver) (ks : List PlacedKey) (are : AreKeysOf waivers ks) (up : IsSorted placed_cmp ks) (i : ℕ) (k : PlacedKey) (kt : slice_get ks i ≡ Some k) (w : Waiver)
    (here : slice_get waivers k.place ≡ Some w) (own : words_of k.key ≡ words w) where
  itself : IsUpTo waivers (words_of k.key) k.place w
  itself = record { at = k.place; no_later = omega arith; at_place = here; own = sym own }

  -- an earlier waiver with the key's words has its key before
  record Earlier (v : Waiver) (place : ℕ) : Type 0 where
    at : ℕ
    key : PlacedKey
    before : at < i
    at_place : slice_get ks at ≡ Some key
    own_place : key.place ≡ place
    same : words_of key.key ≡ words_of k.key

  earlier : (v : Waiver) (place : ℕ) → place < k.place → slice_get waivers place ≡ Some v → words v ≡ words_of k.key → Earlier v place
  earlier v place lt vt e =
      let l = key_at waivers ks are place v vt in
      let same : words_of l.key.key ≡ words_of k.key = l.same ∙ e in
      record {
        at = l.at;
        key = l.key;
        before = elim (cases_lt l.at i) [
          | inl b ↦ b
          | inr le ↦ absurd (elim (far ks up i l.at k l.key le kt l.at_place) [
            | inl s ↦ not_below (words_of k.key) (words_of l.key.key) (sym same) s
            | inr s ↦ let m = s.1 in let o = l.own in omega arith
          ])
        ];
        at_place = l.at_place;
        own_place = l.own;
        same = same;
      }

  one_here : (v : Waiver) → slice_get waivers k.place ≡ Some v → v ≡ w
  one_here v vt = cc

  first_latest : i ≡ 0 → IsLatest waivers k w.last
  first_latest e = record {
    upper = λ v u.
        elim (cases_lt u.at k.place) [
          | inl lt ↦ let b = (earlier v u.at lt u.at_place u.own).before in absurd (omega arith)
          | inr le ↦
              let same : u.at ≡ k.place = (let f = u.no_later in omega arith) in
              let one : v ≡ w = one_here v (subst (λ n. slice_get waivers n ≡ Some v) same u.at_place) in
              subst (λ z. z.last ≤ℤ w.last) (sym one) (omega (arith, ints))
        ];
    of = w;
    reached = itself;
    same = refl;
  }

  module _ (e : Entry) (j : ℕ) (next : i ≡ j + 1) (et : slice_get ks j ≡ Some e.placed) (h : HasLatest waivers e) where
    behind : Stands e.placed k
    behind = far ks up j i e.placed k (omega arith) et kt

    through : (v : Waiver) (place : ℕ) (p : Earlier v place) → Stands p.key e.placed
    through v place p = let b = p.before in far ks up p.at j p.key e.placed (omega arith) p.at_place et

    module _ (same : words_of e.placed.key ≡ words_of k.key) where
      no_later : e.placed.place ≤ k.place
      no_later = elim behind [ inl s ↦ absurd (not_below _ _ same s) | inr s ↦ s.1 ]

      within : (v : Waiver) (u : IsUpTo waivers (words_of k.key) k.place v) → u.at < k.place → v.last ≤ℤ e.latest
      within v u lt =
          let p = earlier v u.at lt u.at_place u.own in
          let le : p.key.place ≤ e.placed.place = elim (through v u.at p) [
            | inl s ↦ absurd (not_below _ _ (p.same ∙ sym same) s)
            | inr s ↦ s.1
          ] in
          let o = p.own_place in
          h.upper v (record { at = u.at; no_later = omega arith; at_place = u.at_place; own = u.own ∙ sym same })

      upper_max : (v : Waiver) → IsUpTo waivers (words_of k.key) k.place v → v.last ≤ℤ int_max e.latest w.last
      upper_max v u =
          let m = max_bounds e.latest w.last in
          elim (cases_lt u.at k.place) [
            | inl lt ↦ let l = within v u lt in let x = m.0 in omega (arith, ints)
            | inr le ↦
                let at_once : u.at ≡ k.place = (let f = u.no_later in omega arith) in
                let one : v ≡ w = one_here v (subst (λ n. slice_get waivers n ≡ Some v) at_once u.at_place) in
                subst (λ z. z.last ≤ℤ int_max e.latest w.last) (sym one) m.1
          ]

      max_latest : IsLatest waivers k (int_max e.latest w.last)
      max_latest = elim (max_one e.latest w.last) [
        | inl is ↦ record {
          upper = upper_max;
          of = h.of;
          reached = record { at = h.reached.at; no_later = (let a = h.reached.no_later in let b = no_later in omega arith); at_place = h.reached.at_place; own = h.reached.own ∙ same };
          same = h.same ∙ sym is;
        }
        | inr is ↦ record { upper = upper_max; of = w; reached = itself; same = sym is }
      ]

    module _ (other : words_of e.placed.key ≡ words_of k.key → ⊥) where
      none_earlier : (v : Waiver) (place : ℕ) → Earlier v place → ⊥
      none_earlier v place p = elim (through v place p) [
        | inr s ↦ other (sym s.0 ∙ p.same)
        | inl s ↦ elim behind [
          | inr b ↦ other b.0
          | inl b ↦ not_below _ _ p.same (words_total.trans _ (words_of e.placed.key) _ s b)
        ]
      ]

      own_latest : IsLatest waivers k w.last
      own_latest = record {
        upper = λ v u.
            elim (cases_lt u.at k.place) [
              | inl lt ↦ absurd (none_earlier v u.at (earlier v u.at lt u.at_place u.own))
              | inr le ↦
                  let same : u.at ≡ k.place = (let f = u.no_later in omega arith) in
                  let one : v ≡ w = one_here v (subst (λ n. slice_get waivers n ≡ Some v) same u.at_place) in
                  subst (λ z. z.last ≤ℤ w.last) (sym one) (omega (arith, ints))
            ];
        of = w;
        reached = itself;
        same = refl;
      }

    by_order : (c : Ordering) → words_cmp (words_of e.placed.key) (words_of k.key) ≡ c → IsLatest waivers k (cond (is_eq c) (int_max e.latest w.last) w.last)
    by_order Equal is = max_latest (same_words _ _ is)
    by_order Less is = own_latest (λ same. not_below _ _ same is)
    by_order Greater is = own_latest (λ same. never_greater _ _ same is)

  -- the latest last day behind what comes before
  pub latest_next : (o : Option Entry) → Behind ks i o → ((e : Entry) → o ≡ Some e → HasLatest waivers e) → IsLatest waivers k (latest_behind o k.key w.last)
  latest_next None b h = first_latest b
  latest_next (Some e) b h = by_order e b.0 b.1 b.2 (h e refl) _ refl
