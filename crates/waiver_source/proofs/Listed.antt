-- The keys of waivers, when one comes, when they are put in order, and in entries.
use Rattle.std.proofs.Common.{◌≡◌, ◌+◌, ◌<◌, ◌++◌, ◌∷◌, [], ℕ, List, map, length, Option, Some, None, inl, inr, refl, sym, ap, subst, ◌∙◌, arith}
use Rattle.std.specs.Prelude.{All, Contains, IsPermutation, slice_get}
use Rattle.std.specs.Option.{option_map}
use Rattle.std.proofs.lemmas.Bool.{cases_lt}
use Rattle.std.proofs.lemmas.List.Elements.{All-push, Contains-append_left, Contains-push}
use Rattle.std.proofs.lemmas.List.Sorted.{All-permutation, Contains-permutation}
use Rattle.std.proofs.lemmas.Option.{get_or_from_slice_get, slice_get-map, slice_get_read, slice_get_within}
use Rattle.waiver_source.specs.Index.{AreKeysOf, IsKeyOf, IsListed, placed_of, words, words_of}
use Rattle.waiver_source.specs.declared.waiver.Waiver.{Waiver}
use Rattle.waiver_source.specs.declared.entry.Entry.{Entry}
use Rattle.waiver_source.specs.declared.entry.PlacedKey.{PlacedKey}

pub all_more : (waivers : List Waiver) (old new : List PlacedKey) (k : PlacedKey) → new ≡ old ++ k ∷ [] → All (IsKeyOf waivers) old → IsKeyOf waivers k → All (IsKeyOf waivers) new
all_more waivers old new k is own one = subst (All (IsKeyOf waivers)) (sym is) (All-push (IsKeyOf waivers) old k own one)

pub listed_more : (old new : List PlacedKey) (k : PlacedKey) (i : ℕ) → new ≡ old ++ k ∷ [] → k.place ≡ i → ((place : ℕ) → place < i → IsListed old place)
    → (place : ℕ) → place < i + 1 → IsListed new place
listed_more old new k i is own listed place lt =
    elim (cases_lt place i) [
      | inl before ↦
          let l = listed place before in
          record { key = l.key; among = subst (λ ks. Contains ks l.key) (sym is) (Contains-append_left old (k ∷ []) l.key l.among); own = l.own }
      | inr le ↦ record { key = k; among = subst (λ ks. Contains ks k) (sym is) (Contains-push old k); own = omega arith }
    ]

pub permuted : (waivers : List Waiver) (old new : List PlacedKey) → IsPermutation old new → AreKeysOf waivers old → AreKeysOf waivers new
permuted waivers old new moved are = record {
  own = All-permutation (IsKeyOf waivers) old new moved are.own;
  listed = λ place lt.
      let l = are.listed place lt in
      record { key = l.key; among = Contains-permutation old new l.key moved l.among; own = l.own };
}

-- a key with its place among others
pub record KeyAt (ks : List PlacedKey) (w : Waiver) (place : ℕ) : Type 0 where
  pub at : ℕ
  pub key : PlacedKey
  pub at_place : slice_get ks at ≡ Some key
  pub own : key.place ≡ place
  pub same : words_of key.key ≡ words w

module _ (waivers : List Waiver) (ks : List PlacedKey) (are : AreKeysOf waivers ks) where
  pub own_at : (i : ℕ) (k : PlacedKey) → slice_get ks i ≡ Some k → IsKeyOf waivers k
  own_at i k at = subst (IsKeyOf waivers) (get_or_from_slice_get ks i k k at) (are.own i k (slice_get_within ks i k at))

  pub key_at : (j : ℕ) (w : Waiver) → slice_get waivers j ≡ Some w → KeyAt ks w j
  key_at j w at =
      let l = are.listed j (slice_get_within waivers j w at) in
      let here : slice_get ks l.among.0 ≡ Some l.key = slice_get_read ks (length ks) l.among.0 l.key refl l.among.1 (sym l.among.2) in
      let o = own_at l.among.0 l.key here in
      let there : slice_get waivers j ≡ Some o.waiver = subst (λ n. slice_get waivers n ≡ Some o.waiver) l.own o.at_place in
      let one : o.waiver ≡ w = cc in
      record { at = l.among.0; key = l.key; at_place = here; own = l.own; same = subst (λ z. words_of l.key.key ≡ words z) one o.own }

pub record EntryAt (es : List Entry) (i : ℕ) (k : PlacedKey) : Type 0 where
  pub entry : Entry
  pub at_place : slice_get es i ≡ Some entry
  pub same : entry.placed ≡ k

with_key : (o : Option Entry) (k : PlacedKey) → option_map placed_of o ≡ Some k → (e : Entry) × (o ≡ Some e) × (e.placed ≡ k)
with_key None k h = absurd (cc)
with_key (Some e) k h = (e, refl, cc)

-- the entry with a key
pub entry_at : (es : List Entry) (i : ℕ) (k : PlacedKey) → slice_get (map placed_of es) i ≡ Some k → EntryAt es i k
entry_at es i k h =
    let e = with_key (slice_get es i) k (sym (slice_get-map placed_of es i) ∙ h) in
    record { entry = e.0; at_place = e.1; same = e.2 }

-- the key of an entry
pub placed_at : (es : List Entry) (i : ℕ) (e : Entry) → slice_get es i ≡ Some e → slice_get (map placed_of es) i ≡ Some e.placed
placed_at es i e h = slice_get-map placed_of es i ∙ ap (option_map placed_of) h
