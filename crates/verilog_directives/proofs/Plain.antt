-- Tokens without directives.
use Rattle.std.proofs.Common.{◌≡◌, ℕ, Bool, true, false, ◌||◌, List, [], ◌∷◌, ◌++◌, map, refl, ap, ◌∙◌}
use Rattle.std.specs.List.{list_any}
use Rattle.text_scan.specs.declared.token.Token.{Token}
use Rattle.text_scan.specs.declared.limits.Limits.{Limits}
use Rattle.text_scan.specs.Left.{is_end}
use Rattle.verilog_directives.specs.declared.left.Role.TheVariants.{Plain}
use Rattle.verilog_directives.specs.Signs.{is_mark, is_wrong}
use Rattle.verilog_directives.specs.Conditions.{is_read}
use Rattle.verilog_directives.specs.declared.region.Region.{Region}
use Rattle.verilog_directives.specs.declared.region.Region.TheVariants.{Outside}
use Rattle.verilog_directives.specs.Regions.{after_token}
use Rattle.verilog_directives.specs.Left.{left_from, turn, item, start}

or_parts : (a b : Bool) → (a || b) ≡ false → (a ≡ false) × (b ≡ false)
or_parts true b e = absurd cc
or_parts false b e = (refl, e)

module _ (text : List ℕ) (limits : Limits) where
  -- a token that isn't a ` stays, wherever the text stands
  one_stays : (r : Region) (t : Token) (ts : List Token) → is_end t.kind ≡ false → is_mark text t ≡ false
      → (next : Region) × (left_from text limits (record start { region = r }) 0 (t ∷ ts) ≡ item Plain t ∷ left_from text limits (record start { region = next }) 0 ts)
  unfolding left_from turn is_read
  one_stays r t ts shut free = elim (is_wrong text t) as (λ b. is_wrong text t ≡ b
      → (next : Region) × (left_from text limits (record start { region = r }) 0 (t ∷ ts) ≡ item Plain t ∷ left_from text limits (record start { region = next }) 0 ts)) [
        | true ↦ λ wrong. (r, rw (shut, wrong) refl)
        | false ↦ λ right. (after_token text r t, rw (shut, right, free) refl)
      ] refl

  all_stay : (r : Region) (ts : List Token) (end : Token) → list_any (is_mark text) ts ≡ false → list_any (λ t. is_end t.kind) ts ≡ false → is_end end.kind ≡ true
      → left_from text limits (record start { region = r }) 0 (ts ++ end ∷ []) ≡ map (item Plain) (ts ++ end ∷ [])
  unfolding left_from turn
  all_stay r [] end free shut ends = rw ends refl
  all_stay r (t ∷ ts) end free shut ends =
      let marks = or_parts (is_mark text t) (list_any (is_mark text) ts) free in
      let all = or_parts (is_end t.kind) (list_any (λ t. is_end t.kind) ts) shut in
      let one = one_stays r t (ts ++ end ∷ []) all.0 marks.0 in
      one.1 ∙ ap (λ z. item Plain t ∷ z) (all_stay one.0 ts end marks.1 all.1 ends)

  pub tokens_stay : (ts : List Token) (end : Token) → list_any (is_mark text) ts ≡ false → list_any (λ t. is_end t.kind) ts ≡ false → is_end end.kind ≡ true
      → left_from text limits start 0 (ts ++ end ∷ []) ≡ map (item Plain) (ts ++ end ∷ [])
  tokens_stay = all_stay Outside
