-- Fillers that were gone over, one after the other.
use Rattle.std.proofs.Common.{◌≡◌, ℕ, ◌+◌, ◌-◌, ◌≤◌, ◌==◌, Bool, true, false, not, ◌&&◌, List, [], ◌∷◌, ◌++◌, append_assoc, length, take, drop, refl, sym, ap, subst, ◌∙◌, arith}
use Rattle.std.proofs.lemmas.List.{take_rest, drop-drop}
use Rattle.std.proofs.lemmas.Bool.{eqb-true}
use Rattle.std.specs.List.{list_all}
use Rattle.text_scan.specs.declared.token.Kind.{Kind}
use Rattle.text_scan.specs.declared.token.Style.TheVariants.{Verilog}
use Rattle.text_scan.specs.declared.token.Place.{Place}
use Rattle.text_scan.specs.declared.token.Token.{Token}
use Rattle.text_scan.specs.Tokens.{token, tokens}
use Rattle.text_scan.specs.Jumps.{forward, line_after}
use Rattle.text_scan.specs.Left.{tokens_at}
use Rattle.verilog_directives.specs.Signs.{text}
use Rattle.verilog_directives.specs.Behind.{IsCounted}
use Rattle.verilog_directives.specs.Skims.{is_filler_text, is_filler, is_skimmed, Skims, IsBlank, IsLineEnd, IsToken}

pub none_skimmed : (source : List ℕ) (line : ℕ) (ts : List Token) → Skims source line ts ts
none_skimmed source line ts = record { skimmed = []; front = refl; fillers = refl }

and_true : (a b : Bool) → a ≡ true → b ≡ true → (a && b) ≡ true
and_true true b e f = f
and_true false b e f = absurd cc

and_parts : (a b : Bool) → (a && b) ≡ true → (a ≡ true) × (b ≡ true)
and_parts true b e = (refl, e)
and_parts false b e = absurd cc

all_more : (p : Token → Bool) (ts : List Token) (t : Token) → list_all p ts ≡ true → p t ≡ true → list_all p (ts ++ t ∷ []) ≡ true
all_more p [] t all here = and_true (p t) true here refl
all_more p (x ∷ xs) t all here =
    let parts = and_parts (p x) (list_all p xs) all in
    and_true (p x) _ parts.0 (all_more p xs t parts.1 here)

one_more : (source : List ℕ) (line : ℕ) (t : Token) (ts us vs : List Token) → Skims source line ts us → us ≡ t ∷ vs → is_skimmed source line t ≡ true → Skims source line ts vs
one_more source line t ts us vs so_far e here = record {
  skimmed = so_far.skimmed ++ t ∷ [];
  front = so_far.front ∙ ap (λ z. so_far.skimmed ++ z) e ∙ sym (append_assoc so_far.skimmed (t ∷ []) vs);
  fillers = all_more (is_skimmed source line) so_far.skimmed t so_far.fillers here;
}

-- the rest of a text after so many bytes
rest_after : (source : List ℕ) (at n : ℕ) → drop n (take (length source - at) (drop at source)) ≡ drop (at + n) source
rest_after source at n = ap (drop n) (take_rest source at) ∙ drop-drop n at source

other_line : (a b : ℕ) → (a ≡ b → ⊥) → not (a == b) ≡ true
other_line a b off = go (a == b) refl
  where
    go : (g : Bool) → (a == b) ≡ g → not (a == b) ≡ true
    go true e = absurd (off (eqb-true a b e))
    go false e = ap not e

pub counted_after : (p q : Place) (n : ℕ) → IsCounted p → q ≡ forward n p → IsCounted q
counted_after p q n is e = let a = is.line in let b = is.column in let P : Place → Type 0 = λ z. IsCounted z in subst P (sym e) (record { line = omega arith; column = omega arith })

pub counted_after_line : (p q : Place) → IsCounted p → q ≡ line_after 1 p → IsCounted q
counted_after_line p q is e = let a = is.line in let P : Place → Type 0 = λ z. IsCounted z in subst P (sym e) (record { line = omega arith; column = omega arith })

module _ (source : List ℕ) (line : ℕ) (ts : List Token) (p q : Place) (so_far : Skims source line ts (tokens_at Verilog source p)) where
  here : tokens_at Verilog source p ≡ tokens Verilog p 0 (take (length source - p.at) (drop p.at source))
  unfolding tokens_at
  here = ap (tokens Verilog p 0) (sym (take_rest source p.at))

  there : (n : ℕ) → q.at ≡ p.at + n → tokens Verilog q 0 (drop n (take (length source - p.at) (drop p.at source))) ≡ tokens_at Verilog source q
  unfolding tokens_at
  there n e = ap (tokens Verilog q 0) (rest_after source p.at n ∙ ap (λ z. drop z source) (sym e))

  goes_to : (us : List Token) → tokens_at Verilog source p ≡ us → Skims source line ts us
  goes_to us e = subst (Skims source line ts) e so_far

  after_blank : (n : ℕ) → IsBlank (take (length source - p.at) (drop p.at source)) n → q ≡ forward n p → Skims source line ts (tokens_at Verilog source q)
  after_blank n is e =
      let goes = is.goes p in
      goes_to _ (here ∙ goes ∙ ap (λ z. tokens Verilog z 0 (drop n (take (length source - p.at) (drop p.at source)))) (sym e) ∙ there n (ap (λ z. z.at) e))

  after_line : IsLineEnd (take (length source - p.at) (drop p.at source)) → q ≡ line_after 1 p → Skims source line ts (tokens_at Verilog source q)
  after_line is e =
      let goes = is.goes p in
      goes_to _ (here ∙ goes ∙ ap (λ z. tokens Verilog z 0 (drop 1 (take (length source - p.at) (drop p.at source)))) (sym e) ∙ there 1 (ap (λ z. z.at) e))

  filler : (kind : Kind) (n : ℕ) → is_filler_text kind (take n (take (length source - p.at) (drop p.at source))) ≡ true → (p.line ≡ line → ⊥) → is_skimmed source line (token kind p (p.at + n)) ≡ true
  unfolding is_skimmed is_filler token
  filler kind n is off =
      let many : p.at + n - p.at ≡ n = omega arith in
      and_true (is_filler_text kind (text source (token kind p (p.at + n)))) _
      (ap (λ z. is_filler_text kind (take z (drop p.at source))) many ∙ ap (λ z. is_filler_text kind (take n z)) (sym (take_rest source p.at)) ∙ is)
      (other_line p.line line off)

  after_token : (n : ℕ) → IsToken (take (length source - p.at) (drop p.at source)) n → (p.line ≡ line → ⊥) → q ≡ forward n p → Skims source line ts (tokens_at Verilog source q)
  after_token n is off e =
      let goes = is.goes p in
      let kind = is.kind in
      one_more source line (token kind p (p.at + n)) ts _ _ (goes_to _ (here ∙ goes))
      (ap (λ z. token kind p (p.at + n) ∷ z) (ap (λ z. tokens Verilog z 0 (drop n (take (length source - p.at) (drop p.at source)))) (sym e) ∙ there n (ap (λ z. z.at) e)))
      (filler kind n is.filler off)

-- ---- places on the line where the reader has begun

same_place : (a b l c d : ℕ) → a ≡ b → c ≡ d → (let p : Place = record { at = a; line = l; column = c } in p) ≡ record { at = b; line = l; column = d }
same_place a b l c d e f = cc

forward_more : (p : Place) (m n to : ℕ) → p.at ≤ m → to ≡ m + n → forward (to - p.at) p ≡ forward n (forward (m - p.at) p)
forward_more p m n to le e = same_place _ _ p.line _ _ (omega arith) (omega arith)

forward_here : (p : Place) (at : ℕ) → p.at ≤ at → (forward (at - p.at) p).at ≡ at
forward_here p at le = omega arith

pub begins_here : (p : Place) → p.column ≤ 4294967295 → forward (p.at - p.at) p ≡ p
begins_here p le = same_place _ _ p.line _ _ (omega arith) (omega arith)

module _ (source : List ℕ) (line : ℕ) (ts : List Token) (begun : Place) (at : ℕ) (le : begun.at ≤ at) (so_far : Skims source line ts (tokens_at Verilog source (forward (at - begun.at) begun))) where
  abbrev here_at : Place
  here_at = forward (at - begun.at) begun

  -- the same bytes, by the place
  rest : take (length source - at) (drop at source) ≡ take (length source - here_at.at) (drop here_at.at source)
  rest = ap (λ z. take (length source - z) (drop z source)) (sym (forward_here begun at le))

  pub on_blank : (n to : ℕ) → IsBlank (take (length source - at) (drop at source)) n → to ≡ at + n → Skims source line ts (tokens_at Verilog source (forward (to - begun.at) begun))
  on_blank n to is e =
      let P : List ℕ → Type 0 = λ z. IsBlank z n in
      after_blank source line ts here_at (forward (to - begun.at) begun) so_far n (subst P rest is) (forward_more begun at n to le e)

  pub on_token : (n to : ℕ) → IsToken (take (length source - at) (drop at source)) n → (begun.line ≡ line → ⊥) → to ≡ at + n → Skims source line ts (tokens_at Verilog source (forward (to - begun.at) begun))
  on_token n to is off e =
      let P : List ℕ → Type 0 = λ z. IsToken z n in
      after_token source line ts here_at (forward (to - begun.at) begun) so_far n (subst P rest is) off (forward_more begun at n to le e)

  pub on_line : (p q : Place) → IsLineEnd (take (length source - at) (drop at source)) → p ≡ here_at → q ≡ line_after 1 p → Skims source line ts (tokens_at Verilog source q)
  on_line p q is e f =
      let P : List ℕ → Type 0 = λ z. IsLineEnd z in
      after_line source line ts here_at q so_far (subst P rest is) (f ∙ ap (line_after 1) e)
