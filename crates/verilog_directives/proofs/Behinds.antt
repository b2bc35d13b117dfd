-- Tokens of a text that begins at a place of another, and where tokens begin.
use Rattle.std.proofs.Common.{◌≡◌, ℕ, zero, suc, ◌+◌, ◌-◌, ◌≤◌, ◌==◌, Bool, true, false, cond, eqb, min, List, [], ◌∷◌, map, length, drop, length-drop, refl, sym, ap, subst, ◌∙◌, arith}
use Rattle.std.specs.Prelude.{nat_lt}
use Rattle.std.proofs.lemmas.List.{drop-drop}
use Rattle.text_scan.specs.declared.token.Kind.{Kind}
use Rattle.text_scan.specs.declared.token.Kind.TheVariants.{End}
use Rattle.text_scan.specs.declared.token.Style.TheVariants.{Verilog}
use Rattle.text_scan.specs.declared.token.Place.{Place}
use Rattle.text_scan.specs.declared.token.Token.{Token}
use Rattle.text_scan.specs.declared.cursor.Cursor.{Cursor}
use Rattle.text_scan.specs.Bytes.{is_space, is_letter, is_digit, begins_with, begins_with_pair, until}
use Rattle.text_scan.specs.Pieces.{piece, verilog_piece, string, comment, line_comment, word}
use Rattle.text_scan.specs.Tokens.{start, over, after, before, size, token, tokens, tokens_of}
use Rattle.text_scan.specs.Left.{left, tokens_at, is_end, followed, IsSliceOf}
use Rattle.text_scan.specs.Moved.{moved, onward}
use Rattle.text_scan.proofs.Moved.{IsPlace, start_is_place, tokens_at as moved_tokens}
use Rattle.text_scan.proofs.Places.{after_at}
use Rattle.verilog_directives.specs.Behind.{moved_on, IsCounted, Stands, StandIn}
use Rattle.verilog_directives.proofs.Looks.{followed-open}

-- ---- where tokens begin

module _ (text : List ℕ) where
  no_tokens : StandIn text []
  no_tokens zero t us e shut = absurd cc
  no_tokens (suc k) t us e shut = absurd cc

  one_more : (t : Token) (ts : List Token) → (is_end t.kind ≡ false → Stands text t ts) → StandIn text ts → StandIn text (t ∷ ts)
  one_more t ts here rest zero u us e shut =
      let first : t ≡ u = cc in
      let others : ts ≡ us = cc in
      let P : Token → Type 0 = λ z. is_end z.kind ≡ false → Stands text z ts in
      let Q : List Token → Type 0 = λ z. Stands text u z in
      subst Q others (subst P first here shut)
  one_more t ts here rest (suc k) u us e shut = rest k u us e shut

  fewer : (t : Token) (ts : List Token) → StandIn text (t ∷ ts) → StandIn text ts
  fewer t ts all k u us e shut = all (suc k) u us e shut

  -- after the next token
  followed_stand : (t : Token) (ts us : List Token) → StandIn text us → us ≡ followed t ts → (is_end t.kind ≡ true → ts ≡ us) → StandIn text ts
  followed_stand t ts us all e stays = go (is_end t.kind) refl
    where
      go : (b : Bool) → is_end t.kind ≡ b → StandIn text ts
      go true ended = subst (StandIn text) (sym (stays ended)) all
      go false shut = fewer t ts (subst (StandIn text) (e ∙ followed-open t ts shut) all)

-- what holds on both ways holds
choose : {X : Type 0} (F : X → List Token) (R : List Token → Type 0) (c : Bool) (x y : X) → R (F x) → R (F y) → R (F (cond c x y))
choose F R true x y h k = h
choose F R false x y h k = k

counted_on : (b : ℕ) (p : Place) → IsCounted p → IsCounted (over b p)
unfolding over
counted_on b p is = go (eqb b 10)
  where
    go : (g : Bool) → IsCounted (cond g (record { at = p.at + 1; line = min (p.line + 1) 4294967295; column = 1 }) (record { at = p.at + 1; line = p.line; column = min (p.column + 1) 4294967295 }))
    go true = let i = is.line in record { line = omega arith; column = omega arith }
    go false = let i = is.line in record { line = i; column = omega arith }

at_on : (b : ℕ) (p : Place) → (over b p).at ≡ p.at + 1
unfolding after
at_on b p = after_at (b ∷ []) p

module _ (text : List ℕ) where
  -- a token, as the first of those from a place on
  shown_stands : (b : ℕ) (bs : List ℕ) (p : Place) (kind : Kind) (n : ℕ) (ts : List Token) → drop p.at text ≡ b ∷ bs → IsCounted p → token kind p n ∷ ts ≡ tokens Verilog p 0 (b ∷ bs) → StandIn text ts → StandIn text (token kind p n ∷ ts)
  unfolding token tokens_at
  shown_stands b bs p kind n ts e counted is rest = one_more text (token kind p n) ts (λ shut. record { tokens = is ∙ ap (tokens Verilog p 0) (sym e); counted = counted }) rest

  -- the tokens from a piece on stand where they stand
  from_piece : (b : ℕ) (bs : List ℕ) (p : Place) → drop p.at text ≡ b ∷ bs → IsCounted p → ((n : ℕ) → StandIn text (tokens Verilog (over b p) n bs)) → StandIn text (tokens Verilog p 0 (b ∷ bs))
  unfolding tokens before piece verilog_piece string comment line_comment word
  from_piece b bs p e counted again =
      let whole : List Token = tokens Verilog p 0 (b ∷ bs) in
      let R : List Token → Type 0 = λ ts. ts ≡ whole → StandIn text ts in
      let at : (kind : Kind) (n m : ℕ) → R (token kind p n ∷ tokens Verilog (over b p) m bs) = λ kind n m is. shown_stands b bs p kind n (tokens Verilog (over b p) m bs) e counted is (again m) in
      choose (λ x. before x p (tokens Verilog (over b p) (size x - 1) bs)) R (is_space b) _ _ (λ is. again _)
      (choose (λ x. before x p (tokens Verilog (over b p) (size x - 1) bs)) R (b == 34) _ _
      (choose (λ x. before x p (tokens Verilog (over b p) (size x - 1) bs)) R (nat_lt (until (begins_with 34) bs) (length bs)) _ _ (at _ _ _) (at _ _ _))
      (choose (λ x. before x p (tokens Verilog (over b p) (size x - 1) bs)) R (begins_with_pair 47 42 (b ∷ bs)) _ _
      (choose (λ x. before x p (tokens Verilog (over b p) (size x - 1) bs)) R (nat_lt (until (begins_with_pair 42 47) (drop 1 bs)) (length (drop 1 bs))) _ _ (λ is. again _) (at _ _ _))
      (choose (λ x. before x p (tokens Verilog (over b p) (size x - 1) bs)) R (begins_with_pair 47 47 (b ∷ bs)) _ _ (λ is. again _)
      (choose (λ x. before x p (tokens Verilog (over b p) (size x - 1) bs)) R (b == 92) _ _ (at _ _ _)
      (choose (λ x. before x p (tokens Verilog (over b p) (size x - 1) bs)) R (is_letter b) _ _ (at _ _ _)
      (choose (λ x. before x p (tokens Verilog (over b p) (size x - 1) bs)) R (is_digit b) _ _ (at _ _ _) (at _ _ _))))))) refl

  end_stands : (p : Place) → StandIn text (token End p p.at ∷ [])
  unfolding token
  end_stands p = one_more text (token End p p.at) [] (λ shut. absurd cc) (no_tokens text)

  further : (b : ℕ) (bs : List ℕ) (p : Place) → drop p.at text ≡ b ∷ bs → drop (over b p).at text ≡ bs
  further b bs p e = ap (λ z. drop z text) (at_on b p) ∙ sym (drop-drop 1 p.at text) ∙ ap (drop 1) e

  pub all_stand : (bs : List ℕ) (p : Place) (inside : ℕ) → drop p.at text ≡ bs → IsCounted p → StandIn text (tokens Verilog p inside bs)
  unfolding tokens
  all_stand [] p zero e counted = end_stands p
  all_stand [] p (suc inside) e counted = end_stands p
  all_stand (b ∷ bs) p (suc inside) e counted = all_stand bs (over b p) inside (further b bs p e) (counted_on b p counted)
  all_stand (b ∷ bs) p zero e counted = from_piece b bs p e counted (λ n. all_stand bs (over b p) n (further b bs p e) (counted_on b p counted))

  pub start_stands : (c : Cursor) → left c ≡ tokens_of Verilog text → StandIn text (moved_on start c)
  unfolding moved_on tokens_of
  start_stands c e = subst (StandIn text) (moved_tokens Verilog start text start_is_place ∙ sym (ap (map (moved start)) e)) (all_stand text start 0 refl (record { line = omega arith; column = omega arith }))

-- ---- tokens of a text that begins at a place

pub moved_start : (c : Cursor) (text : List ℕ) → left c ≡ tokens_of Verilog text → moved_on start c ≡ tokens_of Verilog text
unfolding moved_on tokens_of
moved_start c text e = ap (map (moved start)) e ∙ sym (moved_tokens Verilog start text start_is_place)

pub moved_kind : (p : Place) (t u : Token) → u ≡ moved p t → is_end u.kind ≡ is_end t.kind
unfolding moved token
moved_kind p t u e = ap (λ z. is_end z.kind) e

moved_followed : (p : Place) (t : Token) (ts : List Token) → map (moved p) (followed t ts) ≡ followed (moved p t) (map (moved p) ts)
unfolding moved followed token
moved_followed p t ts = go (is_end t.kind)
  where
    go : (b : Bool) → map (moved p) (cond b (t ∷ []) (t ∷ ts)) ≡ cond b (moved p t ∷ []) (moved p t ∷ map (moved p) ts)
    go true = refl
    go false = refl

pub moved_next : (p : Place) (c d : Cursor) (t u : Token) → left c ≡ followed t (left d) → u ≡ moved p t → moved_on p c ≡ followed u (moved_on p d)
unfolding moved_on
moved_next p c d t u next e = ap (map (moved p)) next ∙ moved_followed p t (left d) ∙ ap (λ z. followed z (map (moved p) (left d))) (sym e)

pub moved_stays : (p : Place) (c d : Cursor) (t u : Token) → (is_end t.kind ≡ true → left d ≡ left c) → u ≡ moved p t → is_end u.kind ≡ true → moved_on p d ≡ moved_on p c
unfolding moved_on
moved_stays p c d t u stays e ended = ap (map (moved p)) (stays (sym (moved_kind p t u e) ∙ ended))

pub moved_slice : (text : List ℕ) (p : Place) (t u : Token) → p.at ≤ length text → IsSliceOf (drop p.at text) t → u ≡ moved p t → IsSliceOf text u
unfolding moved onward token
moved_slice text p t u within slice e =
    let len = length-drop p.at text in
    let a = slice.ordered in
    let b = slice.inside in
    let P : Token → Type 0 = λ z. IsSliceOf text z in
    subst P (sym e) (record { ordered = omega arith; inside = omega arith })

pub moved_bounds : (text : List ℕ) (p : Place) (t : Token) → p.at ≤ length text → IsSliceOf (drop p.at text) t → (p.at + t.span.start ≤ length text) × (p.at + t.span.end ≤ length text)
moved_bounds text p t within slice =
    let len = length-drop p.at text in
    let a = slice.ordered in
    let b = slice.inside in
    (omega arith, omega arith)

pub stand_on : (text : List ℕ) (p : Place) (c d : Cursor) (t : Token) → StandIn text (moved_on p c) → left c ≡ followed t (left d) → (is_end t.kind ≡ true → left d ≡ left c) → StandIn text (moved_on p d)
stand_on text p c d t all next stays =
    followed_stand text (moved p t) (moved_on p d) (moved_on p c) all (moved_next p c d t (moved p t) next refl) (moved_stays p c d t (moved p t) stays refl)

-- where a cursor begins again, what is to come is that of the text from there on
pub begun_there : (text : List ℕ) (p : Place) (c : Cursor) → left c ≡ tokens_of Verilog (drop p.at text) → IsPlace p → moved_on p c ≡ tokens_at Verilog text p
unfolding moved_on tokens_at
begun_there text p c e is = ap (map (moved p)) e ∙ sym (moved_tokens Verilog p (drop p.at text) is)

pub place_stands : (text : List ℕ) (p : Place) (c : Cursor) → left c ≡ tokens_of Verilog (drop p.at text) → IsPlace p → StandIn text (moved_on p c)
unfolding tokens_at
place_stands text p c e is =
    let counted : IsCounted p = record { line = is.line; column = is.column } in
    subst (StandIn text) (sym (begun_there text p c e is)) (all_stand text (drop p.at text) p 0 refl counted)

pub is_place : (p : Place) → IsCounted p → p.line ≤ 4294967295 → p.column ≤ 4294967295 → IsPlace p
is_place p is line column = record { line = is.line; column = is.column; line_fits = line; column_fits = column }
