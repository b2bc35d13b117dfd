-- Fillers that are left of a text.
use Rattle.std.proofs.Common.{◌≡◌, ℕ, Bool, true, false, not, ◌&&◌, ◌||◌, ◌==◌, List, [], ◌∷◌, ◌++◌, map, refl, sym, ap, ◌∙◌}
use Rattle.std.specs.Prelude.{codes, if◌then◌else◌}
use Rattle.std.proofs.lemmas.Slice.Eq.{bytes_eq-Decides}
use Rattle.text_scan.specs.Bytes.{begins_with, begins_with_pair}
use Rattle.std.specs.List.{list_all}
use Rattle.std.specs.Str.{bytes_eq}
use Rattle.text_scan.specs.declared.token.Kind.{Kind}
use Rattle.text_scan.specs.declared.token.Kind.TheVariants.{Word, Str, Sign, Unfinished, LineEnd, End}
use Rattle.text_scan.specs.declared.token.Token.{Token}
use Rattle.text_scan.specs.declared.limits.Limits.{Limits}
use Rattle.text_scan.specs.Left.{is_end}
use Rattle.verilog_directives.specs.declared.left.Role.TheVariants.{Plain}
use Rattle.verilog_directives.specs.declared.line.Line.{Line}
use Rattle.verilog_directives.specs.declared.line.Line.TheVariants.{Free, Passed, Kept, Text}
use Rattle.verilog_directives.specs.declared.region.Region.{Region}
use Rattle.verilog_directives.specs.declared.region.Region.TheVariants.{Outside, Part, Specify}
use Rattle.verilog_directives.specs.Regions.{begins_part, ends_part, begins_block, ends_block, after_word, after_token}
use Rattle.verilog_directives.specs.declared.directives.Directives.{Directives}
use Rattle.verilog_directives.specs.Signs.{text, is_word, is_sign, is_mark, is_mark_text, is_wrong, is_wrong_text}
use Rattle.verilog_directives.specs.Conditions.{is_read}
use Rattle.verilog_directives.specs.Left.{State, left_from, turn, item, is_passed, is_kept, line_of}
use Rattle.verilog_directives.specs.Skims.{begins_end, is_filler_text, is_filler, is_skimmed, Skims}
use Rattle.verilog_directives.specs.Lookahead.{to_come}
use Rattle.verilog_directives.specs.Directives.{source, state, left, GoesOverFillers}

and_parts : (a b : Bool) → (a && b) ≡ true → (a ≡ true) × (b ≡ true)
and_parts true b e = (refl, e)
and_parts false b e = absurd cc

not_true : (b : Bool) → not b ≡ true → b ≡ false
not_true true e = absurd cc
not_true false e = refl

-- what a filler is not
record NoMore (kind : Kind) (w : List ℕ) : Type 0 where
  shut : is_end kind ≡ false
  right : is_wrong_text kind w ≡ false
  free : is_mark_text kind w ≡ false

no_more : (kind : Kind) (w : List ℕ) → is_filler_text kind w ≡ true → NoMore kind w
no_more Word w e = record { shut = refl; right = refl; free = refl }
no_more Sign w e =
    let parts = and_parts (is_sign w) _ e in
    record { shut = refl; right = ap not parts.0; free = not_true (bytes_eq w (codes "`")) parts.1 }
no_more Str w e = absurd cc
no_more Unfinished w e = absurd cc
no_more LineEnd w e = absurd cc
no_more End w e = absurd cc

no_passed : (line : Line) (t : Token) → not (t.span.line == line_of line) ≡ true → is_passed line t ≡ false
no_passed Free t e = refl
no_passed (Passed line) t e = not_true _ e
no_passed (Kept line) t e = refl
no_passed (Text line) t e = not_true _ e

no_kept : (line : Line) (t : Token) → not (t.span.line == line_of line) ≡ true → is_kept line t ≡ false
no_kept Free t e = refl
no_kept (Passed line) t e = refl
no_kept (Kept line) t e = not_true _ e
no_kept (Text line) t e = refl

or_parts : (a b : Bool) → (a || b) ≡ false → (a ≡ false) × (b ≡ false)
or_parts true b e = absurd cc
or_parts false b e = (refl, e)

other_word : (w v : List ℕ) → begins_end w ≡ false → begins_end v ≡ true → bytes_eq w v ≡ false
other_word w v off on = go (bytes_eq w v) refl
  where
    go : (b : Bool) → bytes_eq w v ≡ b → bytes_eq w v ≡ false
    go true e = absurd (let same : begins_end w ≡ begins_end v = ap begins_end ((bytes_eq-Decides w v).0 e) in cc)
    go false e = e

no_part_end : (w : List ℕ) → begins_end w ≡ false → ends_part w ≡ false
unfolding ends_part begins_end begins_with_pair begins_with
no_part_end w off = rw (other_word w (codes "endmodule") off refl, other_word w (codes "endprimitive") off refl) refl

no_block_end : (w : List ℕ) → begins_end w ≡ false → ends_block w ≡ false
unfolding ends_block begins_end begins_with_pair begins_with
no_block_end w off = other_word w (codes "endspecify") off refl

word_stays : (r : Region) (w : List ℕ) → begins_end w ≡ false → begins_part w ≡ false → begins_block w ≡ false → after_word r w ≡ r
word_stays Outside w off part block = rw (part, no_block_end w off) refl
word_stays Part w off part block = rw (no_part_end w off, block) refl
word_stays Specify w off part block = rw (no_part_end w off, no_block_end w off) refl

-- after a filler the text stands where it stood
stands_still : (bytes : List ℕ) (r : Region) (t : Token) → is_filler_text t.kind (text bytes t) ≡ true → after_token bytes r t ≡ r
unfolding after_token
stands_still bytes r t e = go t.kind e
  where
    go : (k : Kind) → is_filler_text k (text bytes t) ≡ true → (if is_word k then after_word r (text bytes t) else r) ≡ r
    go Word f =
        let parts = or_parts (begins_end (text bytes t)) _ (not_true _ f) in
        let begins = or_parts (begins_part (text bytes t)) _ parts.1 in
        word_stays r (text bytes t) parts.0 begins.0 begins.1
    go Sign f = refl
    go Str f = refl
    go Unfinished f = refl
    go LineEnd f = refl
    go End f = refl

module _ (bytes : List ℕ) (limits : Limits) (s : State) (read : is_read s.conditions ≡ true) where
  one_stays : (t : Token) (ts : List Token) → is_skimmed bytes (line_of s.line) t ≡ true → left_from bytes limits s 0 (t ∷ ts) ≡ item Plain t ∷ left_from bytes limits s 0 ts
  unfolding left_from turn is_skimmed is_filler is_wrong is_mark
  one_stays t ts e =
      let parts = and_parts (is_filler_text t.kind (text bytes t)) _ e in
      let off = no_more t.kind (text bytes t) parts.0 in
      let shut : is_end t.kind ≡ false = off.shut in
      let right : is_wrong_text t.kind (text bytes t) ≡ false = off.right in
      let free : is_mark_text t.kind (text bytes t) ≡ false = off.free in
      let still : after_token bytes s.region t ≡ s.region = stands_still bytes s.region t parts.0 in
      rw (shut, right, no_passed s.line t parts.1, no_kept s.line t parts.1, free, read) (ap (λ z. item Plain t ∷ left_from bytes limits (record s { region = z }) 0 ts) still)

  all_stay : (ts us : List Token) → list_all (is_skimmed bytes (line_of s.line)) ts ≡ true → left_from bytes limits s 0 (ts ++ us) ≡ map (item Plain) ts ++ left_from bytes limits s 0 us
  all_stay [] us all = refl
  all_stay (t ∷ ts) us all =
      let parts = and_parts (is_skimmed bytes (line_of s.line) t) _ all in
      one_stays t (ts ++ us) parts.0 ∙ ap (λ z. item Plain t ∷ z) (all_stay ts us parts.1)

  are_fillers : (ts : List Token) → list_all (is_skimmed bytes (line_of s.line)) ts ≡ true → list_all (is_filler bytes) ts ≡ true
  unfolding is_skimmed
  are_fillers [] all = refl
  are_fillers (t ∷ ts) all =
      let parts = and_parts (is_skimmed bytes (line_of s.line) t) _ all in
      let first = and_parts (is_filler bytes t) _ parts.0 in
      ap (λ z. z && list_all (is_filler bytes) ts) first.0 ∙ are_fillers ts parts.1

pub nothing_gone : (d : Directives) → GoesOverFillers d d
nothing_gone d = record { fillers = []; front = refl; all = refl }

pub gone_over : (d e : Directives) → is_read d.conditions ≡ true → e.tokens.source.now ≡ d.tokens.source.now → e.limits ≡ d.limits → state e ≡ state d
    → Skims d.tokens.source.now (line_of d.line) (to_come d.tokens) (to_come e.tokens) → GoesOverFillers d e
unfolding left source
gone_over d e read same limits kept skims = record {
  fillers = skims.skimmed;
  front = ap (left_from d.tokens.source.now d.limits (state d) 0) skims.front
      ∙ all_stay d.tokens.source.now d.limits (state d) read skims.skimmed (to_come e.tokens) skims.fillers
      ∙ ap (λ z. map (item Plain) skims.skimmed ++ z) (sym (
      ap (λ z. left_from z e.limits (state e) 0 (to_come e.tokens)) same
      ∙ ap (λ z. left_from d.tokens.source.now z (state e) 0 (to_come e.tokens)) limits
      ∙ ap (λ z. left_from d.tokens.source.now d.limits z 0 (to_come e.tokens)) kept));
  all = are_fillers d.tokens.source.now d.limits (state d) read skims.skimmed skims.fillers;
}
