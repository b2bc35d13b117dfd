-- A LEF file that is read has names, pins with directions, words that can be shown, and no macro twice.
use Rattle.std.proofs.Common.{◌≡◌, ◌≤◌, ◌<◌, ◌+◌, ◌++◌, inl, inr, ℕ, zero, suc, Bool, true, false, List, [], ◌∷◌, length, map, subst, Result, Ok, Err, refl, sym, ap, ◌∙◌, arith}
use Rattle.std.specs.Prelude.{if◌then◌else◌, nat_le, codes}
use Rattle.std.specs.List.{list_all}
use Rattle.std.proofs.lemmas.Bool.Decides.{nat_tests}
use Rattle.std.proofs.lemmas.List.{length-append, map-append}
use Rattle.std.proofs.lemmas.List.Folds.{list_all-append}
use Rattle.text_scan.specs.declared.limits.Limits.{Limits}
use Rattle.text_scan.specs.declared.token.Kind.{Kind}
use Rattle.text_scan.specs.declared.token.Kind.TheVariants as kinds
use Rattle.text_scan.specs.declared.token.Token.{Token}
use Rattle.text_scan.specs.declared.token.Style.TheVariants.{Lef}
use Rattle.text_scan.specs.Tokens.{tokens_of}
use Rattle.file_rules.specs.Names.{is_distinct, is_name_within, is_shown, is_too_long}
use Rattle.file_rules.specs.Refusals.{at_token}
use Rattle.file_rules.specs.Kept.{is_distinct-push, shown_string-shown, shown_word-shown}
use Rattle.name_index.specs.Places.{is_known}
use Rattle.grammar.specs.Rule.{Takes}
use Rattle.grammar.specs.Reading.{syntax, refusal}
use Rattle.lef_source.specs.declared.Lef.{Lef as LefData}
use Rattle.lef_source.specs.declared.MacroPart.{MacroPart}
use Rattle.lef_source.specs.declared.MacroPart.TheVariants as parts
use Rattle.lef_source.specs.Lef.{macro_name, is_part, IsLef}
use Rattle.lef_tokens.specs.Looks.{text, word_of, inside, kind_word, is_passed, can_name}
use Rattle.lef_reader.specs.declared.halt.Refusal.{Refusal}
use Rattle.lef_reader.specs.declared.halt.Refusal.TheVariants as refusals
use Rattle.lef_reader.specs.declared.lef_text.LefText.{LefText}
use Rattle.lef_reader.specs.declared.macro_text.MacroText.{MacroText}
use Rattle.lef_reader.specs.declared.until.Closing.TheVariants as closings
use Rattle.lef_reader.specs.declared.until.Until.TheVariants as untils
use Rattle.lef_reader.specs.declared.until.Opened.{Opened}
use Rattle.lef_reader.specs.declared.until.Opened.TheVariants as openings
use Rattle.lef_reader.specs.First.{First, IsFirst}
use Rattle.lef_reader.specs.Passing.{behind, is_name_of}
use Rattle.lef_reader.specs.MacroActions.{no_macro, macro_of}
use Rattle.lef_reader.specs.MacroGrammar.{macro_body}
use Rattle.lef_reader.specs.OutsideGrammar.{open_section, count_macro, open_macro, statement, extension, block, ending_rest, ending, section_rest, section, macro_name as name_rule, title, begun, outside}
use Rattle.lef_reader.specs.File.{FileAnswer, no_lef, with_macro, refused, ending_word, Next, Goes, Stops, goes_behind, refused_at, refused_at_end, after_macro, Then, Opens, AfterOutside, IsFile, IsLefText}
use Rattle.lef_reader.specs.Promise.{IsAnswered, lef_of, told}
use Rattle.lef_reader.proofs.Keeps.{Keeps, rule_kept}
use Rattle.lef_reader.proofs.MacroKept.{passes, named, rest_to_keeps, rest_from_keeps, macro_kept}

both_all : {X : Type 0} (p : X → Bool) (xs ys : List X) → list_all p xs ≡ true → list_all p ys ≡ true → list_all p (xs ++ ys) ≡ true
both_all p xs ys h k = list_all-append p xs ys ∙ rw (h, k) refl

-- ---- words that are shown

kind_shown : (k : Kind) (word string : List ℕ) → is_shown (kind_word k word string) ≡ true
kind_shown kinds.Str word string = shown_string-shown string
kind_shown kinds.Word word string = shown_word-shown word
kind_shown kinds.Sign word string = shown_word-shown word
kind_shown kinds.Unfinished word string = shown_word-shown word
kind_shown kinds.LineEnd word string = shown_word-shown word
kind_shown kinds.End word string = shown_word-shown word

word_shown : (source : List ℕ) (t : Token) → is_shown (word_of source t) ≡ true
unfolding word_of
word_shown source t = kind_shown t.kind (text source t) (inside source t)

end_shown : (source : List ℕ) (name t : Token) → is_shown (ending_word source name t) ≡ true
end_shown source name t = go (is_name_of source name t)
  where
    go : (b : Bool) → is_shown (if b then codes "end" else word_of source t) ≡ true
    go true = refl
    go false = word_shown source t

module _ (source : List ℕ) (limits : Limits) where
  -- the macros so far
  record IsGood (f : LefText) : Type 0 where
    distinct : is_distinct f.names ≡ true
    names : f.names ≡ map macro_name f.macros
    few : length f.macros ≤ limits.cells
    parts : list_all (is_part limits) f.macros ≡ true

  -- a token whose name a macro more may have
  record IsNew (f : LefText) (name : Token) : Type 0 where
    within : is_name_within limits (text source name) ≡ true
    fresh : is_known (text source name) f.names ≡ false
    room : length f.macros < limits.cells

  with_part : (f : LefText) (name : Token) (part : MacroPart) → IsGood f → IsNew f name → macro_name part ≡ text source name
      → is_part limits part ≡ true
      → IsGood (with_macro (text source name) part f)
  with_part f name part g new same well =
      let last : list_all (is_part limits) (part ∷ []) ≡ true = rw well refl in
      let more : length (f.macros ++ part ∷ []) ≡ length f.macros + 1 = length-append f.macros (part ∷ []) in
      record {
        distinct = is_distinct-push f.names (text source name) g.distinct new.fresh;
        names = ap (λ (z : List (List ℕ)). z ++ text source name ∷ []) g.names
            ∙ ap (λ (z : List ℕ). map macro_name f.macros ++ z ∷ []) (sym same) ∙ sym (map-append macro_name f.macros (part ∷ []));
        few = omega (arith, new.room, more);
        parts = both_all (is_part limits) f.macros (part ∷ []) g.parts last;
      }

  -- ---- what has begun outside macros

  abbrev Ready : LefText → Opened → Type 0
  Ready f openings.Nothing = Unit {0}
  Ready f (openings.Section closing) = Unit {0}
  Ready f (openings.Macro name) = IsNew f name
  Ready f openings.End = Unit {0}

  statement_keeps : (f : LefText) → Keeps (Ready f) (statement source)
  unfolding Keeps statement
  statement_keeps f = (λ x s m q p e. passes (Ready f) openings.Nothing m tt e, λ x. rest_from_keeps source (Ready f) x)

  extension_keeps : (f : LefText) → Keeps (Ready f) (extension source)
  unfolding Keeps extension
  extension_keeps f = (λ x s m q p e. passes (Ready f) openings.Nothing m tt e, λ x. rest_to_keeps source (Ready f) untils.EndExt)

  block_keeps : (f : LefText) → Keeps (Ready f) (block source)
  unfolding Keeps block
  block_keeps f = (λ x s m q p e. passes (Ready f) (openings.Section (closings.Keyword x)) m tt e, λ x. tt)

  ending_rest_keeps : (f : LefText) → Keeps (Ready f) (ending_rest source)
  unfolding Keeps ending_rest
  ending_rest_keeps f = (
    (λ x s m q p e. passes (Ready f) openings.End m tt e, λ x. tt),
    (λ x s m q p e. passes (Ready f) s m p e, λ x. rest_from_keeps source (Ready f) x),
  )

  ending_keeps : (f : LefText) → Keeps (Ready f) (ending source)
  unfolding Keeps ending
  ending_keeps f = (λ x s m q p e. passes (Ready f) openings.Nothing m tt e, λ x. ending_rest_keeps f)

  section_opened : (f : LefText) (x : Token) (s m : Opened) → open_section source limits x s ≡ Ok m → Ready f m
  unfolding open_section
  section_opened f x s m e = go (is_too_long limits (text source x)) e
    where
      go : (long : Bool) → (if long then Err refusals.LongName else Ok (openings.Section (closings.Name x))) ≡ Ok m → Ready f m
      go true k = cc k
      go false k = passes (Ready f) (openings.Section (closings.Name x)) m tt k

  section_rest_keeps : (f : LefText) → Keeps (Ready f) (section_rest source limits)
  unfolding Keeps section_rest
  section_rest_keeps f = (
    (λ x s m q p e. section_opened f x s m e, λ x. tt),
    (λ x s m q p e. passes (Ready f) s m p e, λ x. rest_from_keeps source (Ready f) x),
  )

  section_keeps : (f : LefText) → Keeps (Ready f) (section source limits)
  unfolding Keeps section
  section_keeps f = (λ x s m q p e. passes (Ready f) openings.Nothing m tt e, λ x. section_rest_keeps f)

  counted : (f : LefText) (x : Token) (s m : Opened) → count_macro limits f x s ≡ Ok m → length f.macros < limits.cells
  unfolding count_macro
  counted f x s m e = go (nat_le limits.cells (length f.macros)) refl e
    where
      go : (full : Bool) → nat_le limits.cells (length f.macros) ≡ full → (if full then Err refusals.TooManyMacros else Ok s) ≡ Ok m
          → length f.macros < limits.cells
      go true h k = cc k
      go false h k = grind (arith, nat_tests)

  macro_opened : (f : LefText) (x : Token) (s m : Opened) → length f.macros < limits.cells → can_name source limits x ≡ true
      → open_macro source limits f x s ≡ Ok m → Ready f m
  unfolding open_macro
  macro_opened f x s m room c e = go (is_too_long limits (text source x)) (is_known (text source x) f.names) refl refl e
    where
      go : (long known : Bool) → is_too_long limits (text source x) ≡ long → is_known (text source x) f.names ≡ known
          → (if long then Err refusals.LongName else if known then Err refusals.DoubleName else Ok (openings.Macro x)) ≡ Ok m → Ready f m
      go true known h i k = cc k
      go false true h i k = cc k
      go false false h i k = passes (Ready f) (openings.Macro x) m (record { within = named source limits x c h; fresh = i; room = room }) k

  title_taken : (f : LefText) (s t : Opened) (ts rest : List Token) → Takes (title source limits f) s ts t rest → Ready f t
  unfolding Takes title name_rule
  title_taken f s t ts rest k =
      let room : length f.macros < limits.cells = counted f k.0 s k.2 k.5 in
      subst (Ready f) k.6.6.1 (macro_opened f k.6.0 k.2 k.6.2 room k.6.4 k.6.5)

  begun_taken : (f : LefText) (t : Opened) (ts rest : List Token) → Takes (begun source limits f) openings.End ts t rest → Ready f t
  unfolding Takes begun
  begun_taken f t ts rest (inl k) = rule_kept (Ready f) (statement source) (statement_keeps f) openings.End t ts rest tt k
  begun_taken f t ts rest (inr (inl k)) = rule_kept (Ready f) (extension source) (extension_keeps f) openings.End t ts rest tt k
  begun_taken f t ts rest (inr (inr (inl k))) = rule_kept (Ready f) (block source) (block_keeps f) openings.End t ts rest tt k
  begun_taken f t ts rest (inr (inr (inr (inl k)))) = rule_kept (Ready f) (ending source) (ending_keeps f) openings.End t ts rest tt k
  begun_taken f t ts rest (inr (inr (inr (inr (inl k))))) = rule_kept (Ready f) (section source limits)
      (section_keeps f) openings.End t ts rest tt k
  begun_taken f t ts rest (inr (inr (inr (inr (inr k))))) = title_taken f openings.End t ts rest k

  outside_taken : (f : LefText) (t : Opened) (ts rest : List Token) → Takes (outside source limits f) openings.End ts t rest → Ready f t
  unfolding Takes outside
  outside_taken f t ts rest (inl k) = begun_taken f t ts rest k
  outside_taken f t ts rest (inr k) = subst (Ready f) k.5 tt

  -- ---- what comes of a macro

  abbrev IsGoodNext : Next → Type 0
  IsGoodNext (Goes f ts) = IsGood f
  IsGoodNext (Stops e) = Unit {0}

  gone_behind : (f : LefText) (o : Result (List Token) (List Token)) → IsGood f → IsGoodNext (goes_behind f o)
  gone_behind f (Ok us) g = g
  gone_behind f (Err us) g = tt

  refused_kept : (f : LefText) (name : Token) (word : List ℕ) (line : ℕ) → IsGood f → IsNew f name → is_shown word ≡ true
      → IsGood (refused source name word line f)
  refused_kept f name word line g new h = with_part f name (parts.Refused (text source name) word line) g new refl (rw (new.within, h) refl)

  refused_at_kept : (f : LefText) (name : Token) (ts : List Token) → IsGood f → IsNew f name → IsGoodNext (refused_at source name f ts)
  refused_at_kept f name [] g new = tt
  refused_at_kept f name (t ∷ ts) g new = go (is_passed t)
    where
      go : (b : Bool) → IsGoodNext (if b then goes_behind (refused source name (word_of source t) t.span.line f)
          (behind source (closings.Name name) false (t ∷ ts)) else Stops (at_token t))
      go true = gone_behind (refused source name (word_of source t) t.span.line f) (behind source (closings.Name name) false (t ∷ ts))
          (refused_kept f name (word_of source t) t.span.line g new (word_shown source t))
      go false = tt

  refused_at_end_kept : (f : LefText) (name : Token) (ts : List Token) → IsGood f → IsNew f name
      → IsGoodNext (refused_at_end source name f ts)
  refused_at_end_kept f name [] g new = tt
  refused_at_end_kept f name (t ∷ ts) g new =
      gone_behind (refused source name (ending_word source name t) t.span.line f) (behind source (closings.Name name) true (t ∷ ts))
      (refused_kept f name (ending_word source name t) t.span.line g new (end_shown source name t))

  macro_next : (f : LefText) (name : Token) (ts : List Token) (o : First Token MacroText Refusal) → IsGood f → IsNew f name
      → IsFirst (macro_body source limits name) no_macro ts o → IsGoodNext (after_macro source limits name f o)
  macro_next f name ts (Ok x) g new is = with_part f name (parts.Whole (macro_of source (text source name) x.0)) g new refl
      (macro_kept source limits name x.0 ts x.1 new.within is)
  macro_next f name ts (Err (syntax us)) g new is = refused_at_kept f name us g new
  macro_next f name ts (Err (refusal refusals.OtherEnd us)) g new is = refused_at_end_kept f name us g new
  macro_next f name ts (Err (refusal refusals.TooManyMacros us)) g new is = tt
  macro_next f name ts (Err (refusal refusals.LongName us)) g new is = tt
  macro_next f name ts (Err (refusal refusals.DoubleName us)) g new is = tt

  -- ---- a whole file

  abbrev IsGoodAnswer : FileAnswer → Type 0
  IsGoodAnswer (Ok f) = IsGood f
  IsGoodAnswer (Err e) = Unit {0}

  abbrev Keeping : ℕ → Type 0
  Keeping k = (f : LefText) (ts : List Token) (r : FileAnswer) → IsGood f → IsFile source limits k f ts r → IsGoodAnswer r

  next_kept : (k : ℕ) → Keeping k → (x : Next) (r : FileAnswer) → IsGoodNext x → Then source limits (IsFile source limits k) x r
      → IsGoodAnswer r
  next_kept k h (Goes f ts) r g is = h f ts r g is
  next_kept k h (Stops e) r g is = subst IsGoodAnswer (sym is) tt

  opens_kept : (k : ℕ) → Keeping k → (o : Opened) (f : LefText) (ts : List Token) (r : FileAnswer) → IsGood f → Ready f o
      → Opens source limits (IsFile source limits k) o f ts r → IsGoodAnswer r
  opens_kept k h openings.Nothing f ts r g new is = h f ts r g is
  opens_kept k h (openings.Section closing) f ts r g new is = next_kept k h (goes_behind f (behind source closing false ts)) r
      (gone_behind f (behind source closing false ts) g) is
  opens_kept k h (openings.Macro name) f ts r g new is = next_kept k h (after_macro source limits name f is.0) r
      (macro_next f name ts is.0 g new is.1) is.2
  opens_kept k h openings.End f ts r g new is = subst IsGoodAnswer (sym is) g

  turn_kept : (k : ℕ) → Keeping k → (f : LefText) (ts : List Token) (o : First Token Opened Refusal) (r : FileAnswer) → IsGood f
      → IsFirst (outside source limits f) openings.End ts o
      → AfterOutside source limits (IsFile source limits k) f o r → IsGoodAnswer r
  turn_kept k h f ts (Ok x) r g first is = opens_kept k h x.0 f x.1 r g (outside_taken f x.0 ts x.1 first) is
  turn_kept k h f ts (Err stop) r g first is = subst IsGoodAnswer (sym is) tt

  file_kept : (k : ℕ) → Keeping k
  file_kept zero f ts r g is = absurd is
  file_kept (suc k) f ts r g is = turn_kept k (file_kept k) f ts is.0 r g is.1 is.2

  text_kept : (r : FileAnswer) → IsLefText source limits r → IsGoodAnswer r
  text_kept r is = file_kept is.0 no_lef (tokens_of Lef source) r
      (record { distinct = refl; names = refl; few = omega arith; parts = refl }) is.1

  of_good : (f : LefText) → IsGood f → IsLef limits (lef_of f)
  of_good f g = record { few = g.few; parts = g.parts; distinct = subst (λ (z : List (List ℕ)). is_distinct z ≡ true) g.names g.distinct }

  answer_kept : (r : FileAnswer) (l : LefData) → IsLefText source limits r → told r ≡ Ok l → IsLef limits l
  answer_kept (Ok f) l is e = let same : lef_of f ≡ l = cc e in subst (IsLef limits) same (of_good f (text_kept (Ok f) is))
  answer_kept (Err x) l is e = cc e

-- A file that is answered has names, pins with directions, words that can be shown, and no macro and no pin twice.
pub lawful : (source : List ℕ) (limits : Limits) (l : LefData) → IsAnswered source limits (Ok l) → IsLef limits l
lawful source limits l h = answer_kept source limits h.answer l h.is h.agrees
