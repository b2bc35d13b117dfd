use Rattle.std.proofs.Common.{rules, tests, ◌≡◌, ◌∙◌, sym, subst, ◌<◌, ◌^◌, length, Bool, true, false, ℕ, List}
use Rattle.std.proofs.lemmas.Iterator.{YieldsList-from_slice}
use Rattle.std.proofs.lemmas.Iterator.Search.{all_from_yields_List}
use Rattle.std.proofs.lemmas.Str.{IsUtf8-from_ascii}
use Rattle.std.proofs.lemmas.Str.Parse.{parse_digits}
use Rattle.std.specs.Char.{is_ascii_digit}
use Rattle.std.specs.List.{list_all}
use Rattle.std.specs.Result.{OkIff}
use Rattle.std.specs.Str.Parse.{ParsesUnsigned, digits_value}
use Rattle.verdict_text.proofs.Numbers.{own, ascii, told_none, told_some, told_wide}
use Rattle.verdict_text.proofs.told.told_number.Goals as goal

pub returns-then-not-all : goal.returns-then-not-all
returns-then-not-all c =
    let same : c.all.result ≡ list_all is_ascii_digit c.args.word.now =
    all_from_yields_List is_ascii_digit _ _ c.all.result c.all.ensures.ran (YieldsList-from_slice c.args.word.now cc) (λ x b q k. search (rules, tests)) in
    told_none c.args.word.now (sym same ∙ c.if-not-all.true)

pub returns-in_default : goal.returns-in_default
returns-in_default c =
    let same : c.all.result ≡ list_all is_ascii_digit c.args.word.now =
    all_from_yields_List is_ascii_digit _ _ c.all.result c.all.ensures.ran (YieldsList-from_slice c.args.word.now cc) (λ x b q k. search (rules, tests)) in
    absurd (c.in_default.ensures.cases.0 (IsUtf8-from_ascii c.args.word.now (ascii c.args.word.now (sym same ∙ c.if-not-all.false))))

pub returns-in-Ok-parse : goal.returns-in-Ok-parse
returns-in-Ok-parse c =
    let same : c.all.result ≡ list_all is_ascii_digit c.args.word.now =
    all_from_yields_List is_ascii_digit _ _ c.all.result c.all.ensures.ran (YieldsList-from_slice c.args.word.now cc) (λ x b q k. search (rules, tests)) in
    let h : list_all is_ascii_digit c.args.word.now ≡ true = sym same ∙ c.if-not-all.false in
    let k = parse_digits own 32 c.args.word.now _ (subst (λ bs. ParsesUnsigned 32 10 bs c.parse.result) c.in-Ok.ensures.cases.0 c.parse.ensures.value.0) h in
    let m = subst (λ r. OkIff r ((0 < length c.args.word.now) × (digits_value 10 c.args.word.now < 2 ^ 32)) (digits_value 10 c.args.word.now)) c.in-Ok-parse.is k in
    told_some c.args.word.now c.in-Ok-parse.number h m.0.0 m.0.1 m.1

pub returns-in-Err : goal.returns-in-Err
returns-in-Err c =
    let same : c.all.result ≡ list_all is_ascii_digit c.args.word.now =
    all_from_yields_List is_ascii_digit _ _ c.all.result c.all.ensures.ran (YieldsList-from_slice c.args.word.now cc) (λ x b q k. search (rules, tests)) in
    let h : list_all is_ascii_digit c.args.word.now ≡ true = sym same ∙ c.if-not-all.false in
    let k = parse_digits own 32 c.args.word.now _ (subst (λ bs. ParsesUnsigned 32 10 bs c.parse.result) c.in-Ok.ensures.cases.0 c.parse.ensures.value.0) h in
    told_wide c.args.word.now h
    (subst (λ r. OkIff r ((0 < length c.args.word.now) × (digits_value 10 c.args.word.now < 2 ^ 32)) (digits_value 10 c.args.word.now)) c.in-Err.is k)
