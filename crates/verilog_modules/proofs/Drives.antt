-- The outputs of a module's instances are nets.
use Rattle.std.proofs.Common.{◌≡◌, ℕ, zero, suc, ◌-◌, Bool, true, false, ◌||◌, List, [], ◌∷◌, ◌++◌, length, length-append, take, refl, sym, ap, subst, arith, codes}
use Rattle.std.specs.Prelude.{if◌then◌else◌, ◌&&◌}
use Rattle.std.specs.List.{list_all}
use Rattle.std.specs.Str.{bytes_eq}
use Rattle.std.specs.Cmp.Lexicographic.{bytes_decides}
use Rattle.text_scan.specs.declared.token.Kind.{Kind}
use Rattle.text_scan.specs.declared.token.Kind.TheVariants as kinds
use Rattle.text_scan.specs.Bytes.{is_digit}
use Rattle.verilog_directives.specs.declared.left.Left.{Left}
use Rattle.verilog_directives.specs.declared.left.Role.{Role}
use Rattle.verilog_directives.specs.declared.left.Role.TheVariants as roles
use Rattle.verilog_looks.specs.declared.look.Look.{Look}
use Rattle.verilog_looks.specs.declared.look.Look.TheVariants as variants
use Rattle.verilog_looks.specs.Looks as looks
use Rattle.verilog_looks.specs.Looks.{look_of, role_look, word_look, identifier_look, three_look, sign_look, other_look, text}
use Rattle.verilog_source.specs.declared.module.Element.{Element}
use Rattle.verilog_source.specs.declared.module.Terminal.{Terminal}
use Rattle.verilog_source.specs.declared.module.Terminal.TheVariants.{Net}
use Rattle.verilog_modules.specs.Driving.{is_net, is_buffer_word, drives_nets, DriveNets}

abbrev pub AllNets : List Terminal → Type 0
AllNets ts = list_all is_net ts ≡ true

abbrev pub NetFirst : List Terminal → Type 0
NetFirst ts = (n : List ℕ) × (rest : List Terminal) × (ts ≡ Net n ∷ rest)

-- ---- lists of terminals

and_left : (a b : Bool) → (a && b) ≡ true → a ≡ true
and_left true b h = refl
and_left false b h = absurd (cc)

and_right : (a b : Bool) → (a && b) ≡ true → b ≡ true
and_right true b h = h
and_right false b h = absurd (cc)

and_both : (a b : Bool) → a ≡ true → b ≡ true → (a && b) ≡ true
and_both true b g h = h
and_both false b g h = absurd (cc)

pub all_append : (xs ys : List Terminal) → AllNets xs → AllNets ys → AllNets (xs ++ ys)
all_append [] ys g h = h
all_append (x ∷ xs) ys g h = and_both (is_net x) (list_all is_net (xs ++ ys)) (and_left (is_net x) (list_all is_net xs) g) (all_append xs ys (and_right (is_net x) (list_all is_net xs) g) h)

pub all_take : (n : ℕ) (xs : List Terminal) → AllNets xs → AllNets (take n xs)
all_take zero xs h = refl
all_take (suc n) [] h = refl
all_take (suc n) (x ∷ xs) h = and_both (is_net x) (list_all is_net (take n xs)) (and_left (is_net x) (list_all is_net xs) h) (all_take n xs (and_right (is_net x) (list_all is_net xs) h))

take_front : (xs ys : List Terminal) → take (length xs) (xs ++ ys) ≡ xs
take_front [] ys = refl
take_front (x ∷ xs) ys = ap (λ zs. x ∷ zs) (take_front xs ys)

pub but_last : (xs : List Terminal) (x : Terminal) → AllNets xs → AllNets (take (length (xs ++ x ∷ []) - 1) (xs ++ x ∷ []))
but_last xs x h =
    let n = length-append xs (x ∷ []) in
    let e : length (xs ++ x ∷ []) - 1 ≡ length xs = omega (arith, n) in
    rw (e, take_front xs (x ∷ [])) h

pub first_more : (xs ys : List Terminal) → NetFirst xs → NetFirst (xs ++ ys)
first_more xs ys h = (h.0, h.1 ++ ys, ap (λ zs. zs ++ ys) h.2)

first_net : (ts : List Terminal) → NetFirst ts → AllNets (take 1 ts)
first_net ts h = subst (λ zs. AllNets (take 1 zs)) (sym h.2) refl

drives : (o b : Bool) (ts : List Terminal) → (o ≡ false → b ≡ false) → NetFirst ts → (o ≡ true → AllNets (take (length ts - 1) ts)) → AllNets (take (if b then length ts - 1 else 1) ts)
drives true true ts w f h = h refl
drives false true ts w f h = absurd (let e : true ≡ false = w refl in cc)
drives true false ts w f h = first_net ts f
drives false false ts w f h = first_net ts f

pub drives_one : (o : Bool) (e : Element) → (o ≡ false → is_buffer_word e.is_gate e.kind ≡ false) → NetFirst e.terminals → (o ≡ true → AllNets (take (length e.terminals - 1) e.terminals)) → drives_nets e ≡ true
drives_one o e w f h = drives o (is_buffer_word e.is_gate e.kind) e.terminals w f h

pub drive_more : (es : List Element) (e : Element) → DriveNets es → drives_nets e ≡ true → DriveNets (es ++ e ∷ [])
drive_more [] e h g = (g, tt)
drive_more (x ∷ es) e h g = (h.0, drive_more es e h.1 g)

-- ---- the words of gates

no_word : (v w : List ℕ) → w ≡ v → looks.is_gate (word_look v) ≡ false → looks.is_gate (word_look w) ≡ true → ⊥
no_word v w e n h = let f : looks.is_gate (word_look v) ≡ true = subst (λ z. looks.is_gate (word_look z) ≡ true) e h in cc

no_sign : (v w : List ℕ) → w ≡ v → looks.is_gate (looks.sign_of v) ≡ false → looks.is_gate (looks.sign_of w) ≡ true → ⊥
no_sign v w e n h = let f : looks.is_gate (looks.sign_of v) ≡ true = subst (λ z. looks.is_gate (looks.sign_of z) ≡ true) e h in cc

no_gate : (v w : List ℕ) (r : Role) (k : Kind) → w ≡ v → looks.is_gate (word_look v) ≡ false → looks.is_gate (looks.sign_of v) ≡ false → looks.is_gate (role_look r k w) ≡ true → ⊥
no_gate v w roles.Plain kinds.Word e n m h = no_word v w e n h
no_gate v w roles.Plain kinds.Str e n m h = absurd (cc)
no_gate v w roles.Plain kinds.Sign e n m h = no_sign v w e m h
no_gate v w roles.Plain kinds.Unfinished e n m h = absurd (cc)
no_gate v w roles.Plain kinds.LineEnd e n m h = absurd (cc)
no_gate v w roles.Plain kinds.End e n m h = absurd (cc)
no_gate v w roles.Macro kinds.Word e n m h = absurd (cc)
no_gate v w roles.Macro kinds.Str e n m h = absurd (cc)
no_gate v w roles.Macro kinds.Sign e n m h = absurd (cc)
no_gate v w roles.Macro kinds.Unfinished e n m h = absurd (cc)
no_gate v w roles.Macro kinds.LineEnd e n m h = absurd (cc)
no_gate v w roles.Macro kinds.End e n m h = absurd (cc)
no_gate v w roles.Misplaced k e n m h = absurd (cc)
no_gate v w roles.TooDeep k e n m h = absurd (cc)
no_gate v w roles.LongName k e n m h = absurd (cc)

buf_no : looks.is_gate (word_look (codes "buf")) ≡ false
unfolding word_look identifier_look three_look is_digit
buf_no = refl

not_no : looks.is_gate (word_look (codes "not")) ≡ false
unfolding word_look identifier_look three_look is_digit
not_no = refl

buf_sign : looks.is_gate (looks.sign_of (codes "buf")) ≡ false
unfolding sign_look other_look
buf_sign = refl

not_sign : looks.is_gate (looks.sign_of (codes "not")) ≡ false
unfolding sign_look other_look
not_sign = refl

other_letters : (b : Bool) (v w : List ℕ) → bytes_eq w v ≡ b → (w ≡ v → ⊥) → b ≡ false
other_letters true v w e n = absurd (n ((bytes_decides w v).0 e))
other_letters false v w e n = refl

neither : (a b : Bool) → a ≡ false → b ≡ false → (a || b) ≡ false
neither a b g h = rw (g, h) refl

-- a gate's word that isn't a buffer's
pub gate_letters : (source : List ℕ) (t : Left) → looks.is_gate (look_of source t) ≡ true → (bytes_eq (text source t.token) (codes "buf") || bytes_eq (text source t.token) (codes "not")) ≡ false
unfolding look_of
gate_letters source t h =
    let w = text source t.token in
    neither (bytes_eq w (codes "buf")) (bytes_eq w (codes "not"))
    (other_letters (bytes_eq w (codes "buf")) (codes "buf") w refl (λ e. no_gate (codes "buf") w t.role t.token.kind e buf_no buf_sign h))
    (other_letters (bytes_eq w (codes "not")) (codes "not") w refl (λ e. no_gate (codes "not") w t.role t.token.kind e not_no not_sign h))

pub comma_closes : (l : Look) → looks.is_comma l ≡ true → looks.is_close l ≡ true → ⊥
comma_closes variants.Comma g h = cc
comma_closes _ g h = cc
