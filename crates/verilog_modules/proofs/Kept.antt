-- What is kept of a module: names within the limit, ports with directions, supplies and instances of such names.
use Rattle.std.proofs.Common.{◌≡◌, ℕ, zero, suc, ◌≤◌, Bool, true, false, ◌&&◌, ◌||◌, List, [], ◌∷◌, ◌++◌, length, Option, Some, None, refl, sym, ap, subst, arith, codes, ◌∙◌}
use Rattle.std.specs.Prelude.{if◌then◌else◌, ◌==◌, nat_le, slice_get, slice_set}
use Rattle.std.specs.List.{list_all}
use Rattle.std.specs.Str.{bytes_eq}
use Rattle.std.proofs.lemmas.Bool.{le-leb}
use Rattle.std.proofs.lemmas.Slice.Eq.{bytes_eq-Decides}
use Rattle.text_scan.specs.declared.limits.Limits.{Limits}
use Rattle.text_scan.specs.declared.pins.Direction.{Direction}
use Rattle.text_scan.specs.declared.pins.Direction.TheVariants as directions
use Rattle.text_scan.specs.declared.token.Kind.{Kind}
use Rattle.text_scan.specs.declared.token.Kind.TheVariants as kinds
use Rattle.file_rules.specs.Names.{is_name, is_name_within, is_mark, is_name_byte, is_no_name_byte}
use Rattle.file_rules.specs.Kept.{both_true}
use Rattle.name_index.specs.Places.{place_of}
use Rattle.verilog_directives.specs.declared.left.Left.{Left}
use Rattle.verilog_directives.specs.declared.left.Role.{Role}
use Rattle.verilog_directives.specs.declared.left.Role.TheVariants as roles
use Rattle.verilog_looks.specs.declared.look.Look.{Look}
use Rattle.verilog_looks.specs.declared.look.Look.TheVariants as variants
use Rattle.verilog_looks.specs.Looks as looks
use Rattle.verilog_looks.specs.Looks.{look_of, role_look, word_look, identifier_look, longer_look, three_look, four_look, five_look, six_look, seven_look, long_look, number_look, sign_look, other_look, text}
use Rattle.verilog_source.specs.Source.{is_port_direction, is_port, is_constant}
use Rattle.verilog_source.specs.declared.module.Port.{Port}
use Rattle.verilog_modules.specs.declared.module_text.Declared.{Declared}
use Rattle.verilog_modules.specs.declared.module_text.Declared.TheVariants as declares
use Rattle.verilog_modules.specs.Ports.{names_of, is_absent, direct, direct_port, direct_at, directed, undirected}
use Rattle.verilog_modules.specs.ModuleActions.{direction_of, declared_of, constant_of}

-- ---- lists

pub all_more : {A : Type 0} (p : A → Bool) (xs : List A) (x : A) → list_all p xs ≡ true → p x ≡ true → list_all p (xs ++ x ∷ []) ≡ true
all_more p [] x h k = rw k refl
all_more p (y ∷ ys) x h k =
    let both = both_true (p y) (list_all p ys) h in
    let rest : list_all p (ys ++ x ∷ []) ≡ true = all_more p ys x both.1 k in
    rw (both.0, rest) refl

all_at : {A : Type 0} (p : A → Bool) (xs : List A) (at : ℕ) (x : A) → slice_get xs at ≡ Some x → list_all p xs ≡ true → p x ≡ true
all_at p [] at x e h = absurd (cc)
all_at p (y ∷ ys) zero x e h = let same : y ≡ x = cc in subst (λ z. p z ≡ true) same (both_true (p y) (list_all p ys) h).0
all_at p (y ∷ ys) (suc at) x e h = all_at p ys at x e (both_true (p y) (list_all p ys) h).1

all_set : {A : Type 0} (p : A → Bool) (xs : List A) (at : ℕ) (x : A) → list_all p xs ≡ true → p x ≡ true → list_all p (slice_set xs at x) ≡ true
all_set p [] at x h k = refl
all_set p (y ∷ ys) zero x h k = let rest = (both_true (p y) (list_all p ys) h).1 in rw (k, rest) refl
all_set p (y ∷ ys) (suc at) x h k =
    let both = both_true (p y) (list_all p ys) h in
    let rest : list_all p (slice_set ys at x) ≡ true = all_set p ys at x both.1 k in
    rw (both.0, rest) refl

-- ---- ports

abbrev pub is_portlike : Direction → Bool
is_portlike directions.Input = true
is_portlike directions.Output = true
is_portlike directions.Inout = true
is_portlike directions.Absent = true
is_portlike _ = false

abbrev pub has_port : Limits → Port → Bool
has_port limits p = is_name_within limits p.name && is_portlike p.direction

pub names_more : (ps : List Port) (p : Port) → names_of (ps ++ p ∷ []) ≡ names_of ps ++ p.name ∷ []
names_more [] p = refl
names_more (q ∷ ps) p = ap (λ z. q.name ∷ z) (names_more ps p)

names_same : (ps : List Port) (at : ℕ) (p : Port) (d : Direction) → slice_get ps at ≡ Some p → names_of (slice_set ps at (direct d p)) ≡ names_of ps
names_same [] at p d e = refl
names_same (q ∷ ps) zero p d e = let same : q ≡ p = cc in ap (λ z. z.name ∷ names_of ps) (sym same)
names_same (q ∷ ps) (suc at) p d e = ap (λ z. q.name ∷ z) (names_same ps at p d e)

-- the ports where one of them was given a direction
pub record Directed (limits : Limits) (ps qs : List Port) : Type 0 where
  pub all : list_all (has_port limits) qs ≡ true
  pub names : names_of qs ≡ names_of ps

directed_port : (limits : Limits) (ps qs : List Port) (at : ℕ) (d : Direction) (o : Option Port) → slice_get ps at ≡ o → is_portlike d ≡ true → list_all (has_port limits) ps ≡ true
    → direct_port ps at d o ≡ Some qs → Directed limits ps qs
directed_port limits ps qs at d None e k h f = absurd (cc)
directed_port limits ps qs at d (Some p) e k h f = go (is_absent p.direction) f
  where
    here : has_port limits (direct d p) ≡ true
    here = let name = (both_true (is_name_within limits p.name) (is_portlike p.direction) (all_at (has_port limits) ps at p e h)).0 in rw (name, k) refl

    go : (b : Bool) → (if b then Some (slice_set ps at (direct d p)) else None) ≡ Some qs → Directed limits ps qs
    go false f = absurd (cc)
    go true f =
        let same : slice_set ps at (direct d p) ≡ qs = cc in
        subst (Directed limits ps) same (record { all = all_set (has_port limits) ps at (direct d p) h here; names = names_same ps at p d e })

directed_at : (limits : Limits) (ps qs : List Port) (d : Direction) (at : Option ℕ) → is_portlike d ≡ true → list_all (has_port limits) ps ≡ true → direct_at ps d at ≡ Some qs → Directed limits ps qs
directed_at limits ps qs d None k h f = absurd (cc)
directed_at limits ps qs d (Some at) k h f = directed_port limits ps qs at d (slice_get ps at) refl k h f

pub directed_all : (limits : Limits) (ps qs : List Port) (name : List ℕ) (d : Direction) → is_portlike d ≡ true → list_all (has_port limits) ps ≡ true → directed ps name d ≡ Some qs → Directed limits ps qs
unfolding directed
directed_all limits ps qs name d k h f = directed_at limits ps qs d (place_of (names_of ps) name) k h f

-- at the end each port has a direction
whole_direction : (d : Direction) → is_portlike d ≡ true → is_absent d ≡ false → is_port_direction d ≡ true
whole_direction directions.Input h k = refl
whole_direction directions.Output h k = refl
whole_direction directions.Inout h k = refl
whole_direction directions.Feedthru h k = absurd (cc)
whole_direction directions.Internal h k = absurd (cc)
whole_direction directions.Absent h k = absurd (cc)

whole_more : (limits : Limits) (p : Port) (ps : List Port) (b : Bool) → is_absent p.direction ≡ b → has_port limits p ≡ true → (undirected ps ≡ None → list_all (is_port limits) ps ≡ true)
    → (if b then Some p.name else undirected ps) ≡ None → list_all (is_port limits) (p ∷ ps) ≡ true
whole_more limits p ps true e h more f = absurd (cc)
whole_more limits p ps false e h more f =
    let parts = both_true (is_name_within limits p.name) (is_portlike p.direction) h in
    let way : is_port_direction p.direction ≡ true = whole_direction p.direction parts.1 e in
    let rest : list_all (is_port limits) ps ≡ true = more f in
    rw (parts.0, way, rest) refl

pub whole_ports : (limits : Limits) (ps : List Port) → list_all (has_port limits) ps ≡ true → undirected ps ≡ None → list_all (is_port limits) ps ≡ true
whole_ports limits [] h k = refl
whole_ports limits (p ∷ ps) h k =
    let both = both_true (has_port limits p) (list_all (has_port limits) ps) h in
    whole_more limits p ps (is_absent p.direction) refl both.0 (whole_ports limits ps both.1) k

undirected_more : (limits : Limits) (p : Port) (ps : List Port) (name : List ℕ) (b : Bool) → has_port limits p ≡ true → (undirected ps ≡ Some name → is_name_within limits name ≡ true)
    → (if b then Some p.name else undirected ps) ≡ Some name → is_name_within limits name ≡ true
undirected_more limits p ps name true h more f =
    let same : p.name ≡ name = cc in
    subst (λ z. is_name_within limits z ≡ true) same (both_true (is_name_within limits p.name) (is_portlike p.direction) h).0
undirected_more limits p ps name false h more f = more f

pub undirected_name : (limits : Limits) (ps : List Port) (name : List ℕ) → list_all (has_port limits) ps ≡ true → undirected ps ≡ Some name → is_name_within limits name ≡ true
undirected_name limits [] name h k = absurd (cc)
undirected_name limits (p ∷ ps) name h k =
    let both = both_true (has_port limits p) (list_all (has_port limits) ps) h in
    undirected_more limits p ps name (is_absent p.direction) both.0 (undirected_name limits ps name both.1) k

-- ---- what looks say

pub look_direction : (l : Look) → is_portlike (direction_of l) ≡ true
look_direction variants.Input = refl
look_direction variants.Output = refl
look_direction variants.Inout = refl
look_direction _ = refl

abbrev pub is_declared : Declared → Bool
is_declared (declares.Port d) = is_portlike d
is_declared declares.Net = true
is_declared (declares.Supply v) = is_constant v

pub look_declared : (l : Look) → is_declared (declared_of l) ≡ true
look_declared variants.Input = refl
look_declared variants.Output = refl
look_declared variants.Inout = refl
look_declared variants.Supply0 = refl
look_declared variants.Supply1 = refl
look_declared _ = refl

pub look_constant : (l : Look) → is_constant (constant_of l) ≡ true
look_constant variants.Zero = refl
look_constant _ = refl

abbrev pub is_gatelike : Look → Bool
is_gatelike variants.Gate = true
is_gatelike variants.Buffer = true
is_gatelike _ = false

module _ (limits : Limits) (low : 4 ≤ limits.name) where
  abbrev Within : List ℕ → Type 0
  Within name = is_name_within limits name ≡ true

  -- a gate's word is a name
  abbrev Gates : List ℕ → Look → Type 0
  Gates w l = is_gatelike l ≡ true → Within w

  short : (v : List ℕ) → is_name v ≡ true → length v ≤ 4 → Within v
  short v h k = let few : nat_le (length v) limits.name ≡ true = le-leb (length v) limits.name (omega arith) in rw (h, few) refl

  letters : (w v : List ℕ) → is_name v ≡ true → length v ≤ 4 → bytes_eq w v ≡ true → Within w
  letters w v h k e = subst (λ z. is_name_within limits z ≡ true) (sym ((bytes_eq-Decides w v).0 e)) (short v h k)

  either : (w : List ℕ) (a b : Bool) → (a ≡ true → Within w) → (b ≡ true → Within w) → (a || b) ≡ true → Within w
  either w true b f g h = f refl
  either w false b f g h = g h

  at_if : (w : List ℕ) (c : Bool) (x y : Look) → (c ≡ true → Gates w x) → Gates w y → Gates w (if c then x else y)
  at_if w true x y f g = f refl
  at_if w false x y f g = g

  as_gate : (w : List ℕ) (c : Bool) (x y : Look) → (c ≡ true → Within w) → Gates w y → Gates w (if c then x else y)
  as_gate w c x y f g = at_if w c x y (λ e k. f e) g

  no_gate : (w : List ℕ) (c : Bool) (x y : Look) → is_gatelike x ≡ false → Gates w y → Gates w (if c then x else y)
  no_gate w c x y n g = at_if w c x y (λ e k. absurd (let f : true ≡ false = sym k ∙ n in cc)) g

  never : (w : List ℕ) (x : Look) → is_gatelike x ≡ false → Gates w x
  never w x n k = absurd (let f : true ≡ false = sym k ∙ n in cc)

  three_gates : (w : List ℕ) → Gates w (three_look w)
  unfolding three_look is_name is_mark is_name_byte is_no_name_byte
  three_gates w =
      as_gate w (bytes_eq w (codes "and") || bytes_eq w (codes "nor") || bytes_eq w (codes "xor")) variants.Gate _
      (either w (bytes_eq w (codes "and") || bytes_eq w (codes "nor")) _
      (either w (bytes_eq w (codes "and")) _ (letters w (codes "and") refl (omega arith)) (letters w (codes "nor") refl (omega arith)))
      (letters w (codes "xor") refl (omega arith)))
      (as_gate w (bytes_eq w (codes "not") || bytes_eq w (codes "buf")) variants.Buffer _
      (either w (bytes_eq w (codes "not")) _ (letters w (codes "not") refl (omega arith)) (letters w (codes "buf") refl (omega arith)))
      (no_gate w (bytes_eq w (codes "reg")) variants.Reg variants.Name refl (never w variants.Name refl)))

  four_gates : (w : List ℕ) → Gates w (four_look w)
  unfolding four_look is_name is_mark is_name_byte is_no_name_byte
  four_gates w =
      as_gate w (bytes_eq w (codes "nand") || bytes_eq w (codes "xnor")) variants.Gate _
      (either w (bytes_eq w (codes "nand")) _ (letters w (codes "nand") refl (omega arith)) (letters w (codes "xnor") refl (omega arith)))
      (no_gate w (bytes_eq w (codes "wire")) variants.Wire variants.Name refl (never w variants.Name refl))

  two_gates : (w : List ℕ) → Gates w (if bytes_eq w (codes "or") then variants.Gate else variants.Name)
  unfolding is_name is_mark is_name_byte is_no_name_byte
  two_gates w = as_gate w (bytes_eq w (codes "or")) variants.Gate variants.Name (letters w (codes "or") refl (omega arith)) (never w variants.Name refl)

  five_gates : (w : List ℕ) → Gates w (five_look w)
  unfolding five_look
  five_gates w =
      no_gate w (bytes_eq w (codes "input")) variants.Input _ refl
      (no_gate w (bytes_eq w (codes "inout")) variants.Inout _ refl
      (no_gate w (bytes_eq w (codes "table")) variants.Table variants.Name refl (never w variants.Name refl)))

  six_gates : (w : List ℕ) → Gates w (six_look w)
  unfolding six_look
  six_gates w =
      no_gate w (bytes_eq w (codes "output")) variants.Output _ refl
      (no_gate w (bytes_eq w (codes "module")) variants.Module variants.Name refl (never w variants.Name refl))

  seven_gates : (w : List ℕ) → Gates w (seven_look w)
  unfolding seven_look
  seven_gates w =
      no_gate w (bytes_eq w (codes "supply0")) variants.Supply0 _ refl
      (no_gate w (bytes_eq w (codes "supply1")) variants.Supply1 _ refl
      (no_gate w (bytes_eq w (codes "specify")) variants.Specify _ refl
      (no_gate w (bytes_eq w (codes "initial")) variants.Initial variants.Name refl (never w variants.Name refl))))

  long_gates : (w : List ℕ) → Gates w (long_look w)
  unfolding long_look
  long_gates w =
      no_gate w (bytes_eq w (codes "endtable")) variants.EndTable _ refl
      (no_gate w (bytes_eq w (codes "endmodule")) variants.EndModule _ refl
      (no_gate w (bytes_eq w (codes "primitive")) variants.Primitive _ refl
      (no_gate w (bytes_eq w (codes "endspecify")) variants.EndSpecify _ refl
      (no_gate w (bytes_eq w (codes "endprimitive")) variants.EndPrimitive variants.Name refl (never w variants.Name refl)))))

  longer_gates : (w : List ℕ) → Gates w (longer_look w)
  unfolding longer_look
  longer_gates w =
      at_if w (length w == 6) _ _ (λ e. six_gates w)
      (at_if w (length w == 7) _ _ (λ e. seven_gates w) (long_gates w))

  identifier_gates : (w : List ℕ) → Gates w (identifier_look w)
  unfolding identifier_look
  identifier_gates w =
      at_if w (length w == 2) _ _ (λ e. two_gates w)
      (at_if w (length w == 3) _ _ (λ e. three_gates w)
      (at_if w (length w == 4) _ _ (λ e. four_gates w)
      (at_if w (length w == 5) _ _ (λ e. five_gates w) (longer_gates w))))

  number_gates : (w : List ℕ) → Gates w (number_look w)
  unfolding number_look
  number_gates w =
      no_gate w (bytes_eq w (codes "1'b0") || bytes_eq w (codes "1'B0")) variants.Zero (if bytes_eq w (codes "1'b1") || bytes_eq w (codes "1'B1") then variants.One else variants.Number) refl
      (no_gate w (bytes_eq w (codes "1'b1") || bytes_eq w (codes "1'B1")) variants.One variants.Number refl (never w variants.Number refl))

  word_gates : (w : List ℕ) → Gates w (word_look w)
  unfolding word_look
  word_gates [] = never [] variants.Number refl
  word_gates (b ∷ bs) =
      no_gate (b ∷ bs) (b == 92) variants.Name _ refl
      (at_if (b ∷ bs) (looks.is_number_byte b) _ _ (λ e. number_gates (b ∷ bs)) (identifier_gates (b ∷ bs)))

  sign_gates : (w : List ℕ) → Gates w (looks.sign_of w)
  unfolding sign_look other_look
  sign_gates [] = never [] variants.Barred refl
  sign_gates (b ∷ bs) =
      no_gate (b ∷ bs) (b == 40) variants.Open _ refl (no_gate (b ∷ bs) (b == 41) variants.Close _ refl
      (no_gate (b ∷ bs) (b == 44) variants.Comma _ refl (no_gate (b ∷ bs) (b == 59) variants.Semicolon _ refl
      (no_gate (b ∷ bs) (b == 35) variants.Hash _ refl (no_gate (b ∷ bs) _ variants.Other variants.Barred refl (never (b ∷ bs) variants.Barred refl))))))

  role_gates : (r : Role) (k : Kind) (w : List ℕ) → Gates w (role_look r k w)
  role_gates roles.Plain kinds.Word w = word_gates w
  role_gates roles.Plain kinds.Str w = never w variants.Other refl
  role_gates roles.Plain kinds.Sign w = sign_gates w
  role_gates roles.Plain kinds.Unfinished w = never w variants.Barred refl
  role_gates roles.Plain kinds.LineEnd w = never w variants.Barred refl
  role_gates roles.Plain kinds.End w = never w variants.End refl
  role_gates roles.Macro kinds.Word w = never w variants.Macro refl
  role_gates roles.Macro kinds.Str w = never w variants.Macro refl
  role_gates roles.Macro kinds.Sign w = never w variants.Macro refl
  role_gates roles.Macro kinds.Unfinished w = never w variants.Macro refl
  role_gates roles.Macro kinds.LineEnd w = never w variants.Macro refl
  role_gates roles.Macro kinds.End w = never w variants.Barred refl
  role_gates roles.Misplaced k w = never w variants.Barred refl
  role_gates roles.TooDeep k w = never w variants.Barred refl
  role_gates roles.LongName k w = never w variants.Barred refl

  pub gate_within : (source : List ℕ) (t : Left) → is_gatelike (look_of source t) ≡ true → Within (text source t.token)
  unfolding look_of
  gate_within source t h = role_gates t.role t.token.kind (text source t.token) h
