-- Indexes of pins, pin by pin.
use Rattle.std.proofs.Common.{◌≡◌, ℕ, Bool, true, false, cond, List, [], ◌∷◌, ◌++◌, Option, Some, None, refl, sym, ◌∙◌, ap, subst}
use Rattle.std.specs.Prelude.{find, is_none}
use Rattle.std.specs.Option.{option_map, option_or}
use Rattle.std.specs.Str.{bytes_eq}
use Rattle.std.specs.Cmp.Lexicographic.{bytes_decides, nat_list_eq_equiv}
use Rattle.std.proofs.lemmas.List.Folds.{find-append}
use Rattle.pin_tables.specs.declared.table.Pin.{Pin}
use Rattle.pin_tables.specs.declared.table.Role.{Role}
use Rattle.pin_tables.specs.declared.index.PinIndex.{PinIndex}
use Rattle.pin_tables.specs.Tables.{has_name, role_of, said_of}
use Rattle.pin_tables.specs.Index.{found, Adds, IsIndexOf}
use Rattle.pin_tables.specs.Lookups.{Joins}

pub eq_back : (a b : List ℕ) → bytes_eq a b ≡ bytes_eq b a
eq_back a b = nat_list_eq_equiv.symm a b

fresh_at : {X : Type 0} (b : Bool) (o : Option X) (w : X) → (b ≡ true → o ≡ None) → cond b (Some w) o ≡ option_or o (cond b (Some w) None)
fresh_at true o w h = ap (λ o. option_or o (Some w)) (sym (h refl))
fresh_at false None w h = refl
fresh_at false (Some k) w h = refl

kept_at : {X : Type 0} (b : Bool) (o : Option X) (w : X) → (b ≡ true → is_none o ≡ false) → o ≡ option_or o (cond b (Some w) None)
kept_at b (Some k) w h = refl
kept_at false None w h = refl
kept_at true None w h = absurd (let e : true ≡ false = h refl in cc)

-- the pin's name had no entry
pub adds_new : (old new : PinIndex) (p : Pin) (role : Role) → role ≡ role_of p → found old p.name ≡ None → ((q : List ℕ) → found new q ≡ cond (bytes_eq p.name q) (Some role) (found old q)) → Adds old new p true
adds_new old new p role is none at = (
  ap is_none (sym none),
  λ q. at q ∙ ap (λ r. cond (bytes_eq p.name q) (Some r) (found old q)) is ∙ ap (λ b. cond b (Some (role_of p)) (found old q)) (eq_back p.name q)
      ∙ fresh_at (bytes_eq q p.name) (found old q) (role_of p) (λ t. subst (λ n. found old n ≡ None) (sym ((bytes_decides q p.name).0 t)) none),
)

-- it had one
pub adds_known : (index : PinIndex) (p : Pin) → is_none (found index p.name) ≡ false → Adds index index p false
adds_known index p some = (
  sym some,
  λ q. kept_at (bytes_eq q p.name) (found index q) (role_of p) (λ t. subst (λ n. is_none (found index n) ≡ false) (sym ((bytes_decides q p.name).0 t)) some),
)

map_or : {X Y : Type 0} (f : X → Y) (a b : Option X) → option_map f (option_or a b) ≡ option_or (option_map f a) (option_map f b)
map_or f None b = refl
map_or f (Some x) b = refl

-- what two tables say, one after the other
pub said_append : (xs ys : List Pin) (q : List ℕ) → said_of (xs ++ ys) q ≡ option_or (said_of xs q) (said_of ys q)
said_append xs ys q = ap (option_map role_of) (find-append (has_name q) xs ys) ∙ map_or role_of (find (has_name q) xs) (find (has_name q) ys)

map_cond : (b : Bool) (p : Pin) → cond b (Some (role_of p)) None ≡ option_map role_of (cond b (Some p) None)
map_cond true p = refl
map_cond false p = refl

-- a pin that was added is one that joined
pub joins_one : (old new : PinIndex) (p : Pin) (fresh : Bool) → Adds old new p fresh → Joins (p ∷ []) old new
joins_one old new p fresh h q = h.1 q ∙ ap (option_or (found old q)) (map_cond (bytes_eq q p.name) p)

or_none : {X : Type 0} (o : Option X) → o ≡ option_or o None
or_none None = refl
or_none (Some x) = refl

or_assoc : {X : Type 0} (a b c : Option X) → option_or (option_or a b) c ≡ option_or a (option_or b c)
or_assoc None b c = refl
or_assoc (Some x) b c = refl

pub joins_none : (index : PinIndex) → Joins [] index index
joins_none index q = or_none (found index q)

-- pins that joined, one list after the other
pub joins_through : (xs ys : List Pin) (old mid new : PinIndex) → Joins xs old mid → Joins ys mid new → Joins (xs ++ ys) old new
joins_through xs ys old mid new h g q =
    g q ∙ ap (λ o. option_or o (said_of ys q)) (h q) ∙ or_assoc (found old q) (said_of xs q) (said_of ys q) ∙ ap (option_or (found old q)) (sym (said_append xs ys q))

-- pins that joined an index of others
pub indexes_more : (xs ys : List Pin) (old new : PinIndex) → IsIndexOf xs old → Joins ys old new → IsIndexOf (xs ++ ys) new
indexes_more xs ys old new h g q = g q ∙ ap (λ o. option_or o (said_of ys q)) (h q) ∙ sym (said_append xs ys q)

-- pins that joined an index of none
pub joins_empty : (xs : List Pin) (old new : PinIndex) → ((q : List ℕ) → found old q ≡ None) → Joins xs old new → IsIndexOf xs new
joins_empty xs old new h g q = g q ∙ ap (λ o. option_or o (said_of xs q)) (h q)
