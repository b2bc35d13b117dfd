-- Functions of a Liberty library (Liberty User Guide, "function Simple Attribute", its table of operators):
-- which tokens spell which tree, and the tree's value.
use Rattle.std.specs.Prelude.{◌≡◌, ℕ, suc, List, [], ◌∷◌, ◌++◌, length}
use Rattle.tern_core.specs.declared.tern.Tern.{Tern}
use Rattle.tern_core.specs.declared.tern.Tern.TheVariants as tern
use Rattle.tern_core.specs.Values.{not_of, and_of, or_of, xor_of}
use Rattle.liberty_function.specs.declared.words.Word.{Word}
use Rattle.liberty_function.specs.declared.words.Word.TheVariants.{Quote, Bang, Caret, And, Or, Open, Close, Zero, One, Name}
use Rattle.liberty_function.specs.declared.words.Placed.{Placed}
use Rattle.liberty_function.specs.Words.{words_of, bare}

-- the tree of a function
pub data Function : Type 0 where
  constant : Tern → Function
  name : List ℕ → Function
  inverse : Function → Function
  exclusive : Function → Function → Function
  both : Function → Function → Function
  either : Function → Function → Function

-- its value, where the names have these values
abbrev pub value_of : (List ℕ → Tern) → Function → Tern
value_of names (constant a) = a
value_of names (name n) = names n
value_of names (inverse f) = not_of (value_of names f)
value_of names (exclusive f g) = xor_of (value_of names f) (value_of names g)
value_of names (both f g) = and_of (value_of names f) (value_of names g)
value_of names (either f g) = or_of (value_of names f) (value_of names g)

-- how tightly a part of a function binds: an atom, a factor, an exclusive sum, a product, a sum
pub data Level : Type 0 where
  atom : Level
  factor : Level
  exclusive_sum : Level
  product : Level
  sum : Level

-- The tokens spell the tree at this level, where so many more parentheses may be open.
pub data Spells : ℕ → Level → List Word → Function → Type 0 where
  spells_zero : {room : ℕ} → Spells room atom (Zero ∷ []) (constant tern.Zero)
  spells_one : {room : ℕ} → Spells room atom (One ∷ []) (constant tern.One)
  spells_name : {room : ℕ} {n : List ℕ} → Spells room atom (Name n ∷ []) (name n)
  in_parentheses : {room : ℕ} {ts : List Word} {f : Function} → Spells room sum ts f → Spells (suc room) atom (Open ∷ (ts ++ Close ∷ [])) f
  inverted_after : {room : ℕ} {ts : List Word} {f : Function} → Spells room atom ts f → Spells room atom (ts ++ Quote ∷ []) (inverse f)
  one_atom : {room : ℕ} {ts : List Word} {f : Function} → Spells room atom ts f → Spells room factor ts f
  inverted_before : {room : ℕ} {ts : List Word} {f : Function} → Spells room factor ts f → Spells room factor (Bang ∷ ts) (inverse f)
  one_factor : {room : ℕ} {ts : List Word} {f : Function} → Spells room factor ts f → Spells room exclusive_sum ts f
  by_caret : {room : ℕ} {ts us : List Word} {f g : Function} → Spells room exclusive_sum ts f → Spells room factor us g → Spells room exclusive_sum (ts ++ Caret ∷ us) (exclusive f g)
  one_exclusive_sum : {room : ℕ} {ts : List Word} {f : Function} → Spells room exclusive_sum ts f → Spells room product ts f
  by_and : {room : ℕ} {ts us : List Word} {f g : Function} → Spells room product ts f → Spells room exclusive_sum us g → Spells room product (ts ++ And ∷ us) (both f g)
  side_by_side : {room : ℕ} {ts us : List Word} {f g : Function} → Spells room product ts f → Spells room exclusive_sum us g → Spells room product (ts ++ us) (both f g)
  one_product : {room : ℕ} {ts : List Word} {f : Function} → Spells room product ts f → Spells room sum ts f
  by_or : {room : ℕ} {ts us : List Word} {f g : Function} → Spells room sum ts f → Spells room product us g → Spells room sum (ts ++ Or ∷ us) (either f g)

-- a whole function: a sum with at most 64 parentheses open at once
abbrev pub IsFunction : List Word → Function → Type 0
IsFunction ts f = Spells 64 sum ts f

-- the text of a function spells the tree
abbrev pub SpellsText : List ℕ → Function → Type 0
SpellsText text f = IsFunction (bare (words_of text)) f

-- all functions that the text spells have one value, whatever the names' values are
abbrev pub HasOneValue : List ℕ → Type 0
HasOneValue text = (f g : Function) → SpellsText text f → SpellsText text g → (names : List ℕ → Tern) → value_of names f ≡ value_of names g

-- the tokens can be gone on with to a whole function
abbrev pub IsFront : List Word → Type 0
IsFront ts = (us : List Word) × (f : Function) × IsFunction (ts ++ us) f

-- the first of these tokens cannot follow; where there is none, the text ends too early
abbrev pub CannotFollow : List Word → List Placed → ℕ → ℕ → Type 0
CannotFollow before [] end place = (place ≡ end) × ((f : Function) → IsFunction before f → ⊥)
CannotFollow before (p ∷ rest) end place = (place ≡ p.place) × (IsFront (before ++ p.word ∷ []) → ⊥)

-- the token at this place of the text is the first that cannot follow
abbrev pub IsBadAt : List ℕ → ℕ → Type 0
IsBadAt text place = (before rest : List Placed) × (words_of text ≡ before ++ rest) × IsFront (bare before) × CannotFollow (bare before) rest (length text) place
