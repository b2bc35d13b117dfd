-- A text spells at most one tree, so what it spells has one value; a text that is refused spells none.
use Rattle.std.proofs.Common.{◌≡◌, ℕ, refl, sym, ◌∙◌, ap, subst, List, [], ◌∷◌, ◌++◌, length, Option, Some, None, append_assoc}
use Rattle.std.proofs.lemmas.List.{append-nil, map-append}
use Rattle.tern_core.specs.declared.tern.Tern.TheVariants as tern
use Rattle.liberty_function.specs.declared.words.Word.{Word}
use Rattle.liberty_function.specs.declared.words.Placed.{Placed}
use Rattle.liberty_function.specs.Function.{Function, constant, value_of, IsFunction, SpellsText, IsBadAt, CannotFollow, HasOneValue}
use Rattle.liberty_function.specs.Words.{words_of, bare}
use Rattle.liberty_function.proofs.Machine.{Before, Machine, sum_of, begin, run}
use Rattle.liberty_function.proofs.Completes.{goes, EndsSum}

-- the tree of an operand and what stands before it
abbrev operand_tree : Before → Option Function → Function
operand_tree b None = constant tern.Unknown
operand_tree b (Some f) = sum_of b f

-- the tree that a machine has read
abbrev read_tree : Option Machine → Function
read_tree None = constant tern.Unknown
read_tree (Some m) = operand_tree m.before m.operand

read_is : (ts : List Word) (f : Function) → EndsSum [] ts f → read_tree (run begin ts) ≡ f
read_is ts f r = ap read_tree r.comes ∙ r.value

pub one_tree : (ts : List Word) (f g : Function) → IsFunction ts f → IsFunction ts g → f ≡ g
one_tree ts f g h k = sym (read_is ts f (goes h [] refl)) ∙ read_is ts g (goes k [] refl)

pub one_value : (text : List ℕ) → HasOneValue text
one_value text f g h k names = ap (value_of names) (one_tree (bare (words_of text)) f g h k)

cannot_follow : (text : List ℕ) (before rest : List Placed) (end place : ℕ) (f : Function) → words_of text ≡ before ++ rest → CannotFollow (bare before) rest end place → SpellsText text f → ⊥
cannot_follow text before [] end place f w c h = c.1 f (subst (λ k. IsFunction (bare k) f) (w ∙ append-nil before) h)
cannot_follow text before (p ∷ rest) end place f w c h =
    let e : bare (words_of text) ≡ (bare before ++ p.word ∷ []) ++ bare rest = ap bare w ∙ map-append (λ (q : Placed). q.word) before (p ∷ rest) ∙ sym (append_assoc (bare before) (p.word ∷ []) (bare rest)) in
    c.1 (bare rest, f, subst (λ k. IsFunction k f) e h)

pub bad_spells_nothing : (text : List ℕ) (place : ℕ) (f : Function) → IsBadAt text place → SpellsText text f → ⊥
bad_spells_nothing text place f b h = cannot_follow text b.0 b.1 (length text) place f b.2 b.4 h
