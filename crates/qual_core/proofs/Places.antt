-- Where the names of files stand among the words.
use Rattle.std.proofs.Common.{◌≡◌, ◌<◌, ◌+◌, ℕ, zero, suc, get_or, String, string_bytes, List, [], ◌∷◌, length, Option, Some, None, Result, IfOk, Bool, true, false, ◌&&◌, refl, ap, arith, bytes_eq, codes}
use Rattle.std.specs.declared.alloc.Global.{Global}
use Rattle.qual_core.specs.Names.{is_among}
use Rattle.qual_core.specs.Command.{texts, options, option_word, file_option, all_files, are_options_of, has_needed, place_from, files_named, name_of, named_command, command_of, word_at, name_beside, names}
use Rattle.qual_core.specs.Top.{IsCompareAnswer}
use Rattle.qual_core.specs.declared.reply.Reply.{Reply}
use Rattle.qual_core.specs.declared.files.Failure.{Failure}
use Rattle.qual_core.specs.declared.command.Command.{Command}
use Rattle.qual_core.specs.declared.command.CommandName.{CommandName}
use Rattle.qual_core.specs.declared.command.CommandName.TheVariants.{Compare}
use Rattle.qual_core.specs.declared.command.FileOption.{FileOption}
use Rattle.qual_core.specs.declared.command.FileOption.TheVariants.{Liberty, Verilog}

-- the place of a value that is there
pub record PlacedAt (n : ℕ) (rest : List (List ℕ)) (wanted : List ℕ) : Type 0 where
  pub place : ℕ
  pub found : place_from n rest wanted ≡ Some place
  pub within : place < n + length rest

placed : (n : ℕ) (rest : List (List ℕ)) (wanted : List ℕ) → is_among (options rest) wanted ≡ true → PlacedAt n rest wanted
placed n [] wanted h = cc
placed n (o ∷ []) wanted h = cc
placed n (o ∷ v ∷ rest) wanted h =
    elim (bytes_eq o wanted) as (λ b. bytes_eq o wanted ≡ b → PlacedAt n (o ∷ v ∷ rest) wanted) [
      | true ↦ λ e. record { place = n + 1; found = rw e refl; within = omega arith }
      | false ↦ λ e.
          let k : is_among (options rest) wanted ≡ true = rw e at h in
          let p = placed (n + 2) rest wanted k in
          record { place = p.place; found = rw e p.found; within = omega (arith, p.within) }
    ] refl

-- the two files of a comparison
pub record Compared (words : List (List ℕ)) (c : Command) : Type 0 where
  pub liberty : ℕ
  pub verilog : ℕ
  pub name : c.name ≡ Compare
  pub files : c.files ≡ (codes "liberty", liberty) ∷ (codes "verilog", verilog) ∷ []
  pub liberty_name : name_beside words Liberty ≡ word_at words liberty
  pub verilog_name : name_beside words Verilog ≡ word_at words verilog
  pub liberty_within : liberty < length words
  pub verilog_within : verilog < length words

and_left : (a b : Bool) → a && b ≡ true → a ≡ true
and_left true b h = refl
and_left false b h = h

and_right : (a b : Bool) → a && b ≡ true → b ≡ true
and_right true b h = h
and_right false b h = cc

needed : (word : List ℕ) (rest : List (List ℕ)) (c : Command) → has_needed Compare rest ≡ true → c ≡ record { name = Compare; files = files_named (word ∷ rest) all_files } → Compared (word ∷ rest) c
needed word rest c h e =
    let has : FileOption → Bool = λ file. is_among (options rest) (file_option file) in
    let others : Bool = has Verilog && true in
    let l : PlacedAt 1 rest (file_option Liberty) = placed 1 rest (file_option Liberty) (and_left (has Liberty) others h) in
    let v : PlacedAt 1 rest (file_option Verilog) = placed 1 rest (file_option Verilog) (and_left (has Verilog) true (and_right (has Liberty) others h)) in
    record {
      liberty = l.place;
      verilog = v.place;
      name = rw e refl;
      files = rw e (rw (l.found, v.found) refl);
      liberty_name = rw l.found refl;
      verilog_name = rw v.found refl;
      liberty_within = omega (arith, l.within);
      verilog_within = omega (arith, v.within);
    }

from_named : (n : Option CommandName) (word : List ℕ) (rest : List (List ℕ)) (c : Command) → named_command n rest (word ∷ rest) ≡ Some c → Compared (word ∷ rest) c
from_named None word rest c e = cc
from_named (Some Compare) word rest c e =
    elim (are_options_of Compare rest && has_needed Compare rest) as (λ b. are_options_of Compare rest && has_needed Compare rest ≡ b → Compared (word ∷ rest) c) [
      | true ↦ λ h. needed word rest c (and_right (are_options_of Compare rest) (has_needed Compare rest) h) (let f = rw h at e in cc)
      | false ↦ λ h. let f = rw h at e in cc
    ] refl

pub compared : (words : List (List ℕ)) (c : Command) → command_of words ≡ Some c → Compared words c
compared [] c e = cc
compared (word ∷ rest) c e = from_named (name_of word) word rest c e

pub file_count : (words : List (List ℕ)) (c : Command) → command_of words ≡ Some c → length c.files ≡ 2
file_count words c e = rw (compared words c e).files refl

pub place_within : (words : List (List ℕ)) (c : Command) (index : ℕ) (d : List ℕ × ℕ) → command_of words ≡ Some c → index < length c.files → (get_or c.files index d).1 < length words
place_within words c zero d e h = let k = compared words c e in rw k.files k.liberty_within
place_within words c (suc zero) d e h = let k = compared words c e in rw k.files k.verilog_within
place_within words c (suc (suc index)) d e h = absurd (omega (arith, file_count words c e))

pub names_are : (words : List (List ℕ)) (c : Command) → command_of words ≡ Some c → names words ≡ name_beside words Liberty ∷ name_beside words Verilog ∷ []
names_are words c e = let k = compared words c e in rw (e, k.files, k.liberty_name, k.verilog_name) refl

pub name_at : (words : List (List ℕ)) (c : Command) (index : ℕ) (d : List ℕ × ℕ) → command_of words ≡ Some c → index < length c.files → get_or (names words) index [] ≡ word_at words (get_or c.files index d).1
name_at words c zero d e h = let k = compared words c e in rw (e, k.files) refl
name_at words c (suc zero) d e h = let k = compared words c e in rw (e, k.files) refl
name_at words c (suc (suc index)) d e h = absurd (omega (arith, file_count words c e))

pub text_at : (words : List (String Global)) (place : ℕ) (d : String Global) → place < length words → word_at (texts words) place ≡ string_bytes (get_or words place d)
text_at [] place d h = absurd (omega arith)
text_at (w ∷ words) zero d h = refl
text_at (w ∷ words) (suc place) d h = text_at words place d (omega arith)

pub text_count : (words : List (String Global)) → length (texts words) ≡ length words
text_count [] = refl
text_count (w ∷ words) = ap suc (text_count words)

-- what holds of the files of these names
pub answer_named : (r : Result Reply Failure) (words : List (List ℕ)) (c : Command) (file : List ℕ → Option (List ℕ)) (a b : List ℕ) → command_of words ≡ Some c → a ≡ get_or (names words) 0 [] → b ≡ get_or (names words) 1 [] → IfOk r (IsCompareAnswer a b file) → IfOk r (IsCompareAnswer (name_beside words Liberty) (name_beside words Verilog) file)
answer_named r words c file a b e p q h =
    let n = names_are words c e in
    let f : a ≡ name_beside words Liberty = rw n at p in
    let g : b ≡ name_beside words Verilog = rw n at q in
    rw (← f, ← g) h

pub named_both : (words : List (List ℕ)) (c : Command) (a b : List ℕ) → command_of words ≡ Some c → a ≡ get_or (names words) 0 [] → b ≡ get_or (names words) 1 [] → names words ≡ a ∷ b ∷ []
named_both words c a b e p q =
    let n = names_are words c e in
    let f : a ≡ name_beside words Liberty = rw n at p in
    let g : b ≡ name_beside words Verilog = rw n at q in
    rw (f, g) n
