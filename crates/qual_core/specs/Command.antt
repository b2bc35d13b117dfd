-- Which lists of words are which command.
use Rattle.std.specs.Prelude.{ℕ, ◌+◌, List, [], ◌∷◌, ◌++◌, Option, Some, None, Bool, true, false, ◌&&◌, not, if◌then◌else◌, bytes_eq, codes, length, nat_le, get_or, map, String, string_bytes}
use Rattle.std.specs.List.{list_all}
use Rattle.std.specs.Option.{option_or}
use Rattle.std.specs.declared.alloc.Global.{Global}
use Rattle.qual_core.specs.Names.{is_among, is_distinct}
use Rattle.qual_core.specs.declared.command.Command.{Command}
use Rattle.qual_core.specs.declared.command.CommandName.{CommandName}
use Rattle.qual_core.specs.declared.command.CommandName.TheVariants.{Compare}
use Rattle.qual_core.specs.declared.command.FileOption.{FileOption}
use Rattle.qual_core.specs.declared.command.FileOption.TheVariants.{Liberty, Verilog}
use Rattle.qual_core.specs.declared.command.CommandOption.{CommandOption}
use Rattle.qual_core.specs.declared.command.CommandOption.TheVariants.{File}

-- the words as lists of bytes
abbrev pub texts : List (String Global) → List (List ℕ)
texts words = map string_bytes words

abbrev pub command_word : CommandName → List ℕ
command_word Compare = codes "compare"

-- the word that names a file
abbrev pub file_word : FileOption → List ℕ
file_word Liberty = codes "liberty"
file_word Verilog = codes "verilog"

-- the files that options may name, in reading order
abbrev pub all_files : List FileOption
all_files = Liberty ∷ Verilog ∷ []

abbrev pub file_option : FileOption → List ℕ
file_option file = codes "--" ++ file_word file

abbrev pub option_word : CommandOption → List ℕ
option_word (File file) = file_option file

-- a file's name has 1 to 4,096 bytes
abbrev pub is_file_name : List ℕ → Bool
is_file_name name = nat_le 1 (length name) && nat_le (length name) 4096

-- the values that an option takes
abbrev pub is_value_of : CommandOption → List ℕ → Bool
is_value_of (File file) value = is_file_name value

-- the options that a command must have
abbrev pub needed : CommandName → List CommandOption
needed Compare = File Liberty ∷ File Verilog ∷ []

-- the options that it may have
abbrev pub optional : CommandName → List CommandOption
optional Compare = []

-- the option of this word
abbrev pub option_among : List CommandOption → List ℕ → Option CommandOption
option_among [] word = None
option_among (o ∷ os) word = if bytes_eq (option_word o) word then Some o else option_among os word

abbrev pub option_of : CommandName → List ℕ → Option CommandOption
option_of name word = option_or (option_among (needed name) word) (option_among (optional name) word)

abbrev pub takes : Option CommandOption → List ℕ → Bool
takes None value = false
takes (Some o) value = is_value_of o value

-- a word of the command's options with a value that the option takes
abbrev pub is_pair_of : CommandName → List ℕ × List ℕ → Bool
is_pair_of name pair = takes (option_of name pair.0) pair.1

-- The words behind the command's word are options, each with a value after it.
abbrev pub are_pairs : List (List ℕ) → Bool
are_pairs [] = true
are_pairs (option ∷ []) = false
are_pairs (option ∷ value ∷ rest) = are_pairs rest

abbrev pub options : List (List ℕ) → List (List ℕ)
options [] = []
options (option ∷ []) = []
options (option ∷ value ∷ rest) = option ∷ options rest

abbrev pub pairs : List (List ℕ) → List (List ℕ × List ℕ)
pairs [] = []
pairs (option ∷ []) = []
pairs (option ∷ value ∷ rest) = (option, value) ∷ pairs rest

-- pairs of options of the command with values that they take, none of the options twice
abbrev pub are_options_of : CommandName → List (List ℕ) → Bool
are_options_of name rest = are_pairs rest && is_distinct (options rest) && list_all (is_pair_of name) (pairs rest)

-- the same of the first pair
abbrev pub is_option_of : CommandName → List ℕ → List ℕ → List (List ℕ) → Bool
is_option_of name option value rest = is_pair_of name (option, value) && not (is_among (options rest) option)

-- each option that the command needs is there
abbrev pub has_needed : CommandName → List (List ℕ) → Bool
has_needed name rest = list_all (λ option. is_among (options rest) (option_word option)) (needed name)

-- the command of a command's word
abbrev pub name_of : List ℕ → Option CommandName
name_of word = if bytes_eq word (command_word Compare) then Some Compare else None

-- the place of the value beside an option, where the first of the words has this place
abbrev pub place_from : ℕ → List (List ℕ) → List ℕ → Option ℕ
place_from n [] wanted = None
place_from n (option ∷ []) wanted = None
place_from n (option ∷ value ∷ rest) wanted = if bytes_eq option wanted then Some (n + 1) else place_from (n + 2) rest wanted

abbrev pub place_of : List (List ℕ) → List ℕ → Option ℕ
place_of [] wanted = None
place_of (word ∷ rest) wanted = place_from 1 rest wanted

abbrev pub with_place : FileOption → Option ℕ → List (List ℕ × ℕ) → List (List ℕ × ℕ)
with_place file None files = files
with_place file (Some place) files = (file_word file, place) ∷ files

-- those of the files that the words name, with the places of their names
abbrev pub files_named : List (List ℕ) → List FileOption → List (List ℕ × ℕ)
files_named words [] = []
files_named words (file ∷ files) = with_place file (place_of words (file_option file)) (files_named words files)

-- the command of a name with these words behind it, among all the words
abbrev pub named_command : Option CommandName → List (List ℕ) → List (List ℕ) → Option Command
named_command None rest words = None
named_command (Some name) rest words =
    if are_options_of name rest && has_needed name rest then Some (record { name = name; files = files_named words all_files }) else None

-- the command of the words, None where they are none
abbrev pub command_of : List (List ℕ) → Option Command
command_of [] = None
command_of (word ∷ rest) = named_command (name_of word) rest (word ∷ rest)

-- the word at a place, counted from 0
abbrev pub word_at : List (List ℕ) → ℕ → List ℕ
word_at words place = get_or words place []

-- the names of the files of the command
abbrev pub names_of : Option Command → List (List ℕ) → List (List ℕ)
names_of None words = []
names_of (Some c) words = map (λ f. word_at words f.1) c.files

-- the names of files among the words, in reading order
abbrev pub names : List (List ℕ) → List (List ℕ)
names words = names_of (command_of words) words

abbrev pub word_at_place : List (List ℕ) → Option ℕ → List ℕ
word_at_place words None = []
word_at_place words (Some place) = word_at words place

-- the name beside an option
abbrev pub name_beside : List (List ℕ) → FileOption → List ℕ
name_beside words file = word_at_place words (place_of words (file_option file))
