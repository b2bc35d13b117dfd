-- The outcome of a comparison by the names of its files.
use Rattle.std.proofs.Common.{◌≡◌, ℕ, List, [], get_or, Option, Some}
use Rattle.qual_core.specs.Command.{command_of, name_beside, names}
use Rattle.qual_core.specs.Outcome.{IsCompareReply, IsOutcome}
use Rattle.qual_core.specs.declared.command.Command.{Command}
use Rattle.qual_core.specs.declared.command.FileOption.TheVariants.{Liberty, Verilog}
use Rattle.qual_core.specs.declared.reply.Reply.{Reply}
use Rattle.qual_core.proofs.Places.{names_are}
use Rattle.qual_core.proofs.Replying.{outcome_named}

pub reply_named : (words : List (List ℕ)) (c : Command) (file : List ℕ → Option (List ℕ)) (reply : Reply) (a b : List ℕ) → command_of words ≡ Some c
    → a ≡ get_or (names words) 0 [] → b ≡ get_or (names words) 1 [] → IsOutcome words file reply → IsCompareReply a b file reply
reply_named words c file reply a b e p q o =
    let n = names_are words c e in
    let f : a ≡ name_beside words Liberty = rw n at p in
    let g : b ≡ name_beside words Verilog = rw n at q in
    rw (f, g) (outcome_named c.name words file reply (rw e at o))
