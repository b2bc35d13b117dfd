-- Primitives made one after the other.
use Rattle.std.proofs.Common.{◌≡◌, ◌<◌, ◌+◌, ℕ, zero, suc, refl, ◌∙◌, ap, arith, List, [], ◌∷◌, ◌++◌, take, length, get_or, Option, Some, None}
use Rattle.verilog_source.specs.declared.primitive.UdpPart.{UdpPart}
use Rattle.udp_table.specs.Table.{Table}
use Rattle.cell_compare.specs.declared.reasons.Flaw.{Flaw}
use Rattle.cell_compare.specs.declared.primitives.Made.{Made}
use Rattle.cell_compare.specs.declared.primitives.Made.TheVariants as made
use Rattle.cell_compare.specs.Parts.{AreMade, IsMade, flaw_of, table_of}

one_made : (p : UdpPart) (m : Made) → IsMade p m → AreMade (p ∷ []) (flaw_of m ∷ []) (table_of m)
one_made p (made.Built t) h = (h, tt)
one_made p (made.Flawed f) h = (h, tt)

pub more_made : (parts : List UdpPart) (flaws : List (Option Flaw)) (tables : List Table) (p : UdpPart) (m : Made)
    → AreMade parts flaws tables → IsMade p m → AreMade (parts ++ p ∷ []) (flaws ++ flaw_of m ∷ []) (tables ++ table_of m)
more_made [] [] [] p m a h = one_made p m h
more_made [] [] (t ∷ tables) p m a h = absurd a
more_made [] (f ∷ flaws) tables p m a h = absurd a
more_made (q ∷ parts) [] tables p m a h = absurd a
more_made (q ∷ parts) (Some f ∷ flaws) tables p m a h = (a.0, more_made parts flaws tables p m a.1 h)
more_made (q ∷ parts) (None ∷ flaws) [] p m a h = absurd a
more_made (q ∷ parts) (None ∷ flaws) (t ∷ tables) p m a h = (a.0, more_made parts flaws tables p m a.1 h)

take_more : {X : Type 0} (xs : List X) (k : ℕ) (x : X) → k < length xs → x ≡ get_or xs k x → take (k + 1) xs ≡ take k xs ++ x ∷ []
take_more [] k x h e = absurd (omega arith)
take_more (y ∷ xs) zero x h e = let f : x ≡ y = e in rw f refl
take_more (y ∷ xs) (suc k) x h e =
    let n : suc k + 1 ≡ suc (k + 1) = omega arith in
    ap (λ i. take i (y ∷ xs)) n ∙ ap (λ ys. y ∷ ys) (take_more xs k x (omega arith) e)

pub one_more : (parts : List UdpPart) (k : ℕ) (p : UdpPart) (flaws : List (Option Flaw)) (tables : List Table) (m : Made) (flaws' : List (Option Flaw)) (tables' : List Table)
    → k < length parts → p ≡ get_or parts k p → AreMade (take k parts) flaws tables → IsMade p m → flaws' ≡ flaws ++ flaw_of m ∷ [] → tables' ≡ tables ++ table_of m → AreMade (take (k + 1) parts) flaws' tables'
one_more parts k p flaws tables m flaws' tables' h e a i f g = rw (take_more parts k p h e, f, g) (more_made (take k parts) flaws tables p m a i)
