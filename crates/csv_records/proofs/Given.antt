-- What a reader of records has left.
use Rattle.std.proofs.Common.{◌≡◌, ℕ, Bool, true, false, List, [], Option, Some, None, refl, ◌∙◌, inl}
use Rattle.std.specs.Borrow.{Bor}
use Rattle.csv.specs.Machine.{Read, next_record}
use Rattle.csv.specs.Reading.{NextIs, ReadRecord, ReadsNext, default_config, is_flexible, pending_of, took_first}
use Rattle.csv.specs.declared.parser.Config.{Config}
use Rattle.csv.specs.declared.parser.State.{State}
use Rattle.csv.specs.declared.reader.Reader.{Reader}
use Rattle.csv_records.specs.Records.{Gave, HasLeft, known, left_of}
use Rattle.csv_records.proofs.Machine.{left_more, left_none}

found_next : (o : Option Read) (f : List (List ℕ)) (s : State) (z : List ℕ) → NextIs o true f s z → o ≡ Some (f, s, z)
found_next None f s z n = cc n
found_next (Some p) f s z n = rw (n.1, n.2, n.3) refl

found : (cfg : Config) (a b : State) (y : List ℕ) (f : List (List ℕ)) (k : Option (List ℕ)) → ReadsNext cfg a (Some y) k true f b
    → (z : List ℕ) × (k ≡ Some z) × (next_record cfg a [] [] y ≡ Some (f, b, z))
found cfg a b y f None r = absurd r
found cfg a b y f (Some z) r = (z, refl, found_next _ f b z r)

none_next : (o : Option Read) (f : List (List ℕ)) (s : State) (z : List ℕ) → NextIs o false f s z → o ≡ None
none_next None f s z n = refl
none_next (Some p) f s z n = cc n.0

none_found : (cfg : Config) (a b : State) (y : List ℕ) (f : List (List ℕ)) (k : Option (List ℕ)) → ReadsNext cfg a (Some y) k false f b → next_record cfg a [] [] y ≡ None
none_found cfg a b y f None r = absurd r
none_found cfg a b y f (Some z) r = none_next _ f b z r

-- what a read of the next record leaves
pub gave : (a b : Reader (Bor (List ℕ))) (yes : Bool) (f : List (List ℕ)) (rows : List (List (List ℕ))) → HasLeft a rows → took_first b ≡ true → is_flexible b ≡ is_flexible a
    → ReadRecord known a b yes f → Gave yes f rows b
gave a b true f rows h first flexible r =
    let g = found default_config a.state b.state h.bytes f (pending_of (known b.rdr) b) (rw (h.config, h.source) at r.0) in
    let more = left_more a.state h.bytes (f, b.state, g.0) h.between g.2 in (
      left_of b.state g.0,
      h.gives ∙ more.0,
      record {
        ready = inl first;
        plain = r.3 ∙ h.plain;
        config = r.2 ∙ h.config;
        flexible = flexible ∙ h.flexible;
        between = more.1;
        bytes = g.0;
        source = rw r.1 g.1;
        gives = refl;
      },
    )
gave a b false f rows h first flexible r =
    h.gives ∙ left_none a.state h.bytes (none_found default_config a.state b.state h.bytes f (pending_of (known b.rdr) b) (rw (h.config, h.source) at r.0))
