use Rattle.std.proofs.Common.{rules, Bool, true, if◌then◌else◌, ◌≡◌, ◌≤◌, ◌+◌, ◌++◌, [], ◌∷◌, length, List, ℕ, Some, refl, sym, ◌∙◌, ap, subst, arith, length-append}
use Rattle.desk_ports.specs.Disk.{overwritten, Torn}
use Rattle.desk_ports.specs.MemDisk.{Change, Wrote, DiskState, bytes_after, IsImage}
use Rattle.desk_ports.specs.DiskLog.{past_from, piece_bytes}
use Rattle.desk_ports.specs.declared.disk_entry.Entry.{Entry}
use Rattle.desk_ports.specs.declared.disk_entry.Entry.TheVariants.{Write}
use Rattle.desk_ports.proofs.DiskSteps.{past_write, piece_bytes-push, bytes_next, image_next, later, comes, since_stays}
use Rattle.desk_ports.specs.declared.disk_asked.DiskAsked.{DiskAsked}
use Rattle.desk_ports.proofs.memory_disk.MemDiskDisk.write_at.Goals as goal

-- the changes after the call, as the log has them
next_is : (log longer : List Entry) (pieces more piece : List ℕ) (place : ℕ) (past : List Change) → longer ≡ log ++ Write place (length piece) ∷ [] → more ≡ pieces ++ piece
    → piece_bytes log ≡ length pieces → past_from [] log pieces ≡ past → past_from [] longer more ≡ Wrote place piece ∷ past
next_is log longer pieces more piece place past pushed extended all is =
    ap (λ (l : List Entry). past_from [] l more) pushed
    ∙ ap (λ (l : List ℕ). past_from [] (log ++ Write place (length piece) ∷ []) l) extended
    ∙ past_write [] log pieces piece place all ∙ ap (λ (p : List Change). Wrote place piece ∷ p) is

pub invariant_of-self-2 : goal.invariant_of-self-2
invariant_of-self-2 c =
    let pushed : c.push.new.self.items ≡ c.self.inside.log.items ++ Write c.args.place (length c.args.piece.now) ∷ [] = search rules in
    let extended : c.extend_from_slice.new.self.items ≡ c.self.inside.pieces.items ++ c.args.piece.now = search rules in
    let next = next_is c.self.inside.log.items c.push.new.self.items c.self.inside.pieces.items c.extend_from_slice.new.self.items c.args.piece.now c.args.place _ pushed extended c.self.invariant.1 refl in
    let bytes : c.overwrite.new.bytes.items ≡ overwritten c.self.inside.bytes.items c.args.place c.args.piece.now = c.overwrite.ensures.bytes in
    let takes : c.takes_write-takes.result ≡ true = search rules in
    let long : length c.extend_from_slice.new.self.items ≡ length c.self.inside.pieces.items + length c.args.piece.now = omega (arith, ap length extended, length-append c.self.inside.pieces.items c.args.piece.now) in
    let written : c.and_write-self-inside.result.written ≡ length c.extend_from_slice.new.self.items =
    ap (λ (a : DiskAsked). a.written) c.and_write-self-inside.ensures
    ∙ ap (λ (b : Bool). if b then c.self.inside.asked.written + length c.args.piece.now else c.self.inside.asked.written) takes
    ∙ omega (arith, long, c.self.invariant.3) in (
      bytes ∙ ap (λ (l : List ℕ). overwritten l c.args.place c.args.piece.now) c.self.invariant.0 ∙ sym (ap (λ (p : List Change). bytes_after p c.self.inside.first.items) next),
      ap piece_bytes pushed ∙ omega (arith, piece_bytes-push c.self.inside.log.items (Write c.args.place (length c.args.piece.now)), long, c.self.invariant.1),
      omega (arith, ap length pushed, length-append c.self.inside.log.items (Write c.args.place (length c.args.piece.now) ∷ []), ap (λ (a : DiskAsked). a.calls) c.and_write-self-inside.ensures),
      written,
      omega arith,
      omega arith,
      omega arith,
    )

pub returns-clause-written : goal.returns-clause-written
returns-clause-written c = λ bytes is.
    let pushed : c.push.new.self.items ≡ c.self.inside.log.items ++ Write c.args.place (length c.args.piece.now) ∷ [] = search rules in
    let extended : c.extend_from_slice.new.self.items ≡ c.self.inside.pieces.items ++ c.args.piece.now = search rules in
    let next = next_is c.self.inside.log.items c.push.new.self.items c.self.inside.pieces.items c.extend_from_slice.new.self.items c.args.piece.now c.args.place _ pushed extended c.self.invariant.1 (ap (λ (s : DiskState). s.past) c.self.view_is) in
    let same : bytes_after c.args.self.now.past c.args.self.now.first ≡ bytes = cc (is) in
    ap (λ (l : List ℕ). Some l) (bytes_next _ _ _ _ _ next (ap (λ (s : DiskState). s.first) c.self.view_is) ∙ ap (λ (l : List ℕ). overwritten l c.args.place c.args.piece.now) same)

pub returns-clause-images : goal.returns-clause-images
returns-clause-images c = λ image left.
    let pushed : c.push.new.self.items ≡ c.self.inside.log.items ++ Write c.args.place (length c.args.piece.now) ∷ [] = search rules in
    let extended : c.extend_from_slice.new.self.items ≡ c.self.inside.pieces.items ++ c.args.piece.now = search rules in
    let next = next_is c.self.inside.log.items c.push.new.self.items c.self.inside.pieces.items c.extend_from_slice.new.self.items c.args.piece.now c.args.place _ pushed extended c.self.invariant.1 (ap (λ (s : DiskState). s.past) c.self.view_is) in
    subst (λ T. T) (image_next _ _ _ _ _ next (ap (λ (s : DiskState). s.first) c.self.view_is) image) left

pub returns-clause-any_bytes : goal.returns-clause-any_bytes
returns-clause-any_bytes c = λ image before was torn.
    let pushed : c.push.new.self.items ≡ c.self.inside.log.items ++ Write c.args.place (length c.args.piece.now) ∷ [] = search rules in
    let extended : c.extend_from_slice.new.self.items ≡ c.self.inside.pieces.items ++ c.args.piece.now = search rules in
    let next = next_is c.self.inside.log.items c.push.new.self.items c.self.inside.pieces.items c.extend_from_slice.new.self.items c.args.piece.now c.args.place _ pushed extended c.self.invariant.1 (ap (λ (s : DiskState). s.past) c.self.view_is) in
    subst (λ T. T) (sym (image_next _ _ _ _ _ next (ap (λ (s : DiskState). s.first) c.self.view_is) image)) (before, was, torn)

pub returns-clause-time : goal.returns-clause-time
returns-clause-time c =
    let pushed : c.push.new.self.items ≡ c.self.inside.log.items ++ Write c.args.place (length c.args.piece.now) ∷ [] = search rules in
    let extended : c.extend_from_slice.new.self.items ≡ c.self.inside.pieces.items ++ c.args.piece.now = search rules in
    let next = next_is c.self.inside.log.items c.push.new.self.items c.self.inside.pieces.items c.extend_from_slice.new.self.items c.args.piece.now c.args.place _ pushed extended c.self.invariant.1 (ap (λ (s : DiskState). s.past) c.self.view_is) in
    let first = ap (λ (s : DiskState). s.first) c.self.view_is in
    record {
      later = later _ _ _ _ _ next first;
      comes = λ t x le since. comes _ _ _ _ _ next first t x since;
      stays = λ t x le since. since_stays _ _ _ _ _ next first t x le since;
    }
