use Rattle.std.proofs.Common.{rules, ◌≡◌, ◌+◌, ◌++◌, [], ◌∷◌, length, List, ℕ, Some, refl, sym, ◌∙◌, ap, subst, arith, length-append}
use Rattle.desk_ports.specs.MemDisk.{Change, Synced, DiskState, bytes_after, IsImage}
use Rattle.desk_ports.specs.DiskLog.{past_from, piece_bytes}
use Rattle.desk_ports.specs.DiskLaws.{reads_as_image}
use Rattle.desk_ports.specs.declared.disk_entry.Entry.{Entry}
use Rattle.desk_ports.specs.declared.disk_entry.Entry.TheVariants.{Sync}
use Rattle.desk_ports.proofs.DiskSteps.{past_sync, piece_bytes-push, bytes_next, image_next, later, comes, since_stays}
use Rattle.desk_ports.specs.declared.disk_asked.DiskAsked.{DiskAsked}
use Rattle.desk_ports.proofs.memory_disk.MemDiskDisk.sync.Goals as goal

-- the changes after the call, as the log has them
next_is : (log longer : List Entry) (pieces : List ℕ) (past : List Change) → longer ≡ log ++ Sync ∷ [] → past_from [] log pieces ≡ past → past_from [] longer pieces ≡ Synced ∷ past
next_is log longer pieces past pushed is = ap (λ (l : List Entry). past_from [] l pieces) pushed ∙ past_sync [] log pieces ∙ ap (λ (p : List Change). Synced ∷ p) is

pub invariant_of-self-2 : goal.invariant_of-self-2
invariant_of-self-2 c =
    let pushed : c.push.new.self.items ≡ c.self.inside.log.items ++ Sync ∷ [] = search rules in
    let next = next_is c.self.inside.log.items c.push.new.self.items c.self.inside.pieces.items _ pushed refl in (
      c.self.invariant.0 ∙ sym (ap (λ (p : List Change). bytes_after p c.self.inside.first.items) next),
      ap piece_bytes pushed ∙ omega (arith, piece_bytes-push c.self.inside.log.items Sync),
      omega (arith, ap length pushed, length-append c.self.inside.log.items (Sync ∷ []), ap (λ (a : DiskAsked). a.calls) c.and_call-self-inside.ensures),
      ap (λ (a : DiskAsked). a.written) c.and_call-self-inside.ensures ∙ c.self.invariant.3,
      omega arith,
      omega arith,
      omega arith,
    )

pub returns-clause-durable : goal.returns-clause-durable
returns-clause-durable c = λ bytes is image left.
    let pushed : c.push.new.self.items ≡ c.self.inside.log.items ++ Sync ∷ [] = search rules in
    let next = next_is c.self.inside.log.items c.push.new.self.items c.self.inside.pieces.items _ pushed (ap (λ (s : DiskState). s.past) c.self.view_is) in
    let same : bytes_after c.args.self.now.past c.args.self.now.first ≡ bytes = cc (is) in
    subst (λ T. T) (image_next _ _ _ _ _ next (ap (λ (s : DiskState). s.first) c.self.view_is) image) left ∙ same

pub returns-clause-bytes : goal.returns-clause-bytes
returns-clause-bytes c =
    let pushed : c.push.new.self.items ≡ c.self.inside.log.items ++ Sync ∷ [] = search rules in
    let next = next_is c.self.inside.log.items c.push.new.self.items c.self.inside.pieces.items _ pushed (ap (λ (s : DiskState). s.past) c.self.view_is) in
    ap (λ (l : List ℕ). Some l) (bytes_next _ _ _ _ _ next (ap (λ (s : DiskState). s.first) c.self.view_is))

pub returns-clause-images : goal.returns-clause-images
returns-clause-images c = λ image left.
    let pushed : c.push.new.self.items ≡ c.self.inside.log.items ++ Sync ∷ [] = search rules in
    let next = next_is c.self.inside.log.items c.push.new.self.items c.self.inside.pieces.items _ pushed (ap (λ (s : DiskState). s.past) c.self.view_is) in
    let is = subst (λ T. T) (image_next _ _ _ _ _ next (ap (λ (s : DiskState). s.first) c.self.view_is) image) left in
    subst (λ (x : List ℕ). IsImage c.args.self.now.past c.args.self.now.first x) (sym is) (reads_as_image c.args.self.now.past c.args.self.now.first)

pub returns-clause-time : goal.returns-clause-time
returns-clause-time c =
    let pushed : c.push.new.self.items ≡ c.self.inside.log.items ++ Sync ∷ [] = search rules in
    let next = next_is c.self.inside.log.items c.push.new.self.items c.self.inside.pieces.items _ pushed (ap (λ (s : DiskState). s.past) c.self.view_is) in
    let first = ap (λ (s : DiskState). s.first) c.self.view_is in
    record {
      later = later _ _ _ _ _ next first;
      comes = λ t x le since. comes _ _ _ _ _ next first t x since;
      stays = λ t x le since. since_stays _ _ _ _ _ next first t x le since;
    }
