use Rattle.std.specs.Prelude.{IsTrue}
use Rattle.std.proofs.Common.{◌≡◌, ◌≤◌, ◌<◌, ◌+◌, ◌*◌, ◌++◌, [], ◌∷◌, List, ℕ, length, refl, inl, inr, ⊎_elim, sym, ap, subst, arith, length-append}
use Rattle.desk_ports.specs.Disk.{Torn, Adds, overwritten}
use Rattle.report_journal.specs.Image.{plain_head, header, records, IsBlock, StandsFor}
use Rattle.report_journal.specs.Disks.{IsAt, Keeps, IsBeforeOrAfter}
use Rattle.report_journal.specs.Journal.{JournalState}
use Rattle.report_journal.proofs.TwoWrites.{Appending, while_frame, while_gate, laid_out_done, place_within, length-staged, length-done}
use Rattle.report_journal.proofs.Records.{length-header, length-records_push}
use Rattle.report_journal.proofs.Moments.{adds_weaker, adds_then, tells_before}
use Rattle.report_journal.proofs.journal.Journal.append.Goals as goal

-- a journal whose bytes these are, and a frame
record Ready (journal : JournalState) (blocks : List (List ℕ)) (bytes block frame : List ℕ) : Type 0 where
  at : IsAt journal blocks bytes
  appending : Appending (header journal.key) plain_head blocks bytes journal.place block frame
  low : journal.place + 1 + length frame ≤ 4294987818
  long : length frame ≡ 5 + length block

abbrev IsFrameOf : List ℕ → List ℕ → Type 0
IsFrameOf frame block = IsBlock block × (frame ≡ plain_head (length block) ++ (block ++ 0 ∷ []))

ready : (journal : JournalState) (blocks : List (List ℕ)) (bytes block frame : List ℕ) → IsAt journal blocks bytes → IsFrameOf frame block
    → journal.count < 4096 → (journal.count ≤ 4096) × (journal.place ≤ 41 + 1048581 * journal.count) → Ready journal blocks bytes block frame
ready journal blocks bytes block frame at (is_block, frame_is) few (many, near) =
    let long : length frame ≡ 5 + length block = omega (arith, ap length frame_is, length-append block (0 ∷ [])) in
    record {
      at = at;
      appending = record {
        laid_out = at.stands.laid_out;
        at = omega (arith, at.place_is, length-header journal.key at.stands.key_size);
        is_block = is_block;
        frame_is = frame_is;
        few = omega (arith, at.count_is, few);
      };
      low = omega (arith, long, near, is_block.1, few);
      long = long;
    }

module _ (journal : JournalState) (blocks : List (List ℕ)) (bytes block frame : List ℕ) (r : Ready journal blocks bytes block frame) where
  stands_while_frame : (c : List ℕ) → Torn (journal.place + 1) (length frame) bytes c → IsBeforeOrAfter journal.key blocks block c
  stands_while_frame c torn = inl (record {
    key_size = r.at.stands.key_size;
    laid_out = while_frame _ _ _ _ _ _ _ r.appending c torn;
    size = omega (arith, torn.no_longer, r.at.stands.size, r.low);
  })

  small : length (overwritten bytes (journal.place + 1) frame) ≤ 4294987818
  small = omega (arith, length-staged _ _ _ _ _ _ _ r.appending, r.at.stands.size, r.low)

  stands_while_gate : (c : List ℕ) → Torn journal.place 1 (overwritten bytes (journal.place + 1) frame) c → IsBeforeOrAfter journal.key blocks block c
  stands_while_gate c torn =
      let size : length c ≤ 4294987818 = omega (arith, torn.no_longer, small, r.low) in
      ⊎_elim (λ old. inl (record { key_size = r.at.stands.key_size; laid_out = old; size = size }))
      (λ new. inr (record { key_size = r.at.stands.key_size; laid_out = new; size = size }))
      (while_gate _ _ _ _ _ _ _ r.appending c torn)

  stands_done : StandsFor journal.key (overwritten (overwritten bytes (journal.place + 1) frame) journal.place (1 ∷ [])) (blocks ++ block ∷ [])
  stands_done = record {
    key_size = r.at.stands.key_size;
    laid_out = laid_out_done _ _ _ _ _ _ _ r.appending;
    size = omega (arith, length-done _ _ _ _ _ _ _ r.appending, small);
  }

  place_done : journal.place + (5 + length block) ≡ 41 + length (records plain_head (blocks ++ block ∷ []))
  place_done = omega (arith, r.at.place_is, length-records_push plain_head 4 (λ n. refl) blocks block)

pub returns-in_err-write_synced-clause-any_moment :
    goal.returns-in_err-write_synced-clause-any_moment
returns-in_err-write_synced-clause-any_moment g c =
    let v : JournalState = record { key = c.self.inside.digest; count = c.self.inside.count; place = c.self.inside.place } in
    let is : v ≡ c.args.self = c.self.view_is in
    let few : v.count < 4096 = omega (arith, c.requires.room, ap (λ (j : JournalState). j.count) is) in
    let framed : IsFrameOf c.deref.result.now c.args.frame = subst (λ (f : List ℕ). IsFrameOf f c.args.frame) (sym c.deref.ensures.value)
    (subst (λ (b : List ℕ). IsFrameOf c.frame.inside.bytes.items b) c.frame.view_is c.frame.invariant) in
    subst (λ (j : JournalState). (blocks : List (List ℕ)) → Keeps g.D.Disk.reads g.D.Disk.image c.args.disk.now j blocks
    → Adds g.D.Disk.moment g.D.Disk.image_since c.args.disk.now c.write_synced.new.disk (IsBeforeOrAfter j.key blocks c.args.frame)) is
    (λ blocks keeps.
    let r = ready v blocks keeps.bytes c.args.frame c.deref.result.now keeps.at framed few c.self.invariant in
    adds_weaker _ _ _ _ _ _ c.write_synced.ensures.any_moment
    (λ x was. stands_while_frame v blocks keeps.bytes c.args.frame c.deref.result.now r x
    (subst (λ (d : List ℕ). Torn (v.place + 1) (length c.deref.result.now) d x) (keeps.holds.only was.0 was.1) was.2)))

pub write_synced-requires-2 : goal.write_synced-requires-2
write_synced-requires-2 g c = λ bytes known.
    let v : JournalState = record { key = c.self.inside.digest; count = c.self.inside.count; place = c.self.inside.place } in
    let is : v ≡ c.args.self = c.self.view_is in
    let few : v.count < 4096 = omega (arith, c.requires.room, ap (λ (j : JournalState). j.count) is) in
    let framed : IsFrameOf c.deref.result.now c.args.frame = subst (λ (f : List ℕ). IsFrameOf f c.args.frame) (sym c.deref.ensures.value)
    (subst (λ (b : List ℕ). IsFrameOf c.frame.inside.bytes.items b) c.frame.view_is c.frame.invariant) in
    let left = c.requires.left.keeps (tells_before _ _ c.write_synced.ensures.tells bytes known) in
    let keeps : Keeps g.D.Disk.reads g.D.Disk.image c.args.disk.now v left.0 = subst (λ (j : JournalState). Keeps g.D.Disk.reads g.D.Disk.image c.args.disk.now j left.0) (sym is) left.1 in
    let r = ready v left.0 keeps.bytes c.args.frame c.deref.result.now keeps.at framed few c.self.invariant in
    let same : bytes ≡ overwritten keeps.bytes (v.place + 1) c.deref.result.now = cc (known, (c.in_ok-write_synced.ensures.durable keeps.bytes keeps.holds.reads_them).reads_them) in
    subst (λ (l : List ℕ). v.place ≤ length l) (sym same) (place_within _ _ _ _ _ _ _ r.appending)

pub returns-in_err-write_synced-2-clause-any_moment :
    goal.returns-in_err-write_synced-2-clause-any_moment
returns-in_err-write_synced-2-clause-any_moment g c =
    let v : JournalState = record { key = c.self.inside.digest; count = c.self.inside.count; place = c.self.inside.place } in
    let is : v ≡ c.args.self = c.self.view_is in
    let few : v.count < 4096 = omega (arith, c.requires.room, ap (λ (j : JournalState). j.count) is) in
    let framed : IsFrameOf c.deref.result.now c.args.frame = subst (λ (f : List ℕ). IsFrameOf f c.args.frame) (sym c.deref.ensures.value)
    (subst (λ (b : List ℕ). IsFrameOf c.frame.inside.bytes.items b) c.frame.view_is c.frame.invariant) in
    subst (λ (j : JournalState). (blocks : List (List ℕ)) → Keeps g.D.Disk.reads g.D.Disk.image c.args.disk.now j blocks
    → Adds g.D.Disk.moment g.D.Disk.image_since c.args.disk.now c.write_synced-2.new.disk (IsBeforeOrAfter j.key blocks c.args.frame)) is
    (λ blocks keeps.
    let r = ready v blocks keeps.bytes c.args.frame c.deref.result.now keeps.at framed few c.self.invariant in
    let staged = c.in_ok-write_synced.ensures.durable keeps.bytes keeps.holds.reads_them in
    adds_then _ _ _ _ _ _ _ _ c.write_synced.ensures.any_moment c.write_synced-2.ensures.any_moment
    (λ x was. stands_while_frame v blocks keeps.bytes c.args.frame c.deref.result.now r x
    (subst (λ (d : List ℕ). Torn (v.place + 1) (length c.deref.result.now) d x) (keeps.holds.only was.0 was.1) was.2))
    (λ x was. stands_while_gate v blocks keeps.bytes c.args.frame c.deref.result.now r x
    (subst (λ (d : List ℕ). Torn v.place 1 d x) (staged.only was.0 was.1) was.2)))

pub returns-clause-any_moment :
    goal.returns-clause-any_moment
returns-clause-any_moment g c =
    let v : JournalState = record { key = c.self.inside.digest; count = c.self.inside.count; place = c.self.inside.place } in
    let is : v ≡ c.args.self = c.self.view_is in
    let few : v.count < 4096 = omega (arith, c.requires.room, ap (λ (j : JournalState). j.count) is) in
    let framed : IsFrameOf c.deref.result.now c.args.frame = subst (λ (f : List ℕ). IsFrameOf f c.args.frame) (sym c.deref.ensures.value)
    (subst (λ (b : List ℕ). IsFrameOf c.frame.inside.bytes.items b) c.frame.view_is c.frame.invariant) in
    subst (λ (j : JournalState). (blocks : List (List ℕ)) → Keeps g.D.Disk.reads g.D.Disk.image c.args.disk.now j blocks
    → Adds g.D.Disk.moment g.D.Disk.image_since c.args.disk.now c.write_synced-2.new.disk (IsBeforeOrAfter j.key blocks c.args.frame)) is
    (λ blocks keeps.
    let r = ready v blocks keeps.bytes c.args.frame c.deref.result.now keeps.at framed few c.self.invariant in
    let staged = c.in_ok-write_synced.ensures.durable keeps.bytes keeps.holds.reads_them in
    adds_then _ _ _ _ _ _ _ _ c.write_synced.ensures.any_moment c.write_synced-2.ensures.any_moment
    (λ x was. stands_while_frame v blocks keeps.bytes c.args.frame c.deref.result.now r x
    (subst (λ (d : List ℕ). Torn (v.place + 1) (length c.deref.result.now) d x) (keeps.holds.only was.0 was.1) was.2))
    (λ x was. stands_while_gate v blocks keeps.bytes c.args.frame c.deref.result.now r x
    (subst (λ (d : List ℕ). Torn v.place 1 d x) (staged.only was.0 was.1) was.2)))

-- how long the frame is
frame_size : (frame block : List ℕ) → IsFrameOf frame block → length frame ≡ 5 + length block
frame_size frame block (is_block, is) = omega (arith, ap length is, length-append block (0 ∷ []))

pub invariant_of-self : goal.invariant_of-self
invariant_of-self g c =
    let few : c.self.inside.count < 4096 = omega (arith, c.requires.room, ap (λ (j : JournalState). j.count) c.self.view_is) in
    let long = frame_size c.frame.inside.bytes.items _ c.frame.invariant in
    (omega (arith, few), omega (arith, few, long, c.frame.invariant.0.1, c.self.invariant.1, c.len.ensures))

pub returns-clause-appended : goal.returns-clause-appended
returns-clause-appended g c = λ blocks kept.
    let v : JournalState = record { key = c.self.inside.digest; count = c.self.inside.count; place = c.self.inside.place } in
    let is : v ≡ c.args.self = c.self.view_is in
    let few : v.count < 4096 = omega (arith, c.requires.room, ap (λ (j : JournalState). j.count) is) in
    let framed : IsFrameOf c.deref.result.now c.args.frame = subst (λ (f : List ℕ). IsFrameOf f c.args.frame) (sym c.deref.ensures.value)
    (subst (λ (b : List ℕ). IsFrameOf c.frame.inside.bytes.items b) c.frame.view_is c.frame.invariant) in
    let keeps : Keeps g.D.Disk.reads g.D.Disk.image c.args.disk.now v blocks = subst (λ (j : JournalState). Keeps g.D.Disk.reads g.D.Disk.image c.args.disk.now j blocks) (sym is) kept in
    let r = ready v blocks keeps.bytes c.args.frame c.deref.result.now keeps.at framed few c.self.invariant in
    let staged = c.in_ok-write_synced.ensures.durable keeps.bytes keeps.holds.reads_them in
    let done = c.in_ok-write_synced-2.ensures.durable _ staged.reads_them in
    let long : c.len.result ≡ 5 + length c.args.frame = omega (arith, frame_size c.deref.result.now c.args.frame framed, c.deref.ensures.len, c.len.ensures) in
    record {
      bytes = _;
      holds = done;
      at = record {
        stands = stands_done v blocks keeps.bytes c.args.frame c.deref.result.now r;
        place_is = omega (arith, place_done v blocks keeps.bytes c.args.frame c.deref.result.now r, long);
        count_is = omega (arith, keeps.at.count_is, length-append blocks (c.args.frame ∷ []));
      };
    }

pub returns-clause-next : goal.returns-clause-next
returns-clause-next g c =
    let framed = subst (λ (b : List ℕ). IsFrameOf c.frame.inside.bytes.items b) c.frame.view_is c.frame.invariant in
    let long : c.len.result ≡ 5 + length c.args.frame = omega (arith, frame_size c.frame.inside.bytes.items c.args.frame framed, c.len.ensures) in (
      ap (λ (j : JournalState). j.key) c.self.view_is,
      omega (arith, ap (λ (j : JournalState). j.count) c.self.view_is),
      omega (arith, ap (λ (j : JournalState). j.place) c.self.view_is, long),
    )

pub returns-clause-left : goal.returns-clause-left
returns-clause-left g c = record {
  keeps = λ tells.
      let left = c.requires.left.keeps (subst IsTrue c.write_synced.ensures.tells (subst IsTrue c.write_synced-2.ensures.tells tells)) in
      (_, returns-clause-appended g c left.0 left.1);
}
