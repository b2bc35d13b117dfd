-- Bytes stand for one list of blocks, and meet one refusal.
use Rattle.std.proofs.Common.{◌≡◌, inl, inr, ⊎_elim, ℕ, ◌≤◌, List, [], ◌∷◌, ◌++◌, length, take, drop, refl, sym, ◌∙◌, ap, arith, length-append}
use Rattle.std.proofs.lemmas.List.{take_at, drop_at, take-take, drop-take}
use Rattle.std.proofs.lemmas.List.Elements.{All-head, All-tail}
use Rattle.std.specs.Prelude.{All}
use Rattle.report_journal.specs.Image.{Head, plain_head, magic, header, records, IsBlock, IsShut, NoJournalYet, StandsFor, StandsForAny}
use Rattle.report_journal.specs.Disks.{AtMostRecords}
use Rattle.report_journal.specs.Open.{IsWhole, IsOpenGate, NoRecord, IsBroken, Refuses}
use Rattle.report_journal.specs.declared.opening.OpenError.{OpenError}
use Rattle.report_journal.specs.declared.opening.OpenError.TheVariants.{Failed, OtherInputs, NotJournal, TooLong, BrokenRecord}
use Rattle.report_journal.proofs.Gates.{one_size}
use Rattle.report_journal.proofs.Records.{length-header, one_front}

-- no whole record stands here
abbrev pub NoneWhole : Head → List ℕ → Type 0
NoneWhole head rest = (block left : List ℕ) → IsBlock block → rest ≡ 1 ∷ (head (length block) ++ (block ++ left)) → ⊥

pub shut_none : (head : Head) (rest : List ℕ) → IsShut rest → NoneWhole head rest
shut_none head rest s block left is_block is = s.shut (cc (s.bytes, is))

pub broken_none : (head : Head) (rest : List ℕ) → NoRecord head rest → NoneWhole head rest
broken_none head rest (inl none) block left is_block is = absurd (cc (none, is))
broken_none head rest (inr (behind, gate, not_whole)) block left is_block is =
    not_whole (record { block = block; rest = left; is_block = is_block; bytes = cc (gate, is) })

-- a block is read in one way
abbrev IsOnce : Head → Type 0
IsOnce head = (a b x y : List ℕ) → IsBlock a → IsBlock b → head (length a) ++ (a ++ x) ≡ head (length b) ++ (b ++ y) → (a ≡ b) × (x ≡ y)

plain_once : IsOnce plain_head
plain_once a b x y is_a is_b same =
    let size = one_size a b x y is_a.1 is_b.1 same in
    let tails : a ++ x ≡ b ++ y = cc (same) in (
      sym (take_at a x (length a) refl) ∙ ap (λ (l : List ℕ). take (length a) l) tails ∙ take_at b y (length a) (sym size),
      sym (drop_at a x (length a) refl) ∙ ap (λ (l : List ℕ). drop (length a) l) tails ∙ drop_at b y (length a) (sym size),
    )

-- two lists of records that read alike
module _ (head : Head) (once : IsOnce head) where
  next : (a b : List ℕ) (xs ys : List (List ℕ)) (x y : List ℕ) → IsBlock a → IsBlock b → records head (a ∷ xs) ++ x ≡ records head (b ∷ ys) ++ y → (a ≡ b) × (records head xs ++ x ≡ records head ys ++ y)
  next a b xs ys x y is_a is_b same =
      let both : 1 ∷ (head (length a) ++ (a ++ (records head xs ++ x))) ≡ 1 ∷ (head (length b) ++ (b ++ (records head ys ++ y))) =
      sym (one_front head a (records head xs) x) ∙ same ∙ one_front head b (records head ys) y in
      once a b (records head xs ++ x) (records head ys ++ y) is_a is_b (cc (both))

  -- where no record stands behind the first, the second has no more
  pub no_more : (xs ys : List (List ℕ)) (x y : List ℕ) → All IsBlock xs → All IsBlock ys → NoneWhole head x → records head xs ++ x ≡ records head ys ++ y → length ys ≤ length xs
  no_more xs [] x y is_as is_bs none same = omega arith
  no_more [] (b ∷ ys) x y is_as is_bs none same = absurd (none b (records head ys ++ y) (All-head IsBlock b ys is_bs) (same ∙ one_front head b (records head ys) y))
  no_more (a ∷ xs) (b ∷ ys) x y is_as is_bs none same =
      let n = next a b xs ys x y (All-head IsBlock a xs is_as) (All-head IsBlock b ys is_bs) same in
      omega (arith, no_more xs ys x y (All-tail IsBlock a xs is_as) (All-tail IsBlock b ys is_bs) none n.1)

  -- of one length they are one
  pub same_lists : (xs ys : List (List ℕ)) (x y : List ℕ) → All IsBlock xs → All IsBlock ys → length xs ≡ length ys → records head xs ++ x ≡ records head ys ++ y → (xs ≡ ys) × (x ≡ y)
  same_lists [] [] x y is_as is_bs size same = (refl, same)
  same_lists [] (b ∷ ys) x y is_as is_bs size same = absurd (omega (arith, size))
  same_lists (a ∷ xs) [] x y is_as is_bs size same = absurd (omega (arith, size))
  same_lists (a ∷ xs) (b ∷ ys) x y is_as is_bs size same =
      let n = next a b xs ys x y (All-head IsBlock a xs is_as) (All-head IsBlock b ys is_bs) same in
      let rest = same_lists xs ys x y (All-tail IsBlock a xs is_as) (All-tail IsBlock b ys is_bs) (omega (arith, size)) n.1 in
      (ap (λ (l : List ℕ). l ∷ xs) n.0 ∙ ap (λ (l : List (List ℕ)). b ∷ l) rest.0, rest.1)

-- what stands behind a front
behind_front : (front x y image : List ℕ) → image ≡ front ++ x → image ≡ front ++ y → x ≡ y
behind_front front x y image as_x as_y = sym (drop_at front x (length front) refl) ∙ ap (λ (l : List ℕ). drop (length front) l) (sym as_x ∙ as_y) ∙ drop_at front y (length front) refl

pub one_list : (key image : List ℕ) (xs ys : List (List ℕ)) → StandsFor key image xs → StandsFor key image ys → xs ≡ ys
one_list key image xs ys a b =
    let la = a.laid_out in
    let lb = b.laid_out in
    let same = behind_front (header key) (records plain_head xs ++ la.rest) (records plain_head ys ++ lb.rest) image la.bytes lb.bytes in
    let fewer = no_more plain_head plain_once xs ys la.rest lb.rest la.are_blocks.each lb.are_blocks.each (shut_none plain_head la.rest la.ends) same in
    let more = no_more plain_head plain_once ys xs lb.rest la.rest lb.are_blocks.each la.are_blocks.each (shut_none plain_head lb.rest lb.ends) (sym same) in
    (same_lists plain_head plain_once xs ys la.rest lb.rest la.are_blocks.each lb.are_blocks.each (omega (arith, fewer, more)) same).0

-- the index at which a list breaks
one_index : (front image : List ℕ) (i j : ℕ) → IsBroken front plain_head image i → IsBroken front plain_head image j → j ≤ i
one_index front image i j a b = ⊎_elim
    (λ none. omega (
      arith,
      a.index_is,
      b.index_is,
      no_more plain_head plain_once a.blocks b.blocks a.rest b.rest a.are_blocks.each b.are_blocks.each (broken_none plain_head a.rest none)
          (behind_front front (records plain_head a.blocks ++ a.rest) (records plain_head b.blocks ++ b.rest) image a.bytes b.bytes),
    ))
    (λ (full : (length a.blocks ≡ 4096) × ((behind : List ℕ) × IsOpenGate a.rest behind)). omega (arith, a.index_is, b.index_is, full.0, b.are_blocks.few))
    a.broken

-- a shut gate is no break
not_broken : (key image : List ℕ) (blocks : List (List ℕ)) (index : ℕ) → StandsFor key image blocks → IsBroken (header key) plain_head image index → ⊥
not_broken key image blocks index s b =
    let l = s.laid_out in
    let same = behind_front (header key) (records plain_head blocks ++ l.rest) (records plain_head b.blocks ++ b.rest) image l.bytes b.bytes in
    let fewer = no_more plain_head plain_once blocks b.blocks l.rest b.rest l.are_blocks.each b.are_blocks.each (shut_none plain_head l.rest l.ends) same in
    let rests = λ (size : length blocks ≡ length b.blocks). (same_lists plain_head plain_once blocks b.blocks l.rest b.rest l.are_blocks.each b.are_blocks.each size same).1 in
    ⊎_elim
    (λ none.
    let more = no_more plain_head plain_once b.blocks blocks b.rest l.rest b.are_blocks.each l.are_blocks.each (broken_none plain_head b.rest none) (sym same) in
    let rest = rests (omega (arith, fewer, more)) in
    ⊎_elim (λ empty. absurd (cc (l.ends.bytes, rest, empty))) (λ (open_gate : (behind : List ℕ) × IsOpenGate b.rest behind × (IsWhole plain_head behind → ⊥)). l.ends.shut (cc (l.ends.bytes, rest, open_gate.1))) none)
    (λ (full : (length b.blocks ≡ 4096) × ((behind : List ℕ) × IsOpenGate b.rest behind)).
    let rest = rests (omega (arith, fewer, full.0, l.are_blocks.few)) in
    l.ends.shut (cc (l.ends.bytes, rest, full.1.1)))
    b.broken

-- what a header says of its parts
magic_of : (key image : List ℕ) → take 41 image ≡ header key → take 9 image ≡ 1 ∷ magic
magic_of key image is = sym (take-take 9 41 image (omega arith)) ∙ ap (λ (l : List ℕ). take 9 l) is

key_of : (key image : List ℕ) → take 41 image ≡ header key → take 32 (drop 9 image) ≡ key
key_of key image is = sym (drop-take 9 32 image) ∙ ap (λ (l : List ℕ). drop 9 l) is

stands_header : (key image : List ℕ) (blocks : List (List ℕ)) → StandsFor key image blocks → take 41 image ≡ header key
stands_header key image blocks s =
    ap (λ (l : List ℕ). take 41 l) s.laid_out.bytes ∙ take_at (header key) (records plain_head blocks ++ s.laid_out.rest) 41 (length-header key s.key_size)

pub one_refusal : (key image : List ℕ) (a b : OpenError) → Refuses key image a → Refuses key image b → a ≡ b
one_refusal key image Failed b ra rb = absurd ra
one_refusal key image a Failed ra rb = absurd rb
one_refusal key image (TooLong m) (TooLong n) ra rb = ap (λ (k : ℕ). TooLong k) (ra.0 ∙ sym rb.0)
one_refusal key image (TooLong m) (NotJournal y) ra rb = absurd (omega (arith, ra.1, rb.0.within))
one_refusal key image (TooLong m) (OtherInputs y) ra rb = absurd (omega (arith, ra.1, rb.0.within))
one_refusal key image (TooLong m) (BrokenRecord j) ra rb = absurd (omega (arith, ra.1, rb.0.within))
one_refusal key image (NotJournal x) (TooLong n) ra rb = absurd (omega (arith, rb.1, ra.0.within))
one_refusal key image (NotJournal x) (NotJournal y) ra rb = ap (λ (l : List ℕ). NotJournal l) (ra.2 ∙ sym rb.2)
one_refusal key image (NotJournal x) (OtherInputs y) ra rb = absurd (ra.1 rb.1)
one_refusal key image (NotJournal x) (BrokenRecord j) ra rb = absurd (ra.1 (magic_of key image rb.1))
one_refusal key image (OtherInputs x) (TooLong n) ra rb = absurd (omega (arith, rb.1, ra.0.within))
one_refusal key image (OtherInputs x) (NotJournal y) ra rb = absurd (rb.1 ra.1)
one_refusal key image (OtherInputs x) (OtherInputs y) ra rb = ap (λ (l : List ℕ). OtherInputs l) (ra.2 ∙ sym rb.2)
one_refusal key image (OtherInputs x) (BrokenRecord j) ra rb = absurd (ra.3 (ra.2 ∙ key_of key image rb.1))
one_refusal key image (BrokenRecord i) (TooLong n) ra rb = absurd (omega (arith, rb.1, ra.0.within))
one_refusal key image (BrokenRecord i) (NotJournal y) ra rb = absurd (rb.1 (magic_of key image ra.1))
one_refusal key image (BrokenRecord i) (OtherInputs y) ra rb = absurd (rb.3 (rb.2 ∙ key_of key image ra.1))
one_refusal key image (BrokenRecord i) (BrokenRecord j) ra rb =
    let up = one_index (header key) image i j ra.2 rb.2 in
    let down = one_index (header key) image j i rb.2 ra.2 in
    ap (λ (k : ℕ). BrokenRecord k) (omega (arith, up, down))

-- what isn't too long and is a journal
sized : (key image : List ℕ) (e : OpenError) → length image ≤ 4294987818 → Refuses key image e → NoJournalYet image → ⊥
sized key image Failed small r none = r
sized key image (TooLong n) small r none = omega (arith, r.1, small)
sized key image (NotJournal x) small r none = r.0.there none
sized key image (OtherInputs x) small r none = r.0.there none
sized key image (BrokenRecord i) small r none = r.0.there none

stands_refused : (key image : List ℕ) (blocks : List (List ℕ)) (e : OpenError) → StandsFor key image blocks → Refuses key image e → ⊥
stands_refused key image blocks Failed s r = r
stands_refused key image blocks (TooLong n) s r = omega (arith, r.1, s.size)
stands_refused key image blocks (NotJournal x) s r = r.1 (magic_of key image (stands_header key image blocks s))
stands_refused key image blocks (OtherInputs x) s r = r.3 (r.2 ∙ key_of key image (stands_header key image blocks s))
stands_refused key image blocks (BrokenRecord i) s r = not_broken key image blocks i s r.2

no_journal_size : (image : List ℕ) → NoJournalYet image → length image ≤ 42
no_journal_size image (inl few) = omega (arith, few)
no_journal_size image (inr (all, other)) = omega (arith, all)

pub none_refused : (key image : List ℕ) (blocks : List (List ℕ)) (e : OpenError) → StandsForAny key image blocks → Refuses key image e → ⊥
none_refused key image blocks e (inl s) r = stands_refused key image blocks e s r
none_refused key image blocks e (inr (none, empty)) r = sized key image e (omega (arith, no_journal_size image none)) r none

-- a list stands for as many records as it has blocks
short_of_one : (image front : List ℕ) (blocks : List (List ℕ)) (rest : List ℕ) → length image ≤ 42 → length front ≡ 41 → image ≡ front ++ (records plain_head blocks ++ rest) → length blocks ≤ 0
short_of_one image front [] rest few size is = omega arith
short_of_one image front (b ∷ blocks) rest few size is =
    absurd (omega (arith, few, size, ap length is, length-append front (records plain_head (b ∷ blocks) ++ rest), length-append (records plain_head (b ∷ blocks)) rest))

pub as_many_records : (key image : List ℕ) (blocks : List (List ℕ)) → StandsForAny key image blocks → AtMostRecords (length blocks) image
as_many_records key image blocks (inl s) front others rest size are is =
    let l = s.laid_out in
    let mine : drop 41 image ≡ records plain_head blocks ++ l.rest = ap (λ (b : List ℕ). drop 41 b) l.bytes ∙ drop_at (header key) (records plain_head blocks ++ l.rest) 41 (length-header key s.key_size) in
    let theirs : drop 41 image ≡ records plain_head others ++ rest = ap (λ (b : List ℕ). drop 41 b) is ∙ drop_at front (records plain_head others ++ rest) 41 size in
    no_more plain_head plain_once blocks others l.rest rest l.are_blocks.each are (shut_none plain_head l.rest l.ends) (sym mine ∙ theirs)
as_many_records key image blocks (inr (none, empty)) front others rest size are is = omega (arith, short_of_one image front others rest (no_journal_size image none) size is)
