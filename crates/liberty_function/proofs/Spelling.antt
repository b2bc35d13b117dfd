-- What the machine has read is spelled by its parts.
use Rattle.std.proofs.Common.{◌≡◌, ℕ, zero, suc, ◌+◌, ◌<◌, refl, sym, ◌∙◌, ap, subst, arith, Bool, true, false, if◌then◌else◌, List, [], ◌∷◌, ◌++◌, length, replicate, Option, Some, None, nat_lt, append_assoc, ◌⊎◌, inl, inr}
use Rattle.std.proofs.lemmas.List.{append-nil}
use Rattle.std.proofs.lemmas.Grind.{replicate_next}
use Rattle.std.proofs.lemmas.Bool.Decides.{nat_tests}
use Rattle.tern_core.specs.declared.tern.Tern.TheVariants as tern
use Rattle.liberty_function.specs.declared.words.Word.{Word}
use Rattle.liberty_function.specs.declared.words.Word.TheVariants.{Quote, Bang, Caret, And, Or, Open, Close, Zero, One, Name, Other}
use Rattle.liberty_function.specs.Function.{Function, constant, name, inverse, exclusive, both, either, Level, atom, factor, exclusive_sum, product, sum, Spells, spells_zero, spells_one, spells_name, in_parentheses, inverted_after, one_atom, inverted_before, one_factor, by_caret, one_exclusive_sum, by_and, side_by_side, one_product, by_or}
use Rattle.liberty_function.proofs.Machine.{Before, Machine, nothing, begin, inverted, joined, exclusive_of, product_of, sum_of, next, next_by, wanting, having, with_atom, past_caret, past_and, past_or, closing, run, then_run}

-- something and the operator behind it, or nothing
abbrev pub IsWaiting : ℕ → Level → Word → Option Function → List Word → Type 0
IsWaiting room level end None ts = ts ≡ []
IsWaiting room level end (Some f) ts = (us : List Word) × (ts ≡ us ++ end ∷ []) × Spells room level us f

-- a product, with its operator or without
abbrev pub IsProduct : ℕ → Option Function → List Word → Type 0
IsProduct room None ts = ts ≡ []
IsProduct room (Some f) ts = (us : List Word) × ((ts ≡ us ++ And ∷ []) ⊎ (ts ≡ us)) × Spells room product us f

pub record IsBefore (room : ℕ) (b : Before) (ts : List Word) : Type 0 where
  pub ss : List Word
  pub ps : List Word
  pub es : List Word
  pub whole : ts ≡ ((ss ++ ps) ++ es) ++ replicate b.bangs Bang
  pub sums : IsWaiting room sum Or b.sums ss
  pub products : IsProduct room b.products ps
  pub exclusives : IsWaiting room exclusive_sum Caret b.exclusives es

abbrev pub IsOuter : ℕ → List Before → List Word → Type 0
IsOuter room [] ts = (ts ≡ []) × (room ≡ 64)
IsOuter room (b ∷ outer) ts = (us : List Word) × (vs : List Word) × (ts ≡ (us ++ vs) ++ Open ∷ []) × IsOuter (suc room) outer us × IsBefore (suc room) b vs

pub record IsInverted (room : ℕ) (f : Function) (ts : List Word) : Type 0 where
  pub bangs : ℕ
  pub atoms : List Word
  pub plain : Function
  pub whole : ts ≡ replicate bangs Bang ++ atoms
  pub value : f ≡ inverted bangs plain
  pub spelled : Spells room atom atoms plain

abbrev pub IsOperand : ℕ → Before → Option Function → List Word → Type 0
IsOperand room b None ts = ts ≡ []
IsOperand room b (Some f) ts = (b.bangs ≡ 0) × IsInverted room f ts

pub record IsRead (outer : List Before) (b : Before) (o : Option Function) (ts : List Word) : Type 0 where
  pub room : ℕ
  pub us : List Word
  pub vs : List Word
  pub ws : List Word
  pub whole : ts ≡ (us ++ vs) ++ ws
  pub outside : IsOuter room outer us
  pub inside : IsBefore room b vs
  pub last : IsOperand room b o ws

abbrev pub IsReadBy : Machine → List Word → Type 0
IsReadBy m ts = IsRead m.outer m.before m.operand ts

pub outer_room : (room : ℕ) (outer : List Before) (ts : List Word) → IsOuter room outer ts → room + length outer ≡ 64
outer_room room [] ts h = omega (arith, h.1)
outer_room room (b ∷ outer) ts h = let e = outer_room (suc room) outer h.0 h.3 in omega arith

replicate_last : {A : Type 0} (n : ℕ) (x : A) → replicate (suc n) x ≡ replicate n x ++ x ∷ []
replicate_last n x = let q : n + 1 ≡ suc n = omega arith in ap (λ k. replicate k x) (sym q) ∙ replicate_next n x

factor_inverted : (room n : ℕ) (ts : List Word) (f : Function) → Spells room atom ts f → Spells room factor (replicate n Bang ++ ts) (inverted n f)
factor_inverted room zero ts f h = one_atom h
factor_inverted room (suc n) ts f h = inverted_before (factor_inverted room n ts f h)

inverted-inverse : (n : ℕ) (f : Function) → inverse (inverted n f) ≡ inverted n (inverse f)
inverted-inverse zero f = refl
inverted-inverse (suc n) f = ap inverse (inverted-inverse n f)

at_words : {room : ℕ} {level : Level} {f : Function} (us vs : List Word) → us ≡ vs → Spells room level us f → Spells room level vs f
at_words {room} {level} {f} us vs e h = subst (λ k. Spells room level k f) e h

pub spells_factor : (room : ℕ) (f : Function) (ts : List Word) → IsInverted room f ts → Spells room factor ts f
spells_factor room f ts h = rw (h.whole, h.value) (factor_inverted room h.bangs h.atoms h.plain h.spelled)

spells_exclusive : (room : ℕ) (e : Option Function) (es ws : List Word) (f : Function) → IsWaiting room exclusive_sum Caret e es → Spells room factor ws f → Spells room exclusive_sum (es ++ ws) (joined exclusive e f)
spells_exclusive room None es ws f h s = rw h (one_factor s)
spells_exclusive room (Some g) es ws f h s = at_words (h.0 ++ Caret ∷ ws) (es ++ ws) (rw h.1 (sym (append_assoc h.0 (Caret ∷ []) ws))) (by_caret h.2 s)

product_by : (room : ℕ) (us ps ws : List Word) (f g : Function) → (ps ≡ us ++ And ∷ []) ⊎ (ps ≡ us) → Spells room product us g → Spells room exclusive_sum ws f → Spells room product (ps ++ ws) (both g f)
product_by room us ps ws f g (inl e) h s = at_words (us ++ And ∷ ws) (ps ++ ws) (rw e (sym (append_assoc us (And ∷ []) ws))) (by_and h s)
product_by room us ps ws f g (inr e) h s = rw e (side_by_side h s)

spells_product : (room : ℕ) (p : Option Function) (ps ws : List Word) (f : Function) → IsProduct room p ps → Spells room exclusive_sum ws f → Spells room product (ps ++ ws) (joined both p f)
spells_product room None ps ws f h s = rw h (one_exclusive_sum s)
spells_product room (Some g) ps ws f h s = product_by room h.0 ps ws f g h.1 h.2 s

spells_sum : (room : ℕ) (p : Option Function) (ss ws : List Word) (f : Function) → IsWaiting room sum Or p ss → Spells room product ws f → Spells room sum (ss ++ ws) (joined either p f)
spells_sum room None ss ws f h s = rw h (one_product s)
spells_sum room (Some g) ss ws f h s = at_words (h.0 ++ Or ∷ ws) (ss ++ ws) (rw h.1 (sym (append_assoc h.0 (Or ∷ []) ws))) (by_or h.2 s)

-- the product that an operand ends, behind the sums
part_product : (room : ℕ) (b : Before) (vs ws : List Word) (f : Function) (h : IsBefore room b vs) → IsOperand room b (Some f) ws → Spells room product (h.ps ++ (h.es ++ ws)) (product_of b f)
part_product room b vs ws f h o = spells_product room b.products h.ps (h.es ++ ws) (exclusive_of b f) h.products (spells_exclusive room b.exclusives h.es ws f h.exclusives (spells_factor room f ws o.1))

part_words : (room : ℕ) (b : Before) (vs ws : List Word) (h : IsBefore room b vs) → b.bangs ≡ 0 → vs ++ ws ≡ h.ss ++ (h.ps ++ (h.es ++ ws))
part_words room b vs ws h z = rw (h.whole, z) (simp (append_assoc, append-nil))

pub part_sum : (room : ℕ) (b : Before) (vs ws : List Word) (f : Function) → IsBefore room b vs → IsOperand room b (Some f) ws → Spells room sum (vs ++ ws) (sum_of b f)
part_sum room b vs ws f h o = rw (part_words room b vs ws h o.0) (spells_sum room b.sums h.ss (h.ps ++ (h.es ++ ws)) (product_of b f) h.sums (part_product room b vs ws f h o))

-- an atom after what has been read
reads_atom : (room : ℕ) (outer : List Before) (b : Before) (us vs zs : List Word) (g : Function) → IsOuter room outer us → IsBefore room b vs → Spells room atom zs g → IsReadBy (with_atom outer b g) ((us ++ vs) ++ zs)
reads_atom room outer b us vs zs g o h s = record {
  room = room;
  us = us;
  vs = (h.ss ++ h.ps) ++ h.es;
  ws = replicate b.bangs Bang ++ zs;
  whole = rw h.whole (simp append_assoc);
  outside = o;
  inside = record { ss = h.ss; ps = h.ps; es = h.es; whole = sym (append-nil ((h.ss ++ h.ps) ++ h.es)); sums = h.sums; products = h.products; exclusives = h.exclusives };
  last = (refl, record { bangs = b.bangs; atoms = zs; plain = g; whole = refl; value = refl; spelled = s });
}

-- the same at the list that it makes
at_read : (m : Machine) (ts us : List Word) → ts ≡ us → IsReadBy m ts → IsReadBy m us
at_read m ts us e h = subst (λ k. IsReadBy m k) e h

reads_plain : (outer : List Before) (b : Before) (ts zs : List Word) (g : Function) (r : IsRead outer b None ts) → Spells r.room atom zs g → IsReadBy (with_atom outer b g) (ts ++ zs)
reads_plain outer b ts zs g r s =
    at_read (with_atom outer b g) ((r.us ++ r.vs) ++ zs) (ts ++ zs) (rw (r.whole, r.last) (simp append-nil)) (reads_atom r.room outer b r.us r.vs zs g r.outside r.inside s)

reads_bang : (outer : List Before) (b : Before) (ts : List Word) → IsRead outer b None ts → IsRead outer (record { sums = b.sums; products = b.products; exclusives = b.exclusives; bangs = b.bangs + 1 }) None (ts ++ Bang ∷ [])
reads_bang outer b ts r = let h = r.inside in record {
  room = r.room;
  us = r.us;
  vs = r.vs ++ Bang ∷ [];
  ws = [];
  whole = rw (r.whole, r.last) (simp (append_assoc, append-nil));
  outside = r.outside;
  inside = record { ss = h.ss; ps = h.ps; es = h.es; whole = rw (h.whole, replicate_next b.bangs Bang) (simp append_assoc); sums = h.sums; products = h.products; exclusives = h.exclusives };
  last = refl;
}

room_of : (n k : ℕ) → n + k ≡ 64 → nat_lt k 64 ≡ true → (m : ℕ) × (n ≡ suc m)
room_of zero k e t = let h : k < 64 = grind (arith, nat_tests, t) in absurd (omega arith)
room_of (suc m) k e t = (m, refl)

nothing_before : (room : ℕ) → IsBefore room nothing []
nothing_before room = record { ss = []; ps = []; es = []; whole = refl; sums = refl; products = refl; exclusives = refl }

reads_open : (outer : List Before) (b : Before) (ts : List Word) → IsRead outer b None ts → nat_lt (length outer) 64 ≡ true → IsRead (b ∷ outer) nothing None (ts ++ Open ∷ [])
reads_open outer b ts r t =
    let s = room_of r.room (length outer) (outer_room r.room outer r.us r.outside) t in
    record {
      room = s.0;
      us = ts ++ Open ∷ [];
      vs = [];
      ws = [];
      whole = simp append-nil;
      outside = (r.us, r.vs, rw (r.whole, r.last) (simp append-nil), subst (λ k. IsOuter k outer r.us) s.1 r.outside, subst (λ k. IsBefore k b r.vs) s.1 r.inside);
      inside = nothing_before s.0;
      last = refl;
    }

at_next : (k m : Machine) (ts : List Word) → Some k ≡ Some m → IsReadBy k ts → IsReadBy m ts
at_next k m ts e h = let same : k ≡ m = cc in subst (λ j. IsReadBy j ts) same h

opens : (outer : List Before) (b : Before) (ts : List Word) (m : Machine) → IsRead outer b None ts → (t : Bool) → nat_lt (length outer) 64 ≡ t → (if t then (let k : Machine = record { outer = b ∷ outer; before = nothing; operand = None } in Some k) else None) ≡ Some m → IsReadBy m (ts ++ Open ∷ [])
opens outer b ts m r true t f = at_next _ m (ts ++ Open ∷ []) f (reads_open outer b ts r t)
opens outer b ts m r false t f = absurd (cc)

pub reads_wanting : (outer : List Before) (b : Before) (ts : List Word) (w : Word) (m : Machine) → IsRead outer b None ts → wanting outer b w ≡ Some m → IsReadBy m (ts ++ w ∷ [])
reads_wanting outer b ts Bang m r e = at_next _ m (ts ++ Bang ∷ []) e (reads_bang outer b ts r)
reads_wanting outer b ts Open m r e = opens outer b ts m r (nat_lt (length outer) 64) refl e
reads_wanting outer b ts Zero m r e = at_next _ m (ts ++ Zero ∷ []) e (reads_plain outer b ts (Zero ∷ []) (constant tern.Zero) r spells_zero)
reads_wanting outer b ts One m r e = at_next _ m (ts ++ One ∷ []) e (reads_plain outer b ts (One ∷ []) (constant tern.One) r spells_one)
reads_wanting outer b ts (Name n) m r e = at_next _ m (ts ++ Name n ∷ []) e (reads_plain outer b ts (Name n ∷ []) (name n) r spells_name)
reads_wanting outer b ts Quote m r e = absurd (cc)
reads_wanting outer b ts Caret m r e = absurd (cc)
reads_wanting outer b ts And m r e = absurd (cc)
reads_wanting outer b ts Or m r e = absurd (cc)
reads_wanting outer b ts Close m r e = absurd (cc)
reads_wanting outer b ts Other m r e = absurd (cc)

reads_quote : (outer : List Before) (b : Before) (f : Function) (ts : List Word) → IsRead outer b (Some f) ts → IsRead outer b (Some (inverse f)) (ts ++ Quote ∷ [])
reads_quote outer b f ts r = let i = r.last.1 in record {
  room = r.room;
  us = r.us;
  vs = r.vs;
  ws = r.ws ++ Quote ∷ [];
  whole = rw r.whole (append_assoc (r.us ++ r.vs) r.ws (Quote ∷ []));
  outside = r.outside;
  inside = r.inside;
  last = (
    r.last.0,
    record {
      bangs = i.bangs;
      atoms = i.atoms ++ Quote ∷ [];
      plain = inverse i.plain;
      whole = rw i.whole (append_assoc (replicate i.bangs Bang) i.atoms (Quote ∷ []));
      value = rw i.value (inverted-inverse i.bangs i.plain);
      spelled = inverted_after i.spelled;
    },
  );
}

reads_caret : (outer : List Before) (b : Before) (f : Function) (ts : List Word) → IsRead outer b (Some f) ts → IsRead outer (past_caret b f) None (ts ++ Caret ∷ [])
reads_caret outer b f ts r = let h = r.inside in record {
  room = r.room;
  us = r.us;
  vs = r.vs ++ (r.ws ++ Caret ∷ []);
  ws = [];
  whole = rw r.whole (simp (append_assoc, append-nil));
  outside = r.outside;
  inside = record {
    ss = h.ss;
    ps = h.ps;
    es = (h.es ++ r.ws) ++ Caret ∷ [];
    whole = rw (h.whole, r.last.0) (simp (append_assoc, append-nil));
    sums = h.sums;
    products = h.products;
    exclusives = (h.es ++ r.ws, refl, spells_exclusive r.room b.exclusives h.es r.ws f h.exclusives (spells_factor r.room f r.ws r.last.1));
  };
  last = refl;
}

reads_and : (outer : List Before) (b : Before) (f : Function) (ts : List Word) → IsRead outer b (Some f) ts → IsRead outer (past_and b f) None (ts ++ And ∷ [])
reads_and outer b f ts r = let h = r.inside in record {
  room = r.room;
  us = r.us;
  vs = r.vs ++ (r.ws ++ And ∷ []);
  ws = [];
  whole = rw r.whole (simp (append_assoc, append-nil));
  outside = r.outside;
  inside = record {
    ss = h.ss;
    ps = (h.ps ++ (h.es ++ r.ws)) ++ And ∷ [];
    es = [];
    whole = rw (h.whole, r.last.0) (simp (append_assoc, append-nil));
    sums = h.sums;
    products = (h.ps ++ (h.es ++ r.ws), inl refl, part_product r.room b r.vs r.ws f h r.last);
    exclusives = refl;
  };
  last = refl;
}

reads_beside : (outer : List Before) (b : Before) (f : Function) (ts : List Word) → IsRead outer b (Some f) ts → IsRead outer (past_and b f) None ts
reads_beside outer b f ts r = let h = r.inside in record {
  room = r.room;
  us = r.us;
  vs = r.vs ++ r.ws;
  ws = [];
  whole = rw r.whole (simp (append_assoc, append-nil));
  outside = r.outside;
  inside = record {
    ss = h.ss;
    ps = h.ps ++ (h.es ++ r.ws);
    es = [];
    whole = rw (h.whole, r.last.0) (simp (append_assoc, append-nil));
    sums = h.sums;
    products = (h.ps ++ (h.es ++ r.ws), inr refl, part_product r.room b r.vs r.ws f h r.last);
    exclusives = refl;
  };
  last = refl;
}

reads_or : (outer : List Before) (b : Before) (f : Function) (ts : List Word) → IsRead outer b (Some f) ts → IsRead outer (past_or b f) None (ts ++ Or ∷ [])
reads_or outer b f ts r = let h = r.inside in record {
  room = r.room;
  us = r.us;
  vs = r.vs ++ (r.ws ++ Or ∷ []);
  ws = [];
  whole = rw r.whole (simp (append_assoc, append-nil));
  outside = r.outside;
  inside = record {
    ss = (r.vs ++ r.ws) ++ Or ∷ [];
    ps = [];
    es = [];
    whole = rw r.last.0 (simp (append_assoc, append-nil));
    sums = (r.vs ++ r.ws, refl, part_sum r.room b r.vs r.ws f h r.last);
    products = refl;
    exclusives = refl;
  };
  last = refl;
}

reads_close : (outer : List Before) (c b : Before) (f : Function) (ts : List Word) → IsRead (c ∷ outer) b (Some f) ts → IsReadBy (with_atom outer c (sum_of b f)) (ts ++ Close ∷ [])
reads_close outer c b f ts r =
    let o = r.outside in
    let s = part_sum r.room b r.vs r.ws f r.inside r.last in
    at_read (with_atom outer c (sum_of b f)) ((o.0 ++ o.1) ++ (Open ∷ ((r.vs ++ r.ws) ++ Close ∷ []))) (ts ++ Close ∷ []) (rw (r.whole, o.2) (simp append_assoc))
    (reads_atom (suc r.room) outer c o.0 o.1 (Open ∷ ((r.vs ++ r.ws) ++ Close ∷ [])) (sum_of b f) o.3 o.4 (in_parentheses s))

reads_closing : (outer : List Before) (b : Before) (f : Function) (ts : List Word) (m : Machine) → IsRead outer b (Some f) ts → closing outer (sum_of b f) ≡ Some m → IsReadBy m (ts ++ Close ∷ [])
reads_closing [] b f ts m r e = absurd (cc)
reads_closing (c ∷ outer) b f ts m r e = at_next _ m (ts ++ Close ∷ []) e (reads_close outer c b f ts r)

reads_having : (outer : List Before) (b : Before) (f : Function) (ts : List Word) (w : Word) (m : Machine) → IsRead outer b (Some f) ts → having outer b f w ≡ Some m → IsReadBy m (ts ++ w ∷ [])
reads_having outer b f ts Quote m r e = at_next _ m (ts ++ Quote ∷ []) e (reads_quote outer b f ts r)
reads_having outer b f ts Caret m r e = at_next _ m (ts ++ Caret ∷ []) e (reads_caret outer b f ts r)
reads_having outer b f ts And m r e = at_next _ m (ts ++ And ∷ []) e (reads_and outer b f ts r)
reads_having outer b f ts Or m r e = at_next _ m (ts ++ Or ∷ []) e (reads_or outer b f ts r)
reads_having outer b f ts Close m r e = reads_closing outer b f ts m r e
reads_having outer b f ts Other m r e = absurd (cc)
reads_having outer b f ts Bang m r e = reads_wanting outer (past_and b f) ts Bang m (reads_beside outer b f ts r) e
reads_having outer b f ts Open m r e = reads_wanting outer (past_and b f) ts Open m (reads_beside outer b f ts r) e
reads_having outer b f ts Zero m r e = reads_wanting outer (past_and b f) ts Zero m (reads_beside outer b f ts r) e
reads_having outer b f ts One m r e = reads_wanting outer (past_and b f) ts One m (reads_beside outer b f ts r) e
reads_having outer b f ts (Name n) m r e = reads_wanting outer (past_and b f) ts (Name n) m (reads_beside outer b f ts r) e

reads_next : (outer : List Before) (b : Before) (o : Option Function) (ts : List Word) (w : Word) (m : Machine) → IsRead outer b o ts → next_by outer b o w ≡ Some m → IsReadBy m (ts ++ w ∷ [])
reads_next outer b None ts w m r e = reads_wanting outer b ts w m r e
reads_next outer b (Some f) ts w m r e = reads_having outer b f ts w m r e

run_by : (ts ws : List Word) (w : Word) (m : Machine) (o : Option Machine) → ((k : Machine) → o ≡ Some k → IsReadBy k (ts ++ w ∷ [])) → ((k : Machine) → IsReadBy k (ts ++ w ∷ []) → run k ws ≡ Some m → IsReadBy m ((ts ++ w ∷ []) ++ ws)) → then_run o (λ k. run k ws) ≡ Some m → IsReadBy m (ts ++ w ∷ ws)
run_by ts ws w m None now more e = absurd (cc)
run_by ts ws w m (Some k) now more e = at_read m ((ts ++ w ∷ []) ++ ws) (ts ++ w ∷ ws) (append_assoc ts (w ∷ []) ws) (more k (now k refl) e)

-- what the machine has read is spelled by its parts
pub reads_run : (ws ts : List Word) (k m : Machine) → IsReadBy k ts → run k ws ≡ Some m → IsReadBy m (ts ++ ws)
unfolding run next
reads_run [] ts k m r e = let same : k ≡ m = cc in subst (λ j. IsReadBy j (ts ++ [])) same (at_read k ts (ts ++ []) (sym (append-nil ts)) r)
reads_run (w ∷ ws) ts k m r e = run_by ts ws w m (next_by k.outer k.before k.operand w) (λ j f. reads_next k.outer k.before k.operand ts w j r f) (λ j s f. reads_run ws (ts ++ w ∷ []) j m s f) e

begin_read : IsReadBy begin []
begin_read = record { room = 64; us = []; vs = []; ws = []; whole = refl; outside = (refl, refl); inside = nothing_before 64; last = refl }

pub reads_from_begin : (ws : List Word) (m : Machine) → run begin ws ≡ Some m → IsReadBy m ws
reads_from_begin ws m e = reads_run ws [] begin m begin_read e

-- at its end it has read a whole function
pub reads_whole : (b : Before) (f : Function) (ts : List Word) → IsRead [] b (Some f) ts → Spells 64 sum ts (sum_of b f)
reads_whole b f ts r =
    let s = part_sum r.room b r.vs r.ws f r.inside r.last in
    let e : r.vs ++ r.ws ≡ ts = rw (r.whole, r.outside.0) refl in
    subst (λ n. Spells n sum ts (sum_of b f)) r.outside.1 (at_words (r.vs ++ r.ws) ts e s)

-- the parentheses that are open, closed
abbrev pub closers : List Before → List Word
closers [] = []
closers (b ∷ outer) = Close ∷ closers outer

abbrev pub ending : List Before → Option Function → List Word
ending outer None = Zero ∷ closers outer
ending outer (Some f) = closers outer

pub record EndsFrom (m : Machine) (ws : List Word) : Type 0 where
  pub before : Before
  pub function : Function
  pub comes : let e : Machine = record { outer = []; before = before; operand = Some function } in run m ws ≡ Some e

closes : (outer : List Before) (b : Before) (f : Function) → let m : Machine = record { outer = outer; before = b; operand = Some f } in EndsFrom m (closers outer)
unfolding run next
closes [] b f = record { before = b; function = f; comes = refl }
closes (c ∷ outer) b f = let r = closes outer (record { sums = c.sums; products = c.products; exclusives = c.exclusives; bangs = 0 }) (inverted c.bangs (sum_of b f)) in record { before = r.before; function = r.function; comes = r.comes }

pub ends : (outer : List Before) (b : Before) (o : Option Function) → let m : Machine = record { outer = outer; before = b; operand = o } in EndsFrom m (ending outer o)
unfolding run next
ends outer b (Some f) = closes outer b f
ends outer b None = let r = closes outer (record { sums = b.sums; products = b.products; exclusives = b.exclusives; bangs = 0 }) (inverted b.bangs (constant tern.Zero)) in record { before = r.before; function = r.function; comes = r.comes }
