-- The machine reads whatever is spelled, to the tree that is spelled.
use Rattle.std.proofs.Common.{◌≡◌, ℕ, zero, suc, ◌+◌, refl, ◌∙◌, ap, arith, Bool, true, false, List, [], ◌∷◌, ◌++◌, length, Option, Some, None, nat_lt}
use Rattle.std.proofs.lemmas.Bool.Decides.{nat_tests}
use Rattle.liberty_function.specs.declared.words.Word.{Word}
use Rattle.liberty_function.specs.declared.words.Word.TheVariants.{Quote, Bang, Caret, And, Or, Open, Close, Zero, One, Name, Other}
use Rattle.liberty_function.specs.Function.{Function, inverse, exclusive, both, either, Level, atom, factor, exclusive_sum, product, sum, Spells, spells_zero, spells_one, spells_name, in_parentheses, inverted_after, one_atom, inverted_before, one_factor, by_caret, one_exclusive_sum, by_and, side_by_side, one_product, by_or}
use Rattle.liberty_function.proofs.Machine.{Before, Machine, inverted, joined, sum_of, next, next_by, wanting, having, with_atom, past_and, run, then_run, run-append}

abbrev pub at : List Before → Option Function → Option Function → Option Function → Option Function → Machine
at outer s p e o = record { outer = outer; before = record { sums = s; products = p; exclusives = e; bangs = 0 }; operand = o }

abbrev pub wants : List Before → Before → Machine
wants outer b = record { outer = outer; before = b; operand = None }

abbrev pub GoesAtom : ℕ → List Word → Function → Type 0
GoesAtom room ts f = (outer : List Before) (b : Before) → room + length outer ≡ 64 → run (wants outer b) ts ≡ Some (with_atom outer b f)

pub record EndsExclusive (outer : List Before) (s p : Option Function) (ts : List Word) (f : Function) : Type 0 where
  pub e : Option Function
  pub g : Function
  pub comes : run (at outer s p None None) ts ≡ Some (at outer s p e (Some g))
  pub value : joined exclusive e g ≡ f

pub record EndsProduct (outer : List Before) (s : Option Function) (ts : List Word) (f : Function) : Type 0 where
  pub p : Option Function
  pub e : Option Function
  pub g : Function
  pub comes : run (at outer s None None None) ts ≡ Some (at outer s p e (Some g))
  pub value : joined both p (joined exclusive e g) ≡ f

pub record EndsSum (outer : List Before) (ts : List Word) (f : Function) : Type 0 where
  pub s : Option Function
  pub p : Option Function
  pub e : Option Function
  pub g : Function
  pub comes : run (at outer None None None None) ts ≡ Some (at outer s p e (Some g))
  pub value : joined either s (joined both p (joined exclusive e g)) ≡ f

abbrev pub Goes : ℕ → Level → List Word → Function → Type 0
Goes room atom ts f = GoesAtom room ts f
Goes room factor ts f = GoesAtom room ts f
Goes room exclusive_sum ts f = (outer : List Before) (s p : Option Function) → room + length outer ≡ 64 → EndsExclusive outer s p ts f
Goes room product ts f = (outer : List Before) (s : Option Function) → room + length outer ≡ 64 → EndsProduct outer s ts f
Goes room sum ts f = (outer : List Before) → room + length outer ≡ 64 → EndsSum outer ts f

-- the words that begin an operand
abbrev pub is_start : Word → Bool
is_start Bang = true
is_start Open = true
is_start Zero = true
is_start One = true
is_start (Name n) = true
is_start Quote = false
is_start Caret = false
is_start And = false
is_start Or = false
is_start Close = false
is_start Other = false

abbrev pub Begins : List Word → Type 0
Begins ts = (w : Word) × (ws : List Word) × (ts ≡ w ∷ ws) × (is_start w ≡ true)

begins_more : (ts us : List Word) → Begins ts → Begins (ts ++ us)
begins_more ts us h = (h.0, h.1 ++ us, ap (λ k. k ++ us) h.2, h.3)

begins : {room : ℕ} {level : Level} {ts : List Word} {f : Function} → Spells room level ts f → Begins ts
begins spells_zero = (Zero, [], refl, refl)
begins spells_one = (One, [], refl, refl)
begins (spells_name {n = n}) = (Name n, [], refl, refl)
begins (in_parentheses {ts = ts} h) = (Open, ts ++ Close ∷ [], refl, refl)
begins (inverted_after {ts = ts} h) = begins_more ts (Quote ∷ []) (begins h)
begins (one_atom h) = begins h
begins (inverted_before {ts = ts} h) = (Bang, ts, refl, refl)
begins (one_factor h) = begins h
begins (by_caret {ts = ts} {us = us} h k) = begins_more ts (Caret ∷ us) (begins h)
begins (one_exclusive_sum h) = begins h
begins (by_and {ts = ts} {us = us} h k) = begins_more ts (And ∷ us) (begins h)
begins (side_by_side {ts = ts} {us = us} h k) = begins_more ts us (begins h)
begins (one_product h) = begins h
begins (by_or {ts = ts} {us = us} h k) = begins_more ts (Or ∷ us) (begins h)

start_same : (outer : List Before) (b : Before) (f : Function) (w : Word) → is_start w ≡ true → having outer b f w ≡ wanting outer (past_and b f) w
start_same outer b f Bang h = refl
start_same outer b f Open h = refl
start_same outer b f Zero h = refl
start_same outer b f One h = refl
start_same outer b f (Name n) h = refl
start_same outer b f Quote h = absurd (cc)
start_same outer b f Caret h = absurd (cc)
start_same outer b f And h = absurd (cc)
start_same outer b f Or h = absurd (cc)
start_same outer b f Close h = absurd (cc)
start_same outer b f Other h = absurd (cc)

run_start : (outer : List Before) (b : Before) (f : Function) (ts : List Word) → Begins ts → let m : Machine = record { outer = outer; before = b; operand = Some f } in run m ts ≡ run (wants outer (past_and b f)) ts
unfolding run next
run_start outer b f ts h = rw h.2 (ap (λ k. then_run k (λ j. run j h.1)) (start_same outer b f h.0 h.3))

run_then : (m k : Machine) (us vs : List Word) (o : Option Machine) → run m us ≡ Some k → run k vs ≡ o → run m (us ++ vs) ≡ o
run_then m k us vs o e f = run-append us vs m ∙ (rw e f)

run_next : (m k : Machine) (w : Word) (ws : List Word) (o : Option Machine) → next_by m.outer m.before m.operand w ≡ Some k → run k ws ≡ o → run m (w ∷ ws) ≡ o
unfolding run next
run_next m k w ws o e f = rw e f

run_one : (m k : Machine) (w : Word) → next_by m.outer m.before m.operand w ≡ Some k → run m (w ∷ []) ≡ Some k
unfolding run next
run_one m k w e = rw e refl

inverted-inverse : (n : ℕ) (f : Function) → inverse (inverted n f) ≡ inverted n (inverse f)
inverted-inverse zero f = refl
inverted-inverse (suc n) f = ap inverse (inverted-inverse n f)

goes_quote : (room : ℕ) (ts : List Word) (f : Function) → GoesAtom room ts f → GoesAtom room (ts ++ Quote ∷ []) (inverse f)
goes_quote room ts f more outer b h =
    run_then (wants outer b) (with_atom outer b f) ts (Quote ∷ []) _ (more outer b h)
    (run_one (with_atom outer b f) (with_atom outer b (inverse f)) Quote
    (ap (λ k. let m : Machine = record { outer = outer; before = record { sums = b.sums; products = b.products; exclusives = b.exclusives; bangs = 0 }; operand = Some k } in Some m) (inverted-inverse b.bangs f)))

goes_bang : (room : ℕ) (ts : List Word) (f : Function) → GoesAtom room ts f → GoesAtom room (Bang ∷ ts) (inverse f)
goes_bang room ts f more outer b h =
    let c : Before = record { sums = b.sums; products = b.products; exclusives = b.exclusives; bangs = b.bangs + 1 } in
    let q : b.bangs + 1 ≡ suc b.bangs = omega arith in
    run_next (wants outer b) (wants outer c) Bang ts _ refl
    (more outer c h ∙ ap (λ n. let m : Machine = record { outer = outer; before = record { sums = b.sums; products = b.products; exclusives = b.exclusives; bangs = 0 }; operand = Some (inverted n f) } in Some m) q
    ∙ ap (λ k. let m : Machine = record { outer = outer; before = record { sums = b.sums; products = b.products; exclusives = b.exclusives; bangs = 0 }; operand = Some k } in Some m) (inverted-inverse b.bangs f))

goes_open : (room : ℕ) (ts : List Word) (f : Function) → ((outer : List Before) → room + length outer ≡ 64 → EndsSum outer ts f) → GoesAtom (suc room) (Open ∷ (ts ++ Close ∷ [])) f
goes_open room ts f more outer b h =
    let r = more (b ∷ outer) (omega arith) in
    let t : nat_lt (length outer) 64 ≡ true = grind (arith, nat_tests) in
    let o : next_by outer b None Open ≡ Some (at (b ∷ outer) None None None None) = rw t refl in
    let c : Before = record { sums = r.s; products = r.p; exclusives = r.e; bangs = 0 } in
    let z : run (at (b ∷ outer) r.s r.p r.e (Some r.g)) (Close ∷ []) ≡ Some (with_atom outer b (sum_of c r.g)) = run_one (at (b ∷ outer) r.s r.p r.e (Some r.g)) (with_atom outer b (sum_of c r.g)) Close refl in
    run_next (wants outer b) (at (b ∷ outer) None None None None) Open (ts ++ Close ∷ []) _ o
    (run_then (at (b ∷ outer) None None None None) (at (b ∷ outer) r.s r.p r.e (Some r.g)) ts (Close ∷ []) _ r.comes
    (z ∙ ap (λ k. Some (with_atom outer b k)) r.value))

goes_caret : (room : ℕ) (ts us : List Word) (f g : Function) → Goes room exclusive_sum ts f → GoesAtom room us g → Goes room exclusive_sum (ts ++ Caret ∷ us) (exclusive f g)
goes_caret room ts us f g left right outer s p h =
    let l = left outer s p h in
    let m = at outer s p l.e (Some l.g) in
    let k = at outer s p (Some f) None in
    let n : next_by m.outer m.before m.operand Caret ≡ Some k = ap (λ j. Some (at outer s p (Some j) None)) l.value in
    record {
      e = Some f;
      g = g;
      comes = run_then (at outer s p None None) m ts (Caret ∷ us) _ l.comes (run_next m k Caret us _ n (right outer k.before h));
      value = refl;
    }

goes_and : (room : ℕ) (ts us : List Word) (f g : Function) → Goes room product ts f → Goes room exclusive_sum us g → Goes room product (ts ++ And ∷ us) (both f g)
goes_and room ts us f g left right outer s h =
    let l = left outer s h in
    let r = right outer s (Some f) h in
    let m = at outer s l.p l.e (Some l.g) in
    let k = at outer s (Some f) None None in
    let n : next_by m.outer m.before m.operand And ≡ Some k = ap (λ j. Some (at outer s (Some j) None None)) l.value in
    record {
      p = Some f;
      e = r.e;
      g = r.g;
      comes = run_then (at outer s None None None) m ts (And ∷ us) _ l.comes (run_next m k And us _ n r.comes);
      value = ap (λ j. both f j) r.value;
    }

goes_beside : (room : ℕ) (ts us : List Word) (f g : Function) → Begins us → Goes room product ts f → Goes room exclusive_sum us g → Goes room product (ts ++ us) (both f g)
goes_beside room ts us f g starts left right outer s h =
    let l = left outer s h in
    let r = right outer s (Some f) h in
    let m = at outer s l.p l.e (Some l.g) in
    let n : run m us ≡ run (at outer s (Some f) None None) us = run_start outer m.before l.g us starts ∙ ap (λ j. run (at outer s (Some j) None None) us) l.value in
    record {
      p = Some f;
      e = r.e;
      g = r.g;
      comes = run_then (at outer s None None None) m ts us _ l.comes (n ∙ r.comes);
      value = ap (λ j. both f j) r.value;
    }

goes_or : (room : ℕ) (ts us : List Word) (f g : Function) → Goes room sum ts f → Goes room product us g → Goes room sum (ts ++ Or ∷ us) (either f g)
goes_or room ts us f g left right outer h =
    let l = left outer h in
    let r = right outer (Some f) h in
    let m = at outer l.s l.p l.e (Some l.g) in
    let k = at outer (Some f) None None None in
    let n : next_by m.outer m.before m.operand Or ≡ Some k = ap (λ j. Some (at outer (Some j) None None None)) l.value in
    record {
      s = Some f;
      p = r.p;
      e = r.e;
      g = r.g;
      comes = run_then (at outer None None None None) m ts (Or ∷ us) _ l.comes (run_next m k Or us _ n r.comes);
      value = ap (λ j. either f j) r.value;
    }

goes_factor : (room : ℕ) (ts : List Word) (f : Function) → GoesAtom room ts f → Goes room exclusive_sum ts f
goes_factor room ts f more outer s p h = record { e = None; g = f; comes = more outer (record { sums = s; products = p; exclusives = None; bangs = 0 }) h; value = refl }

goes_product : (room : ℕ) (ts : List Word) (f : Function) → Goes room exclusive_sum ts f → Goes room product ts f
goes_product room ts f more outer s h = let r = more outer s None h in record { p = None; e = r.e; g = r.g; comes = r.comes; value = r.value }

goes_sum : (room : ℕ) (ts : List Word) (f : Function) → Goes room product ts f → Goes room sum ts f
goes_sum room ts f more outer h = let r = more outer None h in record { s = None; p = r.p; e = r.e; g = r.g; comes = r.comes; value = r.value }

pub goes : {room : ℕ} {level : Level} {ts : List Word} {f : Function} → Spells room level ts f → Goes room level ts f
goes spells_zero = λ outer b h. run_one (wants outer b) _ Zero refl
goes spells_one = λ outer b h. run_one (wants outer b) _ One refl
goes (spells_name {n = n}) = λ outer b h. run_one (wants outer b) _ (Name n) refl
goes (in_parentheses {room = room} {ts = ts} {f = f} h) = goes_open room ts f (goes h)
goes (inverted_after {room = room} {ts = ts} {f = f} h) = goes_quote room ts f (goes h)
goes (one_atom h) = goes h
goes (inverted_before {room = room} {ts = ts} {f = f} h) = goes_bang room ts f (goes h)
goes (one_factor {room = room} {ts = ts} {f = f} h) = goes_factor room ts f (goes h)
goes (by_caret {room = room} {ts = ts} {us = us} {f = f} {g = g} h k) = goes_caret room ts us f g (goes h) (goes k)
goes (one_exclusive_sum {room = room} {ts = ts} {f = f} h) = goes_product room ts f (goes h)
goes (by_and {room = room} {ts = ts} {us = us} {f = f} {g = g} h k) = goes_and room ts us f g (goes h) (goes k)
goes (side_by_side {room = room} {ts = ts} {us = us} {f = f} {g = g} h k) = goes_beside room ts us f g (begins k) (goes h) (goes k)
goes (one_product {room = room} {ts = ts} {f = f} h) = goes_sum room ts f (goes h)
goes (by_or {room = room} {ts = ts} {us = us} {f = f} {g = g} h k) = goes_or room ts us f g (goes h) (goes k)
