use Rattle.std.proofs.Common.{◌≡◌, ℕ, ◌<◌, true, List, length, Option, sym, ◌∙◌, ap, subst, arith, rules}
use Rattle.std.specs.Prelude.{sum_by, MatchOption}
use Rattle.gate_settle.specs.declared.gate.Gate.{Gate}
use Rattle.gate_settle.specs.Order.{is_ordered, known_at_first, known_after, none_ready, DependsOn}
use Rattle.gate_settle.specs.Reach.{AreWithin}
use Rattle.gate_settle.specs.Settled.{have_own_states}
use Rattle.gate_settle.specs.Connecting.{HaveOneDriver, HaveNoLoop}
use Rattle.gate_settle.proofs.Moving.{own_arranged}
use Rattle.gate_settle.proofs.Loops.{depends_same}
use Rattle.gate_settle.proofs.Joining.{whole, ordered_whole, no_loop_whole, within_same, no_loop_same, waiting_loop}
use Rattle.gate_settle.proofs.connecting.connect.Goals as goal

pub arrange-requires : goal.arrange-requires
arrange-requires c =
    let nets : c.len-nets.result ≡ length c.args.given = search rules in
    let one : HaveOneDriver c.args.given c.args.gates.items (length c.args.given) = search rules in
    record {
      within = subst (AreWithin c.args.gates.items) (sym nets) c.requires.within;
      drivers = λ k lt. let h = one k (omega (arith, nets)) in omega (arith, h);
    }

pub invariant_of-result : goal.invariant_of-result
invariant_of-result c =
    let sorted : List Gate = c.in_ok-arranged.arranged.sorted.items in
    let all : List Gate = c.args.gates.items in
    let nets : c.len-nets.result ≡ length c.args.given = search rules in
    let empty : length c.in_ok-arranged.arranged.waiting.items ≡ 0 = search rules in
    let same : (f : Gate → ℕ) → sum_by f sorted ≡ sum_by f all = whole sorted c.in_ok-arranged.arranged.waiting.items all (λ f. c.in_ok-arranged.ensures.gates f) empty in
    let ordered : is_ordered (known_at_first (length c.args.given) all) sorted ≡ true = subst (λ n. is_ordered (known_at_first n all) sorted ≡ true) nets c.in_ok-arranged.ensures.ordered in
    let is : c.from_vec-gates.result ≡ sorted = search rules in (
      subst (λ gs. is_ordered (known_at_first (length c.args.given) gs) gs ≡ true) (sym is) (ordered_whole (length c.args.given) sorted all same ordered),
      subst (λ gs. have_own_states (length c.args.state_nets) gs ≡ true) (sym is) (own_arranged (length c.args.state_nets) sorted all same c.requires.states),
      c.requires.nets,
    )

pub returns-then-len-eq0-clause-connected : goal.returns-then-len-eq0-clause-connected
returns-then-len-eq0-clause-connected c =
    let sorted : List Gate = c.in_ok-arranged.arranged.sorted.items in
    let all : List Gate = c.args.gates.items in
    let nets : c.len-nets.result ≡ length c.args.given = search rules in
    let empty : length c.in_ok-arranged.arranged.waiting.items ≡ 0 = search rules in
    let same : (f : Gate → ℕ) → sum_by f sorted ≡ sum_by f all = whole sorted c.in_ok-arranged.arranged.waiting.items all (λ f. c.in_ok-arranged.ensures.gates f) empty in
    let ordered : is_ordered (known_at_first (length c.args.given) all) sorted ≡ true = subst (λ n. is_ordered (known_at_first n all) sorted ≡ true) nets c.in_ok-arranged.ensures.ordered in
    let is : c.from_vec-gates.result ≡ sorted = search rules in
    record {
      same_given = search rules;
      same_tables = search rules;
      same_gates = λ f. ap (sum_by f) is ∙ same f;
      same_states = search rules;
      one_driver = search rules;
      no_loop = no_loop_whole (length c.args.given) sorted all same ordered;
    }

pub first_loop-requires : goal.first_loop-requires
first_loop-requires c =
    let nets : c.len-nets.result ≡ length c.args.given = search rules in
    let all : c.deref-2.result.now ≡ c.in_ok-all.all.items = search rules in
    let same : (f : Gate → ℕ) → sum_by f c.deref-2.result.now ≡ sum_by f c.args.gates.items = λ f. ap (sum_by f) all ∙ c.in_ok-all.ensures f ∙ c.in_ok-arranged.ensures.gates f in
    subst (AreWithin c.deref-2.result.now) (sym nets) (within_same (length c.args.given) c.deref-2.result.now c.args.gates.items same c.requires.within)

pub unreachable-requires : goal.unreachable-requires
unreachable-requires c =
    let nets : c.len-nets.result ≡ length c.args.given = search rules in
    let all : c.deref-2.result.now ≡ c.in_ok-all.all.items = search rules in
    let same : (f : Gate → ℕ) → sum_by f c.deref-2.result.now ≡ sum_by f c.args.gates.items = λ f. ap (sum_by f) all ∙ c.in_ok-all.ensures f ∙ c.in_ok-arranged.ensures.gates f in
    let found : HaveNoLoop c.deref-2.result.now c.len-nets.result = subst (λ (o : Option ℕ). MatchOption o (HaveNoLoop c.deref-2.result.now c.len-nets.result) (λ n. (n < c.len-nets.result) × DependsOn c.deref-2.result.now n n × ((k : ℕ) → k < n → DependsOn c.deref-2.result.now k k → ⊥))) c.in-None.is c.in_ok-net.ensures in
    let none : HaveNoLoop c.args.gates.items (length c.args.given) = subst (HaveNoLoop c.args.gates.items) nets (no_loop_same c.len-nets.result c.deref-2.result.now c.args.gates.items same found) in
    let stuck : none_ready (known_after c.in_ok-arranged.arranged.sorted.items true (known_at_first (length c.args.given) c.args.gates.items)) c.in_ok-arranged.arranged.waiting.items ≡ true = subst (λ n. none_ready (known_after c.in_ok-arranged.arranged.sorted.items true (known_at_first n c.args.gates.items)) c.in_ok-arranged.arranged.waiting.items ≡ true) nets c.in_ok-arranged.ensures.stuck in
    let one : HaveOneDriver c.args.given c.args.gates.items (length c.args.given) = search rules in
    waiting_loop c.args.given c.args.gates.items c.in_ok-arranged.arranged.sorted.items c.in_ok-arranged.arranged.waiting.items (λ f. c.in_ok-arranged.ensures.gates f) stuck c.requires.within one (search rules) none

pub returns-clause-refused : goal.returns-clause-refused
returns-clause-refused c =
    let nets : c.len-nets.result ≡ length c.args.given = search rules in
    let all : c.deref-2.result.now ≡ c.in_ok-all.all.items = search rules in
    let same : (f : Gate → ℕ) → sum_by f c.deref-2.result.now ≡ sum_by f c.args.gates.items = λ f. ap (sum_by f) all ∙ c.in_ok-all.ensures f ∙ c.in_ok-arranged.ensures.gates f in
    let one : HaveOneDriver c.args.given c.args.gates.items (length c.args.given) = search rules in
    let found = subst (λ (o : Option ℕ). MatchOption o (HaveNoLoop c.deref-2.result.now c.len-nets.result) (λ n. (n < c.len-nets.result) × DependsOn c.deref-2.result.now n n × ((k : ℕ) → k < n → DependsOn c.deref-2.result.now k k → ⊥))) c.in-Some.is c.in_ok-net.ensures in
    (one, subst (λ m. c.in-Some.net < m) nets found.0, depends_same c.deref-2.result.now c.args.gates.items same c.in-Some.net c.in-Some.net found.1, no_loop_same c.in-Some.net c.deref-2.result.now c.args.gates.items same found.2)
