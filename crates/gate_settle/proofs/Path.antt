-- What each step of the search along one path keeps.
use Rattle.std.proofs.Common.{◌≡◌, ℕ, suc, zero, ◌+◌, ◌<◌, ◌≤◌, ◌≢◌, ◌⊎◌, inl, inr, Bool, true, false, List, [], ◌∷◌, ◌++◌, length, refl, sym, ◌∙◌, ap, subst, length-append, append_assoc, arith}
use Rattle.std.specs.Prelude.{◌==◌, ◌&&◌, ◌||◌, slice_set, slice_index_or}
use Rattle.std.proofs.lemmas.List.{append-nil}
use Rattle.std.proofs.lemmas.List.Sums.{sum_by-cons, sum_by-append}
use Rattle.std.proofs.Math.ListN.{length-set}
use Rattle.gate_settle.specs.declared.reach.Visit.{Visit}
use Rattle.gate_settle.specs.declared.reach.Visit.TheVariants.{New, OnPath, Done}
use Rattle.gate_settle.specs.Gates.{is_among}
use Rattle.gate_settle.specs.Search.{is_edge, Reaches, by_edge, by_edges, Meets, visit_at, is_new, is_done, done_with, Piece, IsJoin, some_in, IsUnder, IsPiece, ArePieces, IsSearch, energy}
use Rattle.gate_settle.proofs.Settling.{both, eq_self, same_of, at_place}
use Rattle.gate_settle.proofs.Sorting.{each}
use Rattle.gate_settle.proofs.Loops.{either, first_true, second_true}
use Rattle.gate_settle.proofs.Search.{by_first, by_second, by_third, by_fourth, four, or_none, among_left, among_cases, last_in, one_in, some_left, some_right, some_cases, some_swap, under_swap, under_last, visit_within, new_within, keeps_done, other_visit, told_visit, done_long, met_here, less_new, met_new, done_weight, met_weight}

same_number : (a b : ℕ) → OnPath a ≡ OnPath b → a ≡ b
same_number a b h = cc

same_answer : (a b : Bool) → Done a ≡ Done b → a ≡ b
same_answer a b h = cc

not_both : (v : Visit) (n : ℕ) → v ≡ OnPath n → is_done v ≡ true → ⊥
not_both v n h d = let e : is_done (OnPath n) ≡ true = subst (λ x. is_done x ≡ true) h d in cc

not_new : (v : Visit) (n : ℕ) → v ≡ OnPath n → is_new v ≡ true → ⊥
not_new v n h d = let e : is_new (OnPath n) ≡ true = subst (λ x. is_new x ≡ true) h d in cc

is_told_done : (v : Visit) (b : Bool) → v ≡ Done b → is_done v ≡ true
is_told_done v b h = subst (λ x. is_done x ≡ true) (sym h) refl

never : (b : Bool) → b ≡ true → b ≡ false → ⊥
never b h k = cc

-- what follows from each way in which an edge is accounted for
relay : (d a l s : Bool) (X : Type 0) → (d ≡ true → X) → (a ≡ true → X) → (l ≡ true → X) → (s ≡ true → X) → (d || (a || (l || s))) ≡ true → X
relay d a l s X f g h k e = elim (four d a l s e) [
  | inl x ↦ f x
  | inr r ↦ elim r [
    | inl y ↦ g y
    | inr q ↦ elim q [ inl z ↦ h z | inr w ↦ k w ]
  ]
]

-- a piece with less ahead
abbrev pub less : Piece → List ℕ → Bool → Piece
less t rest on_loop = record { first = t.first; nets = t.nets; ahead = rest; on_loop = on_loop }

-- a piece of one net
abbrev pub single : List (List ℕ) → ℕ → ℕ → Piece
single rows w m = record { first = m; nets = w ∷ []; ahead = slice_index_or rows w []; on_loop = false }

module _ (rows : List (List ℕ)) where
  reaches_on : {a b c : ℕ} → Reaches rows a b → Reaches rows b c → Reaches rows a c
  reaches_on (by_edge e) k = by_edges e k
  reaches_on (by_edges e h) k = by_edges e (reaches_on h k)

  meets_edge : {a c w : ℕ} → Meets rows a c → is_edge rows c w ≡ true → Reaches rows a w
  meets_edge {a} {c} {w} m e = elim m [
    | inl s ↦ by_edge (subst (λ n. is_edge rows n w ≡ true) (sym s) e)
    | inr r ↦ reaches_on r (by_edge e)
  ]

  reaches_meets : {a w v : ℕ} → Reaches rows a w → Meets rows w v → Reaches rows a v
  reaches_meets {a} {w} {v} r m = elim m [
    | inl s ↦ subst (Reaches rows a) s r
    | inr k ↦ reaches_on r k
  ]

  -- ---- pieces

  swapped : (vs vs' : List Visit) (m m' : ℕ) (ps xs ys : List Piece) → ((p : Piece) (qs : List Piece) → IsPiece rows vs m p (qs ++ xs) → IsPiece rows vs' m' p (qs ++ ys)) → ArePieces rows vs' m' ys → ArePieces rows vs m (ps ++ xs) → ArePieces rows vs' m' (ps ++ ys)
  swapped vs vs' m m' [] xs ys f y h = y
  swapped vs vs' m m' (p ∷ ps) xs ys f y h = (f p ps h.0, swapped vs vs' m m' ps xs ys f y h.1)

  back_of : (vs : List Visit) (m : ℕ) (ps xs : List Piece) → ArePieces rows vs m (ps ++ xs) → ArePieces rows vs m xs
  back_of vs m [] xs h = h
  back_of vs m (p ∷ ps) xs h = back_of vs m ps xs h.1

  -- what is lower meets what is above it
  linked_up : (vs : List Visit) (m : ℕ) (ps xs : List Piece) (u v : ℕ) → ArePieces rows vs m (ps ++ xs) → some_in ps u ≡ true → some_in xs v ≡ true → Meets rows u v
  linked_up vs m [] xs u v h i j = absurd (never (some_in [] u) i refl)
  linked_up vs m (p ∷ ps) xs u v h i j = elim (either (is_among p.nets u) (some_in ps u) i) [
    | inl a ↦ h.0.linked u v a (second_true (is_among p.nets v) (some_in (ps ++ xs) v) (some_right ps xs v j))
    | inr b ↦ linked_up vs m ps xs u v h.1 b j
  ]

  -- what is lower was met before the top
  lower_before : (vs : List Visit) (m : ℕ) (ps : List Piece) (t : Piece) (v n : ℕ) → ArePieces rows vs m (ps ++ t ∷ []) → some_in ps v ≡ true → visit_at vs v ≡ OnPath n → n < t.first
  lower_before vs m [] t v n h i e = absurd (never (some_in [] v) i refl)
  lower_before vs m (p ∷ ps) t v n h i e = elim (either (is_among p.nets v) (some_in ps v) i) [
    | inl a ↦
        let q = h.0.numbered v a in
        let same : n ≡ q.0 = same_number n q.0 (sym e ∙ q.1) in
        let lt : q.0 < t.first = under_last q.0 m ps t q.3 in omega (arith, same, lt)
    | inr b ↦ lower_before vs m ps t v n h.1 b e
  ]

  -- a net of the top isn't in a piece below it
  apart_from : (vs : List Visit) (m : ℕ) (p t : Piece) (qs : List Piece) (v : ℕ) → IsPiece rows vs m p (qs ++ t ∷ []) → IsPiece rows vs m t [] → is_among p.nets v ≡ true → is_among t.nets v ≡ false
  apart_from vs m p t qs v h k i = elim (is_among t.nets v) as (λ b. is_among t.nets v ≡ b → is_among t.nets v ≡ false) [
    | true ↦ λ e.
        let a = h.numbered v i in
        let b = k.numbered v e in
        let same : a.0 ≡ b.0 = same_number a.0 b.0 (sym a.1 ∙ b.1) in
        let lt : a.0 < t.first = under_last a.0 m qs t a.3 in
        let le : t.first ≤ b.0 = b.2 in
        absurd (omega (arith, same, lt, le))
    | false ↦ λ e. e
  ] refl

  -- ---- the top is taken off

  module _ (vs : List Visit) (m : ℕ) (ps : List Piece) (t : Piece) (none : t.ahead ≡ []) (s : IsSearch rows vs m (ps ++ t ∷ [])) where
    top : IsPiece rows vs m t []
    top = (back_of vs m ps (t ∷ []) s.path).0

    told : (v : ℕ) → is_among t.nets v ≡ true → visit_at (done_with t.nets t.on_loop vs) v ≡ Done t.on_loop
    told v i = let q = top.numbered v i in told_visit t.nets t.on_loop vs v (visit_within vs v q.0 q.1) i

    top_edges : (v b : ℕ) → is_among t.nets v ≡ true → is_edge rows v b ≡ true → (is_done (visit_at vs b) ≡ true) ⊎ ((t.on_loop && is_among t.nets b) ≡ true)
    top_edges v b i e = elim (four (is_done (visit_at vs b)) (is_among t.ahead b) (t.on_loop && is_among t.nets b) (some_in [] b) (top.explored v b i e)) [
      | inl d ↦ inl d
      | inr r ↦ elim r [
        | inl a ↦ absurd (never (is_among t.ahead b) a (ap (λ xs. is_among xs b) none))
        | inr q ↦ elim q [
          | inl l ↦ inr l
          | inr n ↦ absurd (never (some_in [] b) n refl)
        ]
      ]
    ]

    edge_done : (a b : ℕ) → is_done (visit_at vs a) ≡ true → Reaches rows a b → is_done (visit_at vs b) ≡ true
    edge_done a b d (by_edge e) = s.closed a b d e
    edge_done a c d (by_edges {b = b} e r) = edge_done b c (s.closed a b d e) r

    -- a net of a top without a loop doesn't reach itself
    goes_free : t.on_loop ≡ false → (v : ℕ) → is_among t.nets v ≡ true → (b : ℕ) → is_edge rows v b ≡ true → is_done (visit_at vs b) ≡ true
    goes_free f v i b e = elim (top_edges v b i e) [
      | inl d ↦ d
      | inr l ↦ absurd (never t.on_loop (both t.on_loop (is_among t.nets b) l).0 f)
    ]

    is_free : t.on_loop ≡ false → (v : ℕ) → is_among t.nets v ≡ true → Reaches rows v v → ⊥
    is_free f v i (by_edge e) = let q = top.numbered v i in not_both (visit_at vs v) q.0 q.1 (goes_free f v i v e)
    is_free f v i (by_edges {b = b} e r) = let q = top.numbered v i in not_both (visit_at vs v) q.0 q.1 (edge_done b v (goes_free f v i b e) r)

    off : (p : Piece) (qs : List Piece) → IsPiece rows vs m p (qs ++ t ∷ []) → IsPiece rows (done_with t.nets t.on_loop vs) m p (qs ++ [])
    off p qs h =
        let up : (k : ℕ) → some_in (p ∷ (qs ++ [])) k ≡ true → some_in (p ∷ (qs ++ t ∷ [])) k ≡ true = some_swap (p ∷ qs) [] (t ∷ []) (λ k i. absurd (never (some_in [] k) i refl)) in
        record {
          linked = λ u v i j. h.linked u v i (up v j);
          sourced = h.sourced;
          explored = λ v b i e.
              let d' = is_done (visit_at (done_with t.nets t.on_loop vs) b) in
              let a = is_among p.ahead b in
              let l = p.on_loop && is_among p.nets b in
              let n = some_in (qs ++ []) b in
              elim (four (is_done (visit_at vs b)) a l (some_in (qs ++ t ∷ []) b) (h.explored v b i e)) [
                | inl d ↦ by_first d' a l n (keeps_done t.nets t.on_loop vs b d)
                | inr r ↦ elim r [
                  | inl x ↦ by_second d' a l n x
                  | inr q ↦ elim q [
                    | inl y ↦ by_third d' a l n y
                    | inr z ↦ elim (some_cases qs (t ∷ []) b z) [
                      | inl w ↦ by_fourth d' a l n (some_left qs [] b w)
                      | inr w ↦ by_first d' a l n (is_told_done (visit_at (done_with t.nets t.on_loop vs) b) t.on_loop (told b (or_none (is_among t.nets b) w)))
                    ]
                  ]
                ]
              ];
          numbered = λ v i.
              let q = h.numbered v i in
              (q.0, other_visit t.nets t.on_loop vs v (apart_from vs m p t qs v h top i) ∙ q.1, q.2, under_swap q.0 m m qs (t ∷ []) [] (λ u. u.1) q.3);
          rising = under_swap p.first m m qs (t ∷ []) [] (λ u. u.1) h.rising;
          looped = h.looped;
        }

    pub taken_off : IsSearch rows (done_with t.nets t.on_loop vs) m ps
    taken_off =
        let vs' : List Visit = done_with t.nets t.on_loop vs in
        record {
          path = subst (ArePieces rows vs' m) (append-nil ps) (swapped vs vs' m m ps (t ∷ []) [] off tt s.path);
          on_path = λ v n e. elim (is_among t.nets v) as (λ b. is_among t.nets v ≡ b → some_in ps v ≡ true) [
            | true ↦ λ i. absurd (not_both (visit_at vs' v) n e (is_told_done (visit_at vs' v) t.on_loop (told v i)))
            | false ↦ λ i. elim (some_cases ps (t ∷ []) v (s.on_path v n (sym (other_visit t.nets t.on_loop vs v i) ∙ e))) [
              | inl l ↦ l
              | inr r ↦ absurd (never (is_among t.nets v) (or_none (is_among t.nets v) r) i)
            ]
          ] refl;
          closed = λ a b d e. elim (is_among t.nets a) as (λ c. is_among t.nets a ≡ c → is_done (visit_at vs' b) ≡ true) [
            | true ↦ λ i. elim (top_edges a b i e) [
              | inl k ↦ keeps_done t.nets t.on_loop vs b k
              | inr l ↦ is_told_done (visit_at vs' b) t.on_loop (told b (both t.on_loop (is_among t.nets b) l).1)
            ]
            | false ↦ λ i. keeps_done t.nets t.on_loop vs b (s.closed a b (subst (λ x. is_done x ≡ true) (other_visit t.nets t.on_loop vs a i) d) e)
          ] refl;
          looped = λ v e. elim (is_among t.nets v) as (λ c. is_among t.nets v ≡ c → Reaches rows v v) [
            | true ↦ λ i. top.looped (same_answer t.on_loop true (sym (told v i) ∙ e)) v i
            | false ↦ λ i. s.looped v (sym (other_visit t.nets t.on_loop vs v i) ∙ e)
          ] refl;
          free = λ v e. elim (is_among t.nets v) as (λ c. is_among t.nets v ≡ c → Reaches rows v v → ⊥) [
            | true ↦ λ i. is_free (same_answer t.on_loop false (sym (told v i) ∙ e)) v i
            | false ↦ λ i. s.free v (sym (other_visit t.nets t.on_loop vs v i) ∙ e)
          ] refl;
          count = let a = less_new t.nets t.on_loop vs in let b = done_long t.nets t.on_loop vs in let c = s.count in omega (arith, a, b, c);
          long = done_long t.nets t.on_loop vs ∙ s.long;
        }

    pub off_smaller : energy rows (done_with t.nets t.on_loop vs) ps < energy rows vs (ps ++ t ∷ [])
    off_smaller =
        let a = done_weight t.nets t.on_loop vs rows in
        let b = sum_by-append (λ (p : Piece). 1 + length p.ahead) ps (t ∷ []) in
        let c = sum_by-cons (λ (p : Piece). 1 + length p.ahead) t [] in
        omega (arith, a, b, c)

  -- ---- a net is met

  met_keeps_done : (vs : List Visit) (w m b : ℕ) → is_new (visit_at vs w) ≡ true → is_done (visit_at vs b) ≡ true → is_done (visit_at (slice_set vs w (OnPath m)) b) ≡ true
  met_keeps_done [] w m b n d = d
  met_keeps_done (New ∷ vs) zero m zero n d = absurd (cc)
  met_keeps_done (OnPath k ∷ vs) zero m zero n d = absurd (cc)
  met_keeps_done (Done c ∷ vs) zero m zero n d = absurd (cc)
  met_keeps_done (v ∷ vs) zero m (suc b) n d = d
  met_keeps_done (v ∷ vs) (suc w) m zero n d = d
  met_keeps_done (v ∷ vs) (suc w) m (suc b) n d = met_keeps_done vs w m b n d

  single_piece : (vs : List Visit) (m w : ℕ) → is_new (visit_at vs w) ≡ true → IsPiece rows (slice_set vs w (OnPath m)) (m + 1) (single rows w m) []
  single_piece vs m w new = record {
    linked = λ u v i j. inl (sym (one_in w u i) ∙ one_in w v (or_none (is_among (w ∷ []) v) j));
    sourced = λ b h. (w, first_true (w == w) false (eq_self w), h);
    explored = λ v b i e.
        by_second (is_done (visit_at (slice_set vs w (OnPath m)) b)) (is_among (slice_index_or rows w []) b) (false && is_among (w ∷ []) b) (some_in [] b) (subst (λ n. is_edge rows n b ≡ true) (sym (one_in w v i)) e);
    numbered = λ v i.
        let le : m ≤ m = omega arith in
        let lt : m < m + 1 = omega arith in
        (m, subst (λ k. visit_at (slice_set vs w (OnPath m)) k ≡ OnPath m) (one_in w v i) (met_here vs w m (new_within vs w new)), le, lt);
    rising = let lt : m < m + 1 = omega arith in lt;
    looped = λ h. absurd (never false h refl);
  }

  meets_net : (vs : List Visit) (m : ℕ) (old pieces : List Piece) (w : ℕ) → IsSearch rows vs m old → is_new (visit_at vs w) ≡ true → ArePieces rows (slice_set vs w (OnPath m)) (m + 1) pieces → ((k : ℕ) → some_in old k ≡ true → some_in pieces k ≡ true) → some_in pieces w ≡ true → IsSearch rows (slice_set vs w (OnPath m)) (m + 1) pieces
  meets_net vs m old pieces w s new path up in_w =
      let vs' : List Visit = slice_set vs w (OnPath m) in
      let place : (k : ℕ) → ((k ≡ w) × (visit_at vs' k ≡ OnPath m)) ⊎ ((k ≢ w) × (visit_at vs' k ≡ visit_at vs k)) = λ k. at_place vs w k (OnPath m) (Done false) (new_within vs w new) in
      record {
        path = path;
        on_path = λ v n e. elim (place v) [
          | inl x ↦ subst (λ k. some_in pieces k ≡ true) (sym x.0) in_w
          | inr y ↦ up v (s.on_path v n (sym y.1 ∙ e))
        ];
        closed = λ a b d e. elim (place a) [
          | inl x ↦ absurd (not_both (visit_at vs' a) m x.1 d)
          | inr y ↦ met_keeps_done vs w m b new (s.closed a b (subst (λ x. is_done x ≡ true) y.1 d) e)
        ];
        looped = λ v e. elim (place v) [
          | inl x ↦ absurd (not_both (visit_at vs' v) m x.1 (is_told_done (visit_at vs' v) true e))
          | inr y ↦ s.looped v (sym y.1 ∙ e)
        ];
        free = λ v e. elim (place v) [
          | inl x ↦ absurd (not_both (visit_at vs' v) m x.1 (is_told_done (visit_at vs' v) false e))
          | inr y ↦ s.free v (sym y.1 ∙ e)
        ];
        count = let a = met_new vs w m new in let b = length-set vs w (OnPath m) in let c = s.count in omega (arith, a, b, c);
        long = length-set vs w (OnPath m) ∙ s.long;
      }

  pub sets_out : (vs : List Visit) (m w : ℕ) → IsSearch rows vs m [] → is_new (visit_at vs w) ≡ true → IsSearch rows (slice_set vs w (OnPath m)) (m + 1) (single rows w m ∷ [])
  sets_out vs m w s new = meets_net vs m [] (single rows w m ∷ []) w s new (single_piece vs m w new, tt) (λ k i. absurd (never (some_in [] k) i refl)) (first_true (is_among (w ∷ []) w) false (first_true (w == w) false (eq_self w)))

  -- ---- an edge of the top is taken

  module _ (vs : List Visit) (m : ℕ) (ps : List Piece) (t : Piece) (rest : List ℕ) (w : ℕ) (ahead : t.ahead ≡ rest ++ w ∷ []) (s : IsSearch rows vs m (ps ++ t ∷ [])) where
    here : IsPiece rows vs m t []
    here = (back_of vs m ps (t ∷ []) s.path).0

    source : (c : ℕ) × (is_among t.nets c ≡ true) × (is_edge rows c w ≡ true)
    source = here.sourced w (subst (λ xs. is_among xs w ≡ true) (sym ahead) (last_in rest w))

    ahead_cases : (b : ℕ) → is_among t.ahead b ≡ true → (is_among rest b ≡ true) ⊎ (w ≡ b)
    ahead_cases b h = elim (among_cases rest (w ∷ []) b (subst (λ xs. is_among xs b ≡ true) ahead h)) [ inl l ↦ inl l | inr r ↦ inr (one_in w b r) ]

    rest_ahead : (b : ℕ) → is_among rest b ≡ true → is_among t.ahead b ≡ true
    rest_ahead b h = subst (λ xs. is_among xs b ≡ true) (sym ahead) (among_left rest (w ∷ []) b h)

    fewer_ahead : length t.ahead ≡ length rest + 1
    fewer_ahead = ap length ahead ∙ length-append rest (w ∷ [])

    for_lower : (l : Bool) (p : Piece) (qs : List Piece) → IsPiece rows vs m p (qs ++ t ∷ []) → IsPiece rows vs m p (qs ++ less t rest l ∷ [])
    for_lower l p qs h = record {
      linked = λ u v i j. h.linked u v i (some_swap (p ∷ qs) (less t rest l ∷ []) (t ∷ []) (λ k x. x) v j);
      sourced = h.sourced;
      explored = λ v b i e.
          let d = is_done (visit_at vs b) in
          let a = is_among p.ahead b in
          let r = p.on_loop && is_among p.nets b in
          let n = some_in (qs ++ less t rest l ∷ []) b in
          relay d a r (some_in (qs ++ t ∷ []) b) ((d || (a || (r || n))) ≡ true) (by_first d a r n) (by_second d a r n) (by_third d a r n) (λ x. by_fourth d a r n (some_swap qs (t ∷ []) (less t rest l ∷ []) (λ k y. y) b x)) (h.explored v b i e);
      numbered = λ v i. let q = h.numbered v i in (q.0, q.1, q.2, under_swap q.0 m m qs (t ∷ []) (less t rest l ∷ []) (λ u. u) q.3);
      rising = under_swap p.first m m qs (t ∷ []) (less t rest l ∷ []) (λ u. u) h.rising;
      looped = h.looped;
    }

    kept_on : (l : Bool) → (t.on_loop ≡ true → l ≡ true) → (l ≡ true → (v : ℕ) → is_among t.nets v ≡ true → Reaches rows v v) → (is_done (visit_at vs w) ≡ true) ⊎ ((l ≡ true) × (is_among t.nets w ≡ true)) → IsSearch rows vs m (ps ++ less t rest l ∷ [])
    kept_on l grows loops found =
        let top_piece : IsPiece rows vs m (less t rest l) [] = record {
          linked = here.linked;
          sourced = λ b h. here.sourced b (rest_ahead b h);
          explored = λ v b i e.
              let d = is_done (visit_at vs b) in
              let a = is_among rest b in
              let r = l && is_among t.nets b in
              let n = some_in [] b in
              relay d (is_among t.ahead b) (t.on_loop && is_among t.nets b) n ((d || (a || (r || n))) ≡ true) (by_first d a r n)
              (λ x. elim (ahead_cases b x) [
                | inl y ↦ by_second d a r n y
                | inr z ↦ elim found [
                  | inl k ↦ by_first d a r n (subst (λ q. is_done (visit_at vs q) ≡ true) z k)
                  | inr k ↦ by_third d a r n (each l (is_among t.nets b) k.0 (subst (λ q. is_among t.nets q ≡ true) z k.1))
                ]
              ])
              (λ x. let q = both t.on_loop (is_among t.nets b) x in by_third d a r n (each l (is_among t.nets b) (grows q.0) q.1)) (by_fourth d a r n) (here.explored v b i e);
          numbered = here.numbered;
          rising = here.rising;
          looped = loops;
        } in record {
          path = swapped vs vs m m ps (t ∷ []) (less t rest l ∷ []) (for_lower l) (top_piece, tt) s.path;
          on_path = λ v n e. some_swap ps (t ∷ []) (less t rest l ∷ []) (λ k i. i) v (s.on_path v n e);
          closed = s.closed;
          looped = s.looped;
          free = s.free;
          count = s.count;
          long = s.long;
        }

    -- the edge leads to a net that is done with
    pub passes : is_done (visit_at vs w) ≡ true → IsSearch rows vs m (ps ++ less t rest t.on_loop ∷ [])
    passes d = kept_on t.on_loop (λ h. h) here.looped (inl d)

    in_top : (n : ℕ) → visit_at vs w ≡ OnPath n → t.first ≤ n → is_among t.nets w ≡ true
    in_top n e le = elim (some_cases ps (t ∷ []) w (s.on_path w n e)) [
      | inl l ↦ let lt : n < t.first = lower_before vs m ps t w n s.path l e in absurd (omega arith)
      | inr r ↦ or_none (is_among t.nets w) r
    ]

    -- the edge leads back into the top
    pub loops_back : (n : ℕ) → visit_at vs w ≡ OnPath n → t.first ≤ n → IsSearch rows vs m (ps ++ less t rest true ∷ [])
    loops_back n e le =
        let i : is_among t.nets w ≡ true = in_top n e le in
        kept_on true (λ _. refl)
        (λ _ v k. reaches_meets (meets_edge (here.linked v source.0 k (first_true (is_among t.nets source.0) false source.1)) source.2) (here.linked w v i (first_true (is_among t.nets v) false k))) (inr (refl, i))

    -- ---- the edge leads to a new net

    module _ (new : is_new (visit_at vs w) ≡ true) where
      place : (k : ℕ) → ((k ≡ w) × (visit_at (slice_set vs w (OnPath m)) k ≡ OnPath m)) ⊎ ((k ≢ w) × (visit_at (slice_set vs w (OnPath m)) k ≡ visit_at vs k))
      place k = at_place vs w k (OnPath m) (Done false) (new_within vs w new)

      done_kept : (b : ℕ) → is_done (visit_at vs b) ≡ true → is_done (visit_at (slice_set vs w (OnPath m)) b) ≡ true
      done_kept b d = met_keeps_done vs w m b new d

      number_kept : (v n : ℕ) → visit_at vs v ≡ OnPath n → visit_at (slice_set vs w (OnPath m)) v ≡ OnPath n
      number_kept v n e = elim (place v) [
        | inl x ↦ absurd (not_new (visit_at vs v) n e (subst (λ k. is_new (visit_at vs k) ≡ true) (sym x.0) new))
        | inr y ↦ y.1 ∙ e
      ]

      reaches_new : (p : Piece) (qs : List Piece) (u : ℕ) → IsPiece rows vs m p (qs ++ t ∷ []) → is_among p.nets u ≡ true → Reaches rows u w
      reaches_new p qs u h i = meets_edge (h.linked u source.0 i (some_right (p ∷ qs) (t ∷ []) source.0 (first_true (is_among t.nets source.0) false source.1))) source.2

      below_new : (p : Piece) (qs : List Piece) → IsPiece rows vs m p (qs ++ t ∷ []) → IsPiece rows (slice_set vs w (OnPath m)) (m + 1) p (qs ++ less t rest t.on_loop ∷ single rows w m ∷ [])
      below_new p qs h =
          let ys : List Piece = less t rest t.on_loop ∷ single rows w m ∷ [] in
          record {
            linked = λ u v i j. elim (some_cases (p ∷ qs) (less t rest t.on_loop ∷ single rows w m ∷ []) v j) [
              | inl l ↦ h.linked u v i (some_left (p ∷ qs) (t ∷ []) v l)
              | inr r ↦ elim (either (is_among t.nets v) (is_among (w ∷ []) v || false) r) [
                | inl x ↦ h.linked u v i (some_right (p ∷ qs) (t ∷ []) v (first_true (is_among t.nets v) false x))
                | inr y ↦ inr (subst (Reaches rows u) (one_in w v (or_none (is_among (w ∷ []) v) y)) (reaches_new p qs u h i))
              ]
            ];
            sourced = h.sourced;
            explored = λ v b i e.
                let d = is_done (visit_at (slice_set vs w (OnPath m)) b) in
                let a = is_among p.ahead b in
                let r = p.on_loop && is_among p.nets b in
                let n = some_in (qs ++ less t rest t.on_loop ∷ single rows w m ∷ []) b in
                relay (is_done (visit_at vs b)) a r (some_in (qs ++ t ∷ []) b) ((d || (a || (r || n))) ≡ true) (λ x. by_first d a r n (done_kept b x)) (by_second d a r n) (by_third d a r n)
                (λ x. by_fourth d a r n (some_swap qs (t ∷ []) ys (λ k y. first_true (is_among t.nets k) (is_among (w ∷ []) k || false) (or_none (is_among t.nets k) y)) b x)) (h.explored v b i e);
            numbered = λ v i.
                let q = h.numbered v i in
                (q.0, number_kept v q.0 q.1, q.2, under_swap q.0 m (m + 1) qs (t ∷ []) ys (λ u. let x : q.0 < m = u.1 in let y : q.0 < m + 1 = omega arith in (u.0, (x, y))) q.3);
            rising = under_swap p.first m (m + 1) qs (t ∷ []) ys (λ u. let x : p.first < m = u.1 in let y : p.first < m + 1 = omega arith in (u.0, (x, y))) h.rising;
            looped = h.looped;
          }

      top_below_new : IsPiece rows (slice_set vs w (OnPath m)) (m + 1) (less t rest t.on_loop) (single rows w m ∷ [])
      top_below_new = record {
        linked = λ u v i j. elim (either (is_among t.nets v) (is_among (w ∷ []) v || false) j) [
          | inl x ↦ here.linked u v i (first_true (is_among t.nets v) false x)
          | inr y ↦ inr (subst (Reaches rows u) (one_in w v (or_none (is_among (w ∷ []) v) y)) (meets_edge (here.linked u source.0 i (first_true (is_among t.nets source.0) false source.1)) source.2))
        ];
        sourced = λ b h. here.sourced b (rest_ahead b h);
        explored = λ v b i e.
            let d = is_done (visit_at (slice_set vs w (OnPath m)) b) in
            let a = is_among rest b in
            let r = t.on_loop && is_among t.nets b in
            let n = some_in (single rows w m ∷ []) b in
            relay (is_done (visit_at vs b)) (is_among t.ahead b) r (some_in [] b) ((d || (a || (r || n))) ≡ true) (λ x. by_first d a r n (done_kept b x))
            (λ x. elim (ahead_cases b x) [
              | inl y ↦ by_second d a r n y
              | inr z ↦ by_fourth d a r n (first_true (is_among (w ∷ []) b) false (first_true (w == b) false (subst (λ k. (w == k) ≡ true) z (eq_self w))))
            ]) (by_third d a r n) (λ x. absurd (never (some_in [] b) x refl)) (here.explored v b i e);
        numbered = λ v i.
            let q = here.numbered v i in
            let x : q.0 < m = q.3 in
            let y : q.0 < m + 1 = omega arith in
            (q.0, number_kept v q.0 q.1, q.2, (x, y));
        rising = let x : t.first < m = here.rising in let y : t.first < m + 1 = omega arith in (x, y);
        looped = here.looped;
      }

      pub goes_on : IsSearch rows (slice_set vs w (OnPath m)) (m + 1) (ps ++ less t rest t.on_loop ∷ single rows w m ∷ [])
      goes_on =
          let ys : List Piece = less t rest t.on_loop ∷ single rows w m ∷ [] in
          meets_net vs m (ps ++ t ∷ []) (ps ++ ys) w s new (swapped vs (slice_set vs w (OnPath m)) m (m + 1) ps (t ∷ []) ys below_new (top_below_new, (single_piece vs m w new, tt)) s.path)
          (some_swap ps (t ∷ []) ys (λ k y. first_true (is_among t.nets k) (is_among (w ∷ []) k || false) (or_none (is_among t.nets k) y)))
          (some_right ps ys w (second_true (is_among t.nets w) (is_among (w ∷ []) w || false) (first_true (is_among (w ∷ []) w) false (first_true (w == w) false (eq_self w)))))

      pub new_smaller : energy rows (slice_set vs w (OnPath m)) (ps ++ less t rest t.on_loop ∷ single rows w m ∷ []) < energy rows vs (ps ++ t ∷ [])
      new_smaller =
          let f : Piece → ℕ = λ p. 1 + length p.ahead in
          let ys : List Piece = less t rest t.on_loop ∷ single rows w m ∷ [] in
          let a = met_weight vs rows w m s.long new in
          let b = sum_by-append f ps (t ∷ []) in
          let c = sum_by-append f ps ys in
          let d = sum_by-cons f t [] in
          let e = sum_by-cons f (less t rest t.on_loop) (single rows w m ∷ []) in
          let g = sum_by-cons f (single rows w m) [] in
          let h = fewer_ahead in
          omega (arith, a, b, c, d, e, g, h)

  -- ---- the edge leads below the top, and the two last pieces are drawn together

  module _ (vs : List Visit) (m : ℕ) (qs : List Piece) (a t : Piece) (rest : List ℕ) (w n : ℕ) (p : Piece) (ahead : t.ahead ≡ rest ++ w ∷ []) (s : IsSearch rows vs m ((qs ++ a ∷ []) ++ t ∷ [])) (e : visit_at vs w ≡ OnPath n) (lt : n < t.first) (j : IsJoin a (less t rest t.on_loop) w p) where
    whole_path : ArePieces rows vs m (qs ++ a ∷ t ∷ [])
    whole_path = subst (ArePieces rows vs m) (append_assoc qs (a ∷ []) (t ∷ [])) s.path

    lower : IsPiece rows vs m a (t ∷ [])
    lower = (back_of vs m qs (a ∷ t ∷ []) whole_path).0

    upper : IsPiece rows vs m t []
    upper = (back_of vs m (qs ++ a ∷ []) (t ∷ []) s.path).0

    foot : (c : ℕ) × (is_among t.nets c ≡ true) × (is_edge rows c w ≡ true)
    foot = upper.sourced w (subst (λ xs. is_among xs w ≡ true) (sym ahead) (last_in rest w))

    is_lower : some_in (qs ++ a ∷ []) w ≡ true
    is_lower = elim (some_cases (qs ++ a ∷ []) (t ∷ []) w (s.on_path w n e)) [
      | inl l ↦ l
      | inr r ↦
          let q = upper.numbered w (or_none (is_among t.nets w) r) in
          let same : n ≡ q.0 = same_number n q.0 (sym e ∙ q.1) in
          let le : t.first ≤ q.0 = q.2 in
          absurd (omega (arith, same, le, lt))
    ]

    in_two : (v : ℕ) → (is_among a.nets v ≡ true) ⊎ (is_among t.nets v ≡ true) → some_in (a ∷ t ∷ []) v ≡ true
    in_two v h = elim h [
      | inl x ↦ first_true (is_among a.nets v) (is_among t.nets v || false) x
      | inr y ↦ second_true (is_among a.nets v) (is_among t.nets v || false) (first_true (is_among t.nets v) false y)
    ]

    from_join : (v : ℕ) → is_among p.nets v ≡ true → (is_among a.nets v ≡ true) ⊎ (is_among t.nets v ≡ true)
    from_join v h = either (is_among a.nets v) (is_among t.nets v) (sym (j.nets v) ∙ h)

    to_join : (v : ℕ) → (is_among a.nets v ≡ true) ⊎ (is_among t.nets v ≡ true) → is_among p.nets v ≡ true
    to_join v h = j.nets v ∙ (elim h [
      | inl x ↦ first_true (is_among a.nets v) (is_among t.nets v) x
      | inr y ↦ second_true (is_among a.nets v) (is_among t.nets v) y
    ])

    to_foot : (u : ℕ) → (is_among a.nets u ≡ true) ⊎ (is_among t.nets u ≡ true) → Meets rows u foot.0
    to_foot u h = elim h [
      | inl x ↦ lower.linked u foot.0 x (in_two foot.0 (inr foot.1))
      | inr y ↦ upper.linked u foot.0 y (first_true (is_among t.nets foot.0) false foot.1)
    ]

    from_target : (v : ℕ) → (is_among a.nets v ≡ true) ⊎ (is_among t.nets v ≡ true) → Meets rows w v
    from_target v h = elim (some_cases qs (a ∷ []) w is_lower) [
      | inl l ↦ linked_up vs m qs (a ∷ t ∷ []) w v whole_path l (in_two v h)
      | inr r ↦ lower.linked w v (or_none (is_among a.nets w) r) (in_two v h)
    ]

    around : (u v : ℕ) → is_among p.nets u ≡ true → is_among p.nets v ≡ true → Reaches rows u v
    around u v h k = reaches_meets (meets_edge (to_foot u (from_join u h)) foot.2) (from_target v (from_join v k))

    on_the_loop : (b : ℕ) → is_among p.nets b ≡ true → (p.on_loop && is_among p.nets b) ≡ true
    on_the_loop b h = each p.on_loop (is_among p.nets b) j.on_loop h

    lies_ahead : (b : ℕ) → (is_among a.ahead b ≡ true) ⊎ (is_among t.ahead b ≡ true) → is_among p.ahead b ≡ true
    lies_ahead b h = j.ahead b ∙ (elim h [
      | inl x ↦ first_true (is_among a.ahead b || is_among rest b) (w == b) (first_true (is_among a.ahead b) (is_among rest b) x)
      | inr y ↦ elim (among_cases rest (w ∷ []) b (subst (λ xs. is_among xs b ≡ true) ahead y)) [
        | inl l ↦ first_true (is_among a.ahead b || is_among rest b) (w == b) (second_true (is_among a.ahead b) (is_among rest b) l)
        | inr r ↦ second_true (is_among a.ahead b || is_among rest b) (w == b) (or_none (w == b) r)
      ]
    ])

    drawn : IsPiece rows vs m p []
    drawn = record {
      linked = λ u v h k. inr (around u v h (or_none (is_among p.nets v) k));
      sourced = λ b h. elim (either (is_among a.ahead b || is_among rest b) (w == b) (sym (j.ahead b) ∙ h)) [
        | inl x ↦ elim (either (is_among a.ahead b) (is_among rest b) x) [
          | inl y ↦ let q = lower.sourced b y in (q.0, to_join q.0 (inl q.1), q.2)
          | inr y ↦ let q = upper.sourced b (subst (λ xs. is_among xs b ≡ true) (sym ahead) (among_left rest (w ∷ []) b y)) in (q.0, to_join q.0 (inr q.1), q.2)
        ]
        | inr x ↦ (foot.0, to_join foot.0 (inr foot.1), subst (λ k. is_edge rows foot.0 k ≡ true) (same_of w b x) foot.2)
      ];
      explored = λ v b i k.
          let d = is_done (visit_at vs b) in
          let x = is_among p.ahead b in
          let r = p.on_loop && is_among p.nets b in
          let z = some_in [] b in
          elim (from_join v i) [
            | inl h ↦ relay d (is_among a.ahead b) (a.on_loop && is_among a.nets b) (some_in (t ∷ []) b) ((d || (x || (r || z))) ≡ true) (by_first d x r z) (λ y. by_second d x r z (lies_ahead b (inl y)))
                (λ y. by_third d x r z (on_the_loop b (to_join b (inl (both a.on_loop (is_among a.nets b) y).1)))) (λ y. by_third d x r z (on_the_loop b (to_join b (inr (or_none (is_among t.nets b) y))))) (lower.explored v b h k)
            | inr h ↦ relay d (is_among t.ahead b) (t.on_loop && is_among t.nets b) z ((d || (x || (r || z))) ≡ true) (by_first d x r z) (λ y. by_second d x r z (lies_ahead b (inr y)))
                (λ y. by_third d x r z (on_the_loop b (to_join b (inr (both t.on_loop (is_among t.nets b) y).1)))) (by_fourth d x r z) (upper.explored v b h k)
          ];
      numbered = λ v i. elim (from_join v i) [
        | inl h ↦ let q = lower.numbered v h in (q.0, q.1, subst (λ k. k ≤ q.0) (sym j.first) q.2, q.3.1)
        | inr h ↦
            let q = upper.numbered v h in
            let first : p.first ≡ a.first = j.first in
            let rises : a.first < t.first = lower.rising.0 in
            let le : t.first ≤ q.0 = q.2 in
            let low : p.first ≤ q.0 = omega arith in
            (q.0, q.1, low, q.3)
      ];
      rising = subst (λ k. k < m) (sym j.first) lower.rising.1;
      looped = λ _ v h. around v v h h;
    }

    as_one : (k : ℕ) → some_in (a ∷ t ∷ []) k ≡ true → some_in (p ∷ []) k ≡ true
    as_one k h = first_true (is_among p.nets k) false (elim (either (is_among a.nets k) (is_among t.nets k || false) h) [
      | inl x ↦ to_join k (inl x)
      | inr y ↦ to_join k (inr (or_none (is_among t.nets k) y))
    ])

    as_two : (k : ℕ) → some_in (p ∷ []) k ≡ true → some_in (a ∷ t ∷ []) k ≡ true
    as_two k h = in_two k (from_join k (or_none (is_among p.nets k) h))

    under_drawn : (i : ℕ) → IsUnder i (a ∷ t ∷ []) m → IsUnder i (p ∷ []) m
    under_drawn i u = (subst (λ k. i < k) (sym j.first) u.0, u.1.1)

    below_drawn : (b : Piece) (bs : List Piece) → IsPiece rows vs m b (bs ++ a ∷ t ∷ []) → IsPiece rows vs m b (bs ++ p ∷ [])
    below_drawn b bs h = record {
      linked = λ u v i k. h.linked u v i (some_swap (b ∷ bs) (p ∷ []) (a ∷ t ∷ []) as_two v k);
      sourced = h.sourced;
      explored = λ v c i k.
          let d = is_done (visit_at vs c) in
          let x = is_among b.ahead c in
          let r = b.on_loop && is_among b.nets c in
          let z = some_in (bs ++ p ∷ []) c in
          relay d x r (some_in (bs ++ a ∷ t ∷ []) c) ((d || (x || (r || z))) ≡ true) (by_first d x r z) (by_second d x r z) (by_third d x r z) (λ y. by_fourth d x r z (some_swap bs (a ∷ t ∷ []) (p ∷ []) as_one c y)) (h.explored v c i k);
      numbered = λ v i. let q = h.numbered v i in (q.0, q.1, q.2, under_swap q.0 m m bs (a ∷ t ∷ []) (p ∷ []) (under_drawn q.0) q.3);
      rising = under_swap b.first m m bs (a ∷ t ∷ []) (p ∷ []) (under_drawn b.first) h.rising;
      looped = h.looped;
    }

    pub draws_together : IsSearch rows vs m (qs ++ p ∷ [])
    draws_together = record {
      path = swapped vs vs m m qs (a ∷ t ∷ []) (p ∷ []) below_drawn (drawn, tt) whole_path;
      on_path = λ v k h. some_swap qs (a ∷ t ∷ []) (p ∷ []) as_one v (subst (λ xs. some_in xs v ≡ true) (append_assoc qs (a ∷ []) (t ∷ [])) (s.on_path v k h));
      closed = s.closed;
      looped = s.looped;
      free = s.free;
      count = s.count;
      long = s.long;
    }
