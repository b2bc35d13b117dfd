-- Places after many bytes.
use Rattle.std.proofs.Common.{◌≡◌, ℕ, suc, ◌+◌, ◌<◌, ◌≤◌, Bool, true, false, cond, eqb, min, List, [], ◌∷◌, length, drop, take, refl, ap, sym, ◌∙◌, arith}
use Rattle.std.proofs.Common.{get_or, ◌-◌, length-drop}
use Rattle.std.proofs.lemmas.List.{take_rest, drop-drop}
use Rattle.std.proofs.Math.ListN.{drop_of_length-le}
use Rattle.text_scan.specs.declared.token.Place.{Place}
use Rattle.text_scan.specs.Bytes.{until, begins_with}
use Rattle.text_scan.specs.Tokens.{over, after}
use Rattle.text_scan.specs.Jumps.{forward, line_after}

same_place : (a b l c d : ℕ) → a ≡ b → c ≡ d → (let p : Place = record { at = a; line = l; column = c } in p) ≡ record { at = b; line = l; column = d }
same_place a b l c d e f = cc

-- over bytes without an LF
pub after-flat : (xs : List ℕ) (p : Place) → until (begins_with 10) xs ≡ length xs → p.column ≤ 4294967295 → after p xs ≡ forward (length xs) p
unfolding after until begins_with over
after-flat [] p h le = same_place p.at (p.at + 0) p.line p.column (min (p.column + 0) 4294967295) (omega arith) (omega arith)
after-flat (b ∷ bs) p h le = go (eqb b 10) refl h (after-flat bs)
  where
    go : (g : Bool) → eqb b 10 ≡ g → cond g 0 (suc (until (begins_with 10) bs)) ≡ suc (length bs) → ((q : Place) → until (begins_with 10) bs ≡ length bs → q.column ≤ 4294967295 → after q bs ≡ forward (length bs) q)
        → after (cond g (record { at = p.at + 1; line = min (p.line + 1) 4294967295; column = 1 }) (record { at = p.at + 1; line = p.line; column = min (p.column + 1) 4294967295 })) bs ≡ forward (suc (length bs)) p
    go true e h again = absurd (omega arith)
    go false e h again = again (record { at = p.at + 1; line = p.line; column = min (p.column + 1) 4294967295 }) (omega arith) (omega arith) ∙ same_place _ _ p.line _ _ (omega arith) (omega arith)

-- the same, where there is a byte
pub after-flat_some : (xs : List ℕ) (p : Place) → until (begins_with 10) xs ≡ length xs → 0 < length xs → after p xs ≡ forward (length xs) p
unfolding after until begins_with over
after-flat_some [] p h some = absurd (omega arith)
after-flat_some (b ∷ bs) p h some = go (eqb b 10) h
  where
    go : (g : Bool) → cond g 0 (suc (until (begins_with 10) bs)) ≡ suc (length bs)
        → after (cond g (record { at = p.at + 1; line = min (p.line + 1) 4294967295; column = 1 }) (record { at = p.at + 1; line = p.line; column = min (p.column + 1) 4294967295 })) bs ≡ forward (suc (length bs)) p
    go true h = absurd (omega arith)
    go false h = after-flat bs (record { at = p.at + 1; line = p.line; column = min (p.column + 1) 4294967295 }) (omega arith) (omega arith) ∙ same_place _ _ p.line _ _ (omega arith) (omega arith)

-- over the first LF
pub after-line : (xs : List ℕ) (p : Place) → until (begins_with 10) xs < length xs → after p xs ≡ after (line_after (until (begins_with 10) xs + 1) p) (drop (until (begins_with 10) xs + 1) xs)
unfolding after until begins_with over
after-line [] p h = absurd (omega arith)
after-line (b ∷ bs) p h = go (eqb b 10) h (after-line bs)
  where
    go : (g : Bool) → cond g 0 (suc (until (begins_with 10) bs)) < suc (length bs) → ((q : Place) → until (begins_with 10) bs < length bs → after q bs ≡ after (line_after (until (begins_with 10) bs + 1) q) (drop (until (begins_with 10) bs + 1) bs))
        → after (cond g (record { at = p.at + 1; line = min (p.line + 1) 4294967295; column = 1 }) (record { at = p.at + 1; line = p.line; column = min (p.column + 1) 4294967295 })) bs
        ≡ after (line_after (cond g 0 (suc (until (begins_with 10) bs)) + 1) p) (drop (cond g 0 (suc (until (begins_with 10) bs)) + 1) (b ∷ bs))
    go true h again = refl
    go false h again = again (record { at = p.at + 1; line = p.line; column = min (p.column + 1) 4294967295 }) (omega arith)
        ∙ ap (λ z. after z (drop (until (begins_with 10) bs + 1) bs)) (same_place _ _ (min (p.line + 1) 4294967295) 1 1 (omega arith) refl)
        ∙ ap (λ z. after (line_after (suc (until (begins_with 10) bs) + 1) p) (drop z (b ∷ bs))) (let e : suc (until (begins_with 10) bs + 1) ≡ suc (until (begins_with 10) bs) + 1 = omega arith in e)

pub after_at : (xs : List ℕ) (p : Place) → (after p xs).at ≡ p.at + length xs
unfolding after over
after_at [] p = omega arith
after_at (b ∷ bs) p = after_at bs (over b p) ∙ go (eqb b 10)
  where
    go : (g : Bool) → (let q : Place = cond g (record { at = p.at + 1; line = min (p.line + 1) 4294967295; column = 1 }) (record { at = p.at + 1; line = p.line; column = min (p.column + 1) 4294967295 }) in q.at + length bs) ≡ p.at + suc (length bs)
    go true = omega arith
    go false = omega arith

pub length_part : (xs : List ℕ) (i : ℕ) → length (take (length xs - i) (drop i xs)) ≡ length xs - i
length_part xs i = ap length (take_rest xs i) ∙ length-drop i xs

-- at a place of a list: no LF follows
pub after_flat_part : (xs : List ℕ) (i n : ℕ) (p : Place) → i < length xs → n ≡ until (begins_with 10) (take (length xs - i) (drop i xs)) → i + n ≡ length xs → after p (drop i xs) ≡ forward n p
after_flat_part xs i n p le e full =
    let rest = take_rest xs i in
    let len = length-drop i xs in
    let u : n ≡ until (begins_with 10) (drop i xs) = e ∙ ap (until (begins_with 10)) rest in
    after-flat_some (drop i xs) p (omega arith) (omega arith) ∙ ap (λ z. forward z p) (omega arith)

-- an LF follows after n bytes
pub after_line_part : (xs : List ℕ) (i n : ℕ) (p : Place) → i ≤ length xs → n ≡ until (begins_with 10) (take (length xs - i) (drop i xs)) → n ≤ length (take (length xs - i) (drop i xs)) → (i + n ≡ length xs → ⊥)
    → after p (drop i xs) ≡ after (line_after (n + 1) p) (drop (i + (n + 1)) xs)
after_line_part xs i n p le e within part =
    let rest = take_rest xs i in
    let len = length-drop i xs in
    let len2 = length_part xs i in
    let u : until (begins_with 10) (drop i xs) ≡ n = sym (e ∙ ap (until (begins_with 10)) rest) in
    let less : n < length (drop i xs) = omega arith in
    after-line (drop i xs) p (omega arith)
    ∙ ap (λ z. after (line_after (z + 1) p) (drop (z + 1) (drop i xs))) u
    ∙ ap (after (line_after (n + 1) p)) (drop-drop (n + 1) i xs)

pub after_none : (xs : List ℕ) (i : ℕ) (p : Place) → length xs ≤ i → after p (drop i xs) ≡ p
unfolding after
after_none xs i p h = ap (after p) (drop_of_length-le xs h)

pub after_one : (xs : List ℕ) (p : Place) → length xs ≡ 1 → after p xs ≡ over (get_or xs 0 0) p
unfolding after
after_one [] p h = absurd (omega arith)
after_one (b ∷ []) p h = refl
after_one (b ∷ c ∷ bs) p h = absurd (omega arith)
