-- Ports, one further.
use Rattle.std.proofs.Common.{◌≡◌, ℕ, zero, suc, ◌+◌, ◌<◌, ◌≤◌, true, false, List, [], ◌∷◌, ◌++◌, length, drop, refl, sym, ap, ◌∙◌, slice_index_or, slice_set, slice_get, arith}
use Rattle.std.specs.Prelude.{Some, None}
use Rattle.std.proofs.lemmas.List.{drop_more}
use Rattle.std.proofs.Math.ListN.{drop_of_length-le}
use Rattle.text_scan.specs.declared.pins.Direction.{Direction}
use Rattle.verilog_source.specs.declared.module.Port.{Port}
use Rattle.name_index.specs.Places.{place_of}
use Rattle.verilog_modules.specs.Ports.{names_of, is_absent, undirected, directed}

pub one_more_name : (ports : List Port) (p : Port) → names_of (ports ++ p ∷ []) ≡ names_of ports ++ p.name ∷ []
one_more_name [] p = refl
one_more_name (q ∷ ports) p = ap (λ z. q.name ∷ z) (one_more_name ports p)

pub next_port : (ports : List Port) (at : ℕ) (p : Port) → at < length ports → is_absent (slice_index_or ports at p).direction ≡ false → undirected (drop at ports) ≡ undirected (drop (at + 1) ports)
next_port ports at p h e = ap undirected (drop_more ports at p h) ∙ rw e refl

pub undirected_here : (ports : List Port) (at : ℕ) (p : Port) → at < length ports → is_absent (slice_index_or ports at p).direction ≡ true → undirected (drop at ports) ≡ Some (slice_index_or ports at p).name
undirected_here ports at p h e = ap undirected (drop_more ports at p h) ∙ rw e refl

pub no_more_ports : (ports : List Port) (at : ℕ) → length ports ≤ at → undirected (drop at ports) ≡ None
no_more_ports ports at h = ap undirected (drop_of_length-le ports h)

pub get_there : (ports : List Port) (at : ℕ) (p : Port) → at < length ports → slice_get ports at ≡ Some (slice_index_or ports at p)
get_there [] at p h = absurd (omega arith)
get_there (q ∷ ports) zero p h = refl
get_there (q ∷ ports) (suc at) p h = get_there ports at p (omega arith)

pub same_names : (ports : List Port) (at : ℕ) (p : Port) (d : Direction) → at < length ports → names_of (slice_set ports at (record { name = (slice_index_or ports at p).name; direction = d })) ≡ names_of ports
same_names [] at p d h = absurd (omega arith)
same_names (q ∷ ports) zero p d h = refl
same_names (q ∷ ports) (suc at) p d h = ap (λ z. q.name ∷ z) (same_names ports at p d (omega arith))

pub directed_there : (ports : List Port) (names : List (List ℕ)) (name : List ℕ) (at : ℕ) (p : Port) (d : Direction) → names ≡ names_of ports → place_of names name ≡ Some at → at < length ports
    → is_absent (slice_index_or ports at p).direction ≡ true → directed ports name d ≡ Some (slice_set ports at (record { name = (slice_index_or ports at p).name; direction = d }))
unfolding directed
directed_there ports names name at p d e f h a =
    let place : place_of (names_of ports) name ≡ Some at = ap (λ z. place_of z name) (sym e) ∙ f in
    let got = get_there ports at p h in
    rw (place, got, a) refl

-- the answers that the places give do not depend on what is taken where there is none
pub there : (ports : List Port) (at : ℕ) (p q : Port) → at < length ports → slice_index_or ports at p ≡ slice_index_or ports at q
there [] at p q h = absurd (omega arith)
there (r ∷ ports) zero p q h = refl
there (r ∷ ports) (suc at) p q h = there ports at p q (omega arith)

pub names_stay : (ports : List Port) (names : List (List ℕ)) (at : ℕ) (q : Port) (d : Direction) → names ≡ names_of ports → at < length ports → q ≡ slice_index_or ports at q
    → names ≡ names_of (slice_set ports at (record { name = q.name; direction = d }))
names_stay ports names at q d e h g = e ∙ sym (same_names ports at q d h) ∙ ap (λ z. names_of (slice_set ports at (record { name = z.name; direction = d }))) (sym g)

pub directed_so : (ports : List Port) (names : List (List ℕ)) (name : List ℕ) (at : ℕ) (p q : Port) (d : Direction) → names ≡ names_of ports → place_of names name ≡ Some at → at < length ports
    → p ≡ slice_index_or ports at p → q ≡ slice_index_or ports at q → is_absent p.direction ≡ true
    → directed ports name d ≡ Some (slice_set ports at (record { name = q.name; direction = d }))
directed_so ports names name at p q d e f h g k a =
    directed_there ports names name at q d e f h (ap (λ z. is_absent z.direction) (there ports at q p h ∙ sym g) ∙ a)
    ∙ ap (λ z. Some (slice_set ports at (record { name = z.name; direction = d }))) (sym k)
