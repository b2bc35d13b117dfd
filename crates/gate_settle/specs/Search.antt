-- What nets reach by the nets that feed them, and the search for those that reach themselves.
use Rattle.std.specs.Prelude.{◌≡◌, ℕ, ◌+◌, ◌<◌, ◌≤◌, ◌==◌, ◌⊎◌, Bool, true, false, ◌&&◌, ◌||◌, List, [], ◌∷◌, length, sum_by, slice_set, slice_index_or}
use Rattle.gate_settle.specs.declared.reach.Visit.{Visit}
use Rattle.gate_settle.specs.declared.reach.Visit.TheVariants.{New, OnPath, Done}
use Rattle.gate_settle.specs.declared.reach.Part.{Part}
use Rattle.gate_settle.specs.Gates.{is_among}

-- Rows: for each net those that feed it.
abbrev pub is_edge : List (List ℕ) → ℕ → ℕ → Bool
is_edge rows a b = is_among (slice_index_or rows a []) b

pub data Reaches (rows : List (List ℕ)) : ℕ → ℕ → Type 0 where
  by_edge : {a b : ℕ} → is_edge rows a b ≡ true → Reaches rows a b
  by_edges : {a b c : ℕ} → is_edge rows a b ≡ true → Reaches rows b c → Reaches rows a c

abbrev pub Meets : List (List ℕ) → ℕ → ℕ → Type 0
Meets rows a b = (a ≡ b) ⊎ Reaches rows a b

-- ---- visits

-- what is no net is done with
abbrev pub visit_at : List Visit → ℕ → Visit
visit_at visits k = slice_index_or visits k (Done false)

abbrev pub is_new : Visit → Bool
is_new New = true
is_new (OnPath n) = false
is_new (Done b) = false

abbrev pub is_done : Visit → Bool
is_done New = false
is_done (OnPath n) = false
is_done (Done b) = true

abbrev pub is_on_loop : Visit → Bool
is_on_loop New = false
is_on_loop (OnPath n) = false
is_on_loop (Done b) = b

abbrev pub done_with : List ℕ → Bool → List Visit → List Visit
done_with [] on_loop visits = visits
done_with (k ∷ nets) on_loop visits = done_with nets on_loop (slice_set visits k (Done on_loop))

-- what is told of a net holds
abbrev pub IsTold : List (List ℕ) → ℕ → Visit → Type 0
IsTold rows k New = ⊥
IsTold rows k (OnPath n) = ⊥
IsTold rows k (Done true) = Reaches rows k k
IsTold rows k (Done false) = Reaches rows k k → ⊥

-- ---- the path

-- a part of the path, without where it lies in memory
pub record Piece : Type 0 where
  pub first : ℕ
  pub nets : List ℕ
  pub ahead : List ℕ
  pub on_loop : Bool

abbrev pub piece_of : Part → Piece
piece_of p = record { first = p.first; nets = p.nets.items; ahead = p.ahead.items; on_loop = p.on_loop }

-- two pieces drawn together, where the upper one depends on the net
pub record IsJoin (below top : Piece) (net : ℕ) (p : Piece) : Type 0 where
  pub first : p.first ≡ below.first
  pub nets : (k : ℕ) → is_among p.nets k ≡ (is_among below.nets k || is_among top.nets k)
  pub ahead : (k : ℕ) → is_among p.ahead k ≡ ((is_among below.ahead k || is_among top.ahead k) || net == k)
  pub count : length p.ahead ≡ length below.ahead + length top.ahead + 1
  pub on_loop : p.on_loop ≡ true

abbrev pub some_in : List Piece → ℕ → Bool
some_in [] k = false
some_in (p ∷ pieces) k = is_among p.nets k || some_in pieces k

-- a net that was met after n others was met before each of these pieces
abbrev pub IsUnder : ℕ → List Piece → ℕ → Type 0
IsUnder n [] met = n < met
IsUnder n (p ∷ pieces) met = (n < p.first) × IsUnder n pieces met

-- a piece of the path, with the pieces above it
pub record IsPiece (rows : List (List ℕ)) (visits : List Visit) (met : ℕ) (p : Piece) (above : List Piece) : Type 0 where
  -- its nets reach each other and all above
  pub linked : (u v : ℕ) → is_among p.nets u ≡ true → some_in (p ∷ above) v ≡ true → Meets rows u v
  -- what lies ahead is an edge away
  pub sourced : (b : ℕ) → is_among p.ahead b ≡ true → (c : ℕ) × (is_among p.nets c ≡ true) × (is_edge rows c b ≡ true)
  -- each edge leads to a net that is done with, lies ahead, is on the piece's loop, or lies above
  pub explored : (v b : ℕ) → is_among p.nets v ≡ true → is_edge rows v b ≡ true → (is_done (visit_at visits b) || (is_among p.ahead b || (p.on_loop && is_among p.nets b || some_in above b))) ≡ true
  pub numbered : (v : ℕ) → is_among p.nets v ≡ true → (n : ℕ) × (visit_at visits v ≡ OnPath n) × (p.first ≤ n) × IsUnder n above met
  pub rising : IsUnder p.first above met
  pub looped : p.on_loop ≡ true → (v : ℕ) → is_among p.nets v ≡ true → Reaches rows v v

abbrev pub ArePieces : List (List ℕ) → List Visit → ℕ → List Piece → Type 0
ArePieces rows visits met [] = Unit {0}
ArePieces rows visits met (p ∷ pieces) = IsPiece rows visits met p pieces × ArePieces rows visits met pieces

-- how many nets are new
abbrev pub one_if_new : Visit → ℕ
one_if_new New = 1
one_if_new (OnPath n) = 0
one_if_new (Done b) = 0

pub record IsSearch (rows : List (List ℕ)) (visits : List Visit) (met : ℕ) (pieces : List Piece) : Type 0 where
  pub path : ArePieces rows visits met pieces
  pub on_path : (v n : ℕ) → visit_at visits v ≡ OnPath n → some_in pieces v ≡ true
  pub closed : (a b : ℕ) → is_done (visit_at visits a) ≡ true → is_edge rows a b ≡ true → is_done (visit_at visits b) ≡ true
  pub looped : (v : ℕ) → visit_at visits v ≡ Done true → Reaches rows v v
  pub free : (v : ℕ) → visit_at visits v ≡ Done false → Reaches rows v v → ⊥
  pub count : met + sum_by one_if_new visits ≤ length visits
  pub long : length visits ≡ length rows

-- ---- what is left to do

-- the new nets, with what feeds them
abbrev pub weight : List Visit → List (List ℕ) → ℕ
weight [] rows = 0
weight (v ∷ visits) [] = 0
weight (New ∷ visits) (r ∷ rows) = (1 + length r) + weight visits rows
weight (OnPath n ∷ visits) (r ∷ rows) = weight visits rows
weight (Done b ∷ visits) (r ∷ rows) = weight visits rows

abbrev pub energy : List (List ℕ) → List Visit → List Piece → ℕ
energy rows visits pieces = weight visits rows + sum_by (λ p. 1 + length p.ahead) pieces
