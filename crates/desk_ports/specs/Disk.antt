use Rattle.std.specs.Prelude.{◌≡◌, ◌≤◌, ◌⊎◌, ◌+◌, ◌++◌, ℕ, List, Option, Some, length, take, drop, min, max}

-- where the disk tells what it reads, those bytes have P
abbrev pub Known : Option (List ℕ) → (List ℕ → Type 0) → Type 0
Known reads P = (bytes : List ℕ) → reads ≡ Some bytes → P bytes

-- a piece in the place of what was there
abbrev pub overwritten : List ℕ → ℕ → List ℕ → List ℕ
overwritten old place piece = take place old ++ piece ++ drop (place + length piece) old

-- A write of so many bytes at a place, of which nothing is sure yet: any bytes stand in its range
-- and past the old end, the others stay, and the size is between the old one and that of the whole
-- write.
pub record Torn (place size : ℕ) (old new : List ℕ) : Type 0 where
  pub before : take (min place (length old)) new ≡ take place old
  pub after : drop (place + size) (take (length old) new) ≡ drop (place + size) old
  pub no_shorter : length old ≤ length new
  pub no_longer : length new ≤ max (length old) (place + size)

-- each new image is an old one after a step
abbrev pub Follows : (List ℕ → List ℕ → Type 0) → (List ℕ → Type 0) → (List ℕ → Type 0) → Type 0
Follows step old new = (image : List ℕ) → new image → (before : List ℕ) × old before × step before image

-- and each old image after a step is a new one
abbrev pub Leads : (List ℕ → List ℕ → Type 0) → (List ℕ → Type 0) → (List ℕ → Type 0) → Type 0
Leads step old new = (image before : List ℕ) → old before → step before image → new image

-- these bytes are the only image
abbrev pub Only : List ℕ → (List ℕ → Type 0) → Type 0
Only bytes images = (image : List ℕ) → images image → image ≡ bytes

-- Time goes on: the images of earlier moments stay, and each one that comes has P.
pub record Adds {D : Type 0} (moment : D → ℕ) (image_since : D → ℕ → List ℕ → Type 0) (old new : D) (P : List ℕ → Type 0) : Type 0 where
  pub later : moment old ≤ moment new
  pub comes : (t : ℕ) (image : List ℕ) → t ≤ moment old → image_since new t image → image_since old t image ⊎ P image
  pub stays : (t : ℕ) (image : List ℕ) → t ≤ moment old → image_since old t image → image_since new t image

-- a call that only looks: neither the bytes nor the images change
pub record Untouched {D : Type 0} (reads : D → Option (List ℕ)) (image : D → List ℕ → Type 0) (moment : D → ℕ) (image_since : D → ℕ → List ℕ → Type 0) (old new : D) : Type 0 where
  pub bytes : reads new ≡ reads old
  pub no_other : (c : List ℕ) → image new c → image old c
  pub no_fewer : (c : List ℕ) → image old c → image new c
  pub time : Adds moment image_since old new (image old)
