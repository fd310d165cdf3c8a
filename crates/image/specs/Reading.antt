-- What the parts of a reading answer: a record or the lowest bad place.
use Rattle.std.specs.Prelude.{◌≡◌, ℕ, ◌+◌, ◌*◌, ◌<◌, ◌≤◌, ◌⊎◌, List, length, Result, MatchResult}
use Rattle.std.specs.List.{flat_map, AllByRecursion}
use Rattle.fault.specs.declared.Fault.{Fault}
use Rattle.fault.specs.declared.RecordsCause.TheVariants.{Field}
use Rattle.bounded.specs.Held.{held}
use Rattle.bounded.specs.declared.Bounded.{Bounded}
use Rattle.image.specs.Bytes.{between}
use Rattle.image.specs.Drafts.{counts_at}
use Rattle.image.specs.Encoding.{mark, size}
use Rattle.image.specs.Refusals.{BadSensor, BadActor, BadChannel}
use Rattle.image.specs.declared.counts.Counts.{Counts}
use Rattle.image.specs.declared.row.FieldError.{FieldError}

-- each is a byte
abbrev pub Octets : List ℕ → Type 0
Octets bs = AllByRecursion (λ b. b < 256) bs

-- P holds of no place
abbrev pub Nowhere : (ℕ → Type 0) → Type 0
Nowhere P = (k : ℕ) → P k → ⊥

-- k is the lowest place of which P holds
pub record Lowest (P : ℕ → Type 0) (k : ℕ) : Type 0 where
  pub here : P k
  pub none_below : (j : ℕ) → j < k → P j → ⊥

-- no place of which P holds, or the refusal that names the lowest
abbrev pub Checked : {X : Type 0} → (ℕ → Fault) → (ℕ → Type 0) → Result X Fault → Type 0
Checked refusal P r = MatchResult r (λ _. Nowhere P) (λ f. (k : ℕ) × (f ≡ refusal k) × Lowest P k)

-- the record x has these bytes and is fine, and none of its fields is bad
pub record Got
    {X : Type 0} (spelt : X → List ℕ) (fine : X → Type 0) (bad : ℕ → Type 0) (bytes : List ℕ) (x : X)
    : Type 0 where
  pub spells : spelt x ≡ bytes
  pub in_range : fine x
  pub clean : Nowhere bad

-- the record of these bytes, or the offset of its lowest bad field, below w
abbrev pub Judged :
    {X : Type 0} → (X → List ℕ) → (X → Type 0) → (ℕ → Type 0) → List ℕ → ℕ → Result X FieldError → Type 0
Judged spelt fine bad bytes w r = MatchResult r (Got spelt fine bad bytes) (λ e. (e.offset < w) × Lowest bad e.offset)

-- of n records of w bytes from the place at on, a bad field is at k
abbrev pub BadRow : (List ℕ → ℕ → ℕ → Type 0) → ℕ → List ℕ → ℕ → ℕ → ℕ → Type 0
BadRow bad w bs at n k = (i : ℕ) × (j : ℕ) × (i < n) × (k ≡ at + w * i + j) × bad bs (at + w * i) j

-- xs are the n records of w bytes from the place at on
pub record GotAll
    {X : Type 0} (spelt : X → List ℕ) (w : ℕ) (fine : X → Type 0) (bad : List ℕ → ℕ → ℕ → Type 0)
    (bs : List ℕ) (at n : ℕ) (xs : List X)
    : Type 0 where
  pub many : length xs ≡ n
  pub spell : flat_map spelt xs ≡ between at (w * n) bs
  pub in_range : AllByRecursion fine xs
  pub clean : Nowhere (BadRow bad w bs at n)

-- what bad says of a record's bytes, of the w bytes from the place at on
abbrev pub Placed : (List ℕ → ℕ → Type 0) → ℕ → List ℕ → ℕ → ℕ → Type 0
Placed bad w bs at = bad (between at w bs)

-- the record of these w bytes, or the refusal at its lowest bad field
abbrev pub ReadOne :
    {X : Type 0} → (X → List ℕ) → ℕ → (X → Type 0) → (List ℕ → ℕ → Type 0)
    → List ℕ → ℕ → Result X Fault → Type 0
ReadOne spelt w fine bad bs at r =
    MatchResult r (Got spelt fine (Placed bad w bs at) (between at w bs))
    (λ f. (j : ℕ) × (f ≡ Fault.Records Field (at + j)) × (j < w) × Lowest (Placed bad w bs at) j)

-- the n records, or the refusal at the lowest place of a bad field, which lies among them
abbrev pub ReadAll :
    {X : Type 0} {most : ℕ} → (X → List ℕ) → ℕ → (X → Type 0) → (List ℕ → ℕ → Type 0)
    → List ℕ → ℕ → ℕ → Result (Bounded X most) Fault → Type 0
ReadAll spelt w fine bad bs at n r =
    MatchResult r (λ b. GotAll spelt w fine (Placed bad w) bs at n (held b))
    (λ f. (k : ℕ) × (f ≡ Fault.Records Field k) × (k < at + w * n) × Lowest (BadRow (Placed bad w) w bs at n) k)

-- the bytes begin with the mark, have these counts, each in its range, and the length that they ask for
pub record Fronted (bs : List ℕ) (n : Counts) : Type 0 where
  pub marked : between 0 5 bs ≡ mark
  pub counted : n ≡ counts_at bs
  pub sensors : (1 ≤ n.sensors) × (n.sensors ≤ 16)
  pub actors : (1 ≤ n.actors) × (n.actors ≤ 32)
  pub actuators : (1 ≤ n.actuators) × (n.actuators ≤ 16)
  pub channels : (1 ≤ n.channels) × (n.channels ≤ 96)
  pub whole : length bs ≡ size n.sensors n.actors n.channels

-- a field at k is out of range
abbrev pub BadField : List ℕ → ℕ → Type 0
BadField bs k = BadSensor bs k ⊎ (BadActor bs k ⊎ BadChannel bs k)
