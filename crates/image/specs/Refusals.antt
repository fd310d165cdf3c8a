-- When reading an image is refused, and with which place.
use Rattle.std.specs.Prelude.{◌≡◌, ℕ, ◌+◌, ◌*◌, ◌<◌, ◌≤◌, ◌⊎◌, List, [], ◌∷◌, length, ◌≢◌, slice_index}
use Rattle.fault.specs.Table.{entry, place_of}
use Rattle.fault.specs.declared.BytesCause.TheVariants.{Head, Count, Length}
use Rattle.fault.specs.declared.RecordsCause.TheVariants.{Field, Order, Sink}
use Rattle.fault.specs.declared.GraphCause.TheVariants.{Unwired, CutOff, ZeroLoop}
use Rattle.fault.specs.declared.Fault.{Fault}
use Rattle.line.specs.Plan.{Plan}
use Rattle.line.specs.Rules.{Sized, Ranged, Misplaced, Doubled, Idle, Unfed, Severed, Instant, longest}
use Rattle.image.specs.Bytes.{val, between}
use Rattle.image.specs.Encoding.{image, mark, size}

-- byte k; 0 past the end
abbrev pub byte : List ℕ → ℕ → ℕ
byte bs k = slice_index bs k

-- the greatest counts of sensors, actors, actuators and channels
abbrev pub mosts : List ℕ
mosts = 16 ∷ 32 ∷ 16 ∷ 96 ∷ []

abbrev pub most : ℕ → ℕ
most k = slice_index mosts k

-- where the actors and the channels begin
abbrev pub actors_at : List ℕ → ℕ
actors_at bs = 9 + 4 * byte bs 5

abbrev pub channels_at : List ℕ → ℕ
channels_at bs = actors_at bs + 9 * byte bs 6

-- head: a byte of the mark differs, or there are fewer than nine bytes
abbrev pub Unmarked : List ℕ → ℕ → Type 0
Unmarked bs k = ((k < 5) × (k < length bs) × (byte bs k ≢ byte mark k)) ⊎ ((length bs < 9) × (k ≡ length bs))

-- a count is 0 or above its greatest
abbrev pub Uncounted : List ℕ → ℕ → Type 0
Uncounted bs k = (i : ℕ) × (i < 4) × (k ≡ 5 + i) × ((byte bs k ≡ 0) ⊎ (most i < byte bs k))

-- the counts ask for another length: k
abbrev pub Unfit : List ℕ → ℕ → Type 0
Unfit bs k = (k ≡ size (byte bs 5) (byte bs 6) (byte bs 8)) × (length bs ≢ k)

-- a sensor's lateness at the offset k is out of range
abbrev pub BadSensor : List ℕ → ℕ → Type 0
BadSensor bs k = (i : ℕ) × (i < byte bs 5) × (k ≡ 9 + 4 * i) × (longest < val (between k 4 bs))

-- of the actor whose bytes begin at b, the field at the offset b + j is out of range:
-- its kind, the parameter of a kind that has none, or its delay
abbrev pub BadActorField : List ℕ → ℕ → ℕ → Type 0
BadActorField bs b j =
    ((j ≡ 0) × (6 < byte bs b))
    ⊎ (((j ≡ 1) × (byte bs b ≤ 3) × (val (between (b + 1) 4 bs) ≢ 0))
    ⊎ ((j ≡ 5) × (longest < val (between (b + 5) 4 bs))))

abbrev pub BadActor : List ℕ → ℕ → Type 0
BadActor bs k = (i : ℕ) × (j : ℕ) × (i < byte bs 6) × (k ≡ actors_at bs + 9 * i + j) × BadActorField bs (actors_at bs + 9 * i) j

-- of the channel whose bytes begin at b, the field at the offset b + j is out of range or against a rule:
-- source sort, source number, outlet, sink sort (a sensor feeds no actuator), sink number, inlet
abbrev pub BadChannelField : List ℕ → ℕ → ℕ → Type 0
BadChannelField bs b j =
    ((j ≡ 0) × (1 < byte bs b))
    ⊎ (((j ≡ 1) × (((byte bs b ≡ 0) × (byte bs 5 ≤ byte bs (b + 1))) ⊎ ((byte bs b ≡ 1) × (byte bs 6 ≤ byte bs (b + 1)))))
    ⊎ (((j ≡ 2) × (((byte bs b ≡ 0) × (0 < byte bs (b + 2))) ⊎ ((byte bs b ≡ 1) × (3 < byte bs (b + 2)))))
    ⊎ (((j ≡ 3) × ((1 < byte bs (b + 3)) ⊎ ((byte bs b ≡ 0) × (byte bs (b + 3) ≡ 1))))
    ⊎ (((j ≡ 4) × (((byte bs (b + 3) ≡ 0) × (byte bs 6 ≤ byte bs (b + 4))) ⊎ ((byte bs (b + 3) ≡ 1) × (byte bs 7 ≤ byte bs (b + 4)))))
    ⊎ ((j ≡ 5) × (((byte bs (b + 3) ≡ 0) × (3 < byte bs (b + 5))) ⊎ ((byte bs (b + 3) ≡ 1) × (0 < byte bs (b + 5)))))))))

abbrev pub BadChannel : List ℕ → ℕ → Type 0
BadChannel bs k = (i : ℕ) × (j : ℕ) × (i < byte bs 8) × (k ≡ channels_at bs + 6 * i + j) × BadChannelField bs (channels_at bs + 6 * i) j

-- the bytes are the image of a plan with each field in its range, of which P holds
abbrev pub Spells : List ℕ → (Plan → Type 0) → Type 0
Spells bs P = (p : Plan) × (bs ≡ image p) × Sized p × Ranged p × P p

-- a sensor feeds nothing, at its number, or an actuator is not fed, at 16 and its number
abbrev pub Loose : Plan → ℕ → Type 0
Loose p k = Idle p k ⊎ ((q : ℕ) × (k ≡ 16 + q) × Unfed p q)

-- what each refusal says of a plan whose fields are in range
abbrev pub Flaw : Plan → Fault → Type 0
Flaw p (Fault.Bytes cause k) = ⊥
Flaw p (Fault.Records Field k) = ⊥
Flaw p (Fault.Records Order k) = Misplaced p k
Flaw p (Fault.Records Sink k) = Doubled p k
Flaw p (Fault.Graph Unwired k) = Loose p k
Flaw p (Fault.Graph CutOff k) = Severed p k
Flaw p (Fault.Graph ZeroLoop k) = Instant p k
Flaw p (Fault.Run cause k) = ⊥

-- what each refusal says of an image
abbrev pub Faulty : List ℕ → Fault → Type 0
Faulty bs (Fault.Bytes Head k) = Unmarked bs k
Faulty bs (Fault.Bytes Count k) = Uncounted bs k
Faulty bs (Fault.Bytes Length k) = Unfit bs k
Faulty bs (Fault.Records Field k) = BadSensor bs k ⊎ (BadActor bs k ⊎ BadChannel bs k)
Faulty bs (Fault.Records Order k) = Spells bs (λ p. Flaw p (Fault.Records Order k))
Faulty bs (Fault.Records Sink k) = Spells bs (λ p. Flaw p (Fault.Records Sink k))
Faulty bs (Fault.Graph cause k) = Spells bs (λ p. Flaw p (Fault.Graph cause k))
Faulty bs (Fault.Run cause k) = ⊥

-- f comes before g in the order of checks: by number, then by place
abbrev pub Earlier : Fault → Fault → Type 0
Earlier f g = ((entry f).number < (entry g).number) ⊎ (((entry f).number ≡ (entry g).number) × (place_of f < place_of g))

-- f is the refusal that reading gives: it holds, and none before it does
pub record First (bs : List ℕ) (f : Fault) : Type 0 where
  pub holds : Faulty bs f
  pub none_before : (g : Fault) → Earlier g f → Faulty bs g → ⊥
