-- The fields of one record: when they are out of range, by their values.
use Rattle.std.specs.Prelude.{◌≡◌, ℕ, ◌<◌, ◌≤◌, ◌⊎◌, List, [], ◌∷◌, ◌++◌, length, ℤ, pos, Result, ◌≢◌}
use Rattle.std.specs.Int.{w32}
use Rattle.std.proofs.Common.{of_z}
use Rattle.line.specs.Plan.{Plan}
use Rattle.line.specs.Rules.{Begins, Ends, Bypass, Proper, Possible, longest}
use Rattle.line.specs.declared.parts.Actor.{Actor}
use Rattle.line.specs.declared.parts.Sink.{Sink}
use Rattle.line.specs.declared.parts.Channel.{Channel}
use Rattle.line.specs.declared.parts.Source.{Source}
use Rattle.line.specs.declared.parts.Source.TheVariants.{Sensor, Outlet}
use Rattle.image.specs.Bytes.{le, val}
use Rattle.image.specs.Encoding.{actor_bytes, source_bytes, sink_bytes}
use Rattle.image.specs.Reading.{Judged}
use Rattle.image.specs.Refusals.{byte}
use Rattle.image.specs.declared.counts.Counts.{Counts}
use Rattle.image.specs.declared.row.FieldError.{FieldError}

-- the plan has as many records as the counts say
pub record Counted (n : Counts) (p : Plan) : Type 0 where
  pub sensors : length p.sensors ≡ n.sensors
  pub actors : length p.actors ≡ n.actors
  pub actuators : p.actuators ≡ n.actuators

-- P holds in every plan with these counts
abbrev pub InPlans : Counts → (Plan → Type 0) → Type 0
InPlans n P = (p : Plan) → Counted n p → P p

-- in each plan with these counts: the source is in it,
abbrev pub Starts : Counts → Source → Type 0
Starts n x = InPlans n (λ p. Begins p x)

-- the sink is in it and may stand behind x,
abbrev pub Stops : Counts → Source → Sink → Type 0
Stops n x y = InPlans n (λ p. Ends p y) × (Bypass x y → ⊥)

-- the channel keeps the rules
abbrev pub Wired : Counts → Channel → Type 0
Wired n c = InPlans n (λ p. Proper p c)

-- the field at the offset j of a sensor of these bytes
abbrev pub BadSensorField : List ℕ → ℕ → Type 0
BadSensorField bytes j = (j ≡ 0) × (longest < val bytes)

-- of an actor, and its bytes: kind, parameter, delay
abbrev pub BadActorOf : ℕ → ℤ → ℕ → ℕ → Type 0
BadActorOf kind parameter delay j =
    ((j ≡ 0) × (6 < kind))
    ⊎ (((j ≡ 1) × (kind ≤ 3) × (parameter ≢ pos 0))
    ⊎ ((j ≡ 5) × (longest < delay)))

abbrev pub fields_bytes : ℕ → ℤ → ℕ → List ℕ
fields_bytes kind parameter delay = kind ∷ (le 4 (of_z w32 parameter) ++ le 4 delay)

-- the actor of these fields, or the offset of the lowest bad one
abbrev pub ActorOf : ℕ → ℤ → ℕ → Result Actor FieldError → Type 0
ActorOf kind parameter delay r =
    Judged actor_bytes Possible (BadActorOf kind parameter delay) (fields_bytes kind parameter delay) 9 r

-- of a channel's source: sort, number, outlet
abbrev pub BadSource : Counts → ℕ → ℕ → ℕ → ℕ → Type 0
BadSource n sort number outlet j =
    ((j ≡ 0) × (1 < sort))
    ⊎ (((j ≡ 1) × (((sort ≡ 0) × (n.sensors ≤ number)) ⊎ ((sort ≡ 1) × (n.actors ≤ number))))
    ⊎ ((j ≡ 2) × (((sort ≡ 0) × (0 < outlet)) ⊎ ((sort ≡ 1) × (3 < outlet)))))

abbrev pub SourceOf : Counts → ℕ → ℕ → ℕ → Result Source FieldError → Type 0
SourceOf n sort number outlet r =
    Judged source_bytes (Starts n) (BadSource n sort number outlet) (sort ∷ number ∷ outlet ∷ []) 3 r

abbrev pub source_sort : Source → ℕ
source_sort (Sensor s) = 0
source_sort (Outlet a o) = 1

-- of its sink, behind a source of the sort `from`: sort, number, inlet
abbrev pub BadSink : Counts → ℕ → ℕ → ℕ → ℕ → ℕ → Type 0
BadSink n from sort number inlet j =
    ((j ≡ 3) × ((1 < sort) ⊎ ((from ≡ 0) × (sort ≡ 1))))
    ⊎ (((j ≡ 4) × (((sort ≡ 0) × (n.actors ≤ number)) ⊎ ((sort ≡ 1) × (n.actuators ≤ number))))
    ⊎ ((j ≡ 5) × (((sort ≡ 0) × (3 < inlet)) ⊎ ((sort ≡ 1) × (0 < inlet)))))

abbrev pub SinkOf : Counts → Source → ℕ → ℕ → ℕ → Result Sink FieldError → Type 0
SinkOf n x sort number inlet r =
    Judged sink_bytes (Stops n x) (BadSink n (source_sort x) sort number inlet) (sort ∷ number ∷ inlet ∷ []) 6 r

-- of a channel of these bytes
abbrev pub BadChannelOf : Counts → List ℕ → ℕ → Type 0
BadChannelOf n bytes j =
    BadSource n (byte bytes 0) (byte bytes 1) (byte bytes 2) j
    ⊎ BadSink n (byte bytes 0) (byte bytes 3) (byte bytes 4) (byte bytes 5) j
