-- The image of a plan: mark, version, counts, then sensors, actors and channels.
use Rattle.std.specs.Prelude.{ℕ, ◌+◌, ◌*◌, List, [], ◌∷◌, ◌++◌, length}
use Rattle.std.specs.Int.{w32}
use Rattle.std.proofs.Common.{of_z}
use Rattle.std.specs.List.{flat_map}
use Rattle.line.specs.Numbers.{kind_number}
use Rattle.line.specs.Plan.{Plan}
use Rattle.line.specs.declared.parts.Actor.{Actor}
use Rattle.line.specs.declared.parts.Source.{Source}
use Rattle.line.specs.declared.parts.Source.TheVariants.{Sensor, Outlet}
use Rattle.line.specs.declared.parts.Sink.{Sink}
use Rattle.line.specs.declared.parts.Sink.TheVariants.{Inlet, Actuator}
use Rattle.line.specs.declared.parts.Channel.{Channel}
use Rattle.image.specs.Bytes.{le}

-- the mark LIN and the version 1
abbrev pub mark : List ℕ
mark = 76 ∷ 73 ∷ 78 ∷ 1 ∷ 0 ∷ []

-- a sensor is its lateness
abbrev pub sensor_bytes : ℕ → List ℕ
sensor_bytes l = le 4 l

-- kind, parameter (two's complement) and delay
abbrev pub actor_bytes : Actor → List ℕ
actor_bytes x = kind_number x.kind ∷ (le 4 (of_z w32 x.parameter) ++ le 4 x.delay)

-- sort, number and outlet
abbrev pub source_bytes : Source → List ℕ
source_bytes (Sensor s) = 0 ∷ s ∷ 0 ∷ []
source_bytes (Outlet a o) = 1 ∷ a ∷ o ∷ []

-- sort, number and inlet
abbrev pub sink_bytes : Sink → List ℕ
sink_bytes (Inlet a i) = 0 ∷ a ∷ i ∷ []
sink_bytes (Actuator q) = 1 ∷ q ∷ 0 ∷ []

abbrev pub channel_bytes : Channel → List ℕ
channel_bytes c = source_bytes c.source ++ sink_bytes c.sink

-- the length that the counts ask for
abbrev pub size : ℕ → ℕ → ℕ → ℕ
size s a c = 9 + 4 * s + 9 * a + 6 * c

abbrev pub counts : Plan → List ℕ
counts p = length p.sensors ∷ length p.actors ∷ p.actuators ∷ length p.channels ∷ []

abbrev pub image : Plan → List ℕ
image p = mark ++ (counts p ++ (flat_map sensor_bytes p.sensors ++ (flat_map actor_bytes p.actors ++ flat_map channel_bytes p.channels)))
