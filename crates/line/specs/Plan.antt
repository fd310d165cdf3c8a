-- What a project says: sensors, actors, actuators and channels.
use Rattle.std.specs.Prelude.{ℕ, Bool, false, ◌&&◌, List, pos, Option, ◌==◌, slice_index, slice_index_or}
use Rattle.line.specs.Lists.{In, first}
use Rattle.line.specs.declared.parts.Kind.TheVariants.{Pass}
use Rattle.line.specs.declared.parts.Actor.{Actor}
use Rattle.line.specs.declared.parts.Source.{Source}
use Rattle.line.specs.declared.parts.Source.TheVariants.{Sensor, Outlet}
use Rattle.line.specs.declared.parts.Sink.{Sink}
use Rattle.line.specs.declared.parts.Sink.TheVariants.{Inlet, Actuator}
use Rattle.line.specs.declared.parts.Channel.{Channel}

-- sensors by their lateness, actors, how many actuators, and the channels, each numbered from 0
pub record Plan : Type 0 where
  pub sensors : List ℕ
  pub actors : List Actor
  pub actuators : ℕ
  pub channels : List Channel

-- stands in for an actor whose number is not in the plan
abbrev pub nobody : Actor
nobody = record { kind = Pass; parameter = pos 0; delay = 0 }

abbrev pub lateness : Plan → ℕ → ℕ
lateness p s = slice_index p.sensors s

abbrev pub actor_of : Plan → ℕ → Actor
actor_of p a = slice_index_or p.actors a nobody

-- the delay that an outlet of an actor adds to a timestamp: the actor's, at each of its outlets
abbrev pub delay_at : Actor → ℕ → ℕ
delay_at x o = x.delay

abbrev pub delay : Plan → ℕ → ℕ → ℕ
delay p a o = delay_at (actor_of p a) o

-- a channel leads from x to y
abbrev pub Leads : Plan → Source → Sink → Type 0
Leads p x y = In (record { source = x; sink = y }) p.channels

abbrev pub same_sink : Sink → Sink → Bool
same_sink (Inlet a i) (Inlet b j) = a == b && i == j
same_sink (Inlet a i) (Actuator q) = false
same_sink (Actuator q) (Inlet a i) = false
same_sink (Actuator q) (Actuator r) = q == r

abbrev pub same_source : Source → Source → Bool
same_source (Sensor m) (Sensor n) = m == n
same_source (Sensor m) (Outlet a o) = false
same_source (Outlet a o) (Sensor n) = false
same_source (Outlet a o) (Outlet b q) = a == b && o == q

-- where the first channel from x ends, if there is one
abbrev pub end_of : Source → List Channel → Option Sink
end_of x cs = first (λ c. same_source c.source x) (λ c. c.sink) cs

-- where the first channel to y begins, if there is one
abbrev pub start_of : Sink → List Channel → Option Source
start_of y cs = first (λ c. same_sink c.sink y) (λ c. c.source) cs

-- where an outlet's channel ends, and where a sensor's does
abbrev pub wire : Plan → ℕ → ℕ → Option Sink
wire p a o = end_of (Outlet a o) p.channels

abbrev pub feed : Plan → ℕ → Option Sink
feed p s = end_of (Sensor s) p.channels
