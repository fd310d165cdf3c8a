-- The rules that every project keeps.
use Rattle.std.specs.Prelude.{◌≡◌, ℕ, ◌+◌, ◌*◌, ◌<◌, ◌≤◌, ◌⊎◌, length, ℤ, pos, negsuc, ◌≤ℤ◌, slice_index_or}
use Rattle.line.specs.Lists.{In}
use Rattle.line.specs.Plan.{Plan, Leads, lateness, actor_of}
use Rattle.line.specs.Paths.{Path, Exit, From}
use Rattle.line.specs.declared.parts.Kind.{Kind}
use Rattle.line.specs.declared.parts.Kind.TheVariants.{Pass, Count, Gate, Toggle, Scale, Sort, Other}
use Rattle.line.specs.declared.parts.Actor.{Actor}
use Rattle.line.specs.declared.parts.Source.{Source}
use Rattle.line.specs.declared.parts.Source.TheVariants.{Sensor, Outlet}
use Rattle.line.specs.declared.parts.Sink.{Sink}
use Rattle.line.specs.declared.parts.Sink.TheVariants.{Inlet, Actuator}
use Rattle.line.specs.declared.parts.Channel.{Channel}

-- the longest lateness and the longest delay
abbrev pub longest : ℕ
longest = 1_000_000_000

-- 1 to 16 sensors, 1 to 32 actors, 1 to 16 actuators and 1 to 96 channels
pub record Sized (p : Plan) : Type 0 where
  pub some_sensor : 1 ≤ length p.sensors
  pub few_sensors : length p.sensors ≤ 16
  pub some_actor : 1 ≤ length p.actors
  pub few_actors : length p.actors ≤ 32
  pub some_actuator : 1 ≤ p.actuators
  pub few_actuators : p.actuators ≤ 16
  pub some_channel : 1 ≤ length p.channels
  pub few_channels : length p.channels ≤ 96

-- the kinds without a parameter have the parameter 0
abbrev pub Plain : Kind → Type 0
Plain Pass = Unit {0}
Plain Count = Unit {0}
Plain Gate = Unit {0}
Plain Toggle = Unit {0}
Plain Scale = ⊥
Plain Sort = ⊥
Plain Other = ⊥

-- a signed number of 32 bits
abbrev pub Word : ℤ → Type 0
Word z = (negsuc 2_147_483_647 ≤ℤ z) × (z ≤ℤ pos 2_147_483_647)

pub record Possible (x : Actor) : Type 0 where
  pub number : Word x.parameter
  pub parameter : Plain x.kind → x.parameter ≡ pos 0
  pub delay : x.delay ≤ longest

-- the source is a sensor of the plan, or one of four outlets of an actor of the plan
abbrev pub Begins : Plan → Source → Type 0
Begins p (Sensor s) = s < length p.sensors
Begins p (Outlet a o) = (a < length p.actors) × (o < 4)

-- the sink is one of four inlets of an actor of the plan, or an actuator of the plan
abbrev pub Ends : Plan → Sink → Type 0
Ends p (Inlet a i) = (a < length p.actors) × (i < 4)
Ends p (Actuator q) = q < p.actuators

-- a channel from a sensor to an actuator
abbrev pub Bypass : Source → Sink → Type 0
Bypass (Sensor s) (Inlet a i) = ⊥
Bypass (Sensor s) (Actuator q) = Unit {0}
Bypass (Outlet a o) (Inlet b i) = ⊥
Bypass (Outlet a o) (Actuator q) = ⊥

-- the ends of a channel are in the plan, and it does not lead from a sensor to an actuator
pub record Proper (p : Plan) (c : Channel) : Type 0 where
  pub source : Begins p c.source
  pub sink : Ends p c.sink
  pub no_bypass : Bypass c.source c.sink → ⊥

-- each field is in its range
pub record Ranged (p : Plan) : Type 0 where
  pub latenesses : (s : ℕ) → s < length p.sensors → lateness p s ≤ longest
  pub actors : (a : ℕ) → a < length p.actors → Possible (actor_of p a)
  pub channels : (c : Channel) → In c p.channels → Proper p c

-- the weight of a source in the order of channels: sensors before outlets, then by number, then by outlet
abbrev pub weight : Source → ℕ
weight (Sensor s) = 256 * s
weight (Outlet a o) = 65536 + (256 * a + o)

-- stands in for a channel whose number is not in the plan
abbrev pub no_channel : Channel
no_channel = record { source = Sensor 0; sink = Inlet 0 0 }

abbrev pub channel_of : Plan → ℕ → Channel
channel_of p k = slice_index_or p.channels k no_channel

-- channel k does not stand above the one before it
abbrev pub Misplaced : Plan → ℕ → Type 0
Misplaced p k = (j : ℕ) × (k ≡ j + 1) × (k < length p.channels) × (weight (channel_of p k).source ≤ weight (channel_of p j).source)

-- channel k ends where an earlier one ends
abbrev pub Doubled : Plan → ℕ → Type 0
Doubled p k = (j : ℕ) × (j < k) × (k < length p.channels) × ((channel_of p j).sink ≡ (channel_of p k).sink)

-- sensor s feeds nothing
abbrev pub Idle : Plan → ℕ → Type 0
Idle p s = (s < length p.sensors) × ((y : Sink) → Leads p (Sensor s) y → ⊥)

-- actuator q is fed by nothing
abbrev pub Unfed : Plan → ℕ → Type 0
Unfed p q = (q < p.actuators) × ((x : Source) → Leads p x (Actuator q) → ⊥)

-- actor a is not reached from a sensor, or reaches no actuator
abbrev pub Severed : Plan → ℕ → Type 0
Severed p a = (a < length p.actors) × (((s n : ℕ) → From p s a n → ⊥) ⊎ ((n : ℕ) → Exit p a n → ⊥))

-- actor a lies on a cycle whose outlets all have delay 0
abbrev pub Instant : Plan → ℕ → Type 0
Instant p a = (a < length p.actors) × Path p a a 0

-- the rules of a project
pub record Lawful (p : Plan) : Type 0 where
  pub sized : Sized p
  pub ranged : Ranged p
  pub rising : (k : ℕ) → Misplaced p k → ⊥
  pub single : (k : ℕ) → Doubled p k → ⊥
  pub feeding : (s : ℕ) → Idle p s → ⊥
  pub fed : (q : ℕ) → Unfed p q → ⊥
  pub live : (a : ℕ) → Severed p a → ⊥
  pub moving : (a : ℕ) → Instant p a → ⊥
