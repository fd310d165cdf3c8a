-- The table of edges that the channels of a plan draw between 33 places: 32 actors, and one place for all actuators.
use Rattle.std.specs.Prelude.{◌≡◌, ℕ, ◌^◌, ◌<◌, min, Bool, true, false, cond, ◌&&◌, ◌⊎◌, List, length, Some, None, Decides, Option, ◌==◌}
use Rattle.line.specs.Lists.{In}
use Rattle.line.specs.Plan.{Plan, delay}
use Rattle.line.specs.Paths.{Least, Path, Exit, Distance}
use Rattle.line.specs.declared.parts.Source.{Source}
use Rattle.line.specs.declared.parts.Source.TheVariants.{Sensor, Outlet}
use Rattle.line.specs.declared.parts.Sink.{Sink}
use Rattle.line.specs.declared.parts.Sink.TheVariants.{Inlet, Actuator}
use Rattle.line.specs.declared.parts.Channel.{Channel}
use Rattle.paths.specs.Paths.{at}
use Rattle.paths.specs.Least.{length_at}
use Rattle.paths.specs.declared.span.Span.{Span}

abbrev pub places : ℕ
places = 33

-- the place of all actuators
abbrev pub exit : ℕ
exit = 32

-- the place at which a channel ends
abbrev pub place_of : Sink → ℕ
place_of (Inlet a i) = a
place_of (Actuator q) = exit

-- the length of an edge after one of n microseconds has been laid beside it
abbrev pub nearer : Option ℕ → ℕ → Option ℕ
nearer None n = Some n
nearer (Some m) n = Some (min m n)

-- the length of the edge from b to a after the channel from x to y
abbrev pub offered : Plan → Source → Sink → ℕ → ℕ → Option ℕ → Option ℕ
offered p (Sensor s) y b a v = v
offered p (Outlet c o) y b a v = cond (b == c && a == place_of y) (nearer v (delay p c o)) v

-- u is the table t with the edge of the channel c
abbrev pub Adds : Plan → Channel → List Span → List Span → Type 0
Adds p c t u = (b a : ℕ) → b < places → a < places → length_at places u b a ≡ offered p c.source c.sink b a (length_at places t b a)

-- a channel of cs leads from an outlet of b, of delay n, to the place a
abbrev pub Lies : Plan → List Channel → ℕ → ℕ → ℕ → Type 0
Lies p cs b a n = (o : ℕ) × (y : Sink) × In (record { source = Outlet b o; sink = y }) cs × (place_of y ≡ a) × (delay p b o ≡ n)

-- the table has the least delays of the channels cs between places
abbrev pub Laid : Plan → List Channel → List Span → Type 0
Laid p cs t = (b a : ℕ) → b < places → a < places → Least (Lies p cs b a) (length_at places t b a)

-- no length in the table is long
abbrev pub Small : List Span → Type 0
Small r = (b a d : ℕ) → a < places → length_at places r b a ≡ Some d → d < 2 ^ 63

-- the least sums of delays between actors and to an actuator
pub record Far (p : Plan) (r : List Span) : Type 0 where
  pub distances : (b a : ℕ) → b < exit → a < exit → Distance p b a (length_at places r b a)
  pub exits : (b : ℕ) → b < exit → Least (Exit p b) (length_at places r b exit)

-- which actors reach which, and which reach an actuator
pub record Reach (p : Plan) (r : List Bool) : Type 0 where
  pub paths : (b a : ℕ) → b < exit → a < exit → Decides (at false places r b a) ((n : ℕ) × Path p b a n)
  pub exits : (b : ℕ) → b < exit → Decides (at false places r b exit) ((n : ℕ) × Exit p b n)

-- by the table r, a channel from a sensor comes to actor a, there or by a path
abbrev pub Serves : List Bool → ℕ → Source → Sink → Type 0
Serves r a (Sensor s) (Inlet b i) = (a ≡ b) ⊎ (at false places r b a ≡ true)
Serves r a (Sensor s) (Actuator q) = ⊥
Serves r a (Outlet b o) (Inlet c i) = ⊥
Serves r a (Outlet b o) (Actuator q) = ⊥

-- by the table r, no channel from a sensor comes to actor a, or a reaches no actuator
abbrev pub SeveredBy : Plan → List Bool → ℕ → Type 0
SeveredBy p r a = (a < length p.actors) × (((c : Channel) → In c p.channels → Serves r a c.source c.sink → ⊥) ⊎ (at false places r a exit ≡ false))

-- by the table r, actor a is at distance 0 from itself
abbrev pub InstantBy : Plan → List Span → ℕ → Type 0
InstantBy p r a = (a < length p.actors) × (length_at places r a a ≡ Some 0)
