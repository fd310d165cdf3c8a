-- How the wait of an actor comes from the channels of sensors and a table of distances.
use Rattle.std.specs.Prelude.{◌≡◌, ℕ, cond, List, ℤ, pos, ◌-ℤ◌, ◌≤ℤ◌, Some, None, Option, MatchOption, ◌==◌}
use Rattle.std.specs.Option.{option_map, unwrap_or}
use Rattle.line.specs.Lists.{In}
use Rattle.line.specs.Plan.{Plan, lateness}
use Rattle.line.specs.declared.parts.Source.{Source}
use Rattle.line.specs.declared.parts.Source.TheVariants.{Sensor, Outlet}
use Rattle.line.specs.declared.parts.Sink.{Sink}
use Rattle.line.specs.declared.parts.Sink.TheVariants.{Inlet, Actuator}
use Rattle.line.specs.declared.parts.Channel.{Channel}
use Rattle.paths.specs.Least.{length_at}
use Rattle.paths.specs.declared.span.Span.{Span}
use Rattle.project.specs.Tables.{places}

-- from actor b, which a sensor feeds, to actor a by the table f
abbrev pub gap : List Span → ℕ → ℕ → Option ℕ
gap f b a = cond (a == b) (Some 0) (length_at places f b a)

-- what the channel from x to y asks of actor a: the sensor's lateness less the distance, if it is a sensor's and comes to a
abbrev pub slack_of : Plan → List Span → ℕ → Source → Sink → Option ℤ
slack_of p f a (Sensor s) (Inlet b i) = option_map (λ d. pos (lateness p s) -ℤ pos d) (gap f b a)
slack_of p f a (Sensor s) (Actuator q) = None
slack_of p f a (Outlet c o) (Inlet b i) = None
slack_of p f a (Outlet c o) (Actuator q) = None

-- a channel of cs asks w of actor a
abbrev pub Asks : Plan → List Span → ℕ → List Channel → ℤ → Type 0
Asks p f a cs w = (c : Channel) × In c cs × (slack_of p f a c.source c.sink ≡ Some w)

-- v is the greatest number of which P holds, none exactly where P holds of no number
abbrev pub Greatest : (ℤ → Type 0) → Option ℤ → Type 0
Greatest P v = MatchOption v ((w : ℤ) → P w → ⊥) (λ m. P m × ((w : ℤ) → P w → w ≤ℤ m))

-- w is the greatest number that a channel asks of actor a, or 0 where none asks
abbrev pub Awaits : Plan → List Span → ℕ → ℤ → Type 0
Awaits p f a w = (v : Option ℤ) × Greatest (Asks p f a p.channels) v × (w ≡ unwrap_or v (pos 0))
