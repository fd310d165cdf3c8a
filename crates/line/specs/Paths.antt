-- Paths over the channels of a plan, and the sums of delays along them.
use Rattle.std.specs.Prelude.{◌≡◌, ℕ, ◌+◌, ◌<◌, ◌≤◌, ◌⊎◌, length, ℤ, pos, ◌-ℤ◌, ◌≤ℤ◌, Option, MatchOption}
use Rattle.line.specs.Plan.{Plan, Leads, delay, lateness}
use Rattle.line.specs.declared.parts.Source.TheVariants.{Sensor, Outlet}
use Rattle.line.specs.declared.parts.Sink.TheVariants.{Inlet, Actuator}

-- a path of one or more channels from actor b to actor a, and the sum of the delays of the outlets that it takes:
-- b's and those of the actors passed through, not a's
pub data Path (p : Plan) : ℕ → ℕ → ℕ → Type 0 where
  hop : {b a : ℕ} (o i : ℕ) → Leads p (Outlet b o) (Inlet a i) → Path p b a (delay p b o)
  via : {b c a n : ℕ} (o i : ℕ) → Leads p (Outlet b o) (Inlet c i) → Path p c a n → Path p b a (delay p b o + n)

-- a path from actor b to an actuator, and the sum of the delays of the outlets that it takes
pub data Exit (p : Plan) : ℕ → ℕ → Type 0 where
  out : {b : ℕ} (o q : ℕ) → Leads p (Outlet b o) (Actuator q) → Exit p b (delay p b o)
  on : {b c n : ℕ} (o i : ℕ) → Leads p (Outlet b o) (Inlet c i) → Exit p c n → Exit p b (delay p b o + n)

-- a way from sensor s to actor a: the actor that it feeds, with sum 0, or a path on from there
abbrev pub From : Plan → ℕ → ℕ → ℕ → Type 0
From p s a n = (b : ℕ) × (i : ℕ) × Leads p (Sensor s) (Inlet b i) × (((a ≡ b) × (n ≡ 0)) ⊎ Path p b a n)

-- d is the least of the sums in P, none exactly where P has no sum
abbrev pub Least : (ℕ → Type 0) → Option ℕ → Type 0
Least P d = MatchOption d ((n : ℕ) → P n → ⊥) (λ m. P m × ((n : ℕ) → P n → m ≤ n))

-- the distance from actor b to actor a
abbrev pub Distance : Plan → ℕ → ℕ → Option ℕ → Type 0
Distance p b a d = Least (Path p b a) d

-- the relative deadline of actor b: the least sum on the way to an actuator
abbrev pub Deadline : Plan → ℕ → ℕ → Type 0
Deadline p b r = Exit p b r × ((n : ℕ) → Exit p b n → r ≤ n)

-- the distance from sensor s to actor a
abbrev pub Approach : Plan → ℕ → ℕ → ℕ → Type 0
Approach p s a d = From p s a d × ((n : ℕ) → From p s a n → d ≤ n)

-- w is the difference of a sensor's lateness and its distance to actor a
abbrev pub Slack : Plan → ℕ → ℤ → Type 0
Slack p a w = (s : ℕ) × (d : ℕ) × (s < length p.sensors) × Approach p s a d × (w ≡ pos (lateness p s) -ℤ pos d)

-- the wait of actor a: the greatest such difference over the sensors that reach it; it may be below zero
abbrev pub Wait : Plan → ℕ → ℤ → Type 0
Wait p a w = Slack p a w × ((v : ℤ) → Slack p a v → v ≤ℤ w)
