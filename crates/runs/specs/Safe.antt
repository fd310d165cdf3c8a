-- What holds of every state of a runtime, whatever its bank.
use Rattle.std.specs.Prelude.{◌≡◌, ℕ, ◌+◌, ◌<◌, ◌≤◌, true, ◌⊎◌, length, pos, ◌+ℤ◌, ◌<ℤ◌, Some, None, Option}
use Rattle.line.specs.Plan.{Plan}
use Rattle.line.specs.Paths.{Path}
use Rattle.line.specs.Times.{Line}
use Rattle.runs.specs.Lists.{Each, Pairs, Ordered}
use Rattle.runs.specs.State.{State, event_time, output_time, deadline_of, longest_delay}
use Rattle.runs.specs.Calls.{horizon, event_room, output_room, event_places, output_places}
use Rattle.runs.specs.declared.records.Event.{Event}
use Rattle.runs.specs.declared.records.Running.{Running}
use Rattle.runs.specs.declared.records.Output.{Output}

-- a path of any number of channels from actor b to actor a, with the sum of its delays
abbrev pub Reach : Plan → ℕ → ℕ → ℕ → Type 0
Reach p b a n = ((b ≡ a) × (n ≡ 0)) ⊎ Path p b a n

-- t is above the number, if there is one
abbrev pub Above : Option ℕ → ℕ → Type 0
Above None t = Unit {0}
Above (Some u) t = u < t

-- no firing is overtaken: T has the timestamp of each actor's latest accepted start
pub record Causal (l : Line) (T : ℕ → Option ℕ) (s : State) : Type 0 where
  -- what a waiting event leads to lies above the latest start, at its own actor and at every one that it reaches
  pub ahead : (a : ℕ) → Each (λ (e : Event). (k : ℕ) → Reach l.plan e.actor a k →
      Above (T a) (e.timestamp + k)) s.events
  -- and so does what a stacked firing leads to
  pub above : (a : ℕ) → Each (λ (f : Running). (k : ℕ) → Path l.plan f.actor a k →
      Above (T a) (f.timestamp + k)) s.stack
  -- no sensor can still send an event that would come before a start
  pub settled : s.taking ≡ true → (a t : ℕ) → T a ≡ Some t → (pos t +ℤ l.wait a) <ℤ pos s.clock
  -- deadlines fall towards the top
  pub falling : Pairs (λ (f g : Running). deadline_of l f < deadline_of l g) s.stack
  -- a stacked firing is its actor's latest start
  pub latest : Each (λ (f : Running). T f.actor ≡ Some f.timestamp) s.stack

-- an event at an inlet of an actor of the plan, in time
pub record FittingEvent (p : Plan) (e : Event) : Type 0 where
  pub actor : e.actor < length p.actors
  pub inlet : e.inlet < 4
  pub timestamp : e.timestamp ≤ horizon

-- a firing of an actor of the plan whose outlets send in time
pub record FittingFiring (p : Plan) (f : Running) : Type 0 where
  pub actor : f.actor < length p.actors
  pub inlets : length f.inlets ≡ 4
  pub timestamp : f.timestamp + longest_delay p f.actor ≤ horizon

-- an output for an actuator of the plan, in time
pub record FittingOutput (p : Plan) (o : Output) : Type 0 where
  pub actuator : o.actuator < p.actuators
  pub timestamp : o.timestamp ≤ horizon

-- there is room for all that waits and all that the stack will send, lists are in order, and numbers are in range
pub record Fitting (p : Plan) (s : State) : Type 0 where
  pub events_fit : event_places p s ≤ event_room
  pub outputs_fit : output_places p s ≤ output_room
  pub events_rise : Ordered event_time s.events
  pub outputs_rise : Ordered output_time s.outputs
  pub events : Each (FittingEvent p) s.events
  pub stack : Each (FittingFiring p) s.stack
  pub outputs : Each (FittingOutput p) s.outputs
  pub clock : s.clock ≤ horizon
  pub last : (x t : ℕ) → s.last x ≡ Some t → t ≤ s.clock

-- no firing is overtaken, for some record of the latest starts, and all fits
pub record Safe (l : Line) (s : State) : Type 0 where
  pub starts : ℕ → Option ℕ
  pub causal : Causal l starts s
  pub fitting : Fitting l.plan s

-- the same as a fact that has one proof at most: the form for an invariant of a type
abbrev pub Secure : Line → State → Type 0
Secure l s = ∥ Safe l s ∥₁
