-- The state of a runtime, and what each accepted call makes of it.
use Rattle.std.specs.Prelude.{ℕ, ◌+◌, max, Bool, true, false, cond, not, ◌&&◌, List, [], ◌∷◌, length, ℤ, Some, None, Option, ◌==◌, slice_index_or}
use Rattle.std.specs.List.{flat_map}
use Rattle.line.specs.Plan.{Plan, wire, feed, delay}
use Rattle.line.specs.Times.{Line}
use Rattle.line.specs.declared.parts.Sink.{Sink}
use Rattle.line.specs.declared.parts.Sink.TheVariants.{Inlet, Actuator}
use Rattle.runs.specs.Lists.{keep, put_all, changed}
use Rattle.banks.specs.Meaning.{Meaning, Reacted}
use Rattle.runs.specs.declared.records.Event.{Event}
use Rattle.runs.specs.declared.records.Running.{Running}
use Rattle.runs.specs.declared.records.Firing.{Firing}
use Rattle.runs.specs.declared.records.Output.{Output}

-- the clock; whether events are still taken in; the last timestamp of each sensor; the events that wait, by
-- timestamp; the stack of firings, its top first; the outputs that wait, by timestamp; the row of each actor
pub record State : Type 0 where
  pub clock : ℕ
  pub taking : Bool
  pub last : ℕ → Option ℕ
  pub events : List Event
  pub stack : List Running
  pub outputs : List Output
  pub rows : ℕ → List ℤ

-- the same state with other rows: a state as it is without its bank
abbrev pub with_rows : State → (ℕ → List ℤ) → State
with_rows s w = record s { rows = w }

-- a runtime as it is opened over a bank
abbrev pub fresh : Meaning → State
fresh m = record
    { clock = 0; taking = true; last = λ _. None; events = []; stack = []; outputs = []; rows = m.rows }

-- ports ---------------------------------------------------------------------

-- the numbers of an actor's inlets, and of its outlets
abbrev pub ports : List ℕ
ports = 0 ∷ 1 ∷ 2 ∷ 3 ∷ []

-- four ports, each a value or absent
abbrev pub four : (ℕ → Option ℤ) → List (Option ℤ)
four f = f 0 ∷ f 1 ∷ f 2 ∷ f 3 ∷ []

-- what stands at a port; nothing stands at a fifth one
abbrev pub port : List (Option ℤ) → ℕ → Option ℤ
port g i = slice_index_or g i None

-- sending -------------------------------------------------------------------

-- the rank by which events and outputs wait
abbrev pub event_time : Event → ℕ
event_time e = e.timestamp

abbrev pub output_time : Output → ℕ
output_time o = o.timestamp

-- the event, and the output, that a value makes at the end of its channel
abbrev pub event_at : Option Sink → ℕ → Option ℤ → List Event
event_at None t v = []
event_at (Some (Inlet a i)) t None = []
event_at (Some (Inlet a i)) t (Some v) = record { actor = a; inlet = i; timestamp = t; value = v } ∷ []
event_at (Some (Actuator q)) t v = []

abbrev pub output_at : Option Sink → ℕ → Option ℤ → List Output
output_at None t v = []
output_at (Some (Inlet a i)) t v = []
output_at (Some (Actuator q)) t None = []
output_at (Some (Actuator q)) t (Some v) = record { actuator = q; timestamp = t; value = v } ∷ []

-- what an outlet of a firing sends: it adds its delay to the timestamp
abbrev pub event_from : Plan → Firing → ℕ → List Event
event_from p g o = event_at (wire p g.actor o) (g.timestamp + delay p g.actor o) (port g.outlets o)

abbrev pub output_from : Plan → Firing → ℕ → List Output
output_from p g o = output_at (wire p g.actor o) (g.timestamp + delay p g.actor o) (port g.outlets o)

-- what a firing sends, from its first outlet to its last
abbrev pub events_sent : Plan → Firing → List Event
events_sent p g = flat_map (event_from p g) ports

abbrev pub outputs_sent : Plan → Firing → List Output
outputs_sent p g = flat_map (output_from p g) ports

-- room ----------------------------------------------------------------------

-- a channel that ends at an inlet, and one that ends at an actuator
abbrev pub to_inlet : Option Sink → Bool
to_inlet None = false
to_inlet (Some (Inlet a i)) = true
to_inlet (Some (Actuator q)) = false

abbrev pub to_actuator : Option Sink → Bool
to_actuator None = false
to_actuator (Some (Inlet a i)) = false
to_actuator (Some (Actuator q)) = true

-- how many outlets of an actor lead where f says
abbrev pub leading : (Option Sink → Bool) → Plan → ℕ → ℕ
leading f p a = length (keep (λ o. f (wire p a o)) ports)

-- the places set aside for what the stacked firings will send
abbrev pub aside : (Option Sink → Bool) → Plan → List Running → ℕ
aside f p [] = 0
aside f p (g ∷ gs) = leading f p g.actor + aside f p gs

-- times ---------------------------------------------------------------------

-- the deadline of a firing of actor a at timestamp t
abbrev pub deadline_at : Line → ℕ → ℕ → ℕ
deadline_at l a t = t + l.deadline a

abbrev pub deadline_of : Line → Running → ℕ
deadline_of l f = deadline_at l f.actor f.timestamp

-- a delay, 0 where no channel leaves
abbrev pub wired_delay : Option Sink → ℕ → ℕ
wired_delay None d = 0
wired_delay (Some k) d = d

-- the greatest delay of an actor's wired outlets
abbrev pub longest_delay : Plan → ℕ → ℕ
longest_delay p a =
    max (wired_delay (wire p a 0) (delay p a 0)) (max (wired_delay (wire p a 1) (delay p a 1))
    (max (wired_delay (wire p a 2) (delay p a 2)) (wired_delay (wire p a 3) (delay p a 3))))

-- starting ------------------------------------------------------------------

-- an event that waits at actor a
abbrev pub at_actor : ℕ → Event → Bool
at_actor a e = e.actor == a

-- the events that a start of actor a at timestamp t takes
abbrev pub taken : ℕ → ℕ → Event → Bool
taken a t e = e.actor == a && e.timestamp == t

-- the value for an inlet among some events
abbrev pub value_for : ℕ → List Event → Option ℤ
value_for i [] = None
value_for i (e ∷ es) = cond (e.inlet == i) (Some e.value) (value_for i es)

-- the firing that a start stacks
abbrev pub running : State → ℕ → ℕ → Running
running s a t = record
    { actor = a; timestamp = t; inlets = four (λ i. value_for i (keep (taken a t) s.events)) }

-- finishing -----------------------------------------------------------------

-- a value, absent where no channel leaves
abbrev pub wired : Option Sink → Option ℤ → Option ℤ
wired None v = None
wired (Some k) v = v

-- the outlets as finish writes them: those that no channel leaves are absent
abbrev pub shown : Plan → ℕ → List (Option ℤ) → List (Option ℤ)
shown p a g = four (λ o. wired (wire p a o) (port g o))

-- what finish writes, from the outlets that the reaction gave
abbrev pub firing_of : Plan → Running → List (Option ℤ) → Firing
firing_of p f g = record
    { actor = f.actor; timestamp = f.timestamp; inlets = f.inlets; outlets = shown p f.actor g }

-- what the bank's reaction makes of a stacked firing
abbrev pub reacted : Meaning → State → Running → Reacted
reacted m s f = m.reaction f.actor (s.rows f.actor) f.timestamp f.inlets

-- what finish writes over a bank
abbrev pub firing : Plan → Meaning → State → Running → Firing
firing p m s f = firing_of p f (reacted m s f).outlets

-- what accepted calls leave ---------------------------------------------------

-- the event waits at the inlet that the sensor feeds
abbrev pub arrived : Line → State → ℕ → ℕ → ℤ → State
arrived l s x t v = record s {
  last = changed s.last x (Some t);
  events = put_all event_time (event_at (feed l.plan x) t (Some v)) s.events;
}

abbrev pub advanced : State → ℕ → State
advanced s c = record s { clock = c }

-- the events taken are stacked as one firing
abbrev pub started : State → ℕ → ℕ → State
started s a t = record s {
  events = keep (λ e. not (taken a t e)) s.events;
  stack = running s a t ∷ s.stack;
}

-- f was the top of the stack and fs the rest; r is what the reaction gave: it is sent on, and the row is kept
abbrev pub unstacked : Line → State → Running → List Running → Reacted → State
unstacked l s f fs r = record s {
  events = put_all event_time (events_sent l.plan (firing_of l.plan f r.outlets)) s.events;
  stack = fs;
  outputs = put_all output_time (outputs_sent l.plan (firing_of l.plan f r.outlets)) s.outputs;
  rows = changed s.rows f.actor r.row;
}

abbrev pub finished : Line → Meaning → State → Running → List Running → State
finished l m s f fs = unstacked l s f fs (reacted m s f)

-- os are the outputs that are left
abbrev pub delivered : State → List Output → State
delivered s os = record s { outputs = os }

-- the same content, but no more events
abbrev pub closed : State → State
closed s = record s { taking = false }
