-- The calls: when each is refused and where, what it answers, and the state it leaves.
use Rattle.std.specs.Prelude.{◌≡◌, ℕ, ◌+◌, ◌<◌, ◌≤◌, Bool, true, false, cond, not, ◌&&◌, ◌⊎◌, List, [], ◌∷◌, length, ℤ, pos, negsuc, ◌+ℤ◌, is_some, Some, None, Option, int_le, nat_le, nat_lt}
use Rattle.std.specs.Option.{unwrap_or}
use Rattle.fault.specs.declared.Fault.{Fault}
use Rattle.fault.specs.declared.RunCause.{RunCause}
use Rattle.fault.specs.declared.RunCause.TheVariants.{NoSuch, Window, Stale, Full, Back, Horizon, Due, Nothing}
use Rattle.fault.specs.declared.RunCause.TheVariants.{Early, Behind, NotSooner}
use Rattle.line.specs.Plan.{Plan, lateness}
use Rattle.line.specs.Times.{Line}
use Rattle.runs.specs.Lists.{Each, keep, least, Without}
use Rattle.banks.specs.Meaning.{Meaning}
use Rattle.runs.specs.State.{State, arrived, advanced, started, finished, delivered, closed, firing, at_actor}
use Rattle.runs.specs.State.{event_time, output_time, aside, to_inlet, to_actuator, deadline_at, deadline_of}
use Rattle.runs.specs.State.{longest_delay}
use Rattle.runs.specs.declared.records.Event.{Event}
use Rattle.runs.specs.declared.records.Running.{Running}
use Rattle.runs.specs.declared.records.Output.{Output}
use Rattle.runs.specs.declared.records.Delivered.{Delivered}
use Rattle.runs.specs.declared.records.Status.{Status}
use Rattle.runs.specs.declared.records.Call.{Call}
use Rattle.runs.specs.declared.records.Call.TheVariants.{Arrive, Advance, Pick, Start, Finish, Deliver, Report}
use Rattle.runs.specs.declared.records.Call.TheVariants.{Close}
use Rattle.runs.specs.declared.records.Answer.{Answer}
use Rattle.runs.specs.declared.records.Answer.TheVariants.{Done, Named, Fired, Wrote, Handed, Told, Refused}

-- the last microsecond
abbrev pub horizon : ℕ
horizon = 1_000_000_000_000_000

-- places for events and for outputs
abbrev pub event_room : ℕ
event_room = 128

abbrev pub output_room : ℕ
output_room = 64

-- refusals ------------------------------------------------------------------

-- a cause, and the place that it names where its condition is met
pub record Check : Type 0 where
  pub cause : RunCause
  pub place : Option ℕ

abbrev pub refuse : RunCause → Option ℕ → Check
refuse c n = record { cause = c; place = n }

-- a place, where a condition is met
abbrev pub when : Bool → ℕ → Option ℕ
when b n = cond b (Some n) None

-- a cause that is met, or else what follows
abbrev pub first_met : RunCause → Option ℕ → Option Fault → Option Fault
first_met c None f = f
first_met c (Some n) f = Some (Fault.Run c n)

-- the first cause whose condition is met refuses
abbrev pub verdict : List Check → Option Fault
verdict [] = None
verdict (c ∷ cs) = first_met c.cause c.place (verdict cs)

-- a call that is refused answers the fault and leaves the state
abbrev pub answer : Option Fault → Answer → Answer
answer None r = r
answer (Some f) r = Refused f

abbrev pub after : Option Fault → State → State → State
after None s s' = s'
after (Some f) s s' = s

-- places that are held, by what waits and by what the stacked firings will send
abbrev pub event_places : Plan → State → ℕ
event_places p s = length s.events + aside to_inlet p s.stack

abbrev pub output_places : Plan → State → ℕ
output_places p s = length s.outputs + aside to_actuator p s.stack

-- arrive --------------------------------------------------------------------

-- the last timestamp, where t is not above it
abbrev pub not_above : Option ℕ → ℕ → Option ℕ
not_above None t = None
not_above (Some u) t = when (nat_le t u) u

-- the timestamp is not in the future, nor older than the sensor's lateness allows
abbrev pub in_window : Line → State → ℕ → ℕ → Bool
in_window l s x t = nat_le t s.clock && nat_le s.clock (t + lateness l.plan x)

-- an arrival adds one event and no output
abbrev pub arrive_checks : Line → State → ℕ → ℕ → List Check
arrive_checks l s x t =
    refuse NoSuch (when (not (nat_lt x (length l.plan.sensors))) x)
    ∷ refuse Window (when (not (in_window l s x t)) s.clock)
    ∷ refuse Stale (not_above (s.last x) t)
    ∷ refuse Full (when (nat_lt event_room (event_places l.plan s + 1)) event_room)
    ∷ []

abbrev pub arrive_verdict : Line → State → ℕ → ℕ → Option Fault
arrive_verdict l s x t = verdict (arrive_checks l s x t)

abbrev pub arrive_answer : Line → State → ℕ → ℕ → Answer
arrive_answer l s x t = answer (arrive_verdict l s x t) Done

abbrev pub arrive_after : Line → State → ℕ → ℕ → ℤ → State
arrive_after l s x t v = after (arrive_verdict l s x t) s (arrived l s x t v)

-- advance -------------------------------------------------------------------

-- the least timestamp of an output that is due before clock c
abbrev pub due_before : ℕ → List Output → Option ℕ
due_before c os = least output_time (keep (λ o. nat_lt o.timestamp c) os)

-- the clock may stay as it is, unless an output is due before it
abbrev pub advance_checks : State → ℕ → List Check
advance_checks s c =
    refuse Back (when (nat_lt c s.clock) s.clock)
    ∷ refuse Horizon (when (nat_lt horizon c) horizon)
    ∷ refuse Due (due_before c s.outputs)
    ∷ []

abbrev pub advance_verdict : State → ℕ → Option Fault
advance_verdict s c = verdict (advance_checks s c)

abbrev pub advance_answer : State → ℕ → Answer
advance_answer s c = answer (advance_verdict s c) Done

abbrev pub advance_after : State → ℕ → State
advance_after s c = after (advance_verdict s c) s (advanced s c)

-- start ---------------------------------------------------------------------

-- the least timestamp that waits at actor a, if an event waits there
abbrev pub first_at : State → ℕ → Option ℕ
first_at s a = least event_time (keep (at_actor a) s.events)

-- that timestamp, and 0 where none waits: a start is then refused before it is used
abbrev pub time_at : State → ℕ → ℕ
time_at s a = unwrap_or (first_at s a) 0

-- the whole number itself, and 0 for those below it
abbrev pub natural : ℤ → ℕ
natural (pos n) = n
natural (negsuc n) = 0

-- the first clock at which no sensor can still send actor a an event up to timestamp t
abbrev pub ready_at : Line → ℕ → ℕ → ℤ
ready_at l a t = (pos t +ℤ l.wait a) +ℤ pos 1

-- u + d ≤ t, and false where there is no distance
abbrev pub within : Option ℕ → ℕ → ℕ → Bool
within None u t = false
within (Some d) u t = nat_le (u + d) t

-- an event whose consequences could still reach actor a by timestamp t
abbrev pub could_reach : Line → ℕ → ℕ → Event → Bool
could_reach l a t e = within (l.distance e.actor a) e.timestamp t

-- events by the number of their actor
abbrev pub event_actor : Event → ℕ
event_actor e = e.actor

-- the deadline of the top, where d is not below it
abbrev pub not_sooner : Line → List Running → ℕ → Option ℕ
not_sooner l [] d = None
not_sooner l (f ∷ fs) d = when (nat_le (deadline_of l f) d) (deadline_of l f)

-- a sensor can still send actor a an event up to timestamp t
abbrev pub early : Line → State → ℕ → ℕ → Bool
early l s a t = s.taking && int_le (pos s.clock) (pos t +ℤ l.wait a)

-- t is the least timestamp that waits at actor a
abbrev pub start_checks : Line → State → ℕ → ℕ → List Check
start_checks l s a t =
    refuse NoSuch (when (not (nat_lt a (length l.plan.actors))) a)
    ∷ refuse Nothing (when (not (is_some (first_at s a))) 0)
    ∷ refuse Early (when (early l s a t) (natural (ready_at l a t)))
    ∷ refuse Behind (least event_actor (keep (could_reach l a t) s.events))
    ∷ refuse NotSooner (not_sooner l s.stack (deadline_at l a t))
    ∷ refuse Horizon (when (nat_lt horizon (t + longest_delay l.plan a)) horizon)
    ∷ refuse Full (when (nat_lt event_room (event_places l.plan (started s a t))) event_room)
    ∷ refuse Full (when (nat_lt output_room (output_places l.plan (started s a t))) output_room)
    ∷ []

abbrev pub start_verdict : Line → State → ℕ → Option Fault
start_verdict l s a = verdict (start_checks l s a (time_at s a))

abbrev pub start_answer : Line → State → ℕ → Answer
start_answer l s a = answer (start_verdict l s a)
    (Fired (record { actor = a; timestamp = time_at s a; deadline = deadline_at l a (time_at s a) }))

abbrev pub start_after : Line → State → ℕ → State
start_after l s a = after (start_verdict l s a) s (started s a (time_at s a))

-- pick ----------------------------------------------------------------------

-- start would accept actor a
abbrev pub Startable : Line → State → ℕ → Type 0
Startable l s a = start_verdict l s a ≡ None

-- by deadline, then by timestamp, then by number
abbrev pub First : ℕ → ℕ → ℕ → ℕ → ℕ → ℕ → Type 0
First d t a e u b = (d < e) ⊎ ((d ≡ e) × ((t < u) ⊎ ((t ≡ u) × (a ≤ b))))

-- actor a comes before actor b, or is b
abbrev pub Ahead : Line → State → ℕ → ℕ → Type 0
Ahead l s a b = First (deadline_at l a (time_at s a)) (time_at s a) a (deadline_at l b (time_at s b)) (time_at s b) b

-- a is, of the actors that start would accept, the first
pub record Picked (l : Line) (s : State) (a : ℕ) : Type 0 where
  pub startable : Startable l s a
  pub ahead : (b : ℕ) → Startable l s b → Ahead l s a b

-- there is nothing to do
abbrev pub nothing : Fault
nothing = Fault.Run Nothing 0

-- pick names that actor, and answers that there is nothing exactly where start would accept none
abbrev pub PickAnswers : Line → State → Answer → Type 0
PickAnswers l s Done = ⊥
PickAnswers l s (Named a) = Picked l s a
PickAnswers l s (Fired f) = ⊥
PickAnswers l s (Wrote g) = ⊥
PickAnswers l s (Handed d) = ⊥
PickAnswers l s (Told r) = ⊥
PickAnswers l s (Refused f) = (f ≡ nothing) × ((a : ℕ) → Startable l s a → ⊥)

-- finish --------------------------------------------------------------------

-- finish reads the stack: it works on the top
abbrev pub finish_answer : Plan → Meaning → State → List Running → Answer
finish_answer p m s [] = Refused nothing
finish_answer p m s (f ∷ fs) = Wrote (firing p m s f)

abbrev pub finish_after : Line → Meaning → State → List Running → State
finish_after l m s [] = s
finish_after l m s (f ∷ fs) = finished l m s f fs

-- deliver -------------------------------------------------------------------

-- what was handed out, without the late mark
abbrev pub output_of : Delivered → Output
output_of d = record { actuator = d.actuator; timestamp = d.timestamp; value = d.value }

-- d is one of the least timestamp of the outputs, due by now, and os are the others: which of equals is left open
pub record Delivers (s : State) (d : Delivered) (os : List Output) : Type 0 where
  pub without : Without (output_of d) s.outputs os
  pub due : d.timestamp ≤ s.clock
  pub least : Each (λ (o : Output). d.timestamp ≤ o.timestamp) s.outputs
  pub late : d.late ≡ nat_lt d.timestamp s.clock

-- deliver hands one out, and answers that there is nothing exactly where none is due
abbrev pub DeliverOutcome : State → Answer → State → Type 0
DeliverOutcome s Done s' = ⊥
DeliverOutcome s (Named a) s' = ⊥
DeliverOutcome s (Fired f) s' = ⊥
DeliverOutcome s (Wrote g) s' = ⊥
DeliverOutcome s (Handed d) s' = (os : List Output) × Delivers s d os × (s' ≡ delivered s os)
DeliverOutcome s (Told r) s' = ⊥
DeliverOutcome s (Refused f) s' =
    (f ≡ nothing) × Each (λ (o : Output). s.clock < o.timestamp) s.outputs × (s' ≡ s)

-- report --------------------------------------------------------------------

abbrev pub status : State → Status
status s = record
    { clock = s.clock; events = length s.events; firings = length s.stack; outputs = length s.outputs }

-- all calls -----------------------------------------------------------------

-- in state s the call may answer r and leave s'; arrive and close are for a runtime that is open
abbrev pub Outcome : Line → Meaning → State → Call → Answer → State → Type 0
Outcome l m s (Arrive x t v) r s' = (s.taking ≡ true) × (r ≡ arrive_answer l s x t) × (s' ≡ arrive_after l s x t v)
Outcome l m s (Advance c) r s' = (r ≡ advance_answer s c) × (s' ≡ advance_after s c)
Outcome l m s Pick r s' = PickAnswers l s r × (s' ≡ s)
Outcome l m s (Start a) r s' = (r ≡ start_answer l s a) × (s' ≡ start_after l s a)
Outcome l m s Finish r s' = (r ≡ finish_answer l.plan m s s.stack) × (s' ≡ finish_after l m s s.stack)
Outcome l m s Deliver r s' = DeliverOutcome s r s'
Outcome l m s Report r s' = (r ≡ Told (status s)) × (s' ≡ s)
Outcome l m s Close r s' = (s.taking ≡ true) × (r ≡ Done) × (s' ≡ closed s)
