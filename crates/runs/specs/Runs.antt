-- Runs as journals, and what a journal tells.
use Rattle.std.specs.Prelude.{◌≡◌, ℕ, max, false, List, [], ◌∷◌, ◌++◌, map, ℤ, nat_eq}
use Rattle.std.specs.List.{flat_map}
use Rattle.line.specs.Plan.{Plan}
use Rattle.line.specs.Times.{Line}
use Rattle.runs.specs.Lists.{keep}
use Rattle.banks.specs.Meaning.{Meaning}
use Rattle.runs.specs.State.{State, fresh, outputs_sent}
use Rattle.runs.specs.Calls.{Outcome, output_of}
use Rattle.runs.specs.declared.records.Firing.{Firing}
use Rattle.runs.specs.declared.records.Output.{Output}
use Rattle.runs.specs.declared.records.Started.{Started}
use Rattle.runs.specs.declared.records.Call.{Call}
use Rattle.runs.specs.declared.records.Call.TheVariants.{Arrive, Advance, Pick, Start, Finish, Deliver, Report}
use Rattle.runs.specs.declared.records.Call.TheVariants.{Close}
use Rattle.runs.specs.declared.records.Answer.{Answer}
use Rattle.runs.specs.declared.records.Answer.TheVariants.{Done, Named, Fired, Wrote, Handed, Told, Refused}
use Rattle.runs.specs.declared.records.Step.{Step}

-- a journal lists calls with their answers, the oldest first
abbrev pub Journal : Type 0
Journal = List Step

-- the journal is a run of the line over the bank from open, and ends in the state: each call, accepted or refused,
-- had an outcome that it may have
pub data Runs (l : Line) (m : Meaning) : Journal → State → Type 0 where
  opened : Runs l m [] (fresh m)
  next : {h : Journal} {s s' : State} (x : Step) → Runs l m h s → Outcome l m s x.call x.answer s' →
      Runs l m (h ++ (x ∷ [])) s'

-- what a journal tells ------------------------------------------------------

-- an accepted event of a sensor
pub record Arrival : Type 0 where
  pub sensor : ℕ
  pub timestamp : ℕ
  pub value : ℤ

-- x after a plain yes, else y
abbrev pub if_done : {A : Type 0} → Answer → A → A → A
if_done Done x y = x
if_done (Named a) x y = y
if_done (Fired f) x y = y
if_done (Wrote g) x y = y
if_done (Handed d) x y = y
if_done (Told r) x y = y
if_done (Refused f) x y = y

-- what one call tells: an accepted arrival, an accepted start, a firing written, an output handed out
abbrev pub arrival_in : Call → Answer → List Arrival
arrival_in (Arrive x t v) r = if_done r (record { sensor = x; timestamp = t; value = v } ∷ []) []
arrival_in (Advance c) r = []
arrival_in Pick r = []
arrival_in (Start a) r = []
arrival_in Finish r = []
arrival_in Deliver r = []
arrival_in Report r = []
arrival_in Close r = []

abbrev pub start_in : Answer → List Started
start_in Done = []
start_in (Named a) = []
start_in (Fired f) = f ∷ []
start_in (Wrote g) = []
start_in (Handed d) = []
start_in (Told r) = []
start_in (Refused f) = []

abbrev pub firing_in : Answer → List Firing
firing_in Done = []
firing_in (Named a) = []
firing_in (Fired f) = []
firing_in (Wrote g) = g ∷ []
firing_in (Handed d) = []
firing_in (Told r) = []
firing_in (Refused f) = []

abbrev pub output_in : Answer → List Output
output_in Done = []
output_in (Named a) = []
output_in (Fired f) = []
output_in (Wrote g) = []
output_in (Handed d) = output_of d ∷ []
output_in (Told r) = []
output_in (Refused f) = []

-- all accepted arrivals, accepted starts, firings written and outputs handed out, in order
abbrev pub arrivals : Journal → List Arrival
arrivals h = flat_map (λ x. arrival_in x.call x.answer) h

abbrev pub starts : Journal → List Started
starts h = flat_map (λ x. start_in x.answer) h

abbrev pub written : Journal → List Firing
written h = flat_map (λ x. firing_in x.answer) h

abbrev pub handed : Journal → List Output
handed h = flat_map (λ x. output_in x.answer) h

-- a sensor's events, an actor's firings, an actor's record, and an actuator's record
abbrev pub sensor_events : Journal → ℕ → List Arrival
sensor_events h x = keep (λ y. nat_eq y.sensor x) (arrivals h)

abbrev pub firings : Journal → ℕ → List Started
firings h a = keep (λ f. nat_eq f.actor a) (starts h)

abbrev pub actor_record : Journal → ℕ → List Firing
actor_record h a = keep (λ g. nat_eq g.actor a) (written h)

abbrev pub actuator_record : Journal → ℕ → List Output
actuator_record h q = keep (λ o. nat_eq o.actuator q) (handed h)

-- clocks --------------------------------------------------------------------

-- the clock after a call, from the clock before it
abbrev pub tick : ℕ → Call → Answer → ℕ
tick c (Arrive x t v) r = c
tick c (Advance b) r = if_done r b c
tick c Pick r = c
tick c (Start a) r = c
tick c Finish r = c
tick c Deliver r = c
tick c Report r = c
tick c Close r = c

-- the clock at the end of a journal that begins at clock c
abbrev pub clock_after : ℕ → Journal → ℕ
clock_after c [] = c
clock_after c (x ∷ h) = clock_after (tick c x.call x.answer) h

-- an output with the clock of its posting, or of its handing out
pub record Timed : Type 0 where
  pub output : Output
  pub clock : ℕ

abbrev pub at_clock : ℕ → Output → Timed
at_clock c o = record { output = o; clock = c }

-- several outputs at one clock
abbrev pub all_at : ℕ → List Output → List Timed
all_at c os = map (at_clock c) os

-- the outputs that a call posts: those of the firing that it finished
abbrev pub posted_in : Plan → Answer → List Output
posted_in p r = flat_map (outputs_sent p) (firing_in r)

-- the outputs that f finds in each answer, each with the clock then, from clock c on
abbrev pub timed : (Answer → List Output) → ℕ → Journal → List Timed
timed f c [] = []
timed f c (x ∷ h) = all_at c (f x.answer) ++ timed f (tick c x.call x.answer) h

-- all outputs posted, and all handed out
abbrev pub postings : Plan → ℕ → Journal → List Timed
postings p = timed (posted_in p)

abbrev pub handings : ℕ → Journal → List Timed
handings = timed output_in

-- those of one actuator
abbrev pub for_actuator : ℕ → List Timed → List Timed
for_actuator q ps = keep (λ p. nat_eq p.output.actuator q) ps

-- an output at the clock at which it is to go: the later of its timestamp and its posting
abbrev pub when_due : Timed → Timed
when_due p = record { output = p.output; clock = max p.output.timestamp p.clock }

-- complete runs -------------------------------------------------------------

-- closed, with no event, firing or output left
pub record Complete (s : State) : Type 0 where
  pub shut : s.taking ≡ false
  pub no_event : s.events ≡ []
  pub no_firing : s.stack ≡ []
  pub no_output : s.outputs ≡ []
