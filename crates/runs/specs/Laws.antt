-- The laws over runs.
use Rattle.std.specs.Prelude.{◌≡◌, ℕ, ◌<◌, ◌≤◌, true, false, ◌⊎◌, ◌↔◌, List, [], ◌++◌, map, length, Some, ◌≢◌}
use Rattle.fault.specs.declared.Fault.{Fault}
use Rattle.fault.specs.declared.RunCause.TheVariants.{Full, Horizon}
use Rattle.line.specs.Lists.{In}
use Rattle.line.specs.Times.{Line, Sound}
use Rattle.runs.specs.Lists.{Pairs}
use Rattle.banks.specs.Meaning.{Meaning, Alike}
use Rattle.runs.specs.State.{State, deadline_of}
use Rattle.runs.specs.Calls.{Outcome, start_verdict, event_room, output_room}
use Rattle.runs.specs.Runs.{Journal, Runs, Complete, sensor_events, firings, actor_record, actuator_record, postings}
use Rattle.runs.specs.Runs.{handings, for_actuator, when_due}
use Rattle.runs.specs.Safe.{Safe}
use Rattle.runs.specs.declared.records.Event.{Event}
use Rattle.runs.specs.declared.records.Running.{Running}
use Rattle.runs.specs.declared.records.Firing.{Firing}
use Rattle.runs.specs.declared.records.Started.{Started}
use Rattle.runs.specs.declared.records.Delivered.{Delivered}
use Rattle.runs.specs.declared.records.Call.{Call}
use Rattle.runs.specs.declared.records.Call.TheVariants.{Arrive, Advance, Pick, Start, Finish, Deliver, Report}
use Rattle.runs.specs.declared.records.Call.TheVariants.{Close}
use Rattle.runs.specs.declared.records.Answer.{Answer}
use Rattle.runs.specs.declared.records.Answer.TheVariants.{Named, Wrote, Handed}

-- records -------------------------------------------------------------------

-- each sensor gave both runs the same events
abbrev pub EqualEvents : Journal → Journal → Type 0
EqualEvents h k = (x : ℕ) → sensor_events h x ≡ sensor_events k x

-- each actor and each actuator has the same record in both runs
pub record EqualRecords (h k : Journal) : Type 0 where
  pub actors : (a : ℕ) → actor_record h a ≡ actor_record k a
  pub actuators : (q : ℕ) → actuator_record h q ≡ actuator_record k q

-- two complete runs of one line over banks of equal meaning have equal records exactly when each sensor gave both
-- the same events
abbrev pub EventsFixRecords : Type 0
EventsFixRecords = (l : Line) → Sound l → (m j : Meaning) → Alike (length l.plan.actors) m j →
    (h k : Journal) (s z : State) → Runs l m h s → Runs l j k z → Complete s → Complete z →
    EqualRecords h k ↔ EqualEvents h k

-- xs is a beginning of ys
abbrev pub Begins : {A : Type 0} → List A → List A → Type 0
Begins {A} xs ys = (rest : List A) × (ys ≡ xs ++ rest)

-- one of two lists is a beginning of the other
abbrev pub EitherBegins : {A : Type 0} → List A → List A → Type 0
EitherBegins xs ys = Begins xs ys ⊎ Begins ys xs

-- of runs that stop at any moment: where each sensor gave both the same events, one of an actor's two records is a
-- beginning of the other, and so for each actuator
abbrev pub EventsFixBeginnings : Type 0
EventsFixBeginnings = (l : Line) → Sound l → (m j : Meaning) → Alike (length l.plan.actors) m j →
    (h k : Journal) (s z : State) → Runs l m h s → Runs l j k z → EqualEvents h k →
    ((a : ℕ) → EitherBegins (actor_record h a) (actor_record k a))
    × ((q : ℕ) → EitherBegins (actuator_record h q) (actuator_record k q))

-- order ---------------------------------------------------------------------

-- after each call, accepted or refused
pub record Orderly (l : Line) (h : Journal) (s : State) : Type 0 where
  -- an actor's firings strictly rise in timestamp
  pub rising : (a : ℕ) → Pairs (λ (f g : Started). f.timestamp < g.timestamp) (firings h a)
  -- the deadlines of stacked firings strictly fall towards the top
  pub falling : Pairs (λ (f g : Running). deadline_of l f < deadline_of l g) s.stack
  -- an actuator's n-th output handed out is the n-th posted to it, and went at the later of timestamp and posting
  pub punctual : (q : ℕ) →
      Begins (for_actuator q (handings 0 h)) (map when_due (for_actuator q (postings l.plan 0 h)))

abbrev pub AlwaysOrderly : Type 0
AlwaysOrderly = (l : Line) → Sound l → (m : Meaning) (h : Journal) (s : State) → Runs l m h s → Orderly l h s

-- room ----------------------------------------------------------------------

-- no actor is stacked twice, so 32 places are enough, and neither events nor outputs outgrow theirs
pub record Bounded (s : State) : Type 0 where
  pub once : Pairs (λ (f g : Running). f.actor ≢ g.actor) s.stack
  pub firings : length s.stack ≤ 32
  pub events : length s.events ≤ event_room
  pub outputs : length s.outputs ≤ output_room

abbrev pub AlwaysBounded : Type 0
AlwaysBounded = (l : Line) → Sound l → (m : Meaning) (h : Journal) (s : State) → Runs l m h s → Bounded s

-- every state of every run is safe
abbrev pub AlwaysSafe : Type 0
AlwaysSafe = (l : Line) → Sound l → (m : Meaning) (h : Journal) (s : State) → Runs l m h s → Safe l s

-- outcomes ------------------------------------------------------------------

-- arrive and close exist on an open runtime only, the other calls on any
abbrev pub Exists : State → Call → Type 0
Exists s (Arrive x t v) = s.taking ≡ true
Exists s (Advance c) = Unit {0}
Exists s Pick = Unit {0}
Exists s (Start a) = Unit {0}
Exists s Finish = Unit {0}
Exists s Deliver = Unit {0}
Exists s Report = Unit {0}
Exists s Close = s.taking ≡ true

-- every call that exists has an outcome
abbrev pub EveryCallAnswers : Type 0
EveryCallAnswers = (l : Line) → Sound l → (m : Meaning) (s : State) (c : Call) → Exists s c →
    (r : Answer) × (z : State) × Outcome l m s c r z

-- line, bank, calls and answers fix the state
abbrev pub JournalFixesState : Type 0
JournalFixesState = (l : Line) → Sound l → (m : Meaning) (h : Journal) (s z : State) → Runs l m h s →
    Runs l m h z → s ≡ z

-- one answer for each call, save that deliver may take another output of the same timestamp
abbrev pub SameAnswer : Call → Answer → Answer → Type 0
SameAnswer (Arrive x t v) r q = r ≡ q
SameAnswer (Advance c) r q = r ≡ q
SameAnswer Pick r q = r ≡ q
SameAnswer (Start a) r q = r ≡ q
SameAnswer Finish r q = r ≡ q
SameAnswer Deliver r q =
    (r ≡ q) ⊎ ((d : Delivered) × (e : Delivered) × (r ≡ Handed d) × (q ≡ Handed e) × (d.timestamp ≡ e.timestamp))
SameAnswer Report r q = r ≡ q
SameAnswer Close r q = r ≡ q

-- line, bank, state and call fix the answer so far
abbrev pub StateFixesAnswer : Type 0
StateFixesAnswer = (l : Line) (m : Meaning) (s : State) (c : Call) (r q : Answer) (y z : State) →
    Outcome l m s c r y → Outcome l m s c q z → SameAnswer c r q

-- progress ------------------------------------------------------------------

-- start would refuse actor a for want of room or of time
abbrev pub Blocked : Line → State → ℕ → Type 0
Blocked l s a = (n : ℕ) ×
    ((start_verdict l s a ≡ Some (Fault.Run Full n)) ⊎ (start_verdict l s a ≡ Some (Fault.Run Horizon n)))

-- pick names an actor, and does nothing else
pub record Names (l : Line) (m : Meaning) (s : State) : Type 0 where
  pub one : (a : ℕ) × Outcome l m s Pick (Named a) s
  pub only : (r : Answer) (z : State) → Outcome l m s Pick r z → (a : ℕ) × (r ≡ Named a)

-- what a closed runtime can do next
pub record Moves (l : Line) (m : Meaning) (s : State) : Type 0 where
  -- with a firing running finish is accepted
  pub finishes : (f : Running) → In f s.stack → (g : Firing) × (z : State) × Outcome l m s Finish (Wrote g) z
  -- with none running and an event waiting pick names an actor, unless start would refuse one as Full or Horizon
  pub picks : s.stack ≡ [] → (e : Event) → In e s.events → Names l m s ⊎ ((a : ℕ) × Blocked l s a)

-- a closed runtime never sticks
abbrev pub NeverSticks : Type 0
NeverSticks = (l : Line) → Sound l → (m : Meaning) (h : Journal) (s : State) → Runs l m h s → s.taking ≡ false →
    Moves l m s
