-- States that are equal, and what the invariant of a runtime gives.
use Rattle.std.proofs.Common.{◌≡◌, ℕ, ◌<◌, ◌≤◌, Bool, true, cond, not, ltb, List, [], ◌∷◌, ◌++◌, length, set, ℤ, Some, None, Option, refl, ap, ◌∙◌, subst, arith}
use mathlib.Core.Path.{fun_ext}
use Rattle.std.proofs.lemmas.List.{length-reverse, reverse-append}
use mathlib.Core.Logic.{∥∥₁_map, ∥∥₁_elim, ∥∥₁_prop}
use native.Mathlib.Bridge.{le_prop}
use Rattle.std.proofs.lemmas.Bool.{lt-ltb, ltb-false}
use Rattle.line.specs.Times.{Line, Sound}
use Rattle.runs.specs.State.{State, fresh, advanced, arrived, started, taken, four, value_for, output_time, event_time, event_at}
use Rattle.runs.specs.Lists.{keep, put_all}
use Rattle.line.specs.Plan.{feed}
use Rattle.line.specs.Lists.{In}
use Rattle.runs.specs.Calls.{horizon, first_at, time_at, Startable, due_before, event_room, output_room, event_places, output_places, answer, after, arrive_verdict}
use Rattle.fault.specs.declared.Fault.{Fault}
use Rattle.runs.specs.declared.records.Answer.{Answer}
use Rattle.runs.specs.declared.records.Answer.TheVariants.{Refused}
use Rattle.runs.proofs.Safe.{safe-advance, safe-arrive, safe-start}
use Rattle.runs.proofs.Accepted.{none_kept, arrives, first-event, accepted as start-accepted}
use Rattle.runs.specs.Safe.{Secure}
use Rattle.banks.specs.Meaning.{Meaning}
use Rattle.runs.specs.declared.records.Event.{Event}
use Rattle.runs.specs.declared.records.Running.{Running}
use Rattle.runs.specs.declared.records.Output.{Output}
use Rattle.runs.proofs.Secure.{start-room}
use Rattle.runtime.specs.declared.rows.SensorRow.{SensorRow}
use Rattle.runtime.specs.Meant.{state_of, top_first, last_at, lateness_at, no_rows}
use Rattle.runtime.proofs.Sensors.{set_last}

-- a state with other last timestamps
abbrev pub with_last : State → (ℕ → Option ℕ) → State
with_last s f = record {
  clock = s.clock;
  taking = s.taking;
  last = f;
  events = s.events;
  stack = s.stack;
  outputs = s.outputs;
  rows = s.rows;
}

-- stands in for a bank where none counts
abbrev pub no_bank : Meaning
no_bank = record { rows = no_rows; reaction = λ a w t g. record { row = []; outlets = [] } }

pub fresh-state : (xs : List SensorRow) (es : List Event) (fs : List Running) (os : List Output) (m : Meaning) →
    ((x : ℕ) → last_at xs x ≡ None) → es ≡ [] → fs ≡ [] → os ≡ [] → state_of 0 true xs es fs os m.rows ≡ fresh m
fresh-state xs es fs os m h e f o = rw (e, f, o) (ap (with_last (fresh m)) (fun_ext h))

-- an advance that no check refuses
pub secure-advanced : (l : Line) (s : State) (c : ℕ) → s.clock ≤ c → c ≤ horizon → due_before c s.outputs ≡ None →
    Secure l s → Secure l (advanced s c)
secure-advanced l s c b t d i = ∥∥₁_map i (safe-advance l s c (record {
  not_back = b;
  in_time = t;
  none_due = λ o m. ltb-false o.timestamp c (none_kept output_time (λ o. ltb o.timestamp c) s.outputs d o m);
}))

-- the places that are held fit the room
pub event_places-fit : (l : Line) (s : State) → Secure l s → event_places l.plan s ≤ event_room
event_places-fit l s i = ∥∥₁_elim i le_prop (λ h. h.fitting.events_fit)

pub output_places-fit : (l : Line) (s : State) → Secure l s → output_places l.plan s ≤ output_room
output_places-fit l s i = ∥∥₁_elim i le_prop (λ h. h.fitting.outputs_fit)

-- what a verdict makes of a call ------------------------------------------------------

pub refused : (v : Option Fault) (f : Fault) (r : Answer) (s s' : State) → v ≡ Some f →
    (Refused f ≡ answer v r) × (s ≡ after v s s')
refused v f r s s' e = rw e (refl, refl)

pub accepted : (v : Option Fault) (r : Answer) (s s' : State) → v ≡ None → (r ≡ answer v r) × (s' ≡ after v s s')
accepted v r s s' e = rw e (refl, refl)

-- an arrival --------------------------------------------------------------------------

pub arrived-state : (l : Line) (c : ℕ) (b : Bool) (xs : List SensorRow) (es : List Event) (fs : List Running)
    (os : List Output) (w : ℕ → List ℤ) (x t : ℕ) (v : ℤ) (es' : List Event) → x < length xs →
    es' ≡ put_all event_time (event_at (feed l.plan x) t (Some v)) es →
    state_of c b (set xs x (record { lateness = lateness_at xs x; last = Some t })) es' fs os w
    ≡ arrived l (state_of c b xs es fs os w) x t v
arrived-state l c b xs es fs os w x t v es' h e =
    rw e (ap (with_last (arrived l (state_of c b xs es fs os w) x t v)) (fun_ext (set_last xs x _ h)))

pub secure-arrived : (l : Line) → ∥ Sound l ∥₁ → (s : State) (x t : ℕ) (v : ℤ) → s.taking ≡ true →
    arrive_verdict l s x t ≡ None → Secure l s → Secure l (arrived l s x t v)
secure-arrived l sound s x t v live e i =
    ∥∥₁_elim sound ∥∥₁_prop (λ k. ∥∥₁_map i (safe-arrive l k s x t v live (arrives l s x t e)))

-- an event that waits is at an actor of the line
pub event-inside : (l : Line) (s : State) (es : List Event) (e : Event) → es ≡ s.events → In e es → Secure l s →
    e.actor < length l.plan.actors
event-inside l s es e q m i = ∥∥₁_elim i le_prop (λ h. (h.fitting.events e (subst (In e) q m)).actor)

-- the first timestamp at an actor lies within the horizon
pub first-in_time : (l : Line) (s : State) (a t : ℕ) → first_at s a ≡ Some t → Secure l s → t ≤ horizon
first-in_time l s a t e i = ∥∥₁_elim i le_prop (λ h.
    let w = first-event s a t e in
    let u = (h.fitting.events w.0 w.1).timestamp in omega (arith, w.3))

-- a start -----------------------------------------------------------------------------

pub pushed : (fs fs' : List Running) (f : Running) → fs' ≡ fs ++ f ∷ [] → top_first fs' ≡ f ∷ top_first fs
pushed fs fs' f e = ap top_first e ∙ reverse-append fs (f ∷ [])

pub started-state : (c : ℕ) (b : Bool) (xs : List SensorRow) (es : List Event) (fs : List Running) (os : List Output)
    (w : ℕ → List ℤ) (a t : ℕ) (g : List (Option ℤ)) (es' : List Event) (fs' : List Running) (os' : List Output) →
    es' ≡ keep (λ e. not (taken a t e)) es → fs' ≡ fs ++ record { actor = a; timestamp = t; inlets = g } ∷ [] → os' ≡ os →
    g ≡ four (λ i. value_for i (keep (taken a t) es)) →
    state_of c b xs es' fs' os' w ≡ started (state_of c b xs es fs os w) a t
started-state c b xs es fs os w a t g es' fs' os' e f o h =
    let on : State → List Running → State = λ s gs. record
    { clock = s.clock; taking = s.taking; last = s.last; events = s.events; stack = gs; outputs = s.outputs; rows = s.rows } in
    rw (e, o) (ap (on (started (state_of c b xs es fs os w) a t)) (pushed fs fs' _ f
    ∙ ap (λ g. record { actor = a; timestamp = t; inlets = g } ∷ top_first fs) h))

pub secure-started : (l : Line) → ∥ Sound l ∥₁ → (s : State) (a t : ℕ) → Startable l s a → t ≡ time_at s a → Secure l s →
    Secure l (started s a t)
secure-started l sound s a t e q i =
    rw q (∥∥₁_elim sound ∥∥₁_prop (λ k. ∥∥₁_map i (safe-start l k s a (time_at s a) (start-accepted l k s a e))))

pub stack-free : (l : Line) → ∥ Sound l ∥₁ → (s : State) (a : ℕ) → Startable l s a → Secure l s → length s.stack < 32
stack-free l sound s a e i = ∥∥₁_elim sound le_prop (λ k. start-room l k s a e i)

-- a firing that start accepts is pushed, since the stack has room
pub stacked_on : (l : Line) → ∥ Sound l ∥₁ → (s : State) (a : ℕ) (fs fs' : List Running) (f : Running) (b : Bool) →
    s.stack ≡ top_first fs → Startable l s a → Secure l s → b ≡ ltb (length fs) 32 → fs' ≡ cond b (fs ++ f ∷ []) fs →
    fs' ≡ fs ++ f ∷ []
stacked_on l sound s a fs fs' f b top e i test after =
    let free : length fs < 32 = omega (arith, stack-free l sound s a e i, ap length top, length-reverse fs) in
    after ∙ ap (λ b. cond b (fs ++ f ∷ []) fs) (test ∙ lt-ltb _ 32 free)
