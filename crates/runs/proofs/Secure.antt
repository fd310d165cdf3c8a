-- Safety as an invariant of a type: what each call keeps, and what an invariant gives.
use Rattle.std.proofs.Common.{◌≡◌, ℕ, ◌+◌, ◌<◌, ◌≤◌, List, ◌∷◌, length, ℤ, Option, arith}
use mathlib.Core.Logic.{∥∥₁_elim, ∥∥₁_map}
use native.Mathlib.Bridge.{le_prop}
use Rattle.line.specs.Times.{Line, Sound}
use Rattle.banks.specs.Meaning.{Meaning, Reacted}
use Rattle.runs.specs.State.{State, fresh, with_rows, unstacked, delivered, closed, firing_of, events_sent}
use Rattle.runs.specs.State.{outputs_sent}
use Rattle.runs.specs.Calls.{event_room, output_room, Startable}
use Rattle.runs.specs.Calls.{Delivers}
use Rattle.runs.specs.Safe.{Safe, Secure}
use Rattle.runs.specs.declared.records.Running.{Running}
use Rattle.runs.specs.declared.records.Output.{Output}
use Rattle.runs.specs.declared.records.Delivered.{Delivered}
use Rattle.runs.proofs.Safe.{safe-open, safe-finish, safe-deliver, safe-close}
use Rattle.runs.proofs.Safety.{start_fits}
use Rattle.runs.proofs.Safety.{finish-room}

-- rows do not matter
pub safe-rows : (l : Line) (s : State) (w : ℕ → List ℤ) → Safe l s → Safe l (with_rows s w)
safe-rows l s w i = record {
  starts = i.starts;
  causal = record {
    ahead = i.causal.ahead;
    above = i.causal.above;
    settled = i.causal.settled;
    falling = i.causal.falling;
    latest = i.causal.latest;
  };
  fitting = record {
    events_fit = i.fitting.events_fit;
    outputs_fit = i.fitting.outputs_fit;
    events_rise = i.fitting.events_rise;
    outputs_rise = i.fitting.outputs_rise;
    events = i.fitting.events;
    stack = i.fitting.stack;
    outputs = i.fitting.outputs;
    clock = i.fitting.clock;
    last = i.fitting.last;
  };
}

-- what each call keeps ------------------------------------------------------------------

pub secure-open : (l : Line) (m : Meaning) → Secure l (fresh m)
secure-open l m = ∣ safe-open l m ∣₁

pub secure-rows : (l : Line) (s : State) (w : ℕ → List ℤ) → Secure l s → Secure l (with_rows s w)
secure-rows l s w i = ∥∥₁_map i (safe-rows l s w)

pub secure-close : (l : Line) (s : State) → Secure l s → Secure l (closed s)
secure-close l s i = ∥∥₁_map i (safe-close l s)

pub secure-deliver : (l : Line) (s : State) (d : Delivered) (os : List Output) → Delivers s d os → Secure l s →
    Secure l (delivered s os)
secure-deliver l s d os h i = ∥∥₁_map i (safe-deliver l s d os h)

module _ (l : Line) (sound : Sound l) where
  -- whatever the reaction gave
  pub secure-finish : (s : State) (f : Running) (fs : List Running) (v : Reacted) → s.stack ≡ f ∷ fs → Secure l s →
      Secure l (unstacked l s f fs v)
  secure-finish s f fs v e i = ∥∥₁_map i (safe-finish l sound s f fs v e)

  -- what it gives -------------------------------------------------------------------------

  at_most : (s : State) (m n : ℕ) → Secure l s → (Safe l s → m ≤ n) → m ≤ n
  at_most s m n i f = ∥∥₁_elim i le_prop f

  -- an accepted start finds a place on the stack
  pub start-room : (s : State) (a : ℕ) → Startable l s a → Secure l s → length s.stack < 32
  start-room s a e i = at_most s _ _ i (start_fits l sound s a e)

  -- what a finish sends finds room
  pub sent-events-room : (s : State) (f : Running) (fs : List Running) (g : List (Option ℤ)) → s.stack ≡ f ∷ fs →
      Secure l s →
      length s.events + length (events_sent l.plan (firing_of l.plan f g)) ≤ event_room
  sent-events-room s f fs g e i = at_most s _ _ i (λ h. let w = (finish-room l.plan s f fs g e h.fitting).0 in
      omega arith)

  pub sent-outputs-room : (s : State) (f : Running) (fs : List Running) (g : List (Option ℤ)) → s.stack ≡ f ∷ fs →
      Secure l s →
      length s.outputs + length (outputs_sent l.plan (firing_of l.plan f g)) ≤ output_room
  sent-outputs-room s f fs g e i = at_most s _ _ i (λ h. let w = (finish-room l.plan s f fs g e h.fitting).1 in
      omega arith)
