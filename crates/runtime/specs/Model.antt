-- What a runtime means: a state of a line, over what its bank means; and what its calls do.
use Rattle.std.specs.Prelude.{◌≡◌, ℕ, true, List, ◌∷◌, ℤ, Option}
use Rattle.bounded.specs.Held as bounded
use Rattle.queue.specs.Held as queue
use Rattle.project.specs.Project.{line, plan}
use Rattle.project.specs.declared.project.Project.{Project}
use Rattle.banks.specs.Meaning as banks
use Rattle.banks.specs.Meaning.{Meaning}
use Rattle.runs.specs.Lists.{changed}
use Rattle.runs.specs.State.{State, fresh, started, unstacked, closed, firing_of}
use Rattle.runs.specs.Calls.{Outcome}
use Rattle.runs.specs.declared.records.Call.{Call}
use Rattle.runs.specs.declared.records.Running.{Running}
use Rattle.runs.specs.declared.records.Firing.{Firing}
use Rattle.runs.specs.declared.records.Answer.{Answer}
use Rattle.runs.specs.declared.records.Answer.TheVariants.{Done, Named, Fired, Wrote, Handed, Told, Refused}
use Rattle.runtime.specs.Meant.{state_of, top_first}
use Rattle.runtime.specs.declared.state.Core.{Core}
use Rattle.runtime.specs.declared.runtime.Inner.{Inner}

-- what a bank means, in the words of a run
abbrev pub meaning : banks.Meaning → Meaning
meaning m = record {
  rows = m.rows;
  reaction = λ a w t g. record { row = (m.reaction a w t g).row; outlets = (m.reaction a w t g).outlets };
}

-- all of a runtime but its bank, over the rows w
abbrev pub state_over : Core → (ℕ → List ℤ) → State
state_over c w = state_of c.clock c.taking c.sensors (queue.held c.events.waiting) (bounded.held c.stack) (queue.held c.outputs.waiting) w

-- the stack, its top first
abbrev pub stacked : Core → List Running
stacked c = top_first (bounded.held c.stack)

abbrev pub state : {B : Type 0} → (B → banks.Meaning) → Inner B → State
state means i = state_over i.core (means i.bank).rows

-- a runtime opened on a project
pub record Begins (p : Project) (c : Core) : Type 0 where
  pub project : c.project ≡ p
  pub taking : c.taking ≡ true
  pub state : (m : Meaning) → state_over c m.rows ≡ fresh m

-- and over a bank
pub record Opened {B : Type 0} (means : B → banks.Meaning) (p : Project) (b : B) (i : Inner B) : Type 0 where
  pub project : i.core.project ≡ p
  pub bank : i.bank ≡ b
  pub state : state means i ≡ fresh (meaning (means b))

-- a call that leaves the bank alone, answered r, took i to j, whatever the bank
pub record Moves (i : Core) (c : Call) (r : Answer) (j : Core) : Type 0 where
  pub outcome : (m : Meaning) → Outcome (line i.project) m (state_over i m.rows) c r (state_over j m.rows)
  pub project : j.project ≡ i.project
  pub taking : j.taking ≡ i.taking

pub record Closes (i j : Core) : Type 0 where
  pub state : (m : Meaning) → state_over j m.rows ≡ closed (state_over i m.rows)
  pub project : j.project ≡ i.project

-- a firing of actor a at timestamp t was stacked
pub record Stacks (i : Core) (a t : ℕ) (j : Core) : Type 0 where
  pub state : (m : Meaning) → state_over j m.rows ≡ started (state_over i m.rows) a t
  pub project : j.project ≡ i.project
  pub taking : j.taking ≡ i.taking

-- the top f of the stack was unstacked and what it gave, the outlets g, was sent on: r is the finished firing
pub record Unstacks (i : Core) (f : Running) (g : List (Option ℤ)) (r : Firing) (j : Core) : Type 0 where
  pub firing : r ≡ firing_of (plan i.project) f g
  pub top : stacked i ≡ f ∷ stacked j
  pub state : (w : ℕ → List ℤ) (v : List ℤ) → state_over j (changed w f.actor v)
      ≡ unstacked (line i.project) (state_over i w) f (stacked j) (record { row = v; outlets = g })
  pub project : j.project ≡ i.project
  pub taking : j.taking ≡ i.taking

-- no firing was written
abbrev pub Unwritten : Answer → Type 0
Unwritten Done = Unit {0}
Unwritten (Named a) = Unit {0}
Unwritten (Fired f) = Unit {0}
Unwritten (Wrote g) = ⊥
Unwritten (Handed d) = Unit {0}
Unwritten (Told r) = Unit {0}
Unwritten (Refused f) = Unit {0}

-- a call, answered r, took i to j: an outcome that the definitions of the calls allow, over the same project and the
-- same bank
pub record Does {B : Type 0} (means : B → banks.Meaning) (i : Inner B) (c : Call) (r : Answer) (j : Inner B) : Type 0 where
  pub outcome : Outcome (line i.core.project) (meaning (means i.bank)) (state means i) c r (state means j)
  pub project : j.core.project ≡ i.core.project
  pub bank : j.bank ≡ i.bank

-- a call that may write a firing, and so a row of the bank, answered r, took i to j: an outcome that the definitions of
-- the calls allow, over the same project and by the same reaction; and unless a firing was written the bank is as it was
pub record Performs {B : Type 0} (means : B → Meaning) (i : Inner B) (c : Call) (r : Answer) (j : Inner B) : Type 0 where
  pub outcome : Outcome (line i.core.project) (means i.bank) (state means i) c r (state means j)
  pub project : j.core.project ≡ i.core.project
  pub reaction : (means j.bank).reaction ≡ (means i.bank).reaction
  pub bank : Unwritten r → j.bank ≡ i.bank
