-- What performing a list of calls hands back.
use Rattle.std.specs.Prelude.{◌≡◌, not, List, vec_items}
use Rattle.line.specs.Times.{Line}
use Rattle.banks.specs.Meaning.{Meaning}
use Rattle.runs.specs.Calls.{status}
use Rattle.runs.specs.Runs.{Runs}
use Rattle.runs.specs.State.{State}
use Rattle.runs.specs.declared.records.Call.{Call}
use Rattle.simulation.specs.Calls.{existing}
use Rattle.simulation.specs.Journals.{called}
use Rattle.simulation.specs.declared.Run.{Run}

-- the run r tells the state s, over a bank that means n
pub record Tells (s : State) (r : Run) (n : Meaning) : Type 0 where
  pub closed : r.closed ≡ not s.taking
  pub status : r.status ≡ status s
  pub rows : n.rows ≡ s.rows

-- the run r, which the calls cs made of a line over a bank that meant m: its journal has all calls that exist, with
-- answers that they may have, and r tells its last state; the bank then means n, with the same reaction
pub record Ran (l : Line) (m : Meaning) (cs : List Call) (r : Run) (n : Meaning) : Type 0 where
  pub last : State
  pub runs : Runs l m (vec_items r.journal) last
  pub calls : called (vec_items r.journal) ≡ existing cs
  pub tells : Tells last r n
  pub reaction : n.reaction ≡ m.reaction
