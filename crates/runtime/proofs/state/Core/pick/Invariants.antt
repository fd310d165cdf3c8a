use Rattle.std.proofs.Common.{◌≡◌}
use Rattle.project.specs.Project.{line}
use Rattle.runtime.specs.Keys.{key_of}
use Rattle.runtime.specs.Meant.{no_rows}
use Rattle.runtime.specs.Model.{state_over}
use Rattle.runtime.proofs.Picks.{least_key}
use Rattle.runtime.proofs.state.Core.pick.Given as goal

abbrev pub invariant-loop-actor : goal.invariant-loop-actor
invariant-loop-actor l = l.least ≡ least_key (key_of (line l.self.project) (state_over l.self no_rows)) l.actor
