use Rattle.std.proofs.Common.{sym, subst}
use Rattle.bounded.specs.Held as bounded
use Rattle.queue.specs.Held as queue
use Rattle.project.specs.Project.{line}
use Rattle.runs.proofs.Secure.{secure-open}
use Rattle.runs.specs.Safe.{Secure}
use Rattle.runtime.proofs.States.{fresh-state, no_bank}
use Rattle.runtime.proofs.state.Core.open.Goals as goal

pub invariant_of-result : goal.invariant_of-result
invariant_of-result c =
    let same = fresh-state c.sensor_rows.result (queue.held c.new.result.waiting) (bounded.held c.new-2.result)
    (queue.held c.new-3.result.waiting) no_bank c.sensor_rows.ensures.silent c.new.ensures.waiting c.new-2.ensures
    c.new-3.ensures.waiting in record { secure = subst (Secure (line c.args.project)) (sym same) (secure-open _ no_bank); known = c.sensor_rows.ensures.known; inlets = rw c.new-2.ensures c.new.ensures.aside; actuators = rw c.new-2.ensures c.new-3.ensures.aside }
