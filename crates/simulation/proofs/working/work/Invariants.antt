use Rattle.std.proofs.Common.{◌≡◌, ◌++◌, drop, vec_items}
use Rattle.simulation.specs.Calls.{without}
use Rattle.simulation.specs.Journals.{Worked, called}
use Rattle.simulation.proofs.working.work.Given as goal

abbrev pub invariant-loop-call : goal.invariant-loop-call
invariant-loop-call g l =
    Worked g.B.Bank.means l.initial.line.inner (vec_items l.initial.journal) l.line.inner (vec_items l.journal)
    × (called (vec_items l.journal) ++ without g.S.Asking.lacks (drop l.call-index l.calls)
    ≡ called (vec_items l.initial.journal) ++ without g.S.Asking.lacks l.calls)
