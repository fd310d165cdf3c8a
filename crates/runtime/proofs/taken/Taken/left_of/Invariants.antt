use Rattle.std.proofs.Common.{◌≡◌, ◌≤◌, not, length, take}
use Rattle.runs.specs.Lists.{keep}
use Rattle.runs.specs.State.{taken}
use Rattle.runtime.proofs.taken.Taken.left_of.Given as goal

abbrev pub invariant-loop-event : goal.invariant-loop-event
invariant-loop-event l =
    (l.left ≡ length (keep (λ e. not (taken l.self.actor l.self.timestamp e)) (take l.event-index l.events)))
    × (l.left ≤ l.event-index)
