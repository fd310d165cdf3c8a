use Rattle.std.proofs.Common.{◌≡◌, ◌≤◌, length}
use Rattle.std.specs.Fn.{CalledAt}
use Rattle.bounded.proofs.Kept.{Kept}
use Rattle.bounded.proofs.edits.keep_in_front.Given as goal

abbrev pub invariant-loop-i : goal.invariant-loop-i
invariant-loop-i g l =
    (l.kept ≤ l.i)
    × (length l.items ≡ length l.initial.items)
    × goal.F-IsAlwaysCallable g l.keep
    × Kept (CalledAt g.F.FnMut) l.initial.keep l.initial.items l.items l.keep l.kept l.i
