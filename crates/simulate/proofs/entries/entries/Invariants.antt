use Rattle.std.proofs.Common.{vec_items}
use Rattle.simulate.specs.Lines.{lines_of}
use Rattle.simulate.proofs.Standing.{SoFar}
use Rattle.simulate.proofs.entries.entries.Given as goal

abbrev pub invariant-loop-i : goal.invariant-loop-i
invariant-loop-i l = SoFar (lines_of l.script) (vec_items l.entries) l.closed l.i
