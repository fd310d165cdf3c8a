use Rattle.std.proofs.Common.{w32}
use Rattle.std.proofs.lemmas.Int.{to_z-of_z}
use Rattle.runtime.proofs.Performs.{does}
use Rattle.runtime.proofs.runtime.open.Runtime+B+Open.arrive.Goals as goal

pub returns : goal.returns
returns g c = does (simp (to_z-of_z w32 c.args.value c.ranges.value) at c.arrive.ensures)
