use Rattle.runtime.proofs.Performs.{does}
use Rattle.runtime.proofs.runtime.Runtime.start.Goals as goal

pub returns : goal.returns
returns g c = does c.start.ensures
