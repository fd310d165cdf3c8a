use Rattle.runtime.proofs.Performs.{does}
use Rattle.runtime.proofs.runtime.Runtime.advance.Goals as goal

pub returns : goal.returns
returns g c = does c.advance.ensures
