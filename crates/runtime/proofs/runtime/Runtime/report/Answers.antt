use Rattle.runtime.proofs.Performs.{does}
use Rattle.runtime.proofs.runtime.Runtime.report.Goals as goal

pub returns : goal.returns
returns g c = does c.report.ensures
