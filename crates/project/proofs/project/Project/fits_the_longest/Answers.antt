use Rattle.project.proofs.Sizes.{longest}
use Rattle.project.proofs.project.Project.fits_the_longest.Goals as goal

pub returns : goal.returns
returns c = longest c.args.self.now
