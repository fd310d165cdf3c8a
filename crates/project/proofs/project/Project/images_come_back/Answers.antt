use Rattle.project.proofs.Alike.{round-trips}
use Rattle.project.proofs.project.Project.images_come_back.Goals as goal

pub returns : goal.returns
returns c = round-trips
