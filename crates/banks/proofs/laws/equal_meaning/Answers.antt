use Rattle.banks.proofs.Alikes.{laws}
use Rattle.banks.proofs.laws.equal_meaning.Goals as goal

pub returns : goal.returns
returns c = laws
