use Rattle.supplied.proofs.Table.{laws}
use Rattle.supplied.proofs.laws.table.Goals as goal

pub returns : goal.returns
returns c = laws
