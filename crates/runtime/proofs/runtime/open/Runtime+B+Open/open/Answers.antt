use Rattle.std.proofs.Common.{refl}
use Rattle.runtime.proofs.runtime.open.Runtime+B+Open.open.Goals as goal

pub returns : goal.returns
returns g c = record { project = c.open.ensures.project; bank = refl; state = c.open.ensures.state (g.B.Bank.means c.args.bank) }
