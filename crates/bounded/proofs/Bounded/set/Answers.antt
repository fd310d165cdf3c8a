use Rattle.std.proofs.Common.{rules}
use Rattle.bounded.proofs.Prefix.{take-of-set}
use Rattle.bounded.proofs.Bounded.set.Goals as goal

pub returns : goal.returns
returns g c = search (rules, take-of-set)
