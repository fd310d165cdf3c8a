use Rattle.std.proofs.Common.{rules}
use Rattle.bounded.proofs.Shifts.{opened}
use Rattle.bounded.proofs.Bounded.insert.Goals as goal

pub returns-clause-after : goal.returns-clause-after
returns-clause-after g c = search (rules, opened)
