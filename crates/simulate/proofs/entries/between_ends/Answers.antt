use Rattle.std.proofs.Common.{rules}
use Rattle.simulate.proofs.Cutting.{cut-ended, cut-unended}
use Rattle.simulate.proofs.entries.between_ends.Goals as goal

pub returns-in-10 : goal.returns-in-10
returns-in-10 c = cut-ended c.args.script.now c.requires (search rules)

pub returns-in_default-2 : goal.returns-in_default-2
returns-in_default-2 c = cut-unended c.args.script.now c.requires (search rules)
