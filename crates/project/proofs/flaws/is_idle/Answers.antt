use Rattle.std.proofs.Common.{arith}
use Rattle.image.specs.Drafts.{plan_of}
use Rattle.project.proofs.Found.{idle}
use Rattle.project.proofs.flaws.is_idle.Goals as goal

pub returns : goal.returns
returns c = idle (plan_of c.args.draft.now) c.args.sensor _ _ _ c.as_slice.ensures (omega arith) c.end_of.ensures c.is_none.ensures
