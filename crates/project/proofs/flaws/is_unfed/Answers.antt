use Rattle.std.proofs.Common.{arith}
use Rattle.image.specs.Drafts.{plan_of}
use Rattle.project.proofs.Found.{unfed}
use Rattle.project.proofs.flaws.is_unfed.Goals as goal

pub returns : goal.returns
returns c = unfed (plan_of c.args.draft.now) c.args.actuator _ _ _ c.as_slice.ensures (omega arith) c.origin_of.ensures c.is_none.ensures
