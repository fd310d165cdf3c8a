use Rattle.std.proofs.Common.{arith}
use Rattle.image.specs.Drafts.{plan_of}
use Rattle.project.proofs.Found.{doubled}
use Rattle.project.proofs.flaws.is_doubled.Goals as goal

pub returns : goal.returns
returns c = doubled (plan_of c.args.draft.now) c.args.k _ _ _ _ c.as_slice-channels.ensures (omega arith) (omega arith) c.origin_of.ensures c.is_some.ensures
