use Rattle.std.proofs.Common.{take}
use Rattle.image.specs.Drafts.{plan_of}
use Rattle.project.specs.Tables.{Laid}
use Rattle.project.proofs.records.Records.edges.Given as goal

abbrev pub invariant-loop-c : goal.invariant-loop-c
invariant-loop-c l = Laid (plan_of l.self.draft.now) (take l.c-index l.channels) l.table
