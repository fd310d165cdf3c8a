use Rattle.std.proofs.Common.{rules}
use Rattle.image.specs.Drafts.{plan_of}
use Rattle.project.proofs.Few.{few}
use Rattle.project.proofs.Closing.{ok-part}
use Rattle.project.proofs.Routes.{distance_is, exit-is}
use Rattle.project.proofs.records.Records.distances.Goals as goal

pub returns-clause-far : goal.returns-clause-far
returns-clause-far c =
    let p = plan_of c.args.self.now.draft.now in
    let t = c.edges-table.result in
    let l = c.edges-table.ensures in
    let D = ok-part c.distances.result _ _ (c.distances.ensures.square.1 (search rules)) c.distances.ensures.closed in
    record {
      distances = distance_is p (few c.args.self.now.draft.now) c.args.self.now.ranged t l _ D;
      exits = exit-is p (few c.args.self.now.draft.now) c.args.self.now.ranged t l _ D;
    }
