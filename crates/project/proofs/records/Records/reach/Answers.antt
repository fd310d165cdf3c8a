use Rattle.std.proofs.Common.{◌≡◌, ℕ, ◌+◌, ◌*◌, ◌<◌, false, is_some, arith, rules}
use Rattle.paths.specs.Paths.{at}
use Rattle.paths.specs.Least.{length_at}
use Rattle.project.specs.Tables.{places}
use Rattle.image.specs.Drafts.{plan_of}
use Rattle.project.proofs.Few.{few}
use Rattle.project.proofs.Closing.{ok-part}
use Rattle.project.proofs.Routes.{reach-is, leaves-is}
use Rattle.project.proofs.records.Records.reach.Goals as goal

pub returns : goal.returns
returns c =
    let p = plan_of c.args.self.now.draft.now in
    let t = c.edges.result in
    let l = c.edges.ensures in
    let R = ok-part c.reaches.result _ _ (c.reaches.ensures.square.1 (search rules)) c.reaches.ensures.closed in
    let same : (i j : ℕ) → i < places → j < places → at false places c.links-table.result i j ≡ is_some (length_at places t i j) = λ i j hi hj. c.links-table.ensures (i * 33 + j) (omega arith) in
    record {
      paths = reach-is p (few c.args.self.now.draft.now) c.args.self.now.ranged t l _ _ same R;
      exits = leaves-is p (few c.args.self.now.draft.now) c.args.self.now.ranged t l _ _ same R;
    }
