use Rattle.std.proofs.Common.{rules}
use Rattle.journal.proofs.Search.{found}
use Rattle.journal.proofs.record.EntriesIterator.next.Goals as goal

pub returns-clause-steps : goal.returns-clause-steps
returns-clause-steps g c =
    found g.E.Entry.kind c.args.self.now.number _ _ (λ x r h q. search rules) _ _ _ _ c.find_map.ensures.ran c.find_map.ensures.runs
