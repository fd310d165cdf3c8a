use Rattle.std.proofs.Common.{rules}
use Rattle.queue.proofs.Order.{inserted-ascends}
use Rattle.queue.proofs.Place.{placed}
use Rattle.queue.proofs.Queue.insert.Goals as goal

pub returns-clause-after : goal.returns-clause-after
returns-clause-after g c =
    let spot = placed g.T.Ranked.order c.args.x _ _ c.place-i.ensures.spot in
    search (rules, spot)

pub returns-clause-ordered : goal.returns-clause-ordered
returns-clause-ordered g c =
    let spot = placed g.T.Ranked.order c.args.x _ _ c.place-i.ensures.spot in
    inserted-ascends g.T.Ranked.order c.args.x _ _ _ _ spot c.insert.ensures.after
