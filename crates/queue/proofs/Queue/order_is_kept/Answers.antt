use Rattle.queue.proofs.Order.{order-laws}
use Rattle.queue.proofs.Queue.order_is_kept.Goals as goal

pub returns : goal.returns
returns g c = order-laws g.T.Ranked.order
