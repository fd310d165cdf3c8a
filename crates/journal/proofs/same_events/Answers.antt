use Rattle.journal.proofs.Events.{decides_below, decides-events}
use Rattle.journal.proofs.Law.{decides-records}
use Rattle.journal.proofs.same_events.Goals as goal

pub returns : goal.returns
returns c =
    let h = c.args.first.now in
    let k = c.args.second.now in
    let r = c.same_for_all.result in
    let below = decides_below r h k c.same_for_all.ensures.below in
    record {
      below = below;
      runs = decides-events r h k below;
      complete = λ both. decides-records h k both r (decides-events r h k below);
    }
