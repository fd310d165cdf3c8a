use Rattle.std.proofs.Common.{get_or, Some, sym, ap, ◌∙◌}
use Rattle.std.proofs.lemmas.Bool.{eq-eqb, ne_eqb}
use Rattle.runs.specs.Lists.{lower}
use Rattle.runs.specs.State.{at_actor, event_time}
use Rattle.runtime.proofs.Leasts.{least_more, least-same, no_event}
use Rattle.runtime.proofs.events.first_at.Goals as goal
use Rattle.runtime.proofs.events.first_at.Goals.{then-from-actor, else-from-actor}

pub loop-event-preserved : goal.loop-event-preserved
loop-event-preserved c =
    let es = c.args.events.now in
    let i = c.loop-event.event-index in
    let a = c.args.actor in
    let e = get_or es i no_event in
    elim c.if-from-actor.branch [
      | then-from-actor w ↦ w.first-is ∙ ap Some (w.lower.ensures ∙ ap (lower e.timestamp) c.loop-event.invariant)
          ∙ sym (least_more event_time (at_actor a) es i no_event c.loop-event-test.true (eq-eqb e.actor a (sym c.from.ensures ∙ w.if-from-actor.true)))
      | else-from-actor w ↦ w.first-is ∙ c.loop-event.invariant
          ∙ sym (least-same event_time (at_actor a) es i no_event c.loop-event-test.true (ne_eqb e.actor a (λ p. w.if-from-actor.false (c.from.ensures ∙ p))))
    ]
