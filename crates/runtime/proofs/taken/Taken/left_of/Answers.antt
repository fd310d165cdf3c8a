use Rattle.std.proofs.Common.{ℕ, ◌+◌, Bool, not, List, length, sym, ap, ◌∙◌, arith}
use Rattle.std.proofs.lemmas.List.{take_all}
use Rattle.runs.specs.Lists.{keep}
use Rattle.runs.specs.State.{taken, event_time}
use Rattle.runs.specs.declared.records.Event.{Event}
use Rattle.runtime.proofs.Leasts.{length_more, length-same, no_event}
use Rattle.runtime.proofs.taken.Taken.left_of.Goals as goal
use Rattle.runtime.proofs.taken.Taken.left_of.Goals.{then-not-takes, else-not-takes}

pub loop-event-preserved : goal.loop-event-preserved
loop-event-preserved c =
    let es = c.args.events.now in
    let i = c.loop-event.event-index in
    let stays : Event → Bool = λ e. not (taken c.args.self.now.actor c.args.self.now.timestamp e) in
    let low = c.loop-event.invariant.1 in
    elim c.if-not-takes.branch [
      | then-not-takes w ↦
          let more = length_more event_time stays es i no_event c.loop-event-test.true (ap not (sym w.if-not-takes.ensures)) in
          (w.left-is ∙ ap (λ (n : ℕ). n + 1) c.loop-event.invariant.0 ∙ sym more, omega (arith, w.left-is))
      | else-not-takes w ↦
          let same = length-same event_time stays es i no_event c.loop-event-test.true (ap not (sym w.if-not-takes.ensures)) in
          (w.left-is ∙ c.loop-event.invariant.0 ∙ sym same, omega (arith, w.left-is))
    ]

pub returns : goal.returns
returns c =
    let stays : Event → Bool = λ e. not (taken c.args.self.now.actor c.args.self.now.timestamp e) in
    record {
      value = c.loop-event.invariant.0 ∙ ap (λ (es : List Event). length (keep stays es))
          (take_all c.loop-event.event-index c.args.events.now c.loop-event-test.false);
      few = omega (arith, c.loop-event.invariant.1);
    }
