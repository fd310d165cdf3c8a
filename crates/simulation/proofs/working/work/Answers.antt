use Rattle.std.proofs.Common.{◌<◌, length, vec_items, ap, ◌∙◌, arith}
use Rattle.simulation.proofs.Work.{no_call, worked-step, had-more, had-less}
use Rattle.simulation.proofs.working.work.Goals as goal
use Rattle.simulation.proofs.working.work.Goals.{in-Some+in_ok-push, in_default}

pub loop-call-preserved : goal.loop-call-preserved
loop-call-preserved g c =
    let inside : c.loop-call.call-index < length c.args.calls.now = omega arith in
    let calls = c.args.calls.now in
    let i = c.loop-call.call-index in
    let k = vec_items c.loop-call.journal in
    elim c.match-ask.branch [
      | in-Some+in_ok-push w ↦
          let h = w.in-Some.ensures in
          let e = ap vec_items w.journal-is ∙ w.in_ok-push.ensures.items in (
            worked-step g.B.Bank.means _ _ _ _ _ _ _ _ c.loop-call.invariant.0 h.1 e,
            had-more g.S.Asking.lacks calls i no_call inside k _ _ _ h.0 e c.loop-call.invariant.1,
          )
      | in_default w ↦
          let h = w.in_default.ensures in
          rw (w.journal-is, h.1) (c.loop-call.invariant.0, had-less g.S.Asking.lacks calls i no_call inside k _ h.0 c.loop-call.invariant.1)
    ]
