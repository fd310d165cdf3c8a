use Rattle.std.proofs.Common.{arith, rules, of_calls}
use Rattle.std.proofs.lemmas.Fn.{called_at}
use Rattle.bounded.proofs.Kept.{keeps, leaves}
use Rattle.bounded.proofs.edits.keep_in_front.Goals.{then-keep, else-keep}
use Rattle.bounded.proofs.edits.keep_in_front.Goals as goal

pub loop-i-preserved : goal.loop-i-preserved
loop-i-preserved g c =
    let was = c.loop-i.invariant in
    let read = c.index-items-i.is in
    elim c.if-keep.branch [
      | then-keep w ↦
          let called = called_at g.F.FnMut c.keep.ensures w.if-keep.true in
          rw (w.items-is, w.kept-is) (search rules, search rules, search of_calls, keeps was.3 (omega arith) read was.0 was.1 called)
      | else-keep w ↦
          let called = called_at g.F.FnMut c.keep.ensures w.if-keep.false in
          rw (w.items-is, w.kept-is) (search rules, search rules, search of_calls, leaves was.3 (omega arith) read called)
    ]
