use Rattle.simulation.proofs.Ends.{performed, from-empty, closed-behind}
use Rattle.simulation.proofs.performing.perform.Goals as goal

pub returns-in-Some-clause-ran : goal.returns-in-Some-clause-ran
returns-in-Some-clause-ran g c =
    let means = g.B.Bank.means in
    let all = rw c.in-Some.is at c.part_at_close.ensures in
    let opened = from-empty means _ _ _ _ _ c.new.ensures.items c.work-journal.ensures.worked c.work-journal.ensures.calls in
    let whole = closed-behind means _ _ _ _ _ _ _ _ opened c.close-line.ensures c.work_closed-journal.ensures in
    performed means c.args.project c.args.bank _ _ c.args.calls.now _ _ _ _ c.open-line.ensures all whole
    c.end.ensures.journal c.end.ensures.tells c.end.ensures.bank

pub returns-in-None-clause-ran : goal.returns-in-None-clause-ran
returns-in-None-clause-ran g c =
    let means = g.B.Bank.means in
    let all = rw c.in-None.is at c.part_at_close.ensures in
    let opened = from-empty means _ _ _ _ _ c.new.ensures.items c.work-journal.ensures.worked c.work-journal.ensures.calls in
    performed means c.args.project c.args.bank _ _ c.args.calls.now _ _ _ _ c.open-line.ensures all opened
    c.end-in-None.ensures.journal c.end-in-None.ensures.tells c.end-in-None.ensures.bank
