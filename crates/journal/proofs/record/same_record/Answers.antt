use Rattle.std.proofs.Common.{sym, subst}
use Rattle.journal.specs.Entries.{Begins}
use Rattle.journal.proofs.Compared.{compared, from-beginnings}
use Rattle.journal.proofs.record.same_record.Goals as goal

pub returns : goal.returns
returns g c =
    let ran = c.eq.ensures.ran in
    let same = compared g.E.PartialEq.eq g.met.E.Entry.exact g.E.Entry.kind c.eq.result c.entries_of.result
    ran.0 ran.5 ran.6 ran.1 ran.2 ran.3 ran.4 ran.8 ran.9 ran.10 ran.11 in
    let told = from-beginnings g.E.Entry.kind c.args.number c.eq.result c.args.first.now
    c.args.second.now c.entries_of.result ran.0 c.entries_of.ensures
    (subst (Begins c.args.number c.args.second.now) (sym ran.7) c.entries_of-2.ensures) same in
    record { same = told.0; low = told.1 }
