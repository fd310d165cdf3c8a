use Rattle.std.proofs.Common.{sym}
use Rattle.simulation.proofs.Compared.{compares}
use Rattle.simulation.proofs.comparing.compare.Goals as goal

pub returns : goal.returns
returns c =
    let told = c.compare.ensures in
    let r = c.compare.result in
    let same = compares c.as_slice.result.now c.as_slice-2.result.now r.same_events r.same_records told.runs told.records told.law in
    rw (sym c.as_slice.ensures.value, sym c.as_slice-2.ensures.value) same
