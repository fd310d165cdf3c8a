use Rattle.script.proofs.Telling.{one-call, one-meaning}
use Rattle.script.proofs.lines_are_unambiguous.Goals as goal

pub returns : goal.returns
returns c = record { one_call = one-call; one_meaning = one-meaning }
