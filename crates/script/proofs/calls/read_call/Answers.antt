use Rattle.script.proofs.Splitting.{with-arguments}
use Rattle.script.proofs.calls.read_call.Goals as goal

pub returns-in-Some : goal.returns-in-Some
returns-in-Some c = with-arguments _ _ _ c.in-Some.ensures _ c.call_with_arguments.ensures
