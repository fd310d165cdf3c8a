use Rattle.std.proofs.Common.{◌+◌, sym, ◌∙◌}
use Rattle.std.proofs.lemmas.List.{take_rest}
use Rattle.simulation.proofs.Parts.{parts-none, parts-some}
use Rattle.simulation.proofs.parting.part_at_close.Goals as goal

pub returns-in-Some : goal.returns-in-Some
returns-in-Some c =
    rw (take_rest c.args.calls.now (c.in-Some.close + 1)) (parts-some c.args.calls.now c.in-Some.close (sym c.first_close.ensures ∙ c.in-Some.is))

pub returns-in-None : goal.returns-in-None
returns-in-None c = parts-none c.args.calls.now (sym c.first_close.ensures ∙ c.in-None.is)
