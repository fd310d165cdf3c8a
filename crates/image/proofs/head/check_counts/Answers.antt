use Rattle.std.proofs.Common.{◌+◌, refl, sym, ◌∙◌}
use Rattle.image.proofs.Front.{first-count}
use Rattle.image.proofs.head.check_counts.Goals as goal

pub returns-in-Some-clause-checked : goal.returns-in-Some-clause-checked
returns-in-Some-clause-checked c =
    (5 + c.in-Some.i, refl, first-count c.args.bytes.now c.in-Some.i (sym c.first_bad_count.ensures ∙ c.in-Some.is))
