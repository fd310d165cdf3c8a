use Rattle.std.proofs.Common.{refl, sym, ◌∙◌}
use Rattle.image.proofs.Front.{first-mark}
use Rattle.image.proofs.head.check_head.Goals as goal

pub returns-in-Some-clause-checked : goal.returns-in-Some-clause-checked
returns-in-Some-clause-checked c =
    (c.in-Some.at, refl, first-mark c.args.bytes.now c.in-Some.at (sym c.first_difference.ensures ∙ c.in-Some.is))
