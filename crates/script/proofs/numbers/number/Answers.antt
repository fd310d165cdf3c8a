use Rattle.std.proofs.Common.{arith, rules, false-eqb}
use Rattle.std.proofs.lemmas.Iterator.{YieldsList-from_slice}
use Rattle.script.proofs.Reading.{number-read}
use Rattle.script.proofs.numbers.number.Goals as goal

pub returns : goal.returns
returns c =
    let e = false-eqb _ _ c.if-is_empty.ensures in
    number-read _ _ _ (omega arith) c.try_fold.ensures.ran (YieldsList-from_slice c.args.digits.now cc) (λ n x r q k. search rules)
