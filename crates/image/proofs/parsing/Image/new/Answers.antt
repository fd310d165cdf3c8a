use Rattle.std.proofs.Common.{arith}
use Rattle.std.proofs.lemmas.Result.{err_from_is_err_and}
use Rattle.image.proofs.Front.{fronted}
use Rattle.image.proofs.Order.{first_count, first-length}
use Rattle.image.proofs.parsing.Image.new.Goals as goal

pub returns-in_err-counts : goal.returns-in_err-counts
returns-in_err-counts c =
    let r = c.from_residual-in_err-counts in
    let p = err_from_is_err_and r.result r.ensures.1 in
    let low = c.in_err-counts.ensures.checked in
    rw (p.1, p.2, low.1) (
      first_count c.args.bytes.now low.0 c.in_ok-check_head.ensures.checked low.2,
      omega arith,
    )

pub returns-in_err-check_length : goal.returns-in_err-check_length
returns-in_err-check_length c =
    let r = c.from_residual-in_err-check_length in
    let p = err_from_is_err_and r.result r.ensures.1 in
    let low = c.in_err-check_length.ensures in
    rw (p.1, p.2, low.1) (
      first-length c.args.bytes.now low.0 c.in_ok-check_head.ensures.checked
          c.in_ok-counts.ensures.checked low.2,
      omega arith,
    )

pub invariant_of-result : goal.invariant_of-result
invariant_of-result c = record {
  front = fronted c.args.bytes.now c.in_ok-check_head.ensures.long _ c.in_ok-counts.ensures.counts
      c.in_ok-check_head.ensures.checked c.in_ok-counts.ensures.checked c.in_ok-check_length.ensures;
}
