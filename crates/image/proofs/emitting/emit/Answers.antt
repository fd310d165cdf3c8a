use Rattle.std.proofs.Common.{◌<◌, ◌≤◌, length, Ok, Err, sym, ap, ◌∙◌, arith}
use Rattle.std.proofs.lemmas.Result.{err_from_is_err_and}
use Rattle.std.proofs.lemmas.Bool.{cond-true, cond-false, le-leb, lt-leb}
use Rattle.fault.specs.declared.Fault.{Fault}
use Rattle.fault.specs.declared.RunCause.TheVariants.{Full}
use Rattle.image.specs.Drafts.{plan_of}
use Rattle.image.specs.Encoding.{image}
use Rattle.image.proofs.Spelling.{asked}
use Rattle.image.proofs.emitting.emit.Goals as goal

pub returns-in_err-size : goal.returns-in_err-size
returns-in_err-size c =
    let image-of = image (plan_of c.args.draft.now) in
    let n = asked (plan_of c.args.draft.now) _ c.from.ensures c.size.ensures in
    let p = err_from_is_err_and c.from_residual.result c.from_residual.ensures.1 in
    let refused = c.in_err-size.ensures in
    let short : length c.args.buffer.now < length image-of = omega (arith, n, refused.1) in
    let no_room = lt-leb (length image-of) (length c.args.buffer.now) short in
    record {
      answer = p.1 ∙ ap Err (p.2 ∙ refused.0 ∙ ap (Fault.Run Full) n) ∙ sym (cond-false _ _ _ no_room);
      after = sym (cond-false _ _ _ no_room);
    }

pub write_image-requires : goal.write_image-requires
write_image-requires c =
    let n = asked (plan_of c.args.draft.now) _ c.from.ensures c.size.ensures in
    omega (arith, n, c.in_ok-size.ensures.1)

pub returns : goal.returns
returns c =
    let image-of = image (plan_of c.args.draft.now) in
    let n = asked (plan_of c.args.draft.now) _ c.from.ensures c.size.ensures in
    let fitted = c.in_ok-size.ensures in
    let room : length image-of ≤ length c.args.buffer.now = omega (arith, n, fitted.1) in
    let yes-room = le-leb (length image-of) (length c.args.buffer.now) room in
    record {
      answer = ap Ok (fitted.0 ∙ n) ∙ sym (cond-true _ _ _ yes-room);
      after = c.write_image.ensures ∙ sym (cond-true _ _ _ yes-room);
    }
