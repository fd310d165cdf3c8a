use Rattle.std.proofs.Common.{◌+◌, ◌*◌, ap, ◌∙◌, arith}
use Rattle.image.specs.Bytes.{put}
use Rattle.image.proofs.Rows.{write-more}
use Rattle.image.proofs.row.write_all.Goals as goal

pub loop-i-preserved : goal.loop-i-preserved
loop-i-preserved g c =
    let r = g.R.Row in
    let i = c.loop-i.i in
    let x = c.index-rows-i in
    let at = c.args.at in
    let was = c.loop-i.bytes in
    let wrote = c.write.ensures ∙ ap (λ w. put was (at + w * i) (r.spelt x.result)) c.WIDTH.ensures
    ∙ ap (λ y. put was (at + r.WIDTH * i) (r.spelt y)) x.is in
    write-more r.spelt r.WIDTH g.met.R.Row.even c.args.bytes.now at i c.args.rows.now _ _ x.result
    c.loop-i-test.true (omega arith) c.loop-i.invariant wrote
