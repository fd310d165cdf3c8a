use Rattle.std.proofs.lemmas.Result.{err_from_is_err_and}
use Rattle.std.proofs.Common.{◌∙◌, arith}
use Rattle.std.proofs.lemmas.List.{take_all}
use Rattle.image.proofs.Fields.{sort-of, six-at, sink-low, channel-clean}
use Rattle.image.proofs.channels.ChannelRow.read.Goals as goal

pub returns-in_err-sink : goal.returns-in_err-sink
returns-in_err-sink c =
    let p = err_from_is_err_and c.from_residual-in_err-sink.result c.from_residual-in_err-sink.ensures.1 in
    let low = c.in_err-sink.ensures in
    let source = c.in_ok-source.ensures in
    rw (p.1, p.2) (
      low.0,
      sink-low c.args.bytes.now c.args.counts _ _ (sort-of _ source.spells) source.clean low.1,
    )

pub returns : goal.returns
returns c =
    let bs = c.args.bytes.now in
    let source = c.in_ok-source.ensures in
    let sink = c.in_ok-sink.ensures in
    record {
      spells = six-at bs 0 _ _ (omega arith) source.spells sink.spells ∙ take_all 6 bs (omega arith);
      in_range = λ p h. record { source = source.in_range p h; sink = sink.in_range.0 p h; no_bypass = sink.in_range.1 };
      clean = channel-clean bs c.args.counts _ (sort-of _ source.spells) source.clean sink.clean;
    }
