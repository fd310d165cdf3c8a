use Rattle.std.proofs.Common.{◌+◌, ap, ◌∙◌, arith}
use Rattle.image.specs.Bytes.{put}
use Rattle.image.specs.Encoding.{source_bytes, sink_bytes}
use Rattle.image.proofs.Fields.{length-source}
use Rattle.image.proofs.Puts.{put_next}
use Rattle.image.proofs.channels.ChannelRow.write.Goals as goal

pub returns : goal.returns
returns c =
    let d = c.args.bytes.now in
    let at = c.args.at in
    let x = c.args.self in
    put_next d (source_bytes x.source) (sink_bytes x.sink) at (at + 3) (omega arith)
    (ap (λ n. at + n) (length-source x.source))
    (c.put_bytes.ensures ∙ ap (put d at) c.spell_source.ensures)
    (c.put_bytes-2.ensures ∙ ap (put c.put_bytes.new.bytes (at + 3)) c.spell_sink.ensures)
