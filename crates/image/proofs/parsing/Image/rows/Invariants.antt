use Rattle.std.proofs.Common.{◌≡◌, ◌+◌, ◌*◌, length, drop}
use Rattle.std.specs.Iterator.Adapters.{enumerate_source, take_source, take_count}
use Rattle.std.specs.Slice.Iter.{chunks_exact_rest, chunks_exact_size}
use Rattle.bounded.specs.Held.{held}
use Rattle.image.specs.Reading.{GotAll, Placed}
use Rattle.image.proofs.parsing.Image.rows.Given as goal

abbrev pub invariant-loop-i : goal.invariant-loop-i
invariant-loop-i g l =
    let r = g.R.Row in
    let image = l.self in
    let parts = enumerate_source l.i-iterator in
    (take_count parts + length l.yielded ≡ l.many)
    × (chunks_exact_size (take_source parts) ≡ r.WIDTH)
    × (chunks_exact_rest (take_source parts) ≡ drop (l.at + r.WIDTH * length l.yielded) image.bytes.now)
    × GotAll r.spelt r.WIDTH (r.fine image.counts) (Placed (r.bad image.counts) r.WIDTH) image.bytes.now l.at
    (length l.yielded) (held l.rows)
