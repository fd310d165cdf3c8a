use Rattle.std.proofs.Common.{◌≡◌, take}
use Rattle.std.specs.List.{flat_map}
use Rattle.image.specs.Bytes.{put}
use Rattle.image.proofs.row.write_all.Given as goal

abbrev pub invariant-loop-i : goal.invariant-loop-i
invariant-loop-i g l = l.bytes ≡ put l.initial.bytes l.at (flat_map g.R.Row.spelt (take l.i l.rows))
