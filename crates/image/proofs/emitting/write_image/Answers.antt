use Rattle.std.proofs.Common.{◌+◌, ◌*◌, [], ◌∷◌, length, ap, ◌∙◌, arith}
use Rattle.std.specs.List.{flat_map}
use Rattle.image.specs.Bytes.{put}
use Rattle.image.specs.Drafts.{plan_of}
use Rattle.image.specs.Encoding.{sensor_bytes, actor_bytes, channel_bytes}
use Rattle.image.proofs.Spelling.{image-length, put-image}
use Rattle.image.proofs.emitting.write_image.Goals as goal

pub write_all-requires : goal.write_all-requires
write_all-requires c = omega (arith, image-length (plan_of c.args.draft.now), ap length c.as_slice.ensures)

pub write_all-requires-2 : goal.write_all-requires-2
write_all-requires-2 c =
    omega (
      arith,
      image-length (plan_of c.args.draft.now),
      ap length c.as_slice-2.ensures,
      ap
          (λ n. n.sensors) c.from-counts.ensures,
    )

pub write_all-requires-3 : goal.write_all-requires-3
write_all-requires-3 c =
    let same = c.from-counts.ensures in
    omega (
      arith,
      image-length (plan_of c.args.draft.now),
      ap length c.as_slice-3.ensures,
      ap
          (λ n. n.sensors) same,
      ap (λ n. n.actors) same,
    )

pub returns : goal.returns
returns c =
    let same = c.from-counts.ensures in
    let d = c.args.buffer.now in
    put-image (plan_of c.args.draft.now) d c.actors_at.result c.channels_at.result
    (c.actors_at.ensures ∙ ap (λ n. 9 + 4 * n.sensors) same)
    (c.channels_at.ensures ∙ ap (λ n. 9 + 4 * n.sensors + 9 * n.actors) same)
    c.put_bytes.ensures
    (c.put_bytes-2.ensures ∙ ap (put c.put_bytes.new.bytes 5)
    (c.spell.ensures ∙ ap (λ n. n.sensors ∷ n.actors ∷ n.actuators ∷ n.channels ∷ []) same))
    (c.write_all.ensures ∙ ap (λ xs. put c.put_bytes-2.new.bytes 9 (flat_map sensor_bytes xs))
    c.as_slice.ensures)
    (c.write_all-2.ensures ∙ ap (λ xs. put c.write_all.new.bytes c.actors_at.result
    (flat_map actor_bytes xs)) c.as_slice-2.ensures)
    (c.write_all-3.ensures ∙ ap (λ xs. put c.write_all-2.new.bytes c.channels_at.result
    (flat_map channel_bytes xs)) c.as_slice-3.ensures)
