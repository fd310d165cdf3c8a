use Rattle.std.proofs.Common.{◌+◌, ◌*◌, ◌<◌, ◌≤◌, refl, ap, ◌∙◌}
use Rattle.std.proofs.lemmas.Result.{err_from_is_err_and}
use Rattle.bounded.specs.Held.{held}
use Rattle.line.specs.Rules.{Possible, longest}
use Rattle.image.specs.Encoding.{sensor_bytes, actor_bytes, channel_bytes}
use Rattle.image.specs.Fields.{BadSensorField, BadChannelOf, Wired}
use Rattle.image.specs.Reading.{Lowest, BadRow, GotAll, Placed}
use Rattle.image.specs.Refusals.{BadActorField}
use Rattle.image.proofs.Front.{Sensors, Actors, actors-same, channels-same, drafted, refused}
use Rattle.image.proofs.Judging.{lowest-same, moved}
use Rattle.image.proofs.Order.{sensor-low, actor-low, channel-low}
use Rattle.image.proofs.parsing.Image.draft.Goals as goal
use Rattle.image.proofs.parsing.Image.draft.Goals.{In_ok-sensors, In_ok-actors}

-- the records that were read, at the places that the bytes name
sensors-read : (c : In_ok-sensors)
    → Sensors c.args.self.now.bytes.now (held c.in_ok-sensors.sensors)
sensors-read c =
    let bs = c.args.self.now.bytes.now in
    moved (λ at n. GotAll sensor_bytes 4 (λ l. l ≤ longest) (Placed BadSensorField 4) bs at n
    (held c.in_ok-sensors.sensors))
    refl (ap (λ n. n.sensors) c.args.self.now.front.counted) c.in_ok-sensors.ensures

actors-read : (c : In_ok-actors)
    → Actors c.args.self.now.bytes.now (held c.in_ok-actors.actors)
actors-read c =
    let bs = c.args.self.now.bytes.now in
    let same = c.args.self.now.front.counted in
    moved (λ at n. GotAll actor_bytes 9 Possible (Placed (λ r. BadActorField r 0) 9) bs at n
    (held c.in_ok-actors.actors))
    (c.actors_at.ensures ∙ ap (λ n. 9 + 4 * n.sensors) same) (ap (λ n. n.actors) same) c.in_ok-actors.ensures

pub returns-in_err-sensors : goal.returns-in_err-sensors
returns-in_err-sensors c =
    let bs = c.args.self.now.bytes.now in
    let front = c.args.self.now.front in
    let p = err_from_is_err_and c.from_residual.result c.from_residual.ensures.1 in
    let got = c.in_err-sensors.ensures in
    let k = got.0 in
    let low = moved (λ at n. (k < at + 4 * n) × Lowest (BadRow (Placed BadSensorField 4) 4 bs at n) k)
    refl (ap (λ n. n.sensors) front.counted) (got.2, got.3) in
    rw (p.1, p.2, got.1) (refused bs c.args.self.now.counts k front (sensor-low bs k low.0 low.1))

pub returns-in_err-actors : goal.returns-in_err-actors
returns-in_err-actors c =
    let bs = c.args.self.now.bytes.now in
    let front = c.args.self.now.front in
    let r = c.from_residual-in_err-actors in
    let p = err_from_is_err_and r.result r.ensures.1 in
    let got = c.in_err-actors.ensures in
    let k = got.0 in
    let low = moved (λ at n. (k < at + 9 * n)
    × Lowest (BadRow (Placed (λ r. BadActorField r 0) 9) 9 bs at n) k)
    (c.actors_at.ensures ∙ ap (λ n. 9 + 4 * n.sensors) front.counted)
    (ap (λ n. n.actors) front.counted) (got.2, got.3) in
    rw (p.1, p.2, got.1) (refused bs c.args.self.now.counts k front (actor-low bs k low.0
    (sensors-read (goal.at.returns-in_err-actors c).In_ok-sensors).clean
    (lowest-same _ _ k (actors-same bs) low.1)))

pub returns-in_err-channels : goal.returns-in_err-channels
returns-in_err-channels c =
    let bs = c.args.self.now.bytes.now in
    let counts = c.args.self.now.counts in
    let front = c.args.self.now.front in
    let r = c.from_residual-in_err-channels in
    let p = err_from_is_err_and r.result r.ensures.1 in
    let got = c.in_err-channels.ensures in
    let k = got.0 in
    let low = moved (λ at n. (k < at + 6 * n)
    × Lowest (BadRow (Placed (BadChannelOf counts) 6) 6 bs at n) k)
    (c.channels_at.ensures ∙ ap (λ n. 9 + 4 * n.sensors + 9 * n.actors) front.counted)
    (ap (λ n. n.channels) front.counted) (got.2, got.3) in
    let actors = (actors-read (goal.at.returns-in_err-channels c).In_ok-actors).clean in
    rw (p.1, p.2, got.1) (refused bs counts k front (channel-low bs k
    (sensors-read (goal.at.returns-in_err-channels c).In_ok-sensors).clean
    (λ j b. actors j ((actors-same bs).back j b))
    (lowest-same _ _ k (channels-same bs counts front) low.1)))

pub returns : goal.returns
returns c =
    let bs = c.args.self.now.bytes.now in
    let n = c.args.self.now.counts in
    let same = c.args.self.now.front.counted in
    let channels = moved (λ at m. GotAll channel_bytes 6 (Wired n) (Placed (BadChannelOf n) 6) bs at m
    (held c.in_ok-channels.channels))
    (c.channels_at.ensures ∙ ap (λ n. 9 + 4 * n.sensors + 9 * n.actors) same)
    (ap (λ n. n.channels) same) c.in_ok-channels.ensures in
    drafted bs n _ c.args.self.now.front refl (sensors-read (goal.at.returns c).In_ok-sensors)
    (actors-read (goal.at.returns c).In_ok-actors) channels
