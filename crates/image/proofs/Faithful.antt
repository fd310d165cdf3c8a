-- Images of plans in range: none is refused, and no two plans have one.
use Rattle.std.proofs.Common.{◌≡◌, ℕ, zero, suc, ◌+◌, ◌*◌, ◌<◌, ◌≤◌, List, [], ◌∷◌, ◌++◌, length, get_or, sym, refl, ap, ◌∙◌, inl, inr, ⊎_elim, arith}
use Rattle.std.specs.List.{flat_map}
use Rattle.std.proofs.lemmas.List.{length-take, length-drop, get_or_append_left, get_or-append-add, ext_get_or}
use Rattle.fault.specs.Table.{entry}
use Rattle.fault.specs.declared.BytesCause.TheVariants.{Head, Count, Length}
use Rattle.fault.specs.declared.RecordsCause.TheVariants.{Field, Order, Sink}
use Rattle.fault.specs.declared.GraphCause.TheVariants.{Unwired, CutOff, ZeroLoop}
use Rattle.fault.specs.declared.Fault.{Fault}
use Rattle.line.specs.Lists.{In}
use Rattle.line.specs.Plan.{Plan, nobody}
use Rattle.line.specs.Rules.{Sized, Ranged, no_channel}
use Rattle.image.specs.Bytes.{between}
use Rattle.image.specs.Drafts.{counts_at}
use Rattle.image.specs.Encoding.{image, mark, counts, sensor_bytes, actor_bytes, channel_bytes}
use Rattle.image.specs.Fields.{BadSensorField, Counted}
use Rattle.image.specs.Reading.{Nowhere, BadField, Placed}
use Rattle.image.specs.Refusals.{byte, most, BadActorField, BadChannelField, Uncounted, Unmarked, Faulty}
use Rattle.image.proofs.Accepted.{sensor-clean, sensor-same, actor-clean, actor-same, channel-clean, channel-same}
use Rattle.image.proofs.Order.{sensors}
use Rattle.image.proofs.Spelling.{row_at, row-clean, length-channel, image-length, records, sensors-at, actors_at, channels_at}

in-get_or : {X : Type 0} (xs : List X) (i : ℕ) (d : X) → i < length xs → In (get_or xs i d) xs
in-get_or [] i d l = omega arith
in-get_or (x ∷ xs) zero d l = inl refl
in-get_or (x ∷ xs) (suc i) d l = inr (in-get_or xs i d (omega arith))

-- bytes that are a part lie within the whole
room : (x bs : List ℕ) (b n : ℕ) → length x ≡ n → 0 < n → x ≡ between b n bs → b + n ≤ length bs
room x bs b n l h e =
    let m : n ≡ length (between b n bs) = sym l ∙ ap length e in
    omega (arith, simp (length-take, length-drop) at m)

module _ (p : Plan) (s : Sized p) (r : Ranged p) where
  no-mark : Nowhere (Unmarked (image p))
  no-mark k = ⊎_elim (λ b. b.2 (get_or_append_left mark (counts p ++ records p) 0 k b.0))
      (λ b. omega (arith, b.0, image-length p))

  counted : (i : ℕ) → i < 4 → (1 ≤ get_or (counts p) i 0) × (get_or (counts p) i 0 ≤ most i)
  counted zero l = (s.some_sensor, s.few_sensors)
  counted (suc zero) l = (s.some_actor, s.few_actors)
  counted (suc (suc zero)) l = (s.some_actuator, s.few_actuators)
  counted (suc (suc (suc zero))) l = (s.some_channel, s.few_channels)
  counted (suc (suc (suc (suc i)))) l = absurd (omega arith)

  no-count : Nowhere (Uncounted (image p))
  no-count k (i, l, e, o) =
      let there : byte (image p) (5 + i) ≡ get_or (counts p) i 0
      = get_or-append-add mark (counts p ++ records p) i 0 ∙ get_or_append_left (counts p) (records p) 0 i l in
      let here : byte (image p) k ≡ get_or (counts p) i 0 = ap (byte (image p)) e ∙ there in
      ⊎_elim (λ z. omega (arith, here, counted i l)) (λ z. omega (arith, here, counted i l)) o

  fits : Counted (counts_at (image p)) p
  fits = record { sensors = refl; actors = refl; actuators = refl }

  no_field : Nowhere (BadField (image p))
  no_field k = ⊎_elim
      (λ b. row-clean sensor_bytes 4 (λ x. refl) (image p) (Placed BadSensorField 4) p.sensors 9 0 (sensors-at p)
      (λ i at l. sensor-clean (image p) at (get_or p.sensors i 0) (r.latenesses i l)) k ((sensors (image p)).back k b))
      (⊎_elim
      (row-clean actor_bytes 9 (λ x. refl) (image p) BadActorField p.actors _ nobody (actors_at p)
      (λ i at l. actor-clean (image p) at (get_or p.actors i nobody) (r.actors i l)) k)
      (row-clean channel_bytes 6 length-channel (image p) BadChannelField p.channels _ no_channel (channels_at p)
      (λ i at l e.
      let x = get_or p.channels i no_channel in
      channel-clean (image p) at p x fits (room _ (image p) at 6 (length-channel x) (omega arith) e)
      (r.channels x (in-get_or p.channels i no_channel l)) e)
      k))

  pub sound-image : (f : Fault) → (entry f).number ≤ 4 → Faulty (image p) f → ⊥
  sound-image (Fault.Bytes Head k) h x = no-mark k x
  sound-image (Fault.Bytes Count k) h x = no-count k x
  sound-image (Fault.Bytes Length k) h x = x.1 (image-length p ∙ sym x.0)
  sound-image (Fault.Records Field k) h x = no_field k x
  sound-image (Fault.Records Order k) h x = omega arith
  sound-image (Fault.Records Sink k) h x = omega arith
  sound-image (Fault.Graph Unwired k) h x = omega arith
  sound-image (Fault.Graph CutOff k) h x = omega arith
  sound-image (Fault.Graph ZeroLoop k) h x = omega arith
  sound-image (Fault.Run cause k) h x = x

-- records of one width that stand at one place of the same bytes
same_rows : {X : Type 0} (f : X → List ℕ) (w : ℕ) → ((x : X) → length (f x) ≡ w)
    → (xs ys : List X) (bs cs : List ℕ) (at to : ℕ) (d : X)
    → bs ≡ cs → at ≡ to → length xs ≡ length ys
    → flat_map f xs ≡ between at (w * length xs) bs → flat_map f ys ≡ between to (w * length ys) cs
    → ((i : ℕ) → i < length xs → i < length ys → f (get_or xs i d) ≡ f (get_or ys i d) → get_or xs i d ≡ get_or ys i d)
    → xs ≡ ys
same_rows f w even xs ys bs cs at to d same here many e g apart =
    ext_get_or d xs ys many (λ i l.
    let l' : i < length ys = omega arith in
    let there : between (at + w * i) w bs ≡ between (to + w * i) w cs = cc in
    apart i l l' (row_at f w even bs xs at i d e l ∙ there ∙ sym (row_at f w even cs ys to i d g l')))

pub one-plan : (p q : Plan) → Sized p → Ranged p → Sized q → Ranged q → image p ≡ image q → p ≡ q
one-plan p q s r s' r' e =
    let ls : length p.sensors ≡ length q.sensors = ap (λ b. byte b 5) e in
    let la : length p.actors ≡ length q.actors = ap (λ b. byte b 6) e in
    let lc : length p.channels ≡ length q.channels = ap (λ b. byte b 8) e in
    let a = ap (λ n. 9 + 4 * n) ls in
    let c : 9 + 4 * length p.sensors + 9 * length p.actors ≡ 9 + 4 * length q.sensors + 9 * length q.actors
    = omega arith in
    let sensors = same_rows sensor_bytes 4 (λ x. refl) p.sensors q.sensors (image p) (image q) 9 9 0 e refl ls
    (sensors-at p) (sensors-at q) (λ i l l'. sensor-same _ _ (r.latenesses i l) (r'.latenesses i l')) in
    let actors = same_rows actor_bytes 9 (λ x. refl) p.actors q.actors (image p) (image q) _ _ nobody e a la
    (actors_at p) (actors_at q) (λ i l l'. actor-same _ _ (r.actors i l) (r'.actors i l')) in
    let channels = same_rows channel_bytes 6 length-channel p.channels q.channels (image p) (image q)
    _ _ no_channel e c lc (channels_at p) (channels_at q) (λ i l l'. channel-same _ _) in
    λ i. record { sensors = sensors i; actors = actors i; actuators = byte (e i) 7; channels = channels i }
