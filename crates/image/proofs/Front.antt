-- What the checks of the front leave, and the image put together from its parts.
use Rattle.std.proofs.Common.{◌≡◌, ◌⊎◌, ◌==◌, ◌||◌, Bool, true, false, not, min, nat_lt, Some, ℕ, zero, suc, get_or, ◌+◌, ◌*◌, ◌<◌, ◌≤◌, List, [], ◌∷◌, ◌++◌, length, sym, refl, ap, ◌∙◌, subst, inl, inr, ⊎_elim, arith}
use Rattle.std.specs.List.{flat_map, AllByRecursion, position, zip}
use Rattle.std.proofs.lemmas.List.Quantifiers.{position-Some}
use Rattle.std.proofs.lemmas.Slice.Zip.{length-zip, get_or-zip}
use Rattle.std.proofs.ByRecursion.{All-get_or}
use Rattle.std.proofs.lemmas.List.{append_assoc, take_all}
use Rattle.std.proofs.lemmas.Bool.{cases_eq, cases_lt}
use Rattle.bounded.specs.Held.{held}
use Rattle.fault.specs.declared.Fault.{Fault}
use Rattle.fault.specs.declared.RecordsCause.TheVariants.{Field}
use Rattle.line.specs.Lists.{In}
use Rattle.line.specs.Plan.{Plan, nobody}
use Rattle.line.specs.declared.parts.Actor.{Actor}
use Rattle.line.specs.declared.parts.Channel.{Channel}
use Rattle.line.specs.Rules.{Possible, longest}
use Rattle.image.specs.Bytes.{between}
use Rattle.image.specs.Drafts.{plan_of, counts_at}
use Rattle.image.specs.Encoding.{image, mark, counts, size, sensor_bytes, actor_bytes, channel_bytes}
use Rattle.image.specs.Parsing.{Drafted, Refused}
use Rattle.image.specs.Reading.{Nowhere, Lowest, BadRow, BadField, Fronted, GotAll, Placed}
use Rattle.image.specs.Refusals.{byte, most, mosts, actors_at, channels_at, Unmarked, Uncounted, Unfit, BadActorField, BadChannelField, BadActor, BadChannel}
use Rattle.image.specs.Fields.{BadSensorField, BadChannelOf, Counted, Wired}
use Rattle.image.specs.declared.draft.Draft.{Draft}
use Rattle.image.specs.declared.counts.Counts.{Counts}
use Rattle.image.proofs.Fields.{actor-placed, channel-placed}
use Rattle.image.proofs.Judging.{Same}
use Rattle.image.proofs.Numbers.{between-add, bytes-at, byte_of}
use Rattle.image.proofs.Order.{first_field}
use Rattle.image.proofs.Rows.{before, rows-same}

all_in : {X : Type 0} (P : X → Type 0) (xs : List X) (x : X) → AllByRecursion P xs → In x xs → P x
all_in P [] x a i = absurd i
all_in P (y ∷ ys) x a (inl e) = subst P (sym e) a.0
all_in P (y ∷ ys) x a (inr i) = all_in P ys x a.1 i

-- the first place that differs, and the first count out of its range
pub first-mark : (bs : List ℕ) (at : ℕ) → position (λ p. not (p.0 == p.1)) (zip bs mark) ≡ Some at
    → Lowest (Unmarked bs) at
first-mark bs at e =
    let f = position-Some (λ p. not (p.0 == p.1)) (zip bs mark) at (0, 0) e in
    let l : at < min (length bs) 5 = omega (arith, f.0, length-zip bs mark) in
    let pair : (k : ℕ) → k ≤ at → get_or (zip bs mark) k (0, 0) ≡ (byte bs k, byte mark k)
    = λ k h. get_or-zip bs mark k (0, 0) (omega arith) (omega arith) in
    let bit : not (byte bs at == byte mark at) ≡ true
    = ap (λ (q : ℕ × ℕ). not (q.0 == q.1)) (sym (pair at (omega arith))) ∙ f.1 in
    record {
      here = inl (omega arith, omega arith, λ same. grind (arith, bit, same));
      none_below = λ j less. ⊎_elim
          (λ b.
          let none : not (byte bs j == byte mark j) ≡ false
          = ap (λ (q : ℕ × ℕ). not (q.0 == q.1)) (sym (pair j (omega arith))) ∙ f.2 j less in
          grind (arith, none, b.2))
          (λ b. omega (arith, b.1));
    }

out-of-range : (count most : ℕ) → (count == 0 || nat_lt most count) ≡ true → (count ≡ 0) ⊎ (most < count)
out-of-range count most e = grind (arith, e)

in-its-range : (count most : ℕ) → (count == 0 || nat_lt most count) ≡ false → (count ≡ 0) ⊎ (most < count) → ⊥
in-its-range count most e (inl z) = grind (arith, e, z)
in-its-range count most e (inr l) = grind (arith, e, l)

pub first-count : (bs : List ℕ) (at : ℕ)
    → position (λ p. p.0 == 0 || nat_lt p.1 p.0) (zip (between 5 4 bs) mosts) ≡ Some at → Lowest (Uncounted bs) (5 + at)
first-count bs at e =
    let test : ℕ × ℕ → Bool = λ p. p.0 == 0 || nat_lt p.1 p.0 in
    let f = position-Some test (zip (between 5 4 bs) mosts) at (0, 0) e in
    let l : at < min (length (between 5 4 bs)) 4 = omega (arith, f.0, length-zip (between 5 4 bs) mosts) in
    let bit : (k : ℕ) → k ≤ at → test (byte bs (5 + k), most k) ≡ test (get_or (zip (between 5 4 bs) mosts) k (0, 0))
    = λ k h. ap (λ x. test (x, most k)) (byte_of bs 5 4 k (omega arith))
    ∙ ap test (sym (get_or-zip (between 5 4 bs) mosts k (0, 0) (omega arith) (omega arith))) in
    let yes : test (byte bs (5 + at), most at) ≡ true = bit at (omega arith) ∙ f.1 in
    record {
      here = (at, omega arith, refl, out-of-range _ _ yes);
      none_below = λ j less b.
          let e : b.0 < at = omega (arith, b.2) in
          let no : test (byte bs (5 + b.0), most b.0) ≡ false = bit b.0 (omega arith) ∙ f.2 b.0 e in
          let same : byte bs j ≡ byte bs (5 + b.0) = ap (byte bs) b.2 in
          in-its-range (byte bs (5 + b.0)) (most b.0) no
          (subst (λ (x : ℕ). (x ≡ 0) ⊎ (most b.0 < x)) same b.3);
    }

module _ (bs : List ℕ) (long : 9 ≤ length bs) where
  marked : Nowhere (Unmarked bs) → between 0 5 bs ≡ mark
  marked none =
      let at : (k : ℕ) → k < 5 → byte bs k ≡ byte mark k
      = λ k l. ⊎_elim (λ e. e) (λ n. absurd (none k (inl (l, omega arith, n)))) (cases_eq (byte bs k) (byte mark k)) in
      let a = at 0 (omega arith) in
      let b = at 1 (omega arith) in
      let c = at 2 (omega arith) in
      let d = at 3 (omega arith) in
      let e = at 4 (omega arith) in
      let all = bytes-at bs 0 (0 ∷ 1 ∷ 2 ∷ 3 ∷ 4 ∷ []) (refl, (refl, (refl, (refl, (refl, tt))))) (omega arith) in
      cc

  in_range : Nowhere (Uncounted bs) → (i : ℕ) → i < 4 → (1 ≤ byte bs (5 + i)) × (byte bs (5 + i) ≤ most i)
  in_range none i l = (
    ⊎_elim (λ (z : byte bs (5 + i) < 1). absurd (none (5 + i) (i, l, refl, inl (omega arith)))) (λ h. h)
        (cases_lt (byte bs (5 + i)) 1),
    ⊎_elim (λ h. absurd (none (5 + i) (i, l, refl, inr h))) (λ h. h) (cases_lt (most i) (byte bs (5 + i))),
  )

  fits : Nowhere (Unfit bs) → length bs ≡ size (byte bs 5) (byte bs 6) (byte bs 8)
  fits none = ⊎_elim (λ e. e) (λ n. absurd (none _ (refl, n)))
      (cases_eq (length bs) (size (byte bs 5) (byte bs 6) (byte bs 8)))

  pub fronted : (n : Counts) → n ≡ counts_at bs → Nowhere (Unmarked bs) → Nowhere (Uncounted bs) → Nowhere (Unfit bs)
      → Fronted bs n
  fronted n e head count len = subst (Fronted bs) (sym e) record {
    marked = marked head;
    counted = refl;
    sensors = in_range count 0 (omega arith);
    actors = in_range count 1 (omega arith);
    actuators = in_range count 2 (omega arith);
    channels = in_range count 3 (omega arith);
    whole = fits len;
  }

-- and a front that is right has no fault
module _ (bs : List ℕ) (front : Fronted bs (counts_at bs)) where
  pub no-mark : Nowhere (Unmarked bs)
  no-mark k =
      let zero : 0 + k ≡ k = omega arith in
      ⊎_elim (λ b. b.2 (ap (byte bs) (sym zero) ∙ byte_of bs 0 5 k b.0 ∙ ap (λ s. get_or s k 0) front.marked))
      (λ b. omega (arith, b.0, front.whole))

  counted : (i : ℕ) → i < 4 → (1 ≤ byte bs (5 + i)) × (byte bs (5 + i) ≤ most i)
  counted zero l = front.sensors
  counted (suc zero) l = front.actors
  counted (suc (suc zero)) l = front.actuators
  counted (suc (suc (suc zero))) l = front.channels
  counted (suc (suc (suc (suc i)))) l = absurd (omega arith)

  pub no-count : Nowhere (Uncounted bs)
  no-count k (i, l, e, o) =
      let here : byte bs k ≡ byte bs (5 + i) = ap (byte bs) e in
      ⊎_elim (λ z. omega (arith, here, counted i l)) (λ z. omega (arith, here, counted i l)) o

  pub no-length : Nowhere (Unfit bs)
  no-length k b = b.1 (front.whole ∙ sym b.0)

-- then the lowest field out of range is the first refusal
pub refused : (bs : List ℕ) (n : Counts) (k : ℕ) → Fronted bs n → Lowest (BadField bs) k
    → Refused bs (Fault.Records Field k)
refused bs n k front low =
    let there : Fronted bs (counts_at bs) = subst (Fronted bs) front.counted front in (
      first_field bs k (no-mark bs there) (no-count bs there) (no-length bs there) low,
      omega arith,
    )

pub actors-same : (bs : List ℕ)
    → Same (BadRow (Placed (λ r. BadActorField r 0) 9) 9 bs (actors_at bs) (byte bs 6)) (BadActor bs)
actors-same bs = rows-same (Placed (λ r. BadActorField r 0) 9) BadActorField 9 bs (actors_at bs) (byte bs 6)
    (λ i l. actor-placed bs (actors_at bs + 9 * i))

pub channels-same : (bs : List ℕ) (n : Counts) → Fronted bs n
    → Same (BadRow (Placed (BadChannelOf n) 6) 6 bs (channels_at bs) (byte bs 8)) (BadChannel bs)
channels-same bs n front =
    let there : Fronted bs (counts_at bs) = subst (Fronted bs) front.counted front in
    rows-same (Placed (BadChannelOf n) 6) BadChannelField 6 bs (channels_at bs) (byte bs 8)
    (λ i l. channel-placed bs (channels_at bs + 6 * i) n front.counted
    (omega (arith, there.whole, before 6 i (byte bs 8) l)))

-- the parts of an image, one behind the other, are the image
pub whole : (bs : List ℕ) (p : Plan) → Fronted bs (counts_at bs) → counts p ≡ between 5 4 bs
    → flat_map sensor_bytes p.sensors ≡ between 9 (4 * byte bs 5) bs
    → flat_map actor_bytes p.actors ≡ between (actors_at bs) (9 * byte bs 6) bs
    → flat_map channel_bytes p.channels ≡ between (channels_at bs) (6 * byte bs 8) bs
    → bs ≡ image p
whole bs p front numbers sensors actors channels =
    let s = 4 * byte bs 5 in
    let a = 9 * byte bs 6 in
    let c = 6 * byte bs 8 in
    let all : bs ≡ between 0 (9 + s + a + c) bs = sym (take_all (9 + s + a + c) bs (omega (arith, front.whole))) in
    let three = between-add 0 (9 + s + a) c (9 + s + a) bs (omega arith) in
    let two = between-add 0 (9 + s) a (9 + s) bs (omega arith) in
    let one = between-add 0 9 s 9 bs refl in
    let head : between 0 9 bs ≡ mark ++ counts p = between-add 0 5 4 5 bs refl ∙ cc front.marked in
    all ∙ three ∙ ap (λ x. x ++ between (9 + s + a) c bs) (two ∙ ap (λ x. x ++ between (9 + s) a bs) one)
    ∙ rw (head, ← sensors, ← actors, ← channels) (ap (λ x. mark ++ (counts p ++ x))
    (append_assoc (flat_map sensor_bytes p.sensors) (flat_map actor_bytes p.actors)
    (flat_map channel_bytes p.channels)))

-- the records that the bytes name
abbrev pub Sensors : List ℕ → List ℕ → Type 0
Sensors bs xs = GotAll sensor_bytes 4 (λ l. l ≤ longest) (Placed BadSensorField 4) bs 9 (byte bs 5) xs

abbrev pub Actors : List ℕ → List Actor → Type 0
Actors bs xs = GotAll actor_bytes 9 Possible (Placed (λ r. BadActorField r 0) 9) bs (actors_at bs) (byte bs 6) xs

abbrev pub Channels : List ℕ → Counts → List Channel → Type 0
Channels bs n xs = GotAll channel_bytes 6 (Wired n) (Placed (BadChannelOf n) 6) bs (channels_at bs) (byte bs 8) xs

-- what the parts of a reading give together
pub drafted : (bs : List ℕ) (n : Counts) (d : Draft) → Fronted bs n → d.actuators ≡ n.actuators
    → Sensors bs (held d.sensors) → Actors bs (held d.actors) → Channels bs n (held d.channels)
    → Drafted bs d
drafted bs n d front e sensors actors channels =
    let p = plan_of d in
    let same = front.counted in
    let there : Fronted bs (counts_at bs) = subst (Fronted bs) same front in
    let valves : d.actuators ≡ byte bs 7 = e ∙ ap (λ m. m.actuators) same in
    let four = bytes-at bs 5 (5 ∷ 6 ∷ 7 ∷ 8 ∷ []) (refl, (refl, (refl, (refl, tt)))) (omega (arith, there.whole)) in
    let numbers : counts p ≡ between 5 4 bs = cc (sensors.many, actors.many, valves, channels.many) in
    let fits : Counted n p = record {
      sensors = sensors.many ∙ ap (λ m. m.sensors) (sym same);
      actors = actors.many ∙ ap (λ m. m.actors) (sym same);
      actuators = e;
    } in
    record {
      spelt = whole bs p there numbers sensors.spell actors.spell channels.spell;
      sized = record {
        some_sensor = omega (arith, sensors.many, there.sensors);
        few_sensors = omega (arith, sensors.many, there.sensors);
        some_actor = omega (arith, actors.many, there.actors);
        few_actors = omega (arith, actors.many, there.actors);
        some_actuator = omega (arith, valves, there.actuators);
        few_actuators = omega (arith, valves, there.actuators);
        some_channel = omega (arith, channels.many, there.channels);
        few_channels = omega (arith, channels.many, there.channels);
      };
      ranged = record {
        latenesses = λ i l. All-get_or (λ x. x ≤ longest) p.sensors i 0 l sensors.in_range;
        actors = λ i l. All-get_or Possible p.actors i nobody l actors.in_range;
        channels = λ x i. all_in (Wired n) p.channels x channels.in_range i p fits;
      };
    }
