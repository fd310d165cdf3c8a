-- The order of refusals: the lowest place of each check is the first refusal.
use Rattle.std.proofs.Common.{◌≡◌, ℕ, ◌+◌, ◌*◌, ◌<◌, ◌≤◌, ◌⊎◌, List, sym, refl, subst, inl, inr, ⊎_elim, arith}
use Rattle.fault.specs.Table.{entry, place_of}
use Rattle.fault.specs.declared.BytesCause.TheVariants.{Head, Count, Length}
use Rattle.fault.specs.declared.RecordsCause.TheVariants.{Field, Order, Sink}
use Rattle.fault.specs.declared.GraphCause.TheVariants.{Unwired, CutOff, ZeroLoop}
use Rattle.fault.specs.declared.Fault.{Fault}
use Rattle.line.specs.Rules.{longest}
use Rattle.image.specs.Bytes.{val, between}
use Rattle.image.specs.Fields.{BadSensorField}
use Rattle.image.specs.Reading.{Nowhere, Lowest, BadRow, BadField, Placed}
use Rattle.image.specs.Refusals.{byte, actors_at, channels_at, Unmarked, Uncounted, Unfit, BadSensor, BadActor, BadChannel, Faulty, First}
use Rattle.image.proofs.Judging.{Same, lowest-same, low-left, low-right}

module _ (bs : List ℕ) where
  abbrev BadSensors : ℕ → Type 0
  BadSensors k = BadRow (Placed BadSensorField 4) 4 bs 9 (byte bs 5) k

  pub sensors : Same BadSensors (BadSensor bs)
  sensors = record {
    to = λ k b.
        let e : k ≡ 9 + 4 * b.0 = omega (arith, b.3, b.4.0) in
        (b.0, b.2, e, subst (λ (m : ℕ). longest < val (between m 4 bs)) (sym e) b.4.1);
    back = λ k b.
        let e : k ≡ 9 + 4 * b.0 + 0 = omega (arith, b.2) in
        (b.0, 0, b.1, e, (refl, subst (λ (m : ℕ). longest < val (between m 4 bs)) b.2 b.3));
  }

  -- sensors come before actors, and these before channels
  pub sensor-low : (k : ℕ) → k < actors_at bs → Lowest BadSensors k → Lowest (BadField bs) k
  sensor-low k l low =
      low-left (BadSensor bs) (λ j. BadActor bs j ⊎ BadChannel bs j) k
      (lowest-same BadSensors (BadSensor bs) k sensors low)
      (λ j. ⊎_elim (λ b. omega (arith, b.3)) (λ b. omega (arith, b.3)))

  pub actor-low : (k : ℕ) → k < channels_at bs → Nowhere BadSensors → Lowest (BadActor bs) k → Lowest (BadField bs) k
  actor-low k l none low =
      low-right (BadSensor bs) (λ j. BadActor bs j ⊎ BadChannel bs j) k (λ j b. none j (sensors.back j b))
      (low-left (BadActor bs) (BadChannel bs) k low (λ j b. omega (arith, b.3)))

  pub channel-low : (k : ℕ) → Nowhere BadSensors → Nowhere (BadActor bs) → Lowest (BadChannel bs) k
      → Lowest (BadField bs) k
  channel-low k none none' low =
      low-right (BadSensor bs) (λ j. BadActor bs j ⊎ BadChannel bs j) k (λ j b. none j (sensors.back j b))
      (low-right (BadActor bs) (BadChannel bs) k none' low)

  -- the refusals numbered below n, and those of n at places below k
  abbrev Before : ℕ → ℕ → ℕ → (ℕ → Type 0) → Type 0
  Before n k m P = (j : ℕ) → (m < n) ⊎ ((m ≡ n) × (j < k)) → P j → ⊥

  now : (n k : ℕ) (P : ℕ → Type 0) → Lowest P k → Before n k n P
  now n k P low j (inl l) x = omega arith
  now n k P low j (inr e) x = low.none_below j e.1 x

  later : (n k m : ℕ) (P : ℕ → Type 0) → n < m → Before n k m P
  later n k m P h j (inl l) x = omega arith
  later n k m P h j (inr e) x = omega (arith, e.0)

  none_before : (n k : ℕ) → n ≤ 4 → Before n k 1 (Unmarked bs) → Before n k 2 (Uncounted bs) → Before n k 3 (Unfit bs)
      → Before n k 4 (BadField bs)
      → (g : Fault) → ((entry g).number < n) ⊎ (((entry g).number ≡ n) × (place_of g < k)) → Faulty bs g → ⊥
  none_before n k h p q r s (Fault.Bytes Head j) o x = p j o x
  none_before n k h p q r s (Fault.Bytes Count j) o x = q j o x
  none_before n k h p q r s (Fault.Bytes Length j) o x = r j o x
  none_before n k h p q r s (Fault.Records Field j) o x = s j o x
  none_before n k h p q r s (Fault.Records Order j) o x = later n k 5 (λ i. Unit {0}) (omega arith) j o tt
  none_before n k h p q r s (Fault.Records Sink j) o x = later n k 6 (λ i. Unit {0}) (omega arith) j o tt
  none_before n k h p q r s (Fault.Graph Unwired j) o x = later n k 7 (λ i. Unit {0}) (omega arith) j o tt
  none_before n k h p q r s (Fault.Graph CutOff j) o x = later n k 8 (λ i. Unit {0}) (omega arith) j o tt
  none_before n k h p q r s (Fault.Graph ZeroLoop j) o x = later n k 9 (λ i. Unit {0}) (omega arith) j o tt
  none_before n k h p q r s (Fault.Run cause j) o x = x

  pub first_count : (k : ℕ) → Nowhere (Unmarked bs) → Lowest (Uncounted bs) k → First bs (Fault.Bytes Count k)
  first_count k head low = record {
    holds = low.here;
    none_before = none_before 2 k (omega arith) (λ j o. head j) (now 2 k (Uncounted bs) low)
        (later 2 k 3 (Unfit bs) (omega arith)) (later 2 k 4 (BadField bs) (omega arith));
  }

  pub first-length : (k : ℕ) → Nowhere (Unmarked bs) → Nowhere (Uncounted bs) → Lowest (Unfit bs) k
      → First bs (Fault.Bytes Length k)
  first-length k head count low = record {
    holds = low.here;
    none_before = none_before 3 k (omega arith) (λ j o. head j) (λ j o. count j) (now 3 k (Unfit bs) low)
        (later 3 k 4 (BadField bs) (omega arith));
  }

  pub first_field : (k : ℕ) → Nowhere (Unmarked bs) → Nowhere (Uncounted bs) → Nowhere (Unfit bs)
      → Lowest (BadField bs) k
      → First bs (Fault.Records Field k)
  first_field k head count len low = record {
    holds = low.here;
    none_before = none_before 4 k (omega arith) (λ j o. head j) (λ j o. count j) (λ j o. len j)
        (now 4 k (BadField bs) low);
  }
