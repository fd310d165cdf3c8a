-- What a journal tells of each number: of a sensor its events, of an actor its firings, of an actuator its outputs.
use Rattle.std.specs.Prelude.{ℕ, ◌^◌, ◌<◌, List, map, nat_eq}
use Rattle.std.specs.List.{flat_map}
use Rattle.runs.specs.Lists.{Each, keep}
use Rattle.runs.specs.Runs.{Journal, arrival_in, firing_in, output_in}
use Rattle.runs.specs.Runs as runs
use Rattle.runs.specs.declared.records.Firing.{Firing}
use Rattle.runs.specs.declared.records.Output.{Output}
use Rattle.runs.specs.declared.records.Step.{Step}
use Rattle.journal.specs.declared.entry.Arrival.{Arrival}

-- a kind of entry: what a step tells, whose entry that is, and a number above all of them
pub record Kind (A : Type 0) : Type 0 where
  pub told : Step → List A
  pub number : A → ℕ
  pub bound : ℕ

-- the entries of one number, among all that a journal tells
abbrev pub told_of : {A : Type 0} → Kind A → ℕ → Journal → List A
told_of k n h = keep (λ e. nat_eq (k.number e) n) (flat_map k.told h)

-- the number of each entry is below the bound
abbrev pub Numbered : {A : Type 0} → Kind A → Journal → Type 0
Numbered {A} k h = Each (λ (e : A). k.number e < k.bound) (flat_map k.told h)

-- the kinds -----------------------------------------------------------------

-- an accepted event as the code has it
abbrev pub coded : runs.Arrival → Arrival
coded a = record { sensor = a.sensor; timestamp = a.timestamp; value = a.value }

abbrev pub arrival_by : Step → List Arrival
arrival_by s = map coded (arrival_in s.call s.answer)

-- sensors have 64-bit numbers, actors and actuators bytes
abbrev pub arrivals : Kind Arrival
arrivals = record { told = arrival_by; number = λ a. a.sensor; bound = 2 ^ 64 }

abbrev pub firings : Kind Firing
firings = record { told = λ s. firing_in s.answer; number = λ f. f.actor; bound = 256 }

abbrev pub outputs : Kind Output
outputs = record { told = λ s. output_in s.answer; number = λ o. o.actuator; bound = 256 }
