-- What a draft says, and what the counts of an image say.
use Rattle.std.specs.Prelude.{ℕ, List, length}
use Rattle.bounded.specs.Held.{held}
use Rattle.line.specs.Plan.{Plan}
use Rattle.image.specs.Refusals.{byte}
use Rattle.image.specs.declared.draft.Draft.{Draft}
use Rattle.image.specs.declared.counts.Counts.{Counts}

-- the plan that a draft holds
abbrev pub plan_of : Draft → Plan
plan_of d = record {
  sensors = held d.sensors;
  actors = held d.actors;
  actuators = d.actuators;
  channels = held d.channels;
}

-- the counts that the bytes name
abbrev pub counts_at : List ℕ → Counts
counts_at bs = record { sensors = byte bs 5; actors = byte bs 6; actuators = byte bs 7; channels = byte bs 8 }

-- and those of a plan
abbrev pub counts_of : Plan → Counts
counts_of p = record {
  sensors = length p.sensors;
  actors = length p.actors;
  actuators = p.actuators;
  channels = length p.channels;
}
