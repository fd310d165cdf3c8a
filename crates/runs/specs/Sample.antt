-- A sample line, and a run of it: two sensors at the two inlets of a count, behind it a pass with a delay, behind
-- that another pass, and an actuator.
use Rattle.std.specs.Prelude.{ℕ, zero, suc, false, cond, List, [], ◌∷◌, ℤ, pos, negsuc, ◌+ℤ◌, Some, None, Option, int_lt, slice_index, slice_index_or}
use Rattle.fault.specs.declared.Fault.{Fault}
use Rattle.fault.specs.declared.RunCause.TheVariants.{Due, Nothing, Early, NotSooner}
use Rattle.line.specs.Plan.{Plan}
use Rattle.line.specs.Times.{Line, Sound}
use Rattle.line.specs.declared.parts.Kind.TheVariants.{Pass, Count}
use Rattle.line.specs.declared.parts.Source.TheVariants.{Sensor, Outlet}
use Rattle.line.specs.declared.parts.Sink.TheVariants.{Inlet, Actuator}
use Rattle.banks.specs.Meaning.{Meaning, Reacted, Reaction}
use Rattle.runs.specs.State.{State, four, port}
use Rattle.runs.specs.Runs.{Journal, Runs}
use Rattle.runs.specs.declared.records.Call.{Call}
use Rattle.runs.specs.declared.records.Call.TheVariants.{Arrive, Advance, Pick, Start, Finish, Deliver, Report}
use Rattle.runs.specs.declared.records.Call.TheVariants.{Close}
use Rattle.runs.specs.declared.records.Answer.{Answer}
use Rattle.runs.specs.declared.records.Answer.TheVariants.{Done, Named, Fired, Wrote, Handed, Told, Refused}
use Rattle.runs.specs.declared.records.Step.{Step}

-- the line ------------------------------------------------------------------

abbrev pub sample_plan : Plan
sample_plan = record {
  sensors = 60 ∷ 0 ∷ [];
  actors = record { kind = Count; parameter = pos 0; delay = 0 }
      ∷ record { kind = Pass; parameter = pos 0; delay = 500 }
      ∷ record { kind = Pass; parameter = pos 0; delay = 0 } ∷ [];
  actuators = 1;
  channels = record { source = Sensor 0; sink = Inlet 0 0 }
      ∷ record { source = Sensor 1; sink = Inlet 0 1 }
      ∷ record { source = Outlet 0 0; sink = Inlet 1 0 }
      ∷ record { source = Outlet 1 0; sink = Inlet 2 0 }
      ∷ record { source = Outlet 2 0; sink = Actuator 0 } ∷ [];
}

abbrev pub sample_distance : ℕ → ℕ → Option ℕ
sample_distance zero zero = None
sample_distance zero (suc zero) = Some 0
sample_distance zero (suc (suc zero)) = Some 500
sample_distance zero (suc (suc (suc a))) = None
sample_distance (suc zero) zero = None
sample_distance (suc zero) (suc zero) = None
sample_distance (suc zero) (suc (suc zero)) = Some 500
sample_distance (suc zero) (suc (suc (suc a))) = None
sample_distance (suc (suc b)) a = None

abbrev pub sample_line : Line
sample_line = record {
  plan = sample_plan;
  distance = sample_distance;
  deadline = λ b. slice_index (500 ∷ 500 ∷ 0 ∷ []) b;
  wait = λ a. slice_index_or (pos 60 ∷ pos 60 ∷ negsuc 439 ∷ []) a (pos 0);
}

-- the bank ------------------------------------------------------------------

-- one more, up to the greatest number of 32 bits
abbrev pub one_more : ℤ → ℤ
one_more n = cond (int_lt n (pos 2_147_483_647)) (n +ℤ pos 1) n

-- inlet 0 adds one, inlet 1 sets to 0, both together set to 0; silent where neither is present
abbrev pub counted : Option ℤ → Option ℤ → ℤ → Option ℤ
counted None None n = None
counted (Some v) None n = Some (one_more n)
counted None (Some u) n = Some (pos 0)
counted (Some v) (Some u) n = Some (pos 0)

abbrev pub held : Option ℤ → List ℤ → List ℤ
held None w = w
held (Some n) w = n ∷ []

abbrev pub count : List ℤ → List (Option ℤ) → Reacted
count w g =
    let n : Option ℤ = counted (port g 0) (port g 1) (slice_index_or w 0 (pos 0)) in
    record { row = held n w; outlets = four (λ _. n) }

abbrev pub pass : List ℤ → List (Option ℤ) → Reacted
pass w g = record { row = w; outlets = four (λ _. port g 0) }

abbrev pub sample_reaction : Reaction
sample_reaction zero w t g = count w g
sample_reaction (suc a) w t g = pass w g

abbrev pub sample_rows : ℕ → List ℤ
sample_rows zero = pos 0 ∷ []
sample_rows (suc a) = []

abbrev pub sample_bank : Meaning
sample_bank = record { rows = sample_rows; reaction = sample_reaction }

-- the run -------------------------------------------------------------------

abbrev pub does : Call → Answer → Step
does c a = record { call = c; answer = a }

abbrev pub fired : ℕ → ℕ → ℕ → Answer
fired a t d = Fired (record { actor = a; timestamp = t; deadline = d })

-- a firing with at most inlets 0 and 1 and outlet 0
abbrev pub wrote : ℕ → ℕ → Option ℤ → Option ℤ → ℤ → Answer
wrote a t i j v = Wrote (record {
  actor = a;
  timestamp = t;
  inlets = i ∷ j ∷ None ∷ None ∷ [];
  outlets = Some v ∷ None ∷ None ∷ None ∷ [];
})

abbrev pub sample_journal : Journal
sample_journal =
    does (Advance 1000) Done
    ∷ does (Arrive 0 990 (pos 7)) Done
    ∷ does Pick (Refused (Fault.Run Nothing 0))
    ∷ does (Start 0) (Refused (Fault.Run Early 1051))
    ∷ does (Arrive 1 1000 (pos 1)) Done
    ∷ does (Advance 1051) Done
    ∷ does (Start 0) (fired 0 990 1490)
    ∷ does Finish (wrote 0 990 (Some (pos 7)) None (pos 1))
    ∷ does Pick (Named 1)
    ∷ does (Start 1) (fired 1 990 1490)
    ∷ does Close Done
    ∷ does (Start 0) (Refused (Fault.Run NotSooner 1490))
    ∷ does Finish (wrote 1 990 (Some (pos 1)) None (pos 1))
    ∷ does (Start 2) (fired 2 1490 1490)
    ∷ does Finish (wrote 2 1490 (Some (pos 1)) None (pos 1))
    ∷ does (Start 0) (fired 0 1000 1500)
    ∷ does Finish (wrote 0 1000 None (Some (pos 1)) (pos 0))
    ∷ does (Advance 2000) (Refused (Fault.Run Due 1490))
    ∷ does (Advance 1490) Done
    ∷ does Deliver (Handed (record { actuator = 0; timestamp = 1490; value = pos 1; late = false }))
    ∷ does Report (Told (record { clock = 1490; events = 1; firings = 0; outputs = 0 }))
    ∷ []

-- the line is sound, and these calls, with these answers, are a run of it
abbrev pub SampleSound : Type 0
SampleSound = Sound sample_line

abbrev pub SampleRuns : Type 0
SampleRuns = (s : State) × Runs sample_line sample_bank sample_journal s
