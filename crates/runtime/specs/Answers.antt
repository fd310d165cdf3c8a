-- The results of calls as answers.
use Rattle.std.specs.Prelude.{ℕ, Ok, Err, Result, nat_lt}
use Rattle.fault.specs.declared.Fault.{Fault}
use Rattle.runs.specs.declared.records.Started.{Started}
use Rattle.runs.specs.declared.records.Firing.{Firing}
use Rattle.runs.specs.declared.records.Output.{Output}
use Rattle.runs.specs.declared.records.Delivered.{Delivered}
use Rattle.runs.specs.declared.records.Answer.{Answer}
use Rattle.runs.specs.declared.records.Answer.TheVariants.{Done, Named, Fired, Wrote, Handed, Refused}

abbrev pub done : Result (Unit {0}) Fault → Answer
done (Ok x) = Done
done (Err f) = Refused f

abbrev pub named : Result ℕ Fault → Answer
named (Ok a) = Named a
named (Err f) = Refused f

abbrev pub fired : Result Started Fault → Answer
fired (Ok s) = Fired s
fired (Err f) = Refused f

-- finish writes into a given firing
abbrev pub wrote : Result (Unit {0}) Fault → Firing → Answer
wrote (Ok x) g = Wrote g
wrote (Err f) g = Refused f

abbrev pub handed : Result Delivered Fault → Answer
handed (Ok d) = Handed d
handed (Err f) = Refused f

-- an output handed out at clock c
abbrev pub handing : ℕ → Output → Delivered
handing c o = record
    { actuator = o.actuator; timestamp = o.timestamp; value = o.value; late = nat_lt o.timestamp c }
