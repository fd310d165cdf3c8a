-- What is printed of values and answers; numbers are decimals.
use Rattle.std.specs.Prelude.{ℕ, Bool, true, false, List, ◌++◌, ℤ, Some, None, codes, decimal, Option, slice_index_or}
use Rattle.std.specs.Fmt.{signed_decimal}
use Rattle.fault.specs.Table.{notice}
use Rattle.runs.specs.declared.records.Answer.{Answer}
use Rattle.runs.specs.declared.records.Answer.TheVariants.{Done, Named, Fired, Wrote, Handed, Told, Refused}
use Rattle.runs.specs.declared.records.Delivered.{Delivered}
use Rattle.runs.specs.declared.records.Firing.{Firing}
use Rattle.runs.specs.declared.records.Started.{Started}
use Rattle.runs.specs.declared.records.Status.{Status}

-- a value, or a minus where there is none
abbrev pub port_text : Option ℤ → List ℕ
port_text None = codes "-"
port_text (Some v) = signed_decimal v

-- the values at four inlets or outlets, one space apart
abbrev pub ports_text : List (Option ℤ) → List ℕ
ports_text ps =
    port_text (slice_index_or ps 0 None) ++ (codes " " ++ (port_text (slice_index_or ps 1 None)
    ++ (codes " " ++ (port_text (slice_index_or ps 2 None) ++ (codes " " ++ port_text (slice_index_or ps 3 None))))))

abbrev pub started_text : Started → List ℕ
started_text s =
    codes "actor " ++ (decimal s.actor ++ (codes " fires at " ++ (decimal s.timestamp
    ++ (codes ", deadline " ++ decimal s.deadline))))

abbrev pub firing_text : Firing → List ℕ
firing_text x =
    codes "actor " ++ (decimal x.actor ++ (codes " at " ++ (decimal x.timestamp
    ++ (codes ", inlets " ++ (ports_text x.inlets ++ (codes ", outlets " ++ ports_text x.outlets))))))

abbrev pub when_text : Bool → List ℕ
when_text true = codes "late"
when_text false = codes "on time"

abbrev pub delivered_text : Delivered → List ℕ
delivered_text d =
    codes "actuator " ++ (decimal d.actuator ++ (codes " at " ++ (decimal d.timestamp
    ++ (codes ", value " ++ (signed_decimal d.value ++ (codes ", " ++ when_text d.late))))))

abbrev pub status_text : Status → List ℕ
status_text s =
    codes "clock " ++ (decimal s.clock ++ (codes ", events " ++ (decimal s.events
    ++ (codes ", firings " ++ (decimal s.firings ++ (codes ", outputs " ++ decimal s.outputs))))))

abbrev pub answer_text : Answer → List ℕ
answer_text Done = codes "done"
answer_text (Named actor) = codes "actor " ++ decimal actor
answer_text (Fired s) = started_text s
answer_text (Wrote x) = firing_text x
answer_text (Handed d) = delivered_text d
answer_text (Told s) = status_text s
answer_text (Refused f) = notice f
