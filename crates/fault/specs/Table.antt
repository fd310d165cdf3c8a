-- Every refusal of the product: its number, its layer, its name and its words, in one table.
use Rattle.std.specs.Prelude.{ℕ, List, ◌++◌, codes, decimal}
use Rattle.fault.specs.declared.Layer.{Layer}
use Rattle.fault.specs.declared.Layer.TheVariants.{Bytes, Records, Graph, Run}
use Rattle.fault.specs.declared.BytesCause.{BytesCause}
use Rattle.fault.specs.declared.BytesCause.TheVariants.{Head, Count, Length}
use Rattle.fault.specs.declared.RecordsCause.{RecordsCause}
use Rattle.fault.specs.declared.RecordsCause.TheVariants.{Field, Order, Sink}
use Rattle.fault.specs.declared.GraphCause.{GraphCause}
use Rattle.fault.specs.declared.GraphCause.TheVariants.{Unwired, CutOff, ZeroLoop}
use Rattle.fault.specs.declared.RunCause.{RunCause}
use Rattle.fault.specs.declared.RunCause.TheVariants.{NoSuch, Window, Stale, Full, Back, Horizon, Due, Nothing, Early, Behind, NotSooner}
use Rattle.fault.specs.declared.Fault.{Fault}

-- one line of the table; name and words are ASCII texts
pub record Refusal : Type 0 where
  pub number : ℕ
  pub layer : Layer
  pub name : List ℕ
  pub words : List ℕ

abbrev pub of_bytes : BytesCause → Refusal
of_bytes Head = record { number = 1; layer = Bytes; name = codes "Head"; words = codes "the image does not begin with LIN, version 1 and four counts" }
of_bytes Count = record { number = 2; layer = Bytes; name = codes "Count"; words = codes "a count is out of range" }
of_bytes Length = record { number = 3; layer = Bytes; name = codes "Length"; words = codes "the image has another length than its counts ask for" }

abbrev pub of_records : RecordsCause → Refusal
of_records Field = record { number = 4; layer = Records; name = codes "Field"; words = codes "a field is out of range or against a rule of channels" }
of_records Order = record { number = 5; layer = Records; name = codes "Order"; words = codes "a channel does not come after the one before it in the order of sources" }
of_records Sink = record { number = 6; layer = Records; name = codes "Sink"; words = codes "a channel ends where an earlier one ends" }

abbrev pub of_graph : GraphCause → Refusal
of_graph Unwired = record { number = 7; layer = Graph; name = codes "Unwired"; words = codes "a sensor feeds nothing, or an actuator is not fed" }
of_graph CutOff = record { number = 8; layer = Graph; name = codes "Cut off"; words = codes "an actor has no sensor before it or no actuator behind it" }
of_graph ZeroLoop = record { number = 9; layer = Graph; name = codes "Zero loop"; words = codes "an actor lies on a cycle without delay" }

abbrev pub of_run : RunCause → Refusal
of_run NoSuch = record { number = 10; layer = Run; name = codes "No such"; words = codes "the project has no such number" }
of_run Window = record { number = 11; layer = Run; name = codes "Window"; words = codes "the timestamp is in the future or older than the lateness allows" }
of_run Stale = record { number = 12; layer = Run; name = codes "Stale"; words = codes "the timestamp is not above the sensor's last one" }
of_run Full = record { number = 13; layer = Run; name = codes "Full"; words = codes "there is not enough room" }
of_run Back = record { number = 14; layer = Run; name = codes "Back"; words = codes "the clock would go back" }
of_run Horizon = record { number = 15; layer = Run; name = codes "Horizon"; words = codes "the time lies beyond the horizon" }
of_run Due = record { number = 16; layer = Run; name = codes "Due"; words = codes "an output is due before the new clock" }
of_run Nothing = record { number = 17; layer = Run; name = codes "Nothing"; words = codes "there is nothing to do" }
of_run Early = record { number = 18; layer = Run; name = codes "Early"; words = codes "an event that is no later may still come from a sensor" }
of_run Behind = record { number = 19; layer = Run; name = codes "Behind"; words = codes "an event that is no later may still come from a waiting one" }
of_run NotSooner = record { number = 20; layer = Run; name = codes "Not sooner"; words = codes "the deadline is not below that of the running firing" }

abbrev pub entry : Fault → Refusal
entry (Fault.Bytes cause place) = of_bytes cause
entry (Fault.Records cause place) = of_records cause
entry (Fault.Graph cause place) = of_graph cause
entry (Fault.Run cause place) = of_run cause

abbrev pub place_of : Fault → ℕ
place_of (Fault.Bytes cause place) = place
place_of (Fault.Records cause place) = place
place_of (Fault.Graph cause place) = place
place_of (Fault.Run cause place) = place

abbrev pub layer_name : Layer → List ℕ
layer_name Bytes = codes "bytes"
layer_name Records = codes "records"
layer_name Graph = codes "graph"
layer_name Run = codes "run"

-- what `{}` writes of a refusal: "refused NUMBER NAME, layer LAYER, place PLACE", numbers in decimal
abbrev pub notice : Fault → List ℕ
notice f =
    codes "refused " ++ (decimal (entry f).number ++ (codes " " ++ ((entry f).name
    ++ (codes ", layer " ++ (layer_name (entry f).layer ++ (codes ", place " ++ decimal (place_of f)))))))
