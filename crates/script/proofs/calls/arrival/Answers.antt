use Rattle.script.proofs.Splitting.{arrival-is, no-first, no_second, sensor-is, timestamp-is, value-is}
use Rattle.script.proofs.calls.arrival.Goals as goal

pub returns-in_err-sensor : goal.returns-in_err-sensor
returns-in_err-sensor c =
    rw c.from_residual.ensures (λ p h. let a = arrival-is _ p h in no-first _ _ _ _ a.4 c.in_err-sensor.ensures)

pub returns-in_err-timestamp : goal.returns-in_err-timestamp
returns-in_err-timestamp c =
    rw c.from_residual-in_err-timestamp.ensures
    (λ p h. let a = arrival-is _ p h in no_second _ _ _ _ a.4 _ _ c.in_ok-sensor.ensures c.in_err-timestamp.ensures)

pub returns-in_err-number : goal.returns-in_err-number
returns-in_err-number c =
    rw c.from_residual-in_err-number.ensures
    (λ p h. let a = arrival-is _ p h in c.in_err-number.ensures _ (sensor-is _ _ _ _ a.4 _ _ c.in_ok-sensor.ensures))

pub returns-in_err-number-2 : goal.returns-in_err-number-2
returns-in_err-number-2 c =
    rw c.from_residual-in_err-number-2.ensures
    (λ p h. let a = arrival-is _ p h in c.in_err-number-2.ensures _
    (timestamp-is _ _ _ _ a.4 _ _ c.in_ok-sensor.ensures _ _ c.in_ok-timestamp.ensures))

pub returns-in_err-signed : goal.returns-in_err-signed
returns-in_err-signed c =
    rw c.from_residual-in_err-signed.ensures
    (λ p h. let a = arrival-is _ p h in c.in_err-signed.ensures _
    (value-is _ _ _ _ a.4 _ _ c.in_ok-sensor.ensures _ _ c.in_ok-timestamp.ensures))
