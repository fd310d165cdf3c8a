-- The order of picks: by deadline, then by timestamp, then by number.
use Rattle.std.specs.Prelude.{ℕ, Bool, cond, ◌&&◌, ◌||◌, Some, None, Option, ◌==◌, nat_lt}
use Rattle.fault.specs.declared.Fault.{Fault}
use Rattle.line.specs.Times.{Line}
use Rattle.runs.specs.Calls.{start_verdict, time_at}
use Rattle.runs.specs.State.{State, deadline_at}

abbrev pub Key : Type 0
Key = ℕ × ℕ × ℕ

abbrev pub before : Key → Key → Bool
before x y = nat_lt x.0 y.0 || (x.0 == y.0 && (nat_lt x.1 y.1 || (x.1 == y.1 && nat_lt x.2 y.2)))

-- the lesser of two keys that may be missing
abbrev pub lesser : Option Key → Option Key → Option Key
lesser None y = y
lesser (Some x) None = Some x
lesser (Some x) (Some y) = cond (before y x) (Some y) (Some x)

-- a key, unless there is a refusal
abbrev pub unless : Option Fault → Key → Option Key
unless None k = Some k
unless (Some f) k = None

-- the key of an actor that start would accept
abbrev pub key_of : Line → State → ℕ → Option Key
key_of l s a = unless (start_verdict l s a) (deadline_at l a (time_at s a), time_at s a, a)
