-- Spans as weights of paths: how long each is, the shorter of two, and one after another. Assumes nothing.
use Rattle.std.specs.Prelude.{ℕ, ◌+◌, ◌-◌, ◌^◌, min, Option, nat_lt}
use Rattle.std.proofs.Common.{arith, lit<}
use Rattle.std.specs.Bool.{then_some}
use Rattle.paths.specs.declared.span.Span.{Span}

-- the greatest value, which stands for "no path"
abbrev pub greatest : ℕ
greatest = 2 ^ 64 - 1

-- the microseconds of a span; `None` for no path
abbrev pub length_of : Span → Option ℕ
length_of s = then_some (nat_lt s.micros greatest) s.micros

abbrev pub no_span : Span
no_span = record { micros = greatest; fits = lit< tt }

abbrev pub zero_span : Span
zero_span = record { micros = 0; fits = lit< tt }

abbrev pub shorter : Span → Span → Span
shorter x y = record { micros = min x.micros y.micros; fits = omega (arith, x.fits) }

-- the sum, which stops at the greatest value
abbrev pub after : Span → Span → Span
after x y = record { micros = min (x.micros + y.micros) greatest; fits = omega arith }
