-- Spans are told apart by their lengths. Assumes nothing.
-- In proofs/ it was tried and did not close: the laws of `impl Weight for Span` may cite only specs/ of their own crate.
use Rattle.std.specs.Prelude.{◌≡◌, ℕ, ◌^◌, ◌<◌, true, is_some, Some, None}
use mathlib.Core.HLevel.{is_prop→PathP}
use Rattle.std.proofs.Math.Bridge.{le_prop}
use Rattle.std.proofs.Common.{arith}
use Rattle.std.specs.Option.{unwrap_or}
use Rattle.std.proofs.lemmas.Bool.Decides.{nat_tests}
use Rattle.paths.specs.Spans.{greatest, length_of}
use Rattle.paths.specs.declared.span.Span.{Span}

pub same_span : (x y : Span) → x.micros ≡ y.micros → x ≡ y
same_span x y e j = record {
  micros = e j;
  fits = is_prop→PathP (λ k. e k < 2 ^ 64) (λ k. le_prop) x.fits y.fits j;
}

pub length_some : (s : Span) (d : ℕ) → length_of s ≡ Some d → (s.micros ≡ d) × (d < greatest)
length_some s d h = grind (arith, nat_tests)

pub length_none : (s : Span) → length_of s ≡ None → s.micros ≡ greatest
length_none s h = grind (arith, nat_tests, s.fits)

-- a span has a length exactly where it is below the greatest value
pub has-length : (s : Span) → s.micros < greatest → is_some (length_of s) ≡ true
has-length s h = grind (arith, nat_tests)

pub with-length : (s : Span) → is_some (length_of s) ≡ true
    → (s.micros < greatest) × (unwrap_or (length_of s) 0 ≡ s.micros)
with-length s h = grind (arith, nat_tests)

-- spans of one length are equal
pub same_length : (x y : Span) → length_of x ≡ length_of y → x ≡ y
same_length x y h = same_span x y (grind (arith, nat_tests, x.fits, y.fits))
