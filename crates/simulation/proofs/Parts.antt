-- The calls before the first close of a list, and those behind it.
use Rattle.std.proofs.Common.{◌≡◌, ℕ, ◌+◌, ◌<◌, ◌≤◌, Bool, true, false, cond, not, List, [], ◌∷◌, ◌++◌, length, take, drop, Some, None, sym, refl, ap, ◌∙◌, arith}
use Rattle.std.specs.List.{position, position_or_len}
use Rattle.std.proofs.lemmas.Grind.{common_steps}
use Rattle.runs.specs.declared.records.Call.{Call}
use Rattle.runs.specs.declared.records.Call.TheVariants.{Arrive, Advance, Pick, Start, Finish, Deliver, Report, Close}
use Rattle.simulation.specs.Calls.{existing, is_close, when_closed, when_open}

the-close : (c : Call) → is_close c ≡ true → c ≡ Close
the-close Close e = refl
the-close (Arrive x t v) e = cc
the-close (Advance x) e = cc
the-close Pick e = cc
the-close (Start x) e = cc
the-close Finish e = cc
the-close Deliver e = cc
the-close Report e = cc

existing-step : (c : Call) (cs : List Call) (b : Bool) → is_close c ≡ b →
    existing (c ∷ cs) ≡ c ∷ cond b (when_closed cs) (existing cs)
existing-step c cs b e = ap (λ b. c ∷ cond b (when_closed cs) (existing cs)) e

open-step : (c : Call) (cs : List Call) → is_close c ≡ false → when_open (c ∷ cs) ≡ c ∷ when_open cs
open-step c cs e = ap (λ b. cond (not b) (c ∷ when_open cs) (when_open cs)) e

place-step : (c : Call) (cs : List Call) (b : Bool) → is_close c ≡ b →
    position_or_len is_close (c ∷ cs) ≡ cond (not b) (1 + position_or_len is_close cs) 0
place-step c cs b e = ap (λ b. cond (not b) (1 + position_or_len is_close cs) 0) e

none-at : (cs : List Call) → length cs ≤ position_or_len is_close cs → existing cs ≡ when_open cs
none-at [] h = refl
none-at (c ∷ cs) h = elim (is_close c) as (λ b. is_close c ≡ b → existing (c ∷ cs) ≡ when_open (c ∷ cs)) [
  | true ↦ λ e. let q = place-step c cs true e in absurd (omega (arith, q))
  | false ↦ λ e.
      let q = place-step c cs false e in
      let rest : length cs ≤ position_or_len is_close cs = omega (arith, q) in
      existing-step c cs false e ∙ ap (λ (xs : List Call). c ∷ xs) (none-at cs rest) ∙ sym (open-step c cs e)
] refl

some-at : (cs : List Call) → position_or_len is_close cs < length cs →
    existing cs ≡ when_open (take (position_or_len is_close cs) cs) ++ Close ∷ when_closed (drop (position_or_len is_close cs + 1) cs)
some-at [] h = absurd (omega arith)
some-at (c ∷ cs) h = elim (is_close c) as (λ b. is_close c ≡ b → existing (c ∷ cs)
    ≡ when_open (take (position_or_len is_close (c ∷ cs)) (c ∷ cs)) ++ Close ∷ when_closed (drop (position_or_len is_close (c ∷ cs) + 1) (c ∷ cs))) [
      | true ↦ λ e.
          rw (place-step c cs true e)
          (existing-step c cs true e ∙ ap (λ (c : Call). c ∷ when_closed cs) (the-close c e))
      | false ↦ λ e.
          let q = place-step c cs false e in
          let rest : position_or_len is_close cs < length cs = omega (arith, q) in
          rw q (grind (arith, common_steps, existing-step c cs false e, open-step c (take (position_or_len is_close cs) cs) e, some-at cs rest))
    ] refl

-- no call of the list is a close
pub parts-none : (cs : List Call) → position is_close cs ≡ None → existing cs ≡ when_open cs
parts-none cs e = none-at cs (grind (arith, e))

-- the first close stands behind n calls
pub parts-some : (cs : List Call) (n : ℕ) → position is_close cs ≡ Some n →
    existing cs ≡ when_open (take n cs) ++ Close ∷ when_closed (drop (n + 1) cs)
parts-some cs n e =
    let found : (position_or_len is_close cs < length cs) × (position_or_len is_close cs ≡ n) = grind (arith, e) in
    rw (sym found.1) (some-at cs found.0)
