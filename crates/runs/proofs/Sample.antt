-- The steps of the sample line follow from the definitions.
use Rattle.std.proofs.Common.{ℕ, zero, suc, ◌<◌, false, [], ◌∷◌, ◌++◌, length, pos, sym, refl, ap, subst, inl, inr, append_assoc, append-nil, arith}
use Rattle.std.proofs.lemmas.Bool.{ltb-true, not-false}
use Rattle.line.specs.Times.{Line}
use Rattle.runs.specs.Lists.{here}
use Rattle.banks.specs.Meaning.{Meaning}
use Rattle.runs.specs.State.{State, fresh, arrived, advanced, started, finished, delivered, closed, running}
use Rattle.runs.specs.Calls.{Outcome, Startable, start_checks, time_at, Picked, Delivers}
use Rattle.runs.specs.Runs.{Journal, Runs, opened, next}
use Rattle.runs.specs.Sample.{sample_line, sample_bank, SampleRuns}
use Rattle.runs.specs.declared.records.Output.{Output}
use Rattle.runs.specs.declared.records.Step.{Step}
use Rattle.runs.proofs.Accepted.{passes, unmet, none-some}

-- a run goes on, call by call
pub data Goes (l : Line) (m : Meaning) : State → Journal → State → Type 0 where
  stop : {s : State} → Goes l m s [] s
  on : {s s' z : State} {h : Journal} (x : Step) → Outcome l m s x.call x.answer s' → Goes l m s' h z →
      Goes l m s (x ∷ h) z

pub goes : (l : Line) (m : Meaning) {h k : Journal} {s z : State} → Runs l m h s → Goes l m s k z →
    Runs l m (h ++ k) z
goes l m {h = h} r (stop {s}) = subst (λ (k : Journal). Runs l m k s) (sym (append-nil h)) r
goes l m {h = h} r (on {z = z} {h = k} x o g) =
    subst (λ (k : Journal). Runs l m k z) (append_assoc h (x ∷ []) k) (goes l m (next x r o) g)

startable-inside : (l : Line) (s : State) (a : ℕ) → Startable l s a → a < length l.plan.actors
startable-inside l s a e = ltb-true a _ (not-false _ (unmet _ _ (passes (start_checks l s a (time_at s a)) e).0))

three : (P : ℕ → Type 0) → P 0 → P 1 → P 2 → (a : ℕ) → a < 3 → P a
three P x y z zero l = x
three P x y z (suc zero) l = y
three P x y z (suc (suc zero)) l = z
three P x y z (suc (suc (suc a))) l = absurd (omega arith)

-- the states on the way
abbrev s1 : State
s1 = advanced (fresh sample_bank) 1000

abbrev s2 : State
s2 = arrived sample_line s1 0 990 (pos 7)

abbrev s3 : State
s3 = arrived sample_line s2 1 1000 (pos 1)

abbrev s4 : State
s4 = advanced s3 1051

abbrev s5 : State
s5 = started s4 0 990

abbrev s6 : State
s6 = finished sample_line sample_bank s5 (running s4 0 990) []

abbrev s7 : State
s7 = started s6 1 990

abbrev s8 : State
s8 = closed s7

abbrev s9 : State
s9 = finished sample_line sample_bank s8 (running s6 1 990) []

abbrev s10 : State
s10 = started s9 2 1490

abbrev s11 : State
s11 = finished sample_line sample_bank s10 (running s9 2 1490) []

abbrev s12 : State
s12 = started s11 0 1000

abbrev s13 : State
s13 = finished sample_line sample_bank s12 (running s11 0 1000) []

abbrev s14 : State
s14 = advanced s13 1490

abbrev s15 : State
s15 = delivered s14 []

-- at first no actor can start: one is early, and at the others nothing waits
none_yet : (a : ℕ) → Startable sample_line s2 a → ⊥
none_yet a q = three (λ a. Startable sample_line s2 a → ⊥) (λ e. none-some _ (sym e)) (λ e. none-some _ (sym e))
    (λ e. none-some _ (sym e)) a
    (startable-inside sample_line s2 a q) q

-- then only actor 1
only_one : Picked sample_line s6 1
only_one = record {
  startable = refl;
  ahead = λ b q. three (λ b. Startable sample_line s6 b → Rattle.runs.specs.Calls.Ahead sample_line s6 1 b)
      (λ e. absurd (none-some _ (sym e)))
      (λ e. inr (refl, inr (refl, omega arith))) (λ e. absurd (none-some _ (sym e))) b
      (startable-inside sample_line s6 b q) q;
}

on-time : Delivers s14 (record { actuator = 0; timestamp = 1490; value = pos 1; late = false }) []
on-time = record {
  without = here;
  due = omega arith;
  least = λ o n. elim n [ inl e ↦ omega (arith, ap (λ (o : Output). o.timestamp) e) | inr k ↦ absurd k ];
  late = refl;
}

pub sample-runs : SampleRuns
sample-runs = (
  s15,
  goes sample_line sample_bank opened
      (on {s' = s1} _ (refl, refl)
      (on {s' = s2} _ (refl, refl, refl)
      (on {s' = s2} _ ((refl, none_yet), refl)
      (on {s' = s2} _ (refl, refl)
      (on {s' = s3} _ (refl, refl, refl)
      (on {s' = s4} _ (refl, refl)
      (on {s' = s5} _ (refl, refl)
      (on {s' = s6} _ (refl, refl)
      (on {s' = s6} _ (only_one, refl)
      (on {s' = s7} _ (refl, refl)
      (on {s' = s8} _ (refl, refl, refl)
      (on {s' = s8} _ (refl, refl)
      (on {s' = s9} _ (refl, refl)
      (on {s' = s10} _ (refl, refl)
      (on {s' = s11} _ (refl, refl)
      (on {s' = s12} _ (refl, refl)
      (on {s' = s13} _ (refl, refl)
      (on {s' = s13} _ (refl, refl)
      (on {s' = s14} _ (refl, refl)
      (on {s' = s15} _ ([], on-time, refl)
      (on {s' = s15} _ (refl, refl)
      stop))))))))))))))))))))),
)
