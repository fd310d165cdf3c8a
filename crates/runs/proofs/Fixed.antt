-- Every call has an outcome, and calls with their answers fix the state.
use Rattle.std.proofs.Common.{◌≡◌, ℕ, Bool, true, false, not, ◌&&◌, eqb, ltb, List, [], ◌∷◌, ◌++◌, length, sym, refl, ap, ◌∙◌, subst, inl, inr, arith}
use Rattle.std.proofs.lemmas.List.{same_from_push, length_push}
use Rattle.std.proofs.lemmas.Bool.{cases_lt, cases_eq, eq-eqb, ne_eqb, and_from, and_left, and_right, not_from_true, not_from_false}
use Rattle.line.specs.Lists.{In}
use Rattle.line.specs.Times.{Line, Sound}
use Rattle.runs.specs.Lists.{Each, Pairs, keep, Without, here, later}
use Rattle.banks.specs.Meaning.{Meaning}
use Rattle.runs.specs.State.{State, delivered, closed, output_time, deadline_at}
use Rattle.runs.specs.Calls.{Outcome, First, PickAnswers, DeliverOutcome, output_of, nothing, time_at, status}
use Rattle.runs.specs.Calls.{arrive_answer, arrive_after, advance_answer, advance_after, start_answer, start_after}
use Rattle.runs.specs.Calls.{finish_answer, finish_after}
use Rattle.runs.specs.Runs.{Journal, Runs, opened, next}
use Rattle.runs.specs.Laws.{EveryCallAnswers, JournalFixesState, SameAnswer, StateFixesAnswer}
use Rattle.runs.specs.declared.records.Output.{Output}
use Rattle.runs.specs.declared.records.Call.{Call}
use Rattle.runs.specs.declared.records.Call.TheVariants.{Arrive, Advance, Pick, Start, Finish, Deliver, Report}
use Rattle.runs.specs.declared.records.Call.TheVariants.{Close}
use Rattle.runs.specs.declared.records.Answer.{Answer}
use Rattle.runs.specs.declared.records.Answer.TheVariants.{Done, Named, Fired, Wrote, Handed, Told, Refused}
use Rattle.runs.specs.declared.records.Step.{Step}
use Rattle.runs.proofs.Lists.{out-there}
use Rattle.runs.proofs.Accepted.{accepted}
use Rattle.runs.proofs.Moves.{first-in, best}
use Rattle.runs.proofs.Outs.{Apart, outs}
use Rattle.runs.proofs.Told.{tale}

-- an outcome ------------------------------------------------------------------------------------

take_out : {A : Type 0} (x : A) (xs : List A) → In x xs → (ys : List A) × Without x xs ys
take_out x [] m = absurd m
take_out {A} x (y ∷ ys) (inl e) = (ys, subst (λ (y : A). Without x (y ∷ ys) ys) e here)
take_out x (y ∷ ys) (inr m) = let h = take_out x ys m in (y ∷ h.0, later h.1)

deliver-answers : (s : State) → (r : Answer) × (z : State) × DeliverOutcome s r z
deliver-answers s = go s.outputs refl
  where
    go : (os : List Output) → s.outputs ≡ os → (r : Answer) × (z : State) × DeliverOutcome s r z
    go [] e = (Refused nothing, s, (refl, (λ o n. absurd (subst (In o) e n)), refl))
    go (o ∷ os) e =
        let h = first-in output_time (λ (o : Output). 0) o s.outputs (subst (In o) (sym e) (inl refl)) in
        let w = take_out h.0 s.outputs h.1 in
        elim (cases_lt s.clock h.0.timestamp) [
          | inl k ↦ (Refused nothing, s, (refl, (λ u n. omega (arith, h.2 u n)), refl))
          | inr k ↦ (
            Handed (record {
              actuator = h.0.actuator;
              timestamp = h.0.timestamp;
              value = h.0.value;
              late = ltb h.0.timestamp s.clock;
            }),
            delivered s w.0,
            (w.0, record { without = w.1; due = k; least = λ u n. omega (arith, h.2 u n); late = refl }, refl),
          )
        ]

pub every-call-answers : EveryCallAnswers
every-call-answers l sound m s (Arrive x t v) e = (arrive_answer l s x t, arrive_after l s x t v, (e, refl, refl))
every-call-answers l sound m s (Advance c) e = (advance_answer s c, advance_after s c, (refl, refl))
every-call-answers l sound m s Pick e = elim (best l s (length l.plan.actors)) [
  | inl h ↦ (
    Named h.0,
    s,
    (record { startable = h.1.0; ahead = λ b q. h.1.1 b (accepted l sound s b q).inside q }, refl),
  )
  | inr h ↦ (Refused nothing, s, ((refl, λ a q. h a (accepted l sound s a q).inside q), refl))
]
every-call-answers l sound m s (Start a) e = (start_answer l s a, start_after l s a, (refl, refl))
every-call-answers l sound m s Finish e = (
  finish_answer l.plan m s s.stack,
  finish_after l m s s.stack,
  (refl, refl),
)
every-call-answers l sound m s Deliver e = deliver-answers s
every-call-answers l sound m s Report e = (Told (status s), s, (refl, refl))
every-call-answers l sound m s Close e = (Done, closed s, (e, refl, refl))

-- one answer ------------------------------------------------------------------------------------

both_first : (d t a e u b : ℕ) → First d t a e u b → First e u b d t a → a ≡ b
both_first d t a e u b p q = omega arith

pick_same : (l : Line) (s : State) (r q : Answer) → PickAnswers l s r → PickAnswers l s q → r ≡ q
pick_same l s Done q h k = absurd h
pick_same l s (Named a) q h k = go q k
  where
    go : (q : Answer) → PickAnswers l s q → Named a ≡ q
    go Done k = absurd k
    go (Named b) k = ap Named
        (both_first (deadline_at l a (time_at s a)) (time_at s a) a (deadline_at l b (time_at s b)) (time_at s b) b
        (h.ahead b k.startable) (k.ahead a h.startable))
    go (Fired f) k = absurd k
    go (Wrote g) k = absurd k
    go (Handed d) k = absurd k
    go (Told r) k = absurd k
    go (Refused f) k = absurd (k.1 a h.startable)
pick_same l s (Fired f) q h k = absurd h
pick_same l s (Wrote g) q h k = absurd h
pick_same l s (Handed d) q h k = absurd h
pick_same l s (Told r) q h k = absurd h
pick_same l s (Refused f) q h k = go q k
  where
    go : (q : Answer) → PickAnswers l s q → Refused f ≡ q
    go Done k = absurd k
    go (Named b) k = absurd (h.1 b k.startable)
    go (Fired f) k = absurd k
    go (Wrote g) k = absurd k
    go (Handed d) k = absurd k
    go (Told r) k = absurd k
    go (Refused g) k = ap Refused (h.0 ∙ sym k.0)

deliver-same : (s : State) (r q : Answer) (y z : State) → DeliverOutcome s r y → DeliverOutcome s q z →
    SameAnswer Deliver r q
deliver-same s Done q y z h k = absurd h
deliver-same s (Named a) q y z h k = absurd h
deliver-same s (Fired f) q y z h k = absurd h
deliver-same s (Wrote g) q y z h k = absurd h
deliver-same s (Handed d) q y z h k = go q k
  where
    go : (q : Answer) → DeliverOutcome s q z → SameAnswer Deliver (Handed d) q
    go Done k = absurd k
    go (Named b) k = absurd k
    go (Fired f) k = absurd k
    go (Wrote g) k = absurd k
    go (Handed e) k = inr (
      d,
      e,
      refl,
      refl,
      omega (
        arith,
        h.1.least (output_of e) (out-there k.1.without),
        k.1.least (output_of d) (out-there h.1.without),
      ),
    )
    go (Told r) k = absurd k
    go (Refused f) k = absurd (omega (arith, h.1.due, k.1 (output_of d) (out-there h.1.without)))
deliver-same s (Told r) q y z h k = absurd h
deliver-same s (Refused f) q y z h k = go q k
  where
    go : (q : Answer) → DeliverOutcome s q z → SameAnswer Deliver (Refused f) q
    go Done k = absurd k
    go (Named b) k = absurd k
    go (Fired f) k = absurd k
    go (Wrote g) k = absurd k
    go (Handed e) k = absurd (omega (arith, k.1.due, h.1 (output_of e) (out-there k.1.without)))
    go (Told r) k = absurd k
    go (Refused g) k = inl (ap Refused (h.0 ∙ sym k.0))

pub state-fixes-answer : StateFixesAnswer
state-fixes-answer l m s (Arrive x t v) r q y z h k = h.1 ∙ sym k.1
state-fixes-answer l m s (Advance c) r q y z h k = h.0 ∙ sym k.0
state-fixes-answer l m s Pick r q y z h k = pick_same l s r q h.0 k.0
state-fixes-answer l m s (Start a) r q y z h k = h.0 ∙ sym k.0
state-fixes-answer l m s Finish r q y z h k = h.0 ∙ sym k.0
state-fixes-answer l m s Deliver r q y z h k = deliver-same s r q y z h k
state-fixes-answer l m s Report r q y z h k = h.0 ∙ sym k.0
state-fixes-answer l m s Close r q y z h k = h.1 ∙ sym k.1

-- one state -------------------------------------------------------------------------------------

-- not of the actuator and the timestamp of x
abbrev besides : Output → Output → Bool
besides x o = not (eqb o.actuator x.actuator && eqb o.timestamp x.timestamp)

besides-apart : (x y : Output) → Apart x y → besides x y ≡ true
besides-apart x y h = not_from_false _ (elim (cases_eq y.actuator x.actuator) [
  | inl p ↦ and_right _ _ (ne_eqb y.timestamp x.timestamp (λ q. h (sym p) (sym q)))
  | inr p ↦ and_left _ _ (ne_eqb y.actuator x.actuator p)
])

besides-self : (x : Output) → besides x x ≡ false
besides-self x =
    not_from_true _ (and_from _ _ (eq-eqb x.actuator x.actuator refl)
    (eq-eqb x.timestamp x.timestamp refl))

all-besides : (x : Output) (ys : List Output) → Each (Apart x) ys → ys ≡ keep (besides x) ys
all-besides x [] h = refl
all-besides x (y ∷ ys) h =
    rw (besides-apart x y (h y (inl refl))) (ap (λ (l : List Output). y ∷ l) (all-besides x ys (λ z n. h z (inr n))))

-- what is left are all others
left : {x : Output} {xs ys : List Output} → Without x xs ys → Pairs Apart xs → ys ≡ keep (besides x) xs
left {x} (here {xs}) h = rw (besides-self x) (all-besides x xs h.0)
left {x} (later {y} {xs} {ys} w) h =
    rw (besides-apart x y (λ e q. h.0 x (out-there w) (sym e) (sym q)))
    (ap (λ (l : List Output). y ∷ l) (left w h.1))

fixed : (l : Line) (m : Meaning) (s : State) → Pairs Apart s.outputs → (c : Call) (r : Answer) (y z : State) →
    Outcome l m s c r y → Outcome l m s c r z → y ≡ z
fixed l m s p (Arrive x t v) r y z h k = h.2 ∙ sym k.2
fixed l m s p (Advance c) r y z h k = h.1 ∙ sym k.1
fixed l m s p Pick r y z h k = h.1 ∙ sym k.1
fixed l m s p (Start a) r y z h k = h.1 ∙ sym k.1
fixed l m s p Finish r y z h k = h.1 ∙ sym k.1
fixed l m s p Deliver Done y z h k = absurd h
fixed l m s p Deliver (Named a) y z h k = absurd h
fixed l m s p Deliver (Fired f) y z h k = absurd h
fixed l m s p Deliver (Wrote g) y z h k = absurd h
fixed l m s p Deliver (Handed d) y z h k =
    h.2 ∙ ap (delivered s) (left h.1.without p ∙ sym (left k.1.without p)) ∙ sym k.2
fixed l m s p Deliver (Told t) y z h k = absurd h
fixed l m s p Deliver (Refused f) y z h k = h.2 ∙ sym k.2
fixed l m s p Report r y z h k = h.1 ∙ sym k.1
fixed l m s p Close r y z h k = h.2 ∙ sym k.2

no-push : (h : Journal) (x : Step) → [] ≡ h ++ (x ∷ []) → ⊥
no-push h x e = let n = ap (λ (k : Journal). length k) e in omega (arith, length_push h x)

one_state : (l : Line) → Sound l → (m : Meaning) {h k : Journal} {s z : State} → Runs l m h s → Runs l m k z →
    h ≡ k → s ≡ z
one_state l sound m opened opened e = refl
one_state l sound m opened (next {h} x r o) e = absurd (no-push h x e)
one_state l sound m (next {h} x r o) opened e = absurd (no-push h x (sym e))
one_state l sound m (next {h} {s} {s' = y} x r o) (next {h = k} {s = u} {s' = z} x' r' o') e =
    let w = same_from_push h k x x' e in
    let i : s ≡ u = one_state l sound m r r' w.0 in
    let o'' : Outcome l m s x.call x.answer z =
    subst (λ (s : State). Outcome l m s x.call x.answer z) (sym i)
    (subst (λ (x : Step). Outcome l m u x.call x.answer z) (sym w.1) o') in
    fixed l m s (outs l sound (tale l sound r).run).apart x.call x.answer y z o o''

pub journal-fixes-state : JournalFixesState
journal-fixes-state l sound m h s z r q = one_state l sound m r q refl
