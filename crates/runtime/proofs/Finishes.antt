-- Unstacking the top: what was popped, the room for what it sends, and the state that it leaves.
use Rattle.std.proofs.Common.{◌≡◌, ℕ, ◌+◌, ◌-◌, ◌<◌, ◌≤◌, Bool, List, [], ◌∷◌, ◌++◌, length, get_or, take, ℤ, Some, Option, sym, refl, ap, ◌∙◌, subst, ap₂, arith}
use mathlib.Core.Logic.{∥∥₁_elim, ∥∥₁_prop}
use Rattle.std.specs.List.{slice_get}
use Rattle.std.proofs.lemmas.List.{take_more, take_all}
use Rattle.bounded.specs.Held.{front}
use Rattle.line.specs.Plan.{Plan}
use Rattle.line.specs.Times.{Line, Sound}
use Rattle.line.specs.declared.parts.Sink.{Sink}
use Rattle.runs.specs.Lists.{changed, put_all}
use Rattle.banks.specs.Meaning.{Meaning}
use Rattle.runs.specs.Calls.{Outcome, finish_after, finish_answer}
use Rattle.runs.specs.Safe.{Secure}
use Rattle.runs.specs.State.{State, aside, to_actuator, to_inlet, event_time, events_sent, firing_of, leading, output_time, outputs_sent, reacted, shown}
use Rattle.runs.specs.State.{unstacked}
use Rattle.runs.specs.declared.records.Call.TheVariants.{Finish}
use Rattle.runs.specs.declared.records.Answer.TheVariants.{Wrote}
use Rattle.runs.specs.declared.records.Event.{Event}
use Rattle.runs.specs.declared.records.Firing.{Firing}
use Rattle.runs.specs.declared.records.Output.{Output}
use Rattle.runs.specs.declared.records.Running.{Running}
use Rattle.runs.proofs.Secure.{secure-finish, secure-rows}
use Rattle.runs.proofs.Lists.{length-put-all}
use Rattle.runtime.specs.Meant.{no_rows, state_of, top_first}
use Rattle.runtime.specs.declared.rows.SensorRow.{SensorRow}
use Rattle.runtime.proofs.States.{event_places-fit, output_places-fit, pushed}

last_of : (fs : List Running) (f d : Running) → slice_get (top_first fs) 0 ≡ Some f → fs ≡ front fs ++ f ∷ []
last_of [] f d e = let z : ◌≡◌ {A = ℕ} 0 1 = cc in absurd (omega arith)
last_of (g ∷ gs) f d e =
    let fs : List Running = g ∷ gs in
    let some : length (g ∷ gs) - 1 < length (g ∷ gs) = omega arith in
    let all : length (g ∷ gs) - 1 + 1 ≡ length (g ∷ gs) = omega arith in
    let whole : g ∷ gs ≡ front (g ∷ gs) ++ get_or (g ∷ gs) (length (g ∷ gs) - 1) d ∷ [] =
    sym (take_all (length fs) fs (omega arith)) ∙ ap (λ n. take n fs) (sym all) ∙ take_more fs (length fs - 1) d some in
    let top = pushed (front fs) fs _ whole in
    let same : get_or (g ∷ gs) (length (g ∷ gs) - 1) d ≡ f = let q = ap (λ hs. slice_get hs 0) top in cc in
    whole ∙ ap (λ x. front fs ++ x ∷ []) same

module _ (fs : List Running) (f : Running) (e : slice_get (top_first fs) 0 ≡ Some f) where
  pub popped : top_first fs ≡ f ∷ top_first (front fs)
  popped = pushed (front fs) fs f (last_of fs f f e)

  -- the places of the top are among those set aside
  pub aside-top : (k : Option Sink → Bool) (p : Plan) (gs : List Running) → gs ≡ front fs →
      aside k p (top_first fs) ≡ leading k p f.actor + aside k p (top_first gs)
  aside-top k p gs q = ap (aside k p) popped ∙ ap (λ hs. leading k p f.actor + aside k p (top_first hs)) (sym q)

-- the firing that is written
abbrev pub written : Running → List (Option ℤ) → Firing
written f g = record { actor = f.actor; timestamp = f.timestamp; inlets = f.inlets; outlets = g }

module _ (l : Line) (c : ℕ) (b : Bool) (xs : List SensorRow) (es : List Event) (fs : List Running) (os : List Output)
    (f : Running) (o g : List (Option ℤ)) (e : slice_get (top_first fs) 0 ≡ Some f) (h : g ≡ shown l.plan f.actor o) where
  pub written_is : written f g ≡ firing_of l.plan f o
  written_is = ap (written f) h

  pub unstacked-state : (es' : List Event) (fs' : List Running) (os' : List Output) (w : ℕ → List ℤ) (v : List ℤ) →
      es' ≡ put_all event_time (events_sent l.plan (written f g)) es →
      os' ≡ put_all output_time (outputs_sent l.plan (written f g)) os →
      state_of c b xs es' fs' os' (changed w f.actor v)
      ≡ unstacked l (state_of c b xs es fs os w) f (top_first fs') (record { row = v; outlets = o })
  unstacked-state es' fs' os' w v p q =
      ap₂ (λ es os. state_of c b xs es fs' os (changed w f.actor v))
      (p ∙ ap (λ r. put_all event_time (events_sent l.plan r) es) written_is)
      (q ∙ ap (λ r. put_all output_time (outputs_sent l.plan r) os) written_is)

  module _ (sound : ∥ Sound l ∥₁) (i : Secure l (state_of c b xs es fs os no_rows)) where
    stack : (state_of c b xs es fs os no_rows).stack ≡ f ∷ top_first (front fs)
    stack = popped fs f e

    pub secure-unstacked : (es' : List Event) (fs' : List Running) (os' : List Output) → fs' ≡ front fs →
        es' ≡ put_all event_time (events_sent l.plan (written f g)) es →
        os' ≡ put_all output_time (outputs_sent l.plan (written f g)) os →
        Secure l (state_of c b xs es' fs' os' no_rows)
    secure-unstacked es' fs' os' r p q =
        let s : State = state_of c b xs es fs os no_rows in
        let safe = ∥∥₁_elim sound ∥∥₁_prop (λ k. secure-finish l k s f (top_first (front fs)) (record { row = []; outlets = o }) stack i) in
        let same = unstacked-state es' fs' os' no_rows [] p q ∙ ap (λ hs. unstacked l s f (top_first hs) (record { row = []; outlets = o })) r in
        secure-rows l (state_of c b xs es' fs' os' (changed no_rows f.actor [])) no_rows (subst (Secure l) (sym same) safe)

    -- what is sent finds room beside the places that the other firings keep
    module _ (es' : List Event) (os' : List Output)
        (p : es' ≡ put_all event_time (events_sent l.plan (written f g)) es)
        (q : os' ≡ put_all output_time (outputs_sent l.plan (written f g)) os) where
      pub finish-events-room : length es + length (events_sent l.plan (written f g)) + aside to_inlet l.plan (top_first (front fs)) ≤ 128
      finish-events-room =
          let fit = event_places-fit l (state_of c b xs es' (front fs) os' no_rows) (secure-unstacked es' (front fs) os' refl p q) in
          let size = ap length p ∙ length-put-all event_time (events_sent l.plan (written f g)) es in
          omega arith

      pub finish-outputs-room : length os + length (outputs_sent l.plan (written f g)) + aside to_actuator l.plan (top_first (front fs)) ≤ 64
      finish-outputs-room =
          let fit = output_places-fit l (state_of c b xs es' (front fs) os' no_rows) (secure-unstacked es' (front fs) os' refl p q) in
          let size = ap length q ∙ length-put-all output_time (outputs_sent l.plan (written f g)) os in
          omega arith

-- what the bank gave and what was unstacked make a finish
pub finish-outcome : (l : Line) (m : Meaning) (s z : State) (f : Running) (fs : List Running) (g : List (Option ℤ)) (r : Firing) →
    s.stack ≡ f ∷ fs → g ≡ (reacted m s f).outlets → r ≡ firing_of l.plan f g →
    z ≡ unstacked l s f fs (record { row = (reacted m s f).row; outlets = g }) → Outcome l m s Finish (Wrote r) z
finish-outcome l m s z f fs g r e q h k = (
  ap Wrote (h ∙ ap (firing_of l.plan f) q) ∙ sym (ap (finish_answer l.plan m s) e),
  k ∙ ap (λ g. unstacked l s f fs (record { row = (reacted m s f).row; outlets = g })) q ∙ sym (ap (finish_after l m s) e),
)
