-- Every call leaves a safe state safe, and what follows of the stack and of the room.
use Rattle.std.proofs.Common.{◌≡◌, ℕ, zero, suc, ◌+◌, ◌<◌, ◌≤◌, Bool, true, false, cond, not, eqb, List, [], ◌∷◌, length, ℤ, Some, None, Option, sym, refl, ap, ◌∙◌, subst, inl, inr, arith}
use Rattle.std.proofs.lemmas.Bool.{eqb-true, ne_eqb, eqb-false, not-true}
use Rattle.fault.specs.declared.Fault.{Fault}
use Rattle.line.specs.Lists.{In}
use Rattle.line.specs.Plan.{Plan}
use Rattle.line.specs.Times.{Line, Sound}
use Rattle.runs.specs.Lists.{Each, Pairs, keep}
use Rattle.banks.specs.Meaning.{Meaning}
use Rattle.runs.specs.State.{State, arrived, advanced, started, reacted, firing_of, events_sent, outputs_sent, aside}
use Rattle.runs.specs.State.{to_inlet, to_actuator, leading}
use Rattle.runs.specs.Calls.{Outcome, after, arrive_verdict, arrive_after, advance_verdict, advance_after}
use Rattle.runs.specs.Calls.{start_verdict, start_after, time_at, Startable, finish_after, event_room, output_room}
use Rattle.runs.specs.Runs.{opened, next}
use Rattle.runs.specs.Safe.{Fitting, Safe}
use Rattle.runs.specs.Laws.{Bounded, AlwaysSafe, AlwaysBounded}
use Rattle.runs.specs.declared.records.Running.{Running}
use Rattle.runs.specs.declared.records.Call.{Call}
use Rattle.runs.specs.declared.records.Call.TheVariants.{Arrive, Advance, Pick, Start, Finish, Deliver, Report}
use Rattle.runs.specs.declared.records.Call.TheVariants.{Close}
use Rattle.runs.specs.declared.records.Answer.{Answer}
use Rattle.runs.specs.declared.records.Answer.TheVariants.{Done, Named, Fired, Wrote, Handed, Told, Refused}
use Rattle.runs.proofs.Lists.{in-keep, pairs-keep}
use Rattle.runs.proofs.Accepted.{arrives, advances, accepted}
use Rattle.runs.proofs.Sending.{few-events, few-outputs}
use Rattle.runs.proofs.Safe.{safe-open, safe-arrive, safe-advance, safe-start, safe-finish, safe-deliver, safe-close}
use Rattle.runs.proofs.Safe.{stack-apart}

module _ (l : Line) (sound : Sound l) where
  -- the state that each call leaves, refused or accepted -----------------------------------

  pub safe-arrive-after : (s : State) (x t : ℕ) (v : ℤ) → s.taking ≡ true → Safe l s →
      Safe l (arrive_after l s x t v)
  safe-arrive-after s x t v live i = go (arrive_verdict l s x t) refl
    where
      go : (k : Option Fault) → arrive_verdict l s x t ≡ k → Safe l (after k s (arrived l s x t v))
      go None e = safe-arrive l sound s x t v live (arrives l s x t e) i
      go (Some f) e = i

  pub safe-advance-after : (s : State) (c : ℕ) → Safe l s → Safe l (advance_after s c)
  safe-advance-after s c i = go (advance_verdict s c) refl
    where
      go : (k : Option Fault) → advance_verdict s c ≡ k → Safe l (after k s (advanced s c))
      go None e = safe-advance l s c (advances s c e) i
      go (Some f) e = i

  pub safe-start-after : (s : State) (a : ℕ) → Safe l s → Safe l (start_after l s a)
  safe-start-after s a i = go (start_verdict l s a) refl
    where
      go : (k : Option Fault) → start_verdict l s a ≡ k → Safe l (after k s (started s a (time_at s a)))
      go None e = safe-start l sound s a (time_at s a) (accepted l sound s a e) i
      go (Some f) e = i

  pub safe-finish-after : (m : Meaning) (s : State) → Safe l s → Safe l (finish_after l m s s.stack)
  safe-finish-after m s i = go s.stack refl
    where
      go : (fs : List Running) → s.stack ≡ fs → Safe l (finish_after l m s fs)
      go [] e = i
      go (f ∷ fs) e = safe-finish l sound s f fs (reacted m s f) e i

  safe-deliver-after : (m : Meaning) (s : State) (a : Answer) (y : State) → Outcome l m s Deliver a y → Safe l s →
      Safe l y
  safe-deliver-after m s Done y h i = absurd h
  safe-deliver-after m s (Named b) y h i = absurd h
  safe-deliver-after m s (Fired f) y h i = absurd h
  safe-deliver-after m s (Wrote g) y h i = absurd h
  safe-deliver-after m s (Handed d) y h i = subst (Safe l) (sym h.2) (safe-deliver l s d h.0 h.1 i)
  safe-deliver-after m s (Told r) y h i = absurd h
  safe-deliver-after m s (Refused f) y h i = subst (Safe l) (sym h.2) i

  pub safe-outcome : (m : Meaning) (s : State) (c : Call) (a : Answer) (y : State) → Outcome l m s c a y → Safe l s →
      Safe l y
  safe-outcome m s (Arrive x t v) a y h i = subst (Safe l) (sym h.2) (safe-arrive-after s x t v h.0 i)
  safe-outcome m s (Advance c) a y h i = subst (Safe l) (sym h.1) (safe-advance-after s c i)
  safe-outcome m s Pick a y h i = subst (Safe l) (sym h.1) i
  safe-outcome m s (Start b) a y h i = subst (Safe l) (sym h.1) (safe-start-after s b i)
  safe-outcome m s Finish a y h i = subst (Safe l) (sym h.1) (safe-finish-after m s i)
  safe-outcome m s Deliver a y h i = safe-deliver-after m s a y h i
  safe-outcome m s Report a y h i = subst (Safe l) (sym h.1) i
  safe-outcome m s Close a y h i = subst (Safe l) (sym h.2) (safe-close l s i)

pub always-safe : AlwaysSafe
always-safe l sound m _ _ opened = safe-open l m
always-safe l sound m _ _ (next {h} {s} {s'} x r e) = safe-outcome l sound m s x.call x.answer s' e
    (always-safe l sound m h s r)

-- the stack ---------------------------------------------------------------------------------

-- numbers that differ and lie below n are at most n
below-keep : {A : Type 0} (f : A → ℕ) (n : ℕ) (xs : List A) → Pairs (λ (x y : A). f x ≡ f y → ⊥) xs →
    length xs ≤ suc (length (keep (λ x. not (eqb (f x) n)) xs))
below-keep f n [] h = omega arith
below-keep {A} f n (x ∷ xs) h = go (eqb (f x) n) refl (below-keep f n xs h.1)
  where
    test : A → Bool
    test y = not (eqb (f y) n)

    all : eqb (f x) n ≡ true → (ys : List A) → ((y : A) → In y ys → f x ≡ f y → ⊥) → length (keep test ys) ≡ length ys
    all e [] k = refl
    all e (y ∷ ys) k = rw (ne_eqb (f y) n (λ q. k y (inl refl) (eqb-true (f x) n e ∙ sym q)))
        (ap suc (all e ys (λ z m. k z (inr m))))

    go : (b : Bool) → eqb (f x) n ≡ b → length xs ≤ suc (length (keep test xs)) →
        length (x ∷ xs) ≤ suc (length (cond (not b) (x ∷ keep test xs) (keep test xs)))
    go true e ih = let w = all e xs h.0 in omega arith
    go false e ih = omega arith

pub few : {A : Type 0} (f : A → ℕ) (n : ℕ) (xs : List A) → Pairs (λ (x y : A). f x ≡ f y → ⊥) xs →
    Each (λ (x : A). f x < n) xs → length xs ≤ n
few f zero [] h k = omega arith
few f zero (x ∷ xs) h k = absurd (let w = k x (inl refl) in omega arith)
few {A} f (suc n) xs h k =
    let test : A → Bool = λ x. not (eqb (f x) n) in
    let w = below-keep f n xs h in
    let i = few f n (keep test xs) (pairs-keep (λ (x y : A). f x ≡ f y → ⊥) test xs h)
    (λ x m. let z = in-keep test xs x m in let u = k x z.0 in
    let v : f x ≡ n → ⊥ = eqb-false (f x) n (not-true _ z.1) in omega arith) in
    omega arith

pub bounded : (l : Line) → Sound l → (s : State) → Safe l s → Bounded s
bounded l sound s i =
    let once = stack-apart l i.starts s.stack i.causal.falling i.causal.latest in
    record {
      once = once;
      firings = let w = few (λ (f : Running). f.actor) (length l.plan.actors) s.stack once
          (λ f n. (i.fitting.stack f n).actor) in
          omega (arith, sound.lawful.sized.few_actors);
      events = let w = i.fitting.events_fit in omega arith;
      outputs = let w = i.fitting.outputs_fit in omega arith;
    }

-- an accepted start finds a place on the stack
pub start_fits : (l : Line) → Sound l → (s : State) (a : ℕ) → Startable l s a → Safe l s → length s.stack < 32
start_fits l sound s a e i = (bounded l sound (started s a (time_at s a))
    (safe-start l sound s a (time_at s a) (accepted l sound s a e) i)).firings

pub always-bounded : AlwaysBounded
always-bounded l sound m h s r = bounded l sound s (always-safe l sound m h s r)

-- the postings of a finish find room: for themselves beside all that waits, and for what the others of the stack
-- will send
pub finish-room : (p : Plan) (s : State) (f : Running) (fs : List Running) (g : List (Option ℤ)) →
    s.stack ≡ f ∷ fs → Fitting p s →
    (length s.events + (length (events_sent p (firing_of p f g)) + aside to_inlet p fs) ≤ event_room)
    × (length s.outputs + (length (outputs_sent p (firing_of p f g)) + aside to_actuator p fs) ≤ output_room)
finish-room p s f fs g e i =
    let a : length s.events + (leading to_inlet p f.actor + aside to_inlet p fs) ≤ event_room = rw e at
    i.events_fit in
    let b : length s.outputs + (leading to_actuator p f.actor + aside to_actuator p fs) ≤ output_room = rw e at
    i.outputs_fit in
    let c = few-events p (firing_of p f g) in
    let d = few-outputs p (firing_of p f g) in
    (omega arith, omega arith)
