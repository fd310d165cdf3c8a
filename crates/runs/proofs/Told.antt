-- A journal that is a run, as the calls that were accepted: what it tells is what they tell.
use Rattle.std.proofs.Common.{◌≡◌, ℕ, true, List, [], ◌∷◌, ◌++◌, map, reverse, ℤ, Some, None, Option, sym, refl, ap, ◌∙◌, subst, append_assoc, append-nil}
use Rattle.std.specs.List.{flat_map}
use Rattle.std.proofs.lemmas.List.{reverse-append, reverse-reverse, flat_map_more}
use Rattle.fault.specs.declared.Fault.{Fault}
use Rattle.line.specs.Times.{Line, Sound}
use Rattle.banks.specs.Meaning.{Meaning}
use Rattle.runs.specs.State.{State, arrived, advanced, started, delivered, closed, firing, outputs_sent, deadline_at}
use Rattle.runs.specs.State.{deadline_of}
use Rattle.runs.specs.Calls.{Outcome, answer, after, arrive_verdict, advance_verdict, start_verdict, time_at}
use Rattle.runs.specs.Calls.{finish_answer, finish_after}
use Rattle.runs.specs.Runs.{Journal, Runs, opened, next, Timed, arrival_in, start_in, firing_in, output_in, posted_in}
use Rattle.runs.specs.Runs.{all_at, tick, timed, clock_after, arrivals, starts, written, handed, postings, handings}
use Rattle.runs.specs.declared.records.Running.{Running}
use Rattle.runs.specs.declared.records.Output.{Output}
use Rattle.runs.specs.declared.records.Started.{Started}
use Rattle.runs.specs.declared.records.Call.{Call}
use Rattle.runs.specs.declared.records.Call.TheVariants.{Arrive, Advance, Pick, Start, Finish, Deliver, Report}
use Rattle.runs.specs.declared.records.Call.TheVariants.{Close}
use Rattle.runs.specs.declared.records.Answer.{Answer}
use Rattle.runs.specs.declared.records.Answer.TheVariants.{Done, Named, Fired, Wrote, Handed, Told, Refused}
use Rattle.runs.specs.declared.records.Step.{Step}
use Rattle.runs.proofs.Accepted.{arrives, advances, accepted}
use Rattle.runs.proofs.Run.{Run, arrive, advance, start, finish, deliver, close, came, begun, log, gone, posted}
use Rattle.runs.proofs.Run.{given}

-- what start answered for a firing
abbrev pub began : Line → Running → Started
began l f = record { actor = f.actor; timestamp = f.timestamp; deadline = deadline_of l f }

-- one call: the run goes on, and tells what the call and its answer tell
pub record Onward (l : Line) (m : Meaning) {s : State} (r : Run l m s) (c : Call) (a : Answer) (s' : State) : Type 0
  where
    pub run : Run l m s'
    pub came : came run ≡ reverse (arrival_in c a) ++ came r
    pub begun : map (began l) (begun run) ≡ reverse (start_in a) ++ map (began l) (begun r)
    pub log : log run ≡ reverse (firing_in a) ++ log r
    pub gone : gone run ≡ reverse (output_in a) ++ gone r
    pub clock : s'.clock ≡ tick s.clock c a
    pub posted : posted run ≡ reverse (all_at s.clock (posted_in l.plan a)) ++ posted r
    pub given : given run ≡ reverse (all_at s.clock (output_in a)) ++ given r

module _ (l : Line) (sound : Sound l) (m : Meaning) where
  arrive-on : {s : State} (r : Run l m s) (x t : ℕ) (v : ℤ) → s.taking ≡ true → (k : Option Fault) →
      arrive_verdict l s x t ≡ k →
      Onward l m r (Arrive x t v) (answer k Done) (after k s (arrived l s x t v))
  arrive-on {s} r x t v live None e = record {
    run = arrive x t v live (arrives l s x t e) r;
    came = refl;
    begun = refl;
    log = refl;
    gone = refl;
    clock = refl;
    posted = refl;
    given = refl;
  }
  arrive-on r x t v live (Some f) e = record {
    run = r;
    came = refl;
    begun = refl;
    log = refl;
    gone = refl;
    clock = refl;
    posted = refl;
    given = refl;
  }

  advance-on : {s : State} (r : Run l m s) (c : ℕ) (k : Option Fault) → advance_verdict s c ≡ k →
      Onward l m r (Advance c) (answer k Done) (after k s (advanced s c))
  advance-on {s} r c None e = record {
    run = advance c (advances s c e) r;
    came = refl;
    begun = refl;
    log = refl;
    gone = refl;
    clock = refl;
    posted = refl;
    given = refl;
  }
  advance-on r c (Some f) e = record {
    run = r;
    came = refl;
    begun = refl;
    log = refl;
    gone = refl;
    clock = refl;
    posted = refl;
    given = refl;
  }

  start-on : {s : State} (r : Run l m s) (a : ℕ) (k : Option Fault) → start_verdict l s a ≡ k →
      Onward l m r (Start a) (answer k
      (Fired (record { actor = a; timestamp = time_at s a; deadline = deadline_at l a (time_at s a) })))
      (after k s (started s a (time_at s a)))
  start-on {s} r a None e = record {
    run = start a (time_at s a) (accepted l sound s a e) r;
    came = refl;
    begun = refl;
    log = refl;
    gone = refl;
    clock = refl;
    posted = refl;
    given = refl;
  }
  start-on r a (Some f) e = record {
    run = r;
    came = refl;
    begun = refl;
    log = refl;
    gone = refl;
    clock = refl;
    posted = refl;
    given = refl;
  }

  finish-on : {s : State} (r : Run l m s) (fs : List Running) → s.stack ≡ fs →
      Onward l m r Finish (finish_answer l.plan m s fs) (finish_after l m s fs)
  finish-on r [] e = record {
    run = r;
    came = refl;
    begun = refl;
    log = refl;
    gone = refl;
    clock = refl;
    posted = refl;
    given = refl;
  }
  finish-on {s} r (f ∷ fs) e = record {
    run = finish f fs e r;
    came = refl;
    begun = refl;
    log = refl;
    gone = refl;
    clock = refl;
    posted = ap (λ (os : List Output). reverse (all_at s.clock os) ++ posted r)
        (sym (append-nil (outputs_sent l.plan (firing l.plan m s f))));
    given = refl;
  }

  -- a call that leaves the state and tells nothing
  idle : {s : State} (r : Run l m s) (c : Call) (a : Answer) → arrival_in c a ≡ [] → start_in a ≡ [] →
      firing_in a ≡ [] → output_in a ≡ [] → tick s.clock c a ≡ s.clock →
      Onward l m r c a s
  idle {s} r c a p q f o t = record {
    run = r;
    came = rw p refl;
    begun = rw q refl;
    log = rw f refl;
    gone = rw o refl;
    clock = sym t;
    posted = rw f refl;
    given = rw o refl;
  }

  moved : {s : State} (r : Run l m s) (c : Call) (a b : Answer) (y z : State) → a ≡ b → y ≡ z → Onward l m r c b z →
      Onward l m r c a y
  moved r c a b y z p q h = subst (λ (y : State). Onward l m r c a y) (sym q)
      (subst (λ (a : Answer). Onward l m r c a z) (sym p) h)

  pick-on : {s : State} (r : Run l m s) (a : Answer) → Outcome l m s Pick a s → Onward l m r Pick a s
  pick-on r Done h = absurd h.0
  pick-on r (Named a) h = idle r Pick (Named a) refl refl refl refl refl
  pick-on r (Fired f) h = absurd h.0
  pick-on r (Wrote g) h = absurd h.0
  pick-on r (Handed d) h = absurd h.0
  pick-on r (Told w) h = absurd h.0
  pick-on r (Refused f) h = idle r Pick (Refused f) refl refl refl refl refl

  deliver-on : {s : State} (r : Run l m s) (a : Answer) (y : State) → Outcome l m s Deliver a y →
      Onward l m r Deliver a y
  deliver-on r Done y h = absurd h
  deliver-on r (Named a) y h = absurd h
  deliver-on r (Fired f) y h = absurd h
  deliver-on r (Wrote g) y h = absurd h
  deliver-on {s} r (Handed d) y h = moved r Deliver (Handed d) (Handed d) y (delivered s h.0) refl h.2 (record {
    run = deliver d h.0 h.1 r;
    came = refl;
    begun = refl;
    log = refl;
    gone = refl;
    clock = refl;
    posted = refl;
    given = refl;
  })
  deliver-on r (Told w) y h = absurd h
  deliver-on {s} r (Refused f) y h = moved r Deliver (Refused f) (Refused f) y s refl h.2
      (idle r Deliver (Refused f) refl refl refl refl refl)

  pub onward : {s : State} (r : Run l m s) (c : Call) (a : Answer) (y : State) → Outcome l m s c a y →
      Onward l m r c a y
  onward {s} r (Arrive x t v) a y h = moved r (Arrive x t v) a _ y _ h.1 h.2
      (arrive-on r x t v h.0 (arrive_verdict l s x t) refl)
  onward {s} r (Advance c) a y h = moved r (Advance c) a _ y _ h.0 h.1
      (advance-on r c (advance_verdict s c) refl)
  onward {s} r Pick a y h = moved r Pick a a y s refl h.1 (pick-on r a (h.0, refl))
  onward {s} r (Start b) a y h = moved r (Start b) a _ y _ h.0 h.1 (start-on r b (start_verdict l s b) refl)
  onward {s} r Finish a y h = moved r Finish a _ y _ h.0 h.1 (finish-on r s.stack refl)
  onward r Deliver a y h = deliver-on r a y h
  onward {s} r Report a y h = moved r Report a _ y s h.0 h.1 (idle r Report _ refl refl refl refl refl)
  onward {s} r Close a y h = moved r Close a Done y (closed s) h.1 h.2 (record {
    run = close r;
    came = refl;
    begun = refl;
    log = refl;
    gone = refl;
    clock = refl;
    posted = refl;
    given = refl;
  })

-- journals ----------------------------------------------------------------------------

-- a list told so far, and what one more call tells
tell : {A : Type 0} (xs ys new : List A) (zs : List A) → xs ≡ reverse ys → zs ≡ reverse new ++ ys →
    xs ++ new ≡ reverse zs
tell {A} xs ys new zs p q =
    ap (λ (k : List A). k ++ new) p ∙ ap (λ (k : List A). reverse ys ++ k) (sym (reverse-reverse new))
    ∙ sym (reverse-append (reverse new) ys) ∙ ap reverse (sym q)

flat_map-last : {A : Type 0} (f : Step → List A) (h : Journal) (x : Step) → flat_map f (h ++ (x ∷ [])) ≡ flat_map f h ++ f x
flat_map-last f h x = sym (flat_map_more f [] h x)

clock-last : (c : ℕ) (h : Journal) (x : Step) → clock_after c (h ++ (x ∷ [])) ≡ tick (clock_after c h) x.call
    x.answer
clock-last c [] x = refl
clock-last c (y ∷ h) x = clock-last (tick c y.call y.answer) h x

timed-last : (f : Answer → List Output) (c : ℕ) (h : Journal) (x : Step) →
    timed f c (h ++ (x ∷ [])) ≡ timed f c h ++ all_at (clock_after c h) (f x.answer)
timed-last f c [] x = append-nil _
timed-last f c (y ∷ h) x =
    ap (λ (k : List Timed). all_at c (f y.answer) ++ k) (timed-last f (tick c y.call y.answer) h x)
    ∙ sym (append_assoc (all_at c (f y.answer)) _ _)

pub record Tale (l : Line) (m : Meaning) (h : Journal) (s : State) : Type 0 where
  pub run : Run l m s
  pub came : arrivals h ≡ reverse (came run)
  pub begun : starts h ≡ reverse (map (began l) (begun run))
  pub log : written h ≡ reverse (log run)
  pub gone : handed h ≡ reverse (gone run)
  pub clock : clock_after 0 h ≡ s.clock
  pub posted : postings l.plan 0 h ≡ reverse (posted run)
  pub given : handings 0 h ≡ reverse (given run)

pub tale : (l : Line) → Sound l → {m : Meaning} {h : Journal} {s : State} → Runs l m h s → Tale l m h s
tale l sound opened = record {
  run = Run.opened;
  came = refl;
  begun = refl;
  log = refl;
  gone = refl;
  clock = refl;
  posted = refl;
  given = refl;
}
tale l sound {m} (next {h} {s} {s'} x r e) =
    let i = tale l sound r in
    let o = onward l sound m i.run x.call x.answer s' e in
    record {
      run = o.run;
      came = flat_map-last (λ x. arrival_in x.call x.answer) h x ∙ tell (arrivals h) (came i.run)
          (arrival_in x.call x.answer) _ i.came o.came;
      begun = flat_map-last (λ x. start_in x.answer) h x ∙ tell (starts h) (map (began l) (begun i.run))
          (start_in x.answer) _ i.begun o.begun;
      log = flat_map-last (λ x. firing_in x.answer) h x ∙ tell (written h) (log i.run) (firing_in x.answer) _
          i.log o.log;
      gone = flat_map-last (λ x. output_in x.answer) h x ∙ tell (handed h) (gone i.run) (output_in x.answer) _
          i.gone o.gone;
      clock = clock-last 0 h x ∙ ap (λ c. tick c x.call x.answer) i.clock ∙ sym o.clock;
      posted = timed-last (posted_in l.plan) 0 h x
          ∙ ap (λ c. postings l.plan 0 h ++ all_at c (posted_in l.plan x.answer)) i.clock
          ∙ tell (postings l.plan 0 h) (posted i.run) (all_at s.clock (posted_in l.plan x.answer)) _
          i.posted o.posted;
      given = timed-last output_in 0 h x ∙ ap (λ c. handings 0 h ++ all_at c (output_in x.answer)) i.clock
          ∙ tell (handings 0 h) (given i.run) (all_at s.clock (output_in x.answer)) _ i.given o.given;
    }
