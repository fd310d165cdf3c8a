-- The laws over runs.
use Rattle.std.proofs.Common.{◌≡◌, ℕ, ◌<◌, ◌≤◌, Bool, eqb, List, [], ◌∷◌, ◌++◌, map, reverse, length, sym, refl, ap, ◌∙◌, subst, inl, inr}
use Rattle.std.proofs.lemmas.List.{reverse-append, reverse-reverse}
use Rattle.std.proofs.lemmas.Bool.{eqb-true}
use Rattle.line.specs.Lists.{In}
use Rattle.line.specs.Times.{Line, Sound}
use Rattle.runs.specs.Lists.{Each, Pairs, keep}
use Rattle.banks.specs.Meaning.{Meaning}
use Rattle.runs.specs.State.{State, firing, finished}
use Rattle.runs.specs.Calls.{Outcome, finish_answer, finish_after}
use Rattle.runs.specs.Runs.{Journal, Arrival, Timed, arrivals, written, handed, for_actuator, when_due}
use Rattle.runs.specs.Laws.{EqualEvents, EqualRecords, EventsFixRecords, Begins, EitherBegins}
use Rattle.runs.specs.Laws.{EventsFixBeginnings, AlwaysOrderly, NeverSticks}
use Rattle.runs.specs.declared.records.Event.{Event}
use Rattle.runs.specs.declared.records.Running.{Running}
use Rattle.runs.specs.declared.records.Firing.{Firing}
use Rattle.runs.specs.declared.records.Output.{Output}
use Rattle.runs.specs.declared.records.Started.{Started}
use Rattle.runs.specs.declared.records.Call.TheVariants.{Finish}
use Rattle.runs.specs.declared.records.Answer.TheVariants.{Wrote}
use Rattle.runs.proofs.Lists.{keep-reverse, map-reverse, pairs-reverse, pairs-map, in-keep, keep-in, falls-keep}
use Rattle.runs.proofs.Lists.{by_number, by_parts, one_end}
use Rattle.runs.proofs.Run.{came, begun, log, gone, posted, given, causal}
use Rattle.runs.proofs.Order.{begun-fall, order}
use Rattle.runs.proofs.Order
use Rattle.runs.proofs.Outs.{outs}
use Rattle.runs.proofs.Handed.{hands_out}
use Rattle.runs.proofs.Whole.{Settled, Gave, pass_on, settled-by, complete-settled, hand-over, hand-over-to, read_off}
use Rattle.runs.proofs.Told.{Tale, tale, began}
use Rattle.runs.proofs.Safety.{always-safe}
use Rattle.runs.proofs.Moves.{free-or-blocked, names}

-- order -----------------------------------------------------------------------------------

-- the end of a list that falls is the beginning of the list that rises
begins : {A : Type 0} (xs ys : List A) → ((rest : List A) × (ys ≡ rest ++ xs)) → Begins (reverse xs) (reverse ys)
begins xs ys h = (reverse h.0, ap reverse h.1 ∙ reverse-append h.0 xs)

begins-at : {A : Type 0} (xs ys us vs : List A) → xs ≡ us → ys ≡ vs → Begins us vs → Begins xs ys
begins-at {A} xs ys us vs p q h = (h.0, q ∙ h.1 ∙ ap (λ (k : List A). k ++ h.0) (sym p))

pub always_orderly : AlwaysOrderly
always_orderly l sound m h s r = record {
  rising = λ a.
      subst (Pairs (λ (f g : Started). f.timestamp < g.timestamp))
      (sym (ap (keep (λ f. eqb f.actor a)) i.begun ∙ keep-reverse (λ f. eqb f.actor a) began-list))
      (pairs-reverse (λ (f g : Started). f.timestamp < g.timestamp) (keep (λ f. eqb f.actor a) began-list)
      (falls-keep (λ (f : Started). f.actor) (λ (f : Started). f.timestamp) began-list
      (pairs-map (began l) (λ (f g : Started). f.actor ≡ g.actor → g.timestamp < f.timestamp)
      (begun i.run) (begun-fall l sound i.run)) a));
  falling = (causal l sound i.run).falling;
  punctual = λ q. begins-at _ _ _ _
      (ap (for_actuator q) i.given ∙ keep-reverse (λ p. eqb p.output.actuator q) (given i.run))
      (ap (λ (k : List Timed). map when_due (for_actuator q k)) i.posted
      ∙ ap (map when_due) (keep-reverse (λ p. eqb p.output.actuator q) (posted i.run))
      ∙ map-reverse when_due (for_actuator q (posted i.run)))
      (begins (for_actuator q (given i.run)) (map when_due (for_actuator q (posted i.run)))
      (hands_out l sound i.run q));
}
  where
    i : Tale l m h s
    i = tale l sound r

    began-list : List Started
    began-list = map (began l) (begun i.run)

-- records -----------------------------------------------------------------------------------

-- a list told in order, number by number
by-told : {A : Type 0} (f : A → ℕ) (told xs : List A) → told ≡ reverse xs → (a : ℕ) → keep
    (λ x. eqb (f x) a) told ≡ reverse (keep (λ x. eqb (f x) a) xs)
by-told f told xs e a = ap (keep (λ x. eqb (f x) a)) e ∙ keep-reverse (λ x. eqb (f x) a) xs

-- equal as told, equal as kept
untold : {A : Type 0} (f : A → ℕ) (t u xs ys : List A) → t ≡ reverse xs → u ≡ reverse ys →
    ((a : ℕ) → keep (λ x. eqb (f x) a) t ≡ keep (λ x. eqb (f x) a) u) →
    (a : ℕ) → keep (λ x. eqb (f x) a) xs ≡ keep (λ x. eqb (f x) a) ys
untold f t u xs ys p q h a =
    sym (reverse-reverse _) ∙ ap reverse (sym (by-told f t xs p a) ∙ h a ∙ by-told f u ys q a) ∙ reverse-reverse _

retold : {A : Type 0} (f : A → ℕ) (t u xs ys : List A) → t ≡ reverse xs → u ≡ reverse ys →
    ((a : ℕ) → keep (λ x. eqb (f x) a) xs ≡ keep (λ x. eqb (f x) a) ys) →
    (a : ℕ) → keep (λ x. eqb (f x) a) t ≡ keep (λ x. eqb (f x) a) u
retold f t u xs ys p q h a = by-told f t xs p a ∙ ap reverse (h a) ∙ sym (by-told f u ys q a)

-- equal events are the same arrivals
gave : (l : Line) (sound : Sound l) {m j : Meaning} {h k : Journal} {s z : State} (i : Tale l m h s)
    (e : Tale l j k z) → EqualEvents h k → Gave l sound (came i.run) (came e.run)
gave l sound {h = h} {k = k} i e u =
    let v = untold (λ (y : Arrival). y.sensor) (arrivals h) (arrivals k) (came i.run) (came e.run) i.came
    e.came u in (
      by_parts (λ (y : Arrival). y.sensor) (came i.run) (came e.run) v,
      by_parts (λ (y : Arrival). y.sensor) (came e.run) (came i.run) (λ x. sym (v x)),
    )

pub events_fix_records : EventsFixRecords
events_fix_records l sound m j alike h k s z r r' c d = (to-events, to-records)
  where
    i : Tale l m h s
    i = tale l sound r

    e : Tale l j k z
    e = tale l sound r'

    to-events : EqualRecords h k → EqualEvents h k
    to-events u =
        let v = untold (λ (g : Firing). g.actor) (written h) (written k) (log i.run) (log e.run) i.log
        e.log u.actors in
        let fwd = by_parts (λ (g : Firing). g.actor) (log i.run) (log e.run) v in
        let bwd = by_parts (λ (g : Firing). g.actor) (log e.run) (log i.run) (λ a. sym (v a)) in
        retold (λ (y : Arrival). y.sensor) (arrivals h) (arrivals k) (came i.run) (came e.run) i.came
        e.came
        (by_number (λ (y : Arrival). y.sensor) (λ (y : Arrival). y.timestamp) (came i.run) (came e.run)
        (Order.arrivals l i.run).falls (Order.arrivals l e.run).falls
        (read_off l sound i.run e.run c fwd) (read_off l sound e.run i.run d bwd))

    to-records : EqualEvents h k → EqualRecords h k
    to-records u =
        let p = pass_on l sound m j alike i.run e.run (gave l sound i e u) in
        let fwd : (g : Firing) → In g (log i.run) → In g (log e.run) = λ g n. p.0 g n
        (complete-settled l z d g.actor g.timestamp) in
        let bwd : (g : Firing) → In g (log e.run) → In g (log i.run) = λ g n. p.1 g n
        (complete-settled l s c g.actor g.timestamp) in
        record {
          actors = retold (λ (g : Firing). g.actor) (written h) (written k) (log i.run) (log e.run) i.log
              e.log
              (by_number (λ (g : Firing). g.actor) (λ (g : Firing). g.timestamp) (log i.run) (log e.run)
              (order l sound i.run).falls (order l sound e.run).falls fwd bwd);
          actuators = retold (λ (o : Output). o.actuator) (handed h) (handed k) (gone i.run) (gone e.run)
              i.gone e.gone
              (by_number (λ (o : Output). o.actuator) (λ (o : Output). o.timestamp) (gone i.run) (gone e.run)
              (outs l sound i.run).falls (outs l sound e.run).falls
              (hand-over l sound i.run e.run d fwd) (hand-over l sound e.run i.run c bwd));
        }

-- lists of one number that fall: where each holds the other's up to its own last
beginnings : {A : Type 0} (f t : A → ℕ) (told' u xs ys : List A) → told' ≡ reverse xs → u ≡ reverse ys → (a : ℕ) →
    Pairs (λ (x y : A). t y < t x) (keep (λ x. eqb (f x) a) xs) → Pairs (λ (x y : A). t y < t x)
    (keep (λ x. eqb (f x) a) ys) →
    ((x y : A) → In x xs → In y ys → f x ≡ f y → t x ≤ t y → In x ys) →
    ((y x : A) → In y ys → In x xs → f y ≡ f x → t y ≤ t x → In y xs) →
    EitherBegins (keep (λ x. eqb (f x) a) told') (keep (λ x. eqb (f x) a) u)
beginnings {A} f t told' u xs ys p q a h k fwd bwd =
    elim (one_end t (keep test xs) (keep test ys) h k (half xs ys fwd) (half ys xs bwd)) [
      | inl w ↦ inl (begins-at _ _ _ _ (by-told f told' xs p a) (by-told f u ys q a)
          (begins (keep test xs) (keep test ys) w))
      | inr w ↦ inr (begins-at _ _ _ _ (by-told f u ys q a) (by-told f told' xs p a)
          (begins (keep test ys) (keep test xs) w))
    ]
  where
    test : A → Bool
    test x = eqb (f x) a

    half : (ls ws : List A) → ((x y : A) → In x ls → In y ws → f x ≡ f y → t x ≤ t y → In x ws) →
        (x y : A) → In x (keep test ls) → In y (keep test ws) → t x ≤ t y → In x (keep test ws)
    half ls ws g x y m n v =
        let b = in-keep test ls x m in
        let c = in-keep test ws y n in
        keep-in test ws x b.1 (g x y b.0 c.0 (eqb-true (f x) a b.1 ∙ sym (eqb-true (f y) a c.1)) v)

pub events_fix_beginnings : EventsFixBeginnings
events_fix_beginnings l sound m j alike h k s z r r' u = (
  (λ a. beginnings (λ (g : Firing). g.actor) (λ (g : Firing). g.timestamp) (written h) (written k)
      (log i.run) (log e.run) i.log e.log a
      (falls-keep (λ (g : Firing). g.actor) (λ (g : Firing). g.timestamp) (log i.run)
      (order l sound i.run).falls a)
      (falls-keep (λ (g : Firing). g.actor) (λ (g : Firing). g.timestamp) (log e.run)
      (order l sound e.run).falls a)
      (λ x y n o q w. p.0 x n (settled-by l sound e.run y x.actor x.timestamp o q w))
      (λ y x n o q w. p.1 y n (settled-by l sound i.run x y.actor y.timestamp o q w))),
  (λ b. beginnings (λ (o : Output). o.actuator) (λ (o : Output). o.timestamp) (handed h) (handed k)
      (gone i.run) (gone e.run) i.gone e.gone b
      (falls-keep (λ (o : Output). o.actuator) (λ (o : Output). o.timestamp) (gone i.run)
      (outs l sound i.run).falls b)
      (falls-keep (λ (o : Output). o.actuator) (λ (o : Output). o.timestamp) (gone e.run)
      (outs l sound e.run).falls b)
      (hand-over-to l sound i.run e.run p.0)
      (hand-over-to l sound e.run i.run p.1)),
)
  where
    i : Tale l m h s
    i = tale l sound r

    e : Tale l j k z
    e = tale l sound r'

    p : ((g : Firing) → In g (log i.run) → Settled l z g.actor g.timestamp → In g (log e.run))
        × ((g : Firing) → In g (log e.run) → Settled l s g.actor g.timestamp → In g (log i.run))
    p = pass_on l sound m j alike i.run e.run (gave l sound i e u)

-- progress ----------------------------------------------------------------------------------

pub never_sticks : NeverSticks
never_sticks l sound m h s r shut = record {
  finishes = λ f n. finishing s.stack refl f n;
  picks = λ empty e n.
      let w = free-or-blocked l sound s shut empty inside e n in
      elim w.1 [ inl q ↦ inl (names l sound m s w.0 q) | inr q ↦ inr (w.0, q) ];
}
  where
    finishing : (fs : List Running) → s.stack ≡ fs → (f : Running) → In f fs →
        (g : Firing) × (z : State) × Outcome l m s Finish (Wrote g) z
    finishing [] e f n = absurd n
    finishing (t ∷ fs) e f n = (
      firing l.plan m s t,
      finished l m s t fs,
      (ap (finish_answer l.plan m s) (sym e), ap (finish_after l m s) (sym e)),
    )

    inside : Each (λ (e : Event). e.actor < length l.plan.actors) s.events
    inside e n = ((always-safe l sound m h s r).fitting.events e n).actor
