-- The events of a sensor, as the code has them and as the laws have them.
use Rattle.std.proofs.Common.{◌≡◌, ℕ, ◌<◌, Bool, eqb, List, [], ◌∷◌, ◌++◌, map, Decides, sym, refl, ap, ◌∙◌, subst, arith}
use mathlib.Core.Logic.{∥∥₁_elim}
use native.Mathlib.Bridge.{le_prop}
use Rattle.std.specs.List.{flat_map}
use Rattle.std.proofs.lemmas.List.{map-append}
use Rattle.line.specs.Lists.{In}
use Rattle.runs.specs.Lists.{Each, keep}
use Rattle.runs.specs.Runs.{Journal, arrival_in, sensor_events}
use Rattle.runs.specs.Runs as runs
use Rattle.runs.specs.Laws.{EqualEvents}
use Rattle.runs.specs.declared.records.Step.{Step}
use Rattle.runs.proofs.Lists.{keep-map, in-reverse}
use Rattle.runs.proofs.Run.{came}
use Rattle.runs.proofs.Told.{tale}
use Rattle.runs.proofs.Order as order
use Rattle.journal.specs.Told.{told_of, coded, arrivals}
use Rattle.journal.specs.Same.{EqualEventsBelow, Run}
use Rattle.journal.specs.declared.entry.Arrival.{Arrival}
use Rattle.journal.proofs.Numbers.{all-kept}

flat_map-map : {X A B : Type 0} (f : A → B) (g : X → List A) (xs : List X) →
    flat_map (λ x. map f (g x)) xs ≡ map f (flat_map g xs)
flat_map-map f g [] = refl
flat_map-map {B = B} f g (x ∷ xs) =
    ap (λ (l : List B). map f (g x) ++ l) (flat_map-map f g xs) ∙ sym (map-append f (g x) (flat_map g xs))

-- coding loses nothing
decoded : Arrival → runs.Arrival
decoded a = record { sensor = a.sensor; timestamp = a.timestamp; value = a.value }

decoded-all : (ys : List runs.Arrival) → map decoded (map coded ys) ≡ ys
unfolding decoded
decoded-all [] = refl
decoded-all (y ∷ ys) = ap (λ (l : List runs.Arrival). y ∷ l) (decoded-all ys)

events-told : (h : Journal) (x : ℕ) → told_of arrivals x h ≡ map coded (sensor_events h x)
events-told h x =
    ap (keep (λ (a : Arrival). eqb a.sensor x)) (flat_map-map coded (λ (s : Step). arrival_in s.call s.answer) h)
    ∙ keep-map coded (λ (a : Arrival). eqb a.sensor x) (runs.arrivals h)

events-from-told : (h k : Journal) (x : ℕ) → told_of arrivals x h ≡ told_of arrivals x k →
    sensor_events h x ≡ sensor_events k x
events-from-told h k x e =
    sym (decoded-all _) ∙ ap (map decoded) (sym (events-told h x) ∙ e ∙ events-told k x) ∙ decoded-all _

told-from-events : (h k : Journal) (x : ℕ) → sensor_events h x ≡ sensor_events k x →
    told_of arrivals x h ≡ told_of arrivals x k
told-from-events h k x e = events-told h x ∙ ap (map coded) e ∙ sym (events-told k x)

pub decides_below : (r : Bool) (h k : Journal) →
    Decides r ((n : ℕ) → n < 256 → told_of arrivals n h ≡ told_of arrivals n k) → Decides r (EqualEventsBelow 256 h k)
decides_below r h k d =
    (λ e x l. events-from-told h k x (d.0 e x l), λ f. d.1 (λ x l. told-from-events h k x (f x l)))

-- runs --------------------------------------------------------------------------

-- an accepted event is of a sensor of the line
sensors-are-bytes : (h : Journal) → Run h → Each (λ (y : runs.Arrival). y.sensor < 256) (runs.arrivals h)
sensors-are-bytes h r y m = ∥∥₁_elim r.sound le_prop (λ sound.
    let t = tale r.line sound r.runs in
    let v = (order.arrivals r.line t.run).valid y (in-reverse (came t.run) y (subst (In y) t.came m)) in
    let w = sound.lawful.sized.few_sensors in
    omega arith)

pub decides-events : (r : Bool) (h k : Journal) → Decides r (EqualEventsBelow 256 h k) → Run h → Run k →
    Decides r (EqualEvents h k)
decides-events r h k d p q = (
  λ e. all-kept (λ (y : runs.Arrival). y.sensor) 256 (runs.arrivals h) (runs.arrivals k) (sensors-are-bytes h p)
      (sensors-are-bytes k q) (d.0 e),
  λ f. d.1 (λ x _. f x),
)
