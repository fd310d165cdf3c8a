-- Flaws of channels, as tests that the code makes.
use Rattle.std.proofs.Common.{◌≡◌, ℕ, ◌<◌, Bool, true, false, not, List, length, get_or, take, is_some, Some, None, Decides, Option, sym, refl, ap, ◌∙◌, subst, inl, ⊎_elim, arith}
use Rattle.std.proofs.lemmas.List.{get_or-take, length-take-le}
use Rattle.std.proofs.lemmas.Bool.{false≢true}
use Rattle.line.specs.Plan.{Plan, end_of, start_of, same_sink}
use Rattle.line.specs.Rules.{Doubled, Idle, Unfed, channel_of, no_channel}
use Rattle.line.specs.declared.parts.Source.{Source}
use Rattle.line.specs.declared.parts.Source.TheVariants.{Sensor}
use Rattle.line.specs.declared.parts.Sink.{Sink}
use Rattle.line.specs.declared.parts.Sink.TheVariants.{Actuator}
use Rattle.line.specs.declared.parts.Channel.{Channel}
use Rattle.paths.specs.Paths.{at}
use Rattle.std.specs.Bool.{MatchBool}
use Rattle.std.specs.List.{HoldsAt, AllWithin}
use Rattle.project.specs.Tables.{places, exit, Serves, SeveredBy}
use Rattle.project.proofs.Wired.{first_some, first-none, sink-same, sink-self, in-at, at_in, ends_there, ends_nowhere, begins-there, begins-nowhere}

-- an answer that is none exactly where P holds
tells-some : {A : Type 0} (P : Type 0) (v : Option A) → ((x : A) → v ≡ Some x → P) → (v ≡ None → P → ⊥) → Decides (is_some v) P
tells-some P None f g = (λ e. absurd (false≢true e), λ h. absurd (g refl h))
tells-some P (Some x) f g = (λ e. f x refl, λ h. refl)

pub doubled-tells : (p : Plan) (k : ℕ) → k < length p.channels → Decides (is_some (start_of (channel_of p k).sink (take k p.channels))) (Doubled p k)
doubled-tells p k h =
    let cs = p.channels in
    let y = (channel_of p k).sink in
    let long : length (take k p.channels) ≡ k = length-take-le k cs (omega arith) in
    tells-some (Doubled p k) (start_of y (take k cs))
    (λ x e.
    let w = first_some (λ c. same_sink c.sink y) (λ c. c.source) (take k cs) x e in
    let a = at_in (take k cs) w.0 no_channel w.1 in
    let low : a.0 < k = omega (arith, a.1, long) in
    (a.0, low, h, ap (λ c. c.sink) (sym (get_or-take k cs a.0 no_channel low) ∙ a.2) ∙ sink-same w.0.sink y w.2))
    (λ e d.
    let low : d.0 < length (take k cs) = omega (arith, d.1, long) in
    let there = in-at (take k cs) d.0 no_channel low in
    let same : (get_or (take k cs) d.0 no_channel).sink ≡ y = ap (λ c. c.sink) (get_or-take k cs d.0 no_channel d.1) ∙ d.3 in
    first-none (λ c. same_sink c.sink y) (λ c. c.source) (take k cs) e _ there (ap (λ z. same_sink z y) same ∙ sink-self y))

pub doubled : (p : Plan) (k m : ℕ) (cs : List Channel) (v : Option Source) (b : Bool) → cs ≡ p.channels → m ≡ k → k < length cs
    → v ≡ start_of (get_or cs k no_channel).sink (take m cs) → b ≡ is_some v → Decides b (Doubled p k)
doubled p k m cs v b ec em h ev eb =
    let same : v ≡ start_of (channel_of p k).sink (take k p.channels) =
    ev ∙ ap (λ n. start_of (get_or cs k no_channel).sink (take n cs)) em ∙ ap (λ xs. start_of (get_or xs k no_channel).sink (take k xs)) ec in
    let low : k < length p.channels = subst (λ (xs : List Channel). k < length xs) ec h in
    subst (λ (x : Bool). Decides x (Doubled p k)) (sym (eb ∙ ap is_some same)) (doubled-tells p k low)

tells_none : {A : Type 0} (P : Type 0) (v : Option A) (b : Bool) → is_some v ≡ not b → (v ≡ None → P) → ((x : A) → v ≡ Some x → P → ⊥) → Decides b P
tells_none P v true e f g = (λ _. f (is_none v e), λ _. refl)
  where
    is_none : {A : Type 0} (v : Option A) → is_some v ≡ false → v ≡ None
    is_none None e = refl
    is_none (Some x) e = absurd (false≢true (sym e))
tells_none P None false e f g = absurd (false≢true e)
tells_none P (Some x) false e f g = (λ z. absurd (false≢true z), λ h. absurd (g x refl h))

pub idle : (p : Plan) (s : ℕ) (cs : List Channel) (v : Option Sink) (b : Bool) → cs ≡ p.channels → s < length p.sensors
    → v ≡ end_of (Sensor s) cs → is_some v ≡ not b → Decides b (Idle p s)
idle p s cs v b ec h ev eb =
    let same = ev ∙ ap (end_of (Sensor s)) ec in
    tells_none (Idle p s) v b eb (λ e. (h, λ y m. ends_nowhere p.channels (Sensor s) y (sym same ∙ e) m))
    (λ y e w. w.1 y (ends_there p.channels (Sensor s) y (sym same ∙ e)))

pub unfed : (p : Plan) (q : ℕ) (cs : List Channel) (v : Option Source) (b : Bool) → cs ≡ p.channels → q < p.actuators
    → v ≡ start_of (Actuator q) cs → is_some v ≡ not b → Decides b (Unfed p q)
unfed p q cs v b ec h ev eb =
    let same = ev ∙ ap (start_of (Actuator q)) ec in
    tells_none (Unfed p q) v b eb (λ e. (h, λ x m. begins-nowhere p.channels x (Actuator q) (sym same ∙ e) m))
    (λ x e w. w.1 x (begins-there p.channels x (Actuator q) (sym same ∙ e)))

pub severed-by : (p : Plan) (r : List Bool) (a : ℕ) (b : Bool) → a < length p.actors → at false places r a exit ≡ true
    → MatchBool b ((k : ℕ) × (k < length p.channels) × HoldsAt (λ c. Serves r a c.source c.sink) p.channels k) (AllWithin (λ c. Serves r a c.source c.sink → ⊥) p.channels 0 (length p.channels))
    → Decides (not b) (SeveredBy p r a)
severed-by p r a true ha e w = (
  λ z. absurd (false≢true z),
  λ s. absurd (⊎_elim (λ f. f (channel_of p w.0) (in-at p.channels w.0 no_channel w.1) (w.2 no_channel)) (λ f. false≢true (sym f ∙ e)) s.1),
)
severed-by p r a false ha e w = (
  λ _. (
    ha,
    inl (λ c m s.
        let i = at_in p.channels c no_channel m in
        w i.0 no_channel (omega arith) i.1 (subst (λ (x : Channel). Serves r a x.source x.sink) (sym i.2) s)),
  ),
  λ _. refl,
)
