-- Equal plans and equal images.
use Rattle.std.proofs.Common.{◌≡◌, rules, Bool, true, is_ok, Ok, Err, Decides, Result, sym, refl, ap}
use mathlib.Core.Bool.{Bool-set}
use mathlib.Core.HLevel.{⊥_prop}
use mathlib.Core.Logic.{∥∥₁_elim, ∥∥₁_map, ∥∥₁_prop}
use Rattle.fault.specs.declared.Fault.{Fault}
use Rattle.image.specs.Encoding.{image}
use Rattle.image.proofs.Faithful.{one-plan}
use Rattle.std.proofs.lemmas.Bool.{and_parts, and_from}
use Rattle.std.proofs.lemmas.Bool.Decides.{Decides-eqb}
use Rattle.std.proofs.lemmas.Slice.Eq.{slice_eq-Decides}
use Rattle.image.specs.contracts.draft.DraftPartialEq.TheImpl as draft
use Rattle.image.specs.declared.draft.Draft.{Draft}
use Rattle.image.specs.Drafts.{plan_of}
use Rattle.bounded.specs.Held.{held}
use Rattle.line.specs.contracts.parts.ActorPartialEq.TheImpl as actor
use Rattle.line.specs.contracts.parts.ChannelPartialEq.TheImpl as channel
use Rattle.line.specs.declared.parts.Actor.{Actor}
use Rattle.line.specs.declared.parts.Channel.{Channel}
use Rattle.line.specs.Plan.{Plan}
use Rattle.project.specs.Project.{plan, Reads, RoundTrips}
use Rattle.project.specs.declared.project.Project.{Project}

pub one-project : (p q : Project) → image (plan p) ≡ image (plan q) → ∥ plan p ≡ plan q ∥₁
one-project p q e =
    ∥∥₁_elim p.sound ∥∥₁_prop (λ s. ∥∥₁_map q.sound
    (λ t. one-plan (plan p) (plan q) s.lawful.sized s.lawful.ranged t.lawful.sized t.lawful.ranged e))

-- the derived test of drafts decides whether their plans are equal
actor-Decides : (x y : Actor) → Decides ((actor.eq-value).it x y) (x ≡ y)
actor-Decides x y = search rules

channel-Decides : (x y : Channel) → Decides ((channel.eq-value).it x y) (x ≡ y)
channel-Decides x y = search rules

pub same-drafts : (d e : Draft) → Decides ((draft.eq-value).it d e) (plan_of d ≡ plan_of e)
same-drafts d e =
    let s = slice_eq-Decides Decides-eqb (held d.sensors) (held e.sensors) _ refl in
    let a = slice_eq-Decides actor-Decides (held d.actors) (held e.actors) _ refl in
    let k = Decides-eqb d.actuators e.actuators in
    let c = slice_eq-Decides channel-Decides (held d.channels) (held e.channels) _ refl in (
      λ t.
          let w = and_parts _ _ t in
          let v = and_parts _ _ w.1 in
          let u = and_parts _ _ v.1 in
          λ i. record { sensors = s.0 w.0 i; actors = a.0 v.0 i; actuators = k.0 u.0 i; channels = c.0 u.1 i },
      λ h.
          and_from _ _ (s.1 (ap (λ (z : Plan). z.sensors) h))
          (and_from _ _ (a.1 (ap (λ (z : Plan). z.actors) h))
          (and_from _ _ (k.1 (ap (λ (z : Plan). z.actuators) h)) (c.1 (ap (λ (z : Plan). z.channels) h)))),
    )

-- a test of the plans is a test of the images
pub same-plans : (p q : Project) (r : Bool) → Decides r (plan p ≡ plan q) → Decides r (image (plan p) ≡ image (plan q)) × Decides r ∥ plan p ≡ plan q ∥₁
same-plans p q r d =
    let back : ∥ plan p ≡ plan q ∥₁ → r ≡ true = λ h. ∥∥₁_elim h (Bool-set _ _) d.1 in
    ((λ h. ap image (d.0 h), λ h. back (one-project p q h)), (λ h. ∣ d.0 h ∣₁, back))

back-again : (p q q' : Project) (r : Result (Unit {0}) Fault) → Reads (image (plan p)) q q' r → (is_ok r ≡ true) × ∥ plan q' ≡ plan p ∥₁
back-again p q q' (Ok x) w = (refl, ∥∥₁_map p.sound (λ s. w.only (plan p) s.lawful refl))
back-again p q q' (Err f) w = absurd (∥∥₁_elim p.sound ⊥_prop (λ s. w.0.foreign (plan p) s.lawful refl))

pub round-trips : RoundTrips
round-trips = record {
  read_write = λ bs p q w. sym w.spelt;
  write_read = back-again;
  one_image = λ p q. (one-project p q, λ e. ∥∥₁_map e (λ x. ap image x));
}
