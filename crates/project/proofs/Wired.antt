-- What the first channel from a source, or to a sink, says of all channels.
use Rattle.std.proofs.Common.{◌≡◌, ℕ, zero, suc, ◌<◌, Bool, true, false, cond, eqb, ◌⊎◌, List, [], ◌∷◌, length, get_or, Some, None, Decides, Option, sym, refl, ap, ◌∙◌, subst, inl, inr, ⊎_elim, arith}
use Rattle.std.proofs.lemmas.Bool.{eq-eqb, eqb-true, and_parts, and_from, false≢true}
use Rattle.std.proofs.lemmas.Bool.Decides.{same_from_decides}
use Rattle.line.specs.Lists.{In, first}
use Rattle.line.specs.Plan.{same_source, same_sink, end_of, start_of}
use Rattle.line.specs.declared.parts.Source.{Source}
use Rattle.line.specs.declared.parts.Source.TheVariants.{Sensor, Outlet}
use Rattle.line.specs.declared.parts.Sink.{Sink}
use Rattle.line.specs.declared.parts.Sink.TheVariants.{Inlet, Actuator}
use Rattle.line.specs.declared.parts.Channel.{Channel}

pub source-same : (x y : Source) → same_source x y ≡ true → x ≡ y
source-same (Sensor m) (Sensor n) e = ap Sensor (eqb-true m n e)
source-same (Sensor m) (Outlet b p) e = absurd (false≢true e)
source-same (Outlet a o) (Sensor n) e = absurd (false≢true e)
source-same (Outlet a o) (Outlet b p) e =
    let w = and_parts (eqb a b) (eqb o p) e in
    λ i. Outlet (eqb-true a b w.0 i) (eqb-true o p w.1 i)

pub source-self : (x : Source) → same_source x x ≡ true
source-self (Sensor m) = eq-eqb m m refl
source-self (Outlet a o) = and_from (eqb a a) (eqb o o) (eq-eqb a a refl) (eq-eqb o o refl)

pub sink-same : (x y : Sink) → same_sink x y ≡ true → x ≡ y
sink-same (Inlet a i) (Inlet b j) e =
    let w = and_parts (eqb a b) (eqb i j) e in
    λ k. Inlet (eqb-true a b w.0 k) (eqb-true i j w.1 k)
sink-same (Inlet a i) (Actuator q) e = absurd (false≢true e)
sink-same (Actuator q) (Inlet b j) e = absurd (false≢true e)
sink-same (Actuator q) (Actuator r) e = ap Actuator (eqb-true q r e)

pub sink-self : (x : Sink) → same_sink x x ≡ true
sink-self (Inlet a i) = and_from (eqb a a) (eqb i i) (eq-eqb a a refl) (eq-eqb i i refl)
sink-self (Actuator q) = eq-eqb q q refl

-- a test that decides equality answers as the definitions do
pub told-source : {Q : Type 0} (b : Bool) (x y : Source) → Q × Decides b (x ≡ y) → Q × (b ≡ same_source x y)
told-source b x y w = (w.0, same_from_decides b (same_source x y) w.1 (source-same x y, λ e. subst (λ (z : Source). same_source x z ≡ true) e (source-self x)))

pub told-sink : {Q : Type 0} (b : Bool) (x y : Sink) → Q × Decides b (x ≡ y) → Q × (b ≡ same_sink x y)
told-sink b x y w = (w.0, same_from_decides b (same_sink x y) w.1 (sink-same x y, λ e. subst (λ (z : Sink). same_sink x z ≡ true) e (sink-self x)))

pub none≢some : {B : Type 0} {y : B} → None ≡ Some y → ⊥
none≢some e = let z : ◌≡◌ {A = ℕ} 0 1 = cc in omega arith

cond-none : {B : Type 0} (b : Bool) (y : B) (v : Option B) → cond b (Some y) v ≡ None → (b ≡ false) × (v ≡ None)
cond-none true y v e = absurd (none≢some (sym e))
cond-none false y v e = (refl, e)

cond-some : {B : Type 0} (b : Bool) (y r : B) (v : Option B) → cond b (Some y) v ≡ Some r → ((b ≡ true) × (y ≡ r)) ⊎ (v ≡ Some r)
cond-some true y r v e = inl (refl, cc)
cond-some false y r v e = inr e

module _ {A B : Type 0} (f : A → Bool) (g : A → B) where
  -- what passes the test is found
  pub first-none : (xs : List A) → first f g xs ≡ None → (x : A) → In x xs → f x ≡ true → ⊥
  first-none [] e x m t = m
  first-none (y ∷ ys) e x (inl s) t = false≢true (sym (cond-none (f y) (g y) (first f g ys) e).0 ∙ ap f (sym s) ∙ t)
  first-none (y ∷ ys) e x (inr m) t = first-none ys (cond-none (f y) (g y) (first f g ys) e).1 x m t

  -- what is found stands in the list and passes the test
  pub first_some : (xs : List A) (r : B) → first f g xs ≡ Some r → (x : A) × In x xs × (f x ≡ true) × (g x ≡ r)
  first_some [] r e = absurd (none≢some e)
  first_some (y ∷ ys) r e =
      ⊎_elim
      (λ here. (y, inl refl, here.0, here.1))
      (λ on. let w = first_some ys r on in (w.0, inr w.1, w.2, w.3))
      (cond-some (f y) (g y) r (first f g ys) e)

made : (c : Channel) (x : Source) (y : Sink) → c.source ≡ x → c.sink ≡ y → record { source = x; sink = y } ≡ c
made c x y e f i = record { source = sym e i; sink = sym f i }

-- where the first channel from x ends, there a channel from x ends; where there is none, no channel begins at x
pub ends_there : (cs : List Channel) (x : Source) (y : Sink) → end_of x cs ≡ Some y → In (record { source = x; sink = y }) cs
ends_there cs x y e =
    let w = first_some (λ c. same_source c.source x) (λ c. c.sink) cs y e in
    subst (λ (c : Channel). In c cs) (sym (made w.0 x y (source-same w.0.source x w.2) w.3)) w.1

pub ends_nowhere : (cs : List Channel) (x : Source) (y : Sink) → end_of x cs ≡ None → In (record { source = x; sink = y }) cs → ⊥
ends_nowhere cs x y e m = first-none (λ c. same_source c.source x) (λ c. c.sink) cs e _ m (source-self x)

-- and so for sinks
pub begins-there : (cs : List Channel) (x : Source) (y : Sink) → start_of y cs ≡ Some x → In (record { source = x; sink = y }) cs
begins-there cs x y e =
    let w = first_some (λ c. same_sink c.sink y) (λ c. c.source) cs x e in
    subst (λ (c : Channel). In c cs) (sym (made w.0 x y w.3 (sink-same w.0.sink y w.2))) w.1

pub begins-nowhere : (cs : List Channel) (x : Source) (y : Sink) → start_of y cs ≡ None → In (record { source = x; sink = y }) cs → ⊥
begins-nowhere cs x y e m = first-none (λ c. same_sink c.sink y) (λ c. c.source) cs e _ m (sink-self y)

-- what stands at a place stands in the list, and the other way round
pub in-at : {A : Type 0} (xs : List A) (i : ℕ) (d : A) → i < length xs → In (get_or xs i d) xs
in-at [] i d h = absurd (omega arith)
in-at (x ∷ xs) zero d h = inl refl
in-at (x ∷ xs) (suc i) d h = inr (in-at xs i d (omega arith))

pub at_in : {A : Type 0} (xs : List A) (x d : A) → In x xs → (i : ℕ) × (i < length xs) × (get_or xs i d ≡ x)
at_in [] x d m = absurd m
at_in (y ∷ ys) x d (inl e) = (0, omega arith, sym e)
at_in (y ∷ ys) x d (inr m) = let w = at_in ys x d m in (suc w.0, omega (arith, w.1), w.2)
