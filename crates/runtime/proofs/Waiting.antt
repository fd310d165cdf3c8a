-- Lists in order: their first has the least rank.
use Rattle.std.proofs.Common.{◌≡◌, ℕ, ◌<◌, ◌≤◌, Bool, false, ltb, List, [], ◌∷◌, Some, None, refl, ap, ◌∙◌, inl, inr, arith}
use mathlib.Core.Logic.{∥∥₁_elim}
use native.Mathlib.Bridge.{le_prop}
use Rattle.std.specs.List.{slice_get, remove}
use Rattle.std.proofs.lemmas.Bool.{lt-ltb, le-ltb}
use Rattle.line.specs.Times.{Line}
use Rattle.runs.specs.Lists.{Each, Without, here, keep, least, lower}
use Rattle.runs.specs.State.{State, output_time}
use Rattle.runs.specs.Calls.{due_before, Delivers}
use Rattle.runs.specs.Safe.{Secure}
use Rattle.runs.specs.declared.records.Output.{Output}
use Rattle.runs.specs.declared.records.Delivered.{Delivered}
use Rattle.runtime.specs.Answers.{handing}
use Rattle.runs.proofs.Lists.{in-keep, each-cons}

-- n is at most the least, and at most f x
le-lower : {A : Type 0} (f : A → ℕ) (n m : ℕ) (xs : List A) → n ≤ m → Each (λ (x : A). n ≤ f x) xs →
    n ≤ lower m (least f xs)
le-lower f n m [] h k = h
le-lower f n m (x ∷ xs) h k = let w = le-lower f n (f x) xs (k x (inl refl)) (λ y q. k y (inr q)) in omega arith

pub lower-least : {A : Type 0} (f : A → ℕ) (n : ℕ) (xs : List A) → Each (λ (x : A). n ≤ f x) xs → lower n (least f xs) ≡ n
lower-least f n [] k = refl
lower-least f n (x ∷ xs) k = let w = le-lower f n (f x) xs (k x (inl refl)) (λ y q. k y (inr q)) in omega arith

pub keep-none : {A : Type 0} (f : A → Bool) (xs : List A) → Each (λ (x : A). f x ≡ false) xs → keep f xs ≡ []
keep-none f [] k = refl
keep-none f (x ∷ xs) k = rw (k x (inl refl)) (keep-none f xs (λ y q. k y (inr q)))

-- the first output has the least timestamp
abbrev pub FirstLeast : List Output → Type 0
FirstLeast [] = Unit {0}
FirstLeast (o ∷ os) = Each (λ (x : Output). o.timestamp ≤ x.timestamp) os

first-least : (l : Line) (s : State) (os : List Output) → s.outputs ≡ os → Secure l s → FirstLeast os
first-least l s [] e i = tt
first-least l s (o ∷ os) e i = λ x m. ∥∥₁_elim i le_prop (λ h. (rw e at h.fitting.outputs_rise).0 x m)

pub outputs-first : (l : Line) (s : State) → Secure l s → FirstLeast s.outputs
outputs-first l s i = first-least l s s.outputs refl i

-- where the first output is due, and where it is not
module _ (c : ℕ) (o : Output) where
  pub due-first : (os : List Output) → FirstLeast os → slice_get os 0 ≡ Some o → o.timestamp < c → due_before c os ≡ Some o.timestamp
  due-first [] h e q = let z : ◌≡◌ {A = ℕ} 0 1 = cc in absurd (omega arith)
  due-first (x ∷ os) h e q =
      let z : x ≡ o = cc in
      let t = ap output_time z in
      rw (lt-ltb x.timestamp c (omega arith)) (ap Some (lower-least output_time x.timestamp (keep (λ o. ltb o.timestamp c) os) (λ y m. h y (in-keep _ os y m).0) ∙ t))

  pub due-later : (os : List Output) → FirstLeast os → slice_get os 0 ≡ Some o → c ≤ o.timestamp → due_before c os ≡ None
  due-later [] h e q = refl
  due-later (x ∷ os) h e q =
      let z : x ≡ o = cc in
      let t = ap output_time z in
      rw (le-ltb x.timestamp c (omega arith)) (ap (least output_time) (keep-none (λ o. ltb o.timestamp c) os (λ y m. let w = h y m in le-ltb y.timestamp c (omega arith))))

-- delivering ------------------------------------------------------------------------

pub none_due : (c : ℕ) (o : Output) (os : List Output) → FirstLeast os → slice_get os 0 ≡ Some o → c < o.timestamp →
    Each (λ (o : Output). c < o.timestamp) os
none_due c o [] h e q x m = absurd m
none_due c o (y ∷ os) h e q x m =
    let z : y ≡ o = cc in
    let t = ap output_time z in
    each-cons (λ (o : Output). c < o.timestamp) y os (omega arith) (λ x m. let w = h x m in omega arith) x m

taken_out : (o : Output) (os : List Output) → slice_get os 0 ≡ Some o → Without o os (remove os 0)
taken_out o [] e = let z : ◌≡◌ {A = ℕ} 0 1 = cc in absurd (omega arith)
taken_out o (y ∷ os) e = let z : y ≡ o = cc in rw z here

none_before : (o : Output) (os : List Output) → FirstLeast os → slice_get os 0 ≡ Some o → Each (λ (x : Output). o.timestamp ≤ x.timestamp) os
none_before o [] h e x m = absurd m
none_before o (y ∷ os) h e x m =
    let z : y ≡ o = cc in
    let t = ap output_time z in
    each-cons (λ (x : Output). o.timestamp ≤ x.timestamp) y os (omega arith) (λ x m. let w = h x m in omega arith) x m

pub delivers : (s : State) (o : Output) (d : Delivered) → d ≡ handing s.clock o → FirstLeast s.outputs → slice_get s.outputs 0 ≡ Some o →
    o.timestamp ≤ s.clock → Delivers s d (remove s.outputs 0)
delivers s o d same h e q = rw same (record {
  without = taken_out o s.outputs e;
  due = q;
  least = none_before o s.outputs h e;
  late = refl;
})
