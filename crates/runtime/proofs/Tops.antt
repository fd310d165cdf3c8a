-- The top of the stack.
use Rattle.std.proofs.Common.{◌≡◌, ℕ, ◌-◌, ◌<◌, ◌≤◌, leb, List, [], ◌∷◌, reverse, length, get_or, Some, sym, refl, ap, ◌∙◌, inl, arith}
use mathlib.Core.Logic.{∥∥₁_elim}
use native.Mathlib.Bridge.{le_prop}
use lib.ListN.{length-reverse}
use Rattle.std.specs.List.{slice_get}
use Rattle.std.proofs.lemmas.List.{get_or-reverse}
use Rattle.std.proofs.lemmas.Option.{slice_get-get_or}
use Rattle.bounded.specs.Held.{final}
use Rattle.line.specs.Lists.{In}
use Rattle.line.specs.Times.{Line}
use Rattle.runs.specs.Calls.{horizon, not_sooner, when}
use Rattle.runs.specs.Safe.{Secure}
use Rattle.runs.specs.State.{State, deadline_of}
use Rattle.runs.specs.declared.records.Running.{Running}
use Rattle.runtime.specs.Meant.{top_first}

-- what was pushed last is the top
pub top-final : (fs : List Running) → slice_get (top_first fs) 0 ≡ final fs
top-final [] = refl
top-final (f ∷ fs) =
    let gs : List Running = f ∷ fs in
    let some : 0 < length (f ∷ fs) = omega arith in
    let same = length-reverse gs in
    let also : 0 < length (reverse (f ∷ fs)) = omega arith in
    let last : length (f ∷ fs) - 1 < length (f ∷ fs) = omega arith in
    let at : length (f ∷ fs) - 1 - 0 ≡ length (f ∷ fs) - 1 = omega arith in
    slice_get-get_or (reverse gs) 0 f also ∙ ap Some (get_or-reverse gs 0 f some ∙ ap (λ k. get_or gs k f) at)
    ∙ sym (slice_get-get_or gs (length gs - 1) f last)

module _ (l : Line) (d : ℕ) where
  pub top-sooner : (gs : List Running) (f : Running) → slice_get gs 0 ≡ Some f →
      not_sooner l gs d ≡ when (leb (deadline_of l f) d) (deadline_of l f)
  top-sooner [] f e = let z : ◌≡◌ {A = ℕ} 0 1 = cc in absurd (omega arith)
  top-sooner (g ∷ gs) f e = let z : g ≡ f = cc in rw z refl

top_in : (gs : List Running) (f : Running) → slice_get gs 0 ≡ Some f → In f gs
top_in [] f e = let z : ◌≡◌ {A = ℕ} 0 1 = cc in absurd (omega arith)
top_in (g ∷ gs) f e = inl (cc)

-- the top is a firing of the line, within the horizon
pub top-inside : (l : Line) (s : State) (f : Running) → slice_get s.stack 0 ≡ Some f → Secure l s → f.actor < length l.plan.actors
top-inside l s f e i = ∥∥₁_elim i le_prop (λ h. (h.fitting.stack f (top_in s.stack f e)).actor)

pub top-in_time : (l : Line) (s : State) (f : Running) → slice_get s.stack 0 ≡ Some f → Secure l s → f.timestamp ≤ horizon
top-in_time l s f e i = ∥∥₁_elim i le_prop (λ h. let w = (h.fitting.stack f (top_in s.stack f e)).timestamp in omega arith)
