-- What `==` computes of ports decides whether they are the same.
use Rattle.std.proofs.Common.{◌≡◌, Bool, Some, None, Decides, sym, refl, ap, rules}
use Rattle.std.specs.Bool.{one_answer}
use Rattle.std.proofs.lemmas.Bool.{true≢false}
use Rattle.std.specs.Cmp.{signed_Decides, first_so, second_so}
use Rattle.std.specs.Cmp.Derive.{both_true}
use Rattle.std.specs.Cmp.Lexicographic.{pointwise, pointwise_decides}
use Rattle.std.specs.Option.{option_eq}
use Rattle.std.specs.Ordering.{int_eq}
use Rattle.runs.specs.Equal.{Exact, running_eq, firing_eq}
use Rattle.runs.specs.contracts.records.AnswerPartialEq.TheImpl as answer
use Rattle.runs.specs.contracts.records.FiringPartialEq.TheImpl as firing
use Rattle.runs.specs.contracts.records.CallPartialEq.TheImpl as call
use Rattle.runs.specs.contracts.records.StepPartialEq.TheImpl as step
use Rattle.runs.specs.declared.records.Running.{Running}
use Rattle.runs.specs.declared.records.Firing.{Firing}
use Rattle.runs.specs.declared.records.Step.{Step}

port_decides : Exact (option_eq int_eq)
port_decides None None = (λ _. refl, λ _. refl)
port_decides None (Some y) = (λ e. absurd (true≢false (sym e)), λ e. cc)
port_decides (Some x) None = (λ e. absurd (true≢false (sym e)), λ e. cc)
port_decides (Some x) (Some y) =
    let d = signed_Decides x y in (λ e. ap Some (d.0 e), λ e. let q : x ≡ y = cc in d.1 q)

pub ports_decide : Exact (pointwise (option_eq int_eq))
ports_decide = pointwise_decides port_decides

pub running_exact : Exact running_eq
running_exact x y = let inlets = ports_decide x.inlets y.inlets in search (rules, inlets)

pub firing_exact : Exact firing_eq
firing_exact x y =
    let inlets = ports_decide x.inlets y.inlets in
    let outlets = ports_decide x.outlets y.outlets in
    search (rules, inlets, outlets)

-- what tells whether they are the same answers as it
pub running_from_exact : (r : Bool) (x y : Running) → Decides r (x ≡ y) → r ≡ running_eq x y
running_from_exact r x y d = one_answer r _ d (running_exact x y)

pub firing_from_exact : (r : Bool) (x y : Firing) → Decides r (x ≡ y) → r ≡ firing_eq x y
firing_from_exact r x y d = one_answer r _ d (firing_exact x y)

-- what holds a firing
pub answer_exact : Exact firing.ghosts.eq → Exact answer.ghosts.eq
answer_exact exact = search (rules, exact)

call_exact : Exact call.ghosts.eq
call_exact = search rules

pub step_exact : Exact firing.ghosts.eq → Exact step.ghosts.eq
step_exact exact x y = (
  λ e.
      let call : x.call ≡ y.call = (call_exact _ _).0 (first_so _ _ e) in
      let answer : x.answer ≡ y.answer = (answer_exact exact _ _).0 (second_so _ _ e) in
      λ i. record { call = call i; answer = answer i },
  λ e. both_true ((call_exact _ _).1 (ap (λ (z : Step). z.call) e)) ((answer_exact exact _ _).1 (ap (λ (z : Step). z.answer) e)),
)
