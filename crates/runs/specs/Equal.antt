-- What `==` computes of two firings, field by field and port by port, and what it promises of records.
use Rattle.std.specs.Prelude.{◌≡◌, Bool, ◌==◌, Decides}
use Rattle.std.specs.Cmp.Lexicographic.{pointwise}
use Rattle.std.specs.Option.{option_eq}
use Rattle.std.specs.Ordering.{int_eq, on, eq_of_both}
use Rattle.runs.specs.declared.records.Running.{Running}
use Rattle.runs.specs.declared.records.Firing.{Firing}

abbrev pub running_eq : Running → Running → Bool
running_eq =
    eq_of_both (on (λ x. x.actor) ◌==◌)
    (eq_of_both (on (λ x. x.timestamp) ◌==◌) (on (λ x. x.inlets) (pointwise (option_eq int_eq))))

abbrev pub firing_eq : Firing → Firing → Bool
firing_eq =
    eq_of_both (on (λ x. x.actor) ◌==◌)
    (eq_of_both (on (λ x. x.timestamp) ◌==◌)
    (eq_of_both (on (λ x. x.inlets) (pointwise (option_eq int_eq))) (on (λ x. x.outlets) (pointwise (option_eq int_eq)))))

-- the comparison tells whether two are the same
abbrev pub Exact : {A : Type 0} → (A → A → Bool) → Type 0
Exact {A} eq = (x y : A) → Decides (eq x y) (x ≡ y)
