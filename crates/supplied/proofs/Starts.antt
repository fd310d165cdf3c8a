-- The states that a bank starts with mean what its actors do.
use Rattle.std.proofs.Common.{◌≡◌, ℕ, ◌<◌, ◌≤◌, List, length, get_or, take, sym, refl, ap, ◌∙◌, ⊎_elim, arith}
use Rattle.std.proofs.lemmas.List.{get_or_past, get_or-take, length-take}
use Rattle.std.proofs.lemmas.Bool.{cases_lt}
use Rattle.line.specs.declared.parts.Actor.{Actor}
use Rattle.supplied.specs.Kinds.{starts, reacts}
use Rattle.supplied.specs.States.{row_of, rule_of}
use Rattle.supplied.specs.Holding.{state_of, holding}
use Rattle.supplied.specs.Project.{bystander, numbered, supplied}
use Rattle.supplied.specs.declared.state.State.{State}
use Rattle.supplied.specs.declared.state.State.TheVariants.{Other}
use Rattle.supplied.proofs.Holdings.{equal-meaning}

-- what h says of the 32 states and h' of their actors, it says of every number: past the end both are silent
everywhere : {X : Type 0} (h : State → X) (h' : Actor → X) (ss : List State) (xs : List Actor)
    → length ss ≡ 32 → h Other ≡ h' bystander
    → ((k : ℕ) → k < 32 → h (state_of ss k) ≡ h' (get_or xs k bystander))
    → (k : ℕ) → h (state_of ss k) ≡ h' (numbered xs k)
everywhere h h' ss xs all silent each k =
    ⊎_elim
    (λ (lt : k < 32). each k lt ∙ sym (ap h' (get_or-take 32 xs k bystander lt)))
    (λ (le : 32 ≤ k).
    ap h (get_or_past ss k Other (omega arith)) ∙ silent
    ∙ sym (ap h' (get_or_past (take 32 xs) k bystander (simp length-take (omega arith)))))
    (cases_lt k 32)

pub all_start : (ss : List State) (xs : List Actor) → length ss ≡ 32
    → ((k : ℕ) → k < 32 → row_of (state_of ss k) ≡ starts (get_or xs k bystander).kind)
    → ((k : ℕ) → k < 32 → rule_of (state_of ss k) ≡ reacts (get_or xs k bystander).kind (get_or xs k bystander).parameter)
    → holding ss ≡ supplied xs
all_start ss xs all row rule =
    equal-meaning _ _ (λ k. rule_of (state_of ss k)) (λ k. reacts (numbered xs k).kind (numbered xs k).parameter)
    (everywhere row_of (λ x. starts x.kind) ss xs all refl row)
    (everywhere rule_of (λ x. reacts x.kind x.parameter) ss xs all refl rule)
