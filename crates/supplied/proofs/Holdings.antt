-- The meaning of a list of states, and what becomes of it when an actor fires.
use Rattle.std.proofs.Common.{◌≡◌, ℕ, eqb, List, set, ℤ, Option, sym, refl, ap, ◌∙◌}
use Rattle.std.proofs.lemmas.List.{get_or-set_other}
use Rattle.std.proofs.lemmas.Bool.{eqb-true, eqb-false, cond_both}
use Rattle.banks.specs.Meaning.{Reacted, Meaning}
use Rattle.banks.specs.Firing.{next, put}
use Rattle.supplied.specs.States.{row_of, rule_of}
use Rattle.supplied.specs.Holding.{state_of, holding}
use Rattle.supplied.specs.declared.state.State.{State}
use Rattle.supplied.specs.declared.state.State.TheVariants.{Other}

-- a rule for each actor number, which takes no account of the timestamp
abbrev pub Rules : Type 0
Rules = ℕ → List ℤ → List (Option ℤ) → Reacted

abbrev pub meaning : (ℕ → List ℤ) → Rules → Meaning
meaning r f = record { rows = r; reaction = λ a w t g. f a w g }

-- equal rows and equal rules make equal meanings
pub equal-meaning : (r r' : ℕ → List ℤ) (f f' : Rules)
    → ((k : ℕ) → r k ≡ r' k) → ((k : ℕ) → f k ≡ f' k) → meaning r f ≡ meaning r' f'
equal-meaning r r' f f' p q = λ i. meaning (λ k. p k i) (λ k. q k i)

-- what h says of the states, where only that at a changed
changed : {X : Type 0} (h : State → X) (ss new : List State) (a : ℕ) (x : X)
    → new ≡ set ss a (state_of new a) → h (state_of new a) ≡ x
    → (k : ℕ) → h (state_of new k) ≡ put (λ b. h (state_of ss b)) a x k
changed h ss new a x others here k =
    cond_both (eqb k a) x (h (state_of ss k)) (λ y. h (state_of new k) ≡ y)
    (λ e. ap (λ (b : ℕ). h (state_of new b)) (eqb-true k a e) ∙ here)
    (λ e.
    ap (λ (l : List State). h (state_of l k)) others
    ∙ ap h (get_or-set_other ss a k (state_of new a) Other (eqb-false k a e)))

-- to put what stands there changes nothing
put_same : {X : Type 0} (f : ℕ → X) (a k : ℕ) → put f a (f a) k ≡ f k
put_same f a k = cond_both (eqb k a) (f a) (f k) (λ y. y ≡ f k) (λ e. ap f (sym (eqb-true k a e))) (λ e. refl)

-- actor a fires: its rule stays, its row is the new one, and the other states stay
pub holding-next : (ss new : List State) (a t : ℕ) (g : List (Option ℤ))
    → new ≡ set ss a (state_of new a)
    → rule_of (state_of new a) ≡ rule_of (state_of ss a)
    → row_of (state_of new a) ≡ (rule_of (state_of ss a) (row_of (state_of ss a)) g).row
    → holding new ≡ next (holding ss) a t g
holding-next ss new a t g others rule row =
    equal-meaning _ _ (λ k. rule_of (state_of new k)) (λ k. rule_of (state_of ss k))
    (changed row_of ss new a _ others row)
    (λ k. changed rule_of ss new a _ others rule k ∙ put_same (λ b. rule_of (state_of ss b)) a k)
