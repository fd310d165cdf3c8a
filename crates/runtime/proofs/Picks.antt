-- The least key is the pick.
use Rattle.std.proofs.Common.{◌≡◌, ℕ, zero, suc, ◌<◌, Bool, true, false, cond, length, Some, None, Option, Result, Ok, Err, sym, refl, ap, ◌∙◌, subst, inl, inr, arith}
use Rattle.std.proofs.lemmas.Bool.{cases_eq, cases_lt, ltb-true, not-false}
use Rattle.std.proofs.lemmas.Bool.Decides.{nat_tests}
use Rattle.std.specs.Option.{ok_or, option_map}
use Rattle.std.specs.Result.{result_ok}
use Rattle.fault.specs.declared.Fault.{Fault}
use Rattle.line.specs.Times.{Line}
use Rattle.runs.specs.Calls.{answer, nothing, start_checks, start_verdict, time_at, Startable, First, Picked, PickAnswers}
use Rattle.runs.specs.State.{State, deadline_at}
use Rattle.runs.proofs.Accepted.{none-some, passes, unmet}
use Rattle.runs.specs.declared.records.Started.{Started}
use Rattle.runs.specs.declared.records.Answer.TheVariants.{Fired}
use Rattle.runtime.specs.Answers.{fired, named}
use Rattle.runtime.proofs.Checks.{refusal}
use Rattle.runtime.specs.Keys.{Key, before, lesser, unless, key_of}

-- the least of the first n keys
abbrev pub least_key : (ℕ → Option Key) → ℕ → Option Key
least_key f zero = None
least_key f (suc n) = lesser (least_key f n) (f n)

-- no key of the first n is there, or x is among them and none of them is before it
abbrev pub LeastKey : (ℕ → Option Key) → ℕ → Option Key → Type 0
LeastKey f n None = (k : ℕ) → k < n → f k ≡ None
LeastKey f n (Some x) =
    ((k : ℕ) × (k < n) × (f k ≡ Some x)) × ((k : ℕ) (y : Key) → k < n → f k ≡ Some y → before y x ≡ false)

one_way : (x y : Key) → before x y ≡ true → before y x ≡ false
one_way x y h = grind (arith, nat_tests)

onward : (x y z : Key) → before x y ≡ false → before y z ≡ false → before x z ≡ false
onward x y z h k = grind (arith, nat_tests)

never : (x : Key) → before x x ≡ false
never x = grind (arith, nat_tests)

module _ (f : ℕ → Option Key) (n : ℕ) where
  same : (k : ℕ) (y z : Key) → f n ≡ Some y → k ≡ n → f k ≡ Some z → z ≡ y
  same k y z e q r = cc

  none : {P : Type 0} (k : ℕ) (z : Key) → f n ≡ None → k ≡ n → f k ≡ Some z → P
  none k z e q r = let w : ◌≡◌ {A = ℕ} 0 1 = cc in absurd (omega arith)

  -- x and y stand beside each other
  both : (x y : Key) (b : Bool) → f n ≡ Some y → before y x ≡ b → LeastKey f n (Some x) →
      LeastKey f (suc n) (cond b (Some y) (Some x))
  both x y true e t h = (
    (n, omega arith, e),
    (λ k z lt q. elim (cases_eq k n) [
      | inl eq ↦ rw (same k y z e eq q) (never y)
      | inr ne ↦ onward z x y (h.1 k z (omega (arith, ne)) q) (one_way y x t)
    ]),
  )
  both x y false e t h = (
    (h.0.0, omega (arith, h.0.1), h.0.2),
    (λ k z lt q. elim (cases_eq k n) [
      | inl eq ↦ rw (same k y z e eq q) t
      | inr ne ↦ h.1 k z (omega (arith, ne)) q
    ]),
  )

  more : (v w : Option Key) → f n ≡ w → LeastKey f n v → LeastKey f (suc n) (lesser v w)
  more None None e h = λ k lt. elim (cases_eq k n) [
    | inl eq ↦ ap f eq ∙ e
    | inr ne ↦ h k (omega (arith, ne))
  ]
  more None (Some y) e h = (
    (n, omega arith, e),
    (λ k z lt q. elim (cases_eq k n) [
      | inl eq ↦ rw (same k y z e eq q) (never y)
      | inr ne ↦ absurd (none-some z (sym (h k (omega (arith, ne))) ∙ q))
    ]),
  )
  more (Some x) None e h = (
    (h.0.0, omega (arith, h.0.1), h.0.2),
    (λ k z lt q. elim (cases_eq k n) [
      | inl eq ↦ none k z e eq q
      | inr ne ↦ h.1 k z (omega (arith, ne)) q
    ]),
  )
  more (Some x) (Some y) e h = both x y (before y x) e refl h

pub least-is : (f : ℕ → Option Key) (n : ℕ) → LeastKey f n (least_key f n)
least-is f zero = λ k lt. absurd (omega arith)
least-is f (suc n) = more f n (least_key f n) (f n) refl (least-is f n)

-- from keys to picks ------------------------------------------------------------------------

-- what is not before x comes behind it
behind : (x y : Key) → before y x ≡ false → First x.0 x.1 x.2 y.0 y.1 y.2
behind x y h = elim (cases_lt x.0 y.0) [
  | inl a ↦ inl a
  | inr a ↦ inr (
    grind (arith, nat_tests),
    elim (cases_lt x.1 y.1) [
      | inl b ↦ inl b
      | inr b ↦ inr (grind (arith, nat_tests), grind (arith, nat_tests))
    ],
  )
]

key-some : (v : Option Fault) (k x : Key) → unless v k ≡ Some x → (v ≡ None) × (k ≡ x)
key-some None k x e = (refl, cc)
key-some (Some f) k x e = absurd (none-some x e)

-- an actor that start refuses has no key
pub keyless : (r : Result Started Fault) (v : Option Fault) (x : Started) (k : Key) → fired r ≡ answer v (Fired x) →
    result_ok r ≡ None → unless v k ≡ None
keyless (Ok y) v x k e n = absurd (none-some y (sym n))
keyless (Err f) v x k e n = ap (λ v. unless v k) (refusal x v f e)

module _ (l : Line) (s : State) where
  inside : (a : ℕ) → Startable l s a → a < length l.plan.actors
  inside a e = ltb-true a (length l.plan.actors)
      (not-false _ (unmet _ _ (passes (start_checks l s a (time_at s a)) e).0))

  has_key : (a : ℕ) → Startable l s a → key_of l s a ≡ Some (deadline_at l a (time_at s a), time_at s a, a)
  has_key a e = ap (λ v. unless v (deadline_at l a (time_at s a), time_at s a, a)) e

  pick-none : LeastKey (key_of l s) (length l.plan.actors) None → (a : ℕ) → Startable l s a → ⊥
  pick-none h a e = none-some _ (sym (h a (inside a e)) ∙ has_key a e)

  pick_some : (x : Key) → LeastKey (key_of l s) (length l.plan.actors) (Some x) → Picked l s x.2
  pick_some x h =
      let a : ℕ = h.0.0 in
      let w = key-some (start_verdict l s a) (deadline_at l a (time_at s a), time_at s a, a) x h.0.2 in
      subst (Picked l s) (ap (λ (x : Key). x.2) w.1) (record {
        startable = w.0;
        ahead = λ b e. behind (deadline_at l a (time_at s a), time_at s a, a)
            (deadline_at l b (time_at s b), time_at s b, b)
            (ap (before (deadline_at l b (time_at s b), time_at s b, b)) w.1 ∙ h.1 b _ (inside b e) (has_key b e));
      })

  -- the actor of the least key, or that there is nothing to do
  pub picks : (o : Option Key) → LeastKey (key_of l s) (length l.plan.actors) o →
      PickAnswers l s (named (ok_or (option_map (λ (x : Key). x.2) o) nothing))
  picks None h = (refl, pick-none h)
  picks (Some x) h = pick_some x h
