-- Equal meaning is an equivalence that firings and pairs keep.
use Rattle.std.proofs.Common.{◌≡◌, ℕ, ◌+◌, ◌-◌, ◌<◌, Bool, true, false, cond, eqb, ltb, List, length, ℤ, Option, sym, refl, ap, ◌∙◌, subst, arith}
use Rattle.std.proofs.lemmas.Bool.{eqb-true, ltb-true, ltb-false, cond-true, cond-false, cond_both}
use Rattle.banks.specs.Meaning.{Reacted, Meaning, Follows, at_open, after, Alike}
use Rattle.banks.specs.Firing.{fired, next}
use Rattle.banks.specs.Pairing.{paired}
use Rattle.banks.specs.Laws.{AlikeLaws}

-- a reaction at one actor number
abbrev Rule : Type 0
Rule = List ℤ → ℕ → List (Option ℤ) → Reacted

-- rows that follow in one bank follow in the other
over : (n : ℕ) (m j : Meaning) → Alike n m j → (a : ℕ) → a < n → (w : List ℤ) → Follows m a w → Follows j a w
over n m j x a lt w at_open = subst (Follows j a) (sym (x.rows a lt)) at_open
over n m j x a lt w (after {w = v} t g l f) =
    subst (Follows j a) (ap (λ (r : Reacted). r.row) (sym (x.reaction a lt v f t g l))) (after t g l (over n m j x a lt v f))

back-over : (n : ℕ) (m j : Meaning) → Alike n m j → (a : ℕ) → a < n → (w : List ℤ) → Follows j a w → Follows m a w
back-over n m j x a lt w at_open = subst (Follows m a) (x.rows a lt) at_open
back-over n m j x a lt w (after {w = v} t g l f) =
    let h : Follows m a v = back-over n m j x a lt v f in
    subst (Follows m a) (ap (λ (r : Reacted). r.row) (x.reaction a lt v h t g l)) (after t g l h)

same : (n : ℕ) (m : Meaning) → Alike n m m
same n m = record { rows = λ a lt. refl; reaction = λ a lt w f t g l. refl }

back : (n : ℕ) (m j : Meaning) → Alike n m j → Alike n j m
back n m j x = record {
  rows = λ a lt. sym (x.rows a lt);
  reaction = λ a lt w f t g l. sym (x.reaction a lt w (back-over n m j x a lt w f) t g l);
}

onward : (n : ℕ) (m j k : Meaning) → Alike n m j → Alike n j k → Alike n m k
onward n m j k x y = record {
  rows = λ a lt. x.rows a lt ∙ y.rows a lt;
  reaction = λ a lt w f t g l. x.reaction a lt w f t g l ∙ y.reaction a lt w (over n m j x a lt w f) t g l;
}

answers : (n : ℕ) (m j : Meaning) → Alike n m j → (a t : ℕ) (g : List (Option ℤ)) → a < n → length g ≡ 4 → fired m a t g ≡ fired j a t g
answers n m j x a t g lt l = x.reaction a lt (m.rows a) at_open t g l ∙ ap (λ (w : List ℤ). j.reaction a w t g) (x.rows a lt)

-- two choices by one test agree under f where both their parts do
choose : {X Y : Type 0} (f : X → Y) (b : Bool) (x y x' y' : X)
    → (b ≡ true → f x ≡ f x') → (b ≡ false → f y ≡ f y') → f (cond b x y) ≡ f (cond b x' y')
choose f true x y x' y' p q = p refl
choose f false x y x' y' p q = q refl

-- what follows after a firing follows before it
earlier : (m : Meaning) (a t : ℕ) (g : List (Option ℤ)) → length g ≡ 4
    → (b : ℕ) (w : List ℤ) → Follows (next m a t g) b w → Follows m b w
earlier m a t g l b w at_open =
    cond_both (eqb b a) (fired m a t g).row (m.rows b) (Follows m b)
    (λ e. subst (λ (c : ℕ). Follows m c (fired m a t g).row) (sym (eqb-true b a e)) (after t g l at_open))
    (λ e. at_open)
earlier m a t g l b w (after {w = v} t' g' l' f) = after t' g' l' (earlier m a t g l b v f)

stays : (n : ℕ) (m j : Meaning) → Alike n m j → (a t : ℕ) (g : List (Option ℤ)) → length g ≡ 4
    → Alike n (next m a t g) (next j a t g)
stays n m j x a t g l = record {
  rows = λ b lt.
      choose (λ (w : List ℤ). w) (eqb b a) (fired m a t g).row (m.rows b) (fired j a t g).row (j.rows b)
      (λ e. ap (λ (r : Reacted). r.row) (answers n m j x a t g (subst (λ (c : ℕ). c < n) (eqb-true b a e) lt) l))
      (λ e. x.rows b lt);
  reaction = λ b lt w f. x.reaction b lt w (earlier m a t g l b w f);
}

-- what follows in a pair follows in that one of its banks that has the number
in-first : (n : ℕ) (m j : Meaning) (a : ℕ) → ltb a n ≡ true → (w : List ℤ) → Follows (paired n m j) a w → Follows m a w
in-first n m j a e w at_open = subst (Follows m a) (sym (cond-true (ltb a n) (m.rows a) (j.rows (a - n)) e)) at_open
in-first n m j a e w (after {w = v} t g l f) =
    subst (Follows m a)
    (ap (λ (r : Rule). (r v t g).row) (sym (cond-true (ltb a n) (m.reaction a) (j.reaction (a - n)) e)))
    (after t g l (in-first n m j a e v f))

in-second : (n : ℕ) (m j : Meaning) (a : ℕ) → ltb a n ≡ false → (w : List ℤ)
    → Follows (paired n m j) a w → Follows j (a - n) w
in-second n m j a e w at_open = subst (Follows j (a - n)) (sym (cond-false (ltb a n) (m.rows a) (j.rows (a - n)) e)) at_open
in-second n m j a e w (after {w = v} t g l f) =
    subst (Follows j (a - n))
    (ap (λ (r : Rule). (r v t g).row) (sym (cond-false (ltb a n) (m.reaction a) (j.reaction (a - n)) e)))
    (after t g l (in-second n m j a e v f))

rest : (n k a : ℕ) → a < n + k → ltb a n ≡ false → a - n < k
rest n k a lt e = omega (arith, ltb-false a n e)

pairs : (n k : ℕ) (m m' j j' : Meaning) → Alike n m m' → Alike k j j' → Alike (n + k) (paired n m j) (paired n m' j')
pairs n k m m' j j' x y = record {
  rows = λ a lt.
      choose (λ (w : List ℤ). w) (ltb a n) (m.rows a) (j.rows (a - n)) (m'.rows a) (j'.rows (a - n))
      (λ e. x.rows a (ltb-true a n e))
      (λ e. y.rows (a - n) (rest n k a lt e));
  reaction = λ a lt w f t g l.
      choose (λ (r : Rule). r w t g) (ltb a n) (m.reaction a) (j.reaction (a - n)) (m'.reaction a) (j'.reaction (a - n))
      (λ e. x.reaction a (ltb-true a n e) w (in-first n m j a e w f) t g l)
      (λ e. y.reaction (a - n) (rest n k a lt e) w (in-second n m j a e w f) t g l);
}

pub laws : AlikeLaws
laws = record { same = same; back = back; onward = onward; answers = answers; stays = stays; pairs = pairs }
