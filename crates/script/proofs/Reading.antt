-- Reading a number digit by digit.
use Rattle.std.proofs.Common.{◌≡◌, ℕ, ◌+◌, ◌-◌, ◌*◌, ◌^◌, ◌<◌, ◌≤◌, List, [], ◌∷◌, length, Some, None, Option, sym, ap, subst, arith}
use denote.Param.Members.{Mut}
use Rattle.std.specs.Fn.{Called}
use Rattle.std.specs.Iterator.{AlwaysYields, Yields, YieldsThen}
use Rattle.std.specs.List.{AllByRecursion, FoldsTo}
use Rattle.std.specs.Option.{SomeIff, MatchOption}
use Rattle.std.proofs.lemmas.Iterator.{YieldsList}
use Rattle.script.specs.Decimals.{Digit, value_behind, Number}
use Rattle.script.specs.Parts.{Reads}

-- more digits write no less
behind-least : (n : ℕ) (ds : List ℕ) → n ≤ value_behind n ds
behind-least n [] = omega arith
behind-least n (c ∷ cs) = omega (arith, behind-least (n * 10 + (c - 48)) cs)

-- the digits ds behind those of n write m, a number of 64 bits
pub record Behind (n : ℕ) (ds : List ℕ) (m : ℕ) : Type 0 where
  pub digits : AllByRecursion Digit ds
  pub value : value_behind n ds ≡ m
  pub fits : m < 2 ^ 64

-- the answer is n with the digit d behind it, where d is a digit and that fits
abbrev pub Puts : ℕ → ℕ → Option ℕ → Type 0
Puts n d r = SomeIff r (Digit d × (n * 10 + (d - 48) < 2 ^ 64)) (n * 10 + (d - 48))

none-behind : (n d : ℕ) (ds : List ℕ) → Puts n d None → (m : ℕ) → Behind n (d ∷ ds) m → ⊥
none-behind n d ds not m h = not (
  h.digits.0,
  omega (arith, h.value, h.fits, behind-least (n * 10 + (d - 48)) ds),
)

one-behind : (n d : ℕ) (ds : List ℕ) (k : ℕ) → Puts n d (Some k) → (r : Option ℕ) → Reads (Behind k ds) r → Reads (Behind n (d ∷ ds)) r
one-behind n d ds k is None none = λ m h. none m (record {
  digits = h.digits.1;
  value = rw is.1 h.value;
  fits = h.fits;
})
one-behind n d ds k is (Some m) h = record {
  digits = (is.0.0, h.digits);
  value = rw is.1 at h.value;
  fits = h.fits;
}

-- one turn of a `try_fold`, and its end
abbrev pub Turn : {A F : Type 0} → Mut F (ℕ × (A × Unit {0})) (Option ℕ) → F × ℕ → A → F × ℕ → Type 0
Turn g p x q = (r : Option ℕ) × Called g p.0 (p.1, (x, tt)) r q.0 × (r ≡ Some q.1)

abbrev pub Ends : {A F : Type 0} (E : Type 0) → Mut F (ℕ × (A × Unit {0})) (Option ℕ) → Option A → F → ℕ → Option ℕ → Type 0
Ends {F = F} E g o q n r = MatchOption o (r ≡ Some n)
    (λ x. (w : Option ℕ) × (h : F) × (e : E) × Called g q (n, (x, tt)) w h × (w ≡ None) × (r ≡ None))

-- a `try_fold` of calls that put one more digit behind
module _ {S A F : Type 0} (E : Type 0) (steps : S → Option A → S → Type 0) (v : A → ℕ) (g : Mut F (ℕ × (A × Unit {0})) (Option ℕ)) (f : F)
    (puts : (n : ℕ) (x : A) (r : Option ℕ) (q : F) → Called g f (n, (x, tt)) r q → (q ≡ f) × Puts n (v x) r) where
  folded : (xs : List A) (s : S) (ds : List ℕ) (n : ℕ) (o : Option A) (q : F) (k : ℕ) (t u : S) (r : Option ℕ) → n < 2 ^ 64 →
      AlwaysYields steps v s ds → Yields steps s xs t → steps t o u → FoldsTo {P = F × ℕ} (Turn g) (f, n) xs (q, k) →
      Ends E g o q k r → Reads (Behind n ds) r
  folded [] s [] n None q k t u r fits all y last turns ends =
      rw ends (record { digits = tt; value = ap (λ p. p.1) turns; fits = subst (λ m. m < 2 ^ 64) (ap (λ p. p.1) turns) fits })
  folded [] s [] n (Some x) q k t u r fits all y last turns ends =
      absurd (all x u (subst (λ j. steps j (Some x) u) (sym y) last))
  folded [] s (d ∷ ds) n None q k t u r fits all y last turns ends =
      absurd (all.0 u (subst (λ j. steps j None u) (sym y) last))
  folded [] s (d ∷ ds) n (Some x) q k t u r fits all y last turns ends =
      let here = all.1 x u (subst (λ j. steps j (Some x) u) (sym y) last) in
      let end : Ends E g (Some x) f n r = subst (λ p. Ends E g (Some x) p.0 p.1 r) (sym turns) ends in
      let none : Puts n d None = subst (λ (p : ℕ × Option ℕ). Puts n p.0 p.1) (λ i. (here.0 i, end.4 i)) (puts n x end.0 end.1 end.3).1 in
      rw end.5 (none-behind n d ds none)
  folded (x ∷ xs) s [] n o q k t u r fits all y last turns ends = absurd (all x y.0 y.1)
  folded (x ∷ xs) s (d ∷ ds) n o q k t u r fits all y last turns ends =
      let here = all.1 x y.0 y.1 in
      let m = turns.0.1 in
      let told = puts n x turns.1.0 turns.0.0 turns.1.1 in
      let one : Puts n d (Some m) = subst (λ (p : ℕ × Option ℕ). Puts n p.0 p.1) (λ i. (here.0 i, turns.1.2 i)) told.1 in
      let rest = subst (λ j. FoldsTo {P = F × ℕ} (Turn g) (j, m) xs (q, k)) told.0 turns.2 in
      one-behind n d ds m one r
      (folded xs y.0 ds m o q k t u r (omega (arith, one.0.1, one.1)) here.1 y.2 last rest ends)

whole : (ds : List ℕ) (r : Option ℕ) → 0 < length ds → Reads (Behind 0 ds) r → Reads (Number ds) r
whole ds None some none = λ m h. none m (record { digits = h.decimal.digits; value = h.decimal.value; fits = h.fits })
whole ds (Some m) some is = record {
  decimal = record { some = some; digits = is.digits; value = is.value };
  fits = is.fits;
}

-- what `try_fold` gives over one digit or more
pub number-read : {S A F E : Type 0} {steps : S → Option A → S → Type 0} {v : A → ℕ} {g : Mut F (ℕ × (A × Unit {0})) (Option ℕ)} {s : S}
    {ds : List ℕ} (u : S) (f : F) (r : Option ℕ) → 0 < length ds → (xs : List A) × (o : Option A) × (q : F) × (k : ℕ) ×
    YieldsThen steps s xs o u × FoldsTo {P = F × ℕ} (Turn g) (f, 0) xs (q, k) × Ends E g o q k r → YieldsList steps v s ds →
    ((n : ℕ) (x : A) (w : Option ℕ) (q : F) → Called g f (n, (x, tt)) w q → (q ≡ f) × Puts n (v x) w) → Reads (Number ds) r
number-read {E} {steps} {v} {g} {s} {ds} u f r some ran all puts =
    whole ds r some (folded E steps v g f puts ran.0 s ds 0 ran.1 ran.2 ran.3 ran.4.0 u r (omega arith) all.runs ran.4.1 ran.4.2 ran.5 ran.6)
