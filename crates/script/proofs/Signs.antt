-- Reading a number that may have a minus.
use Rattle.std.proofs.Common.{◌≡◌, ℕ, ◌-◌, length, get_or, take, drop, ◌^◌, ◌<◌, ◌≤◌, List, ◌∷◌, ℤ, pos, neg_ℤ, Some, None, Option, sym, refl, ◌∙◌, subst, arith}
use Rattle.std.specs.Option.{SomeIff}
use Rattle.std.specs.List.{AllByRecursion}
use Rattle.std.proofs.lemmas.List.{drop_more, take_rest}
use Rattle.script.specs.Decimals.{Digit, Decimal, Number, Signed, plain, minus}
use Rattle.script.specs.Parts.{Reads}

-- digits write one number
pub same-value : {ds : List ℕ} {m n : ℕ} → Decimal ds m → Decimal ds n → m ≡ n
same-value a b = sym a.value ∙ b.value

-- a minus is no digit
pub no_minus : {bs : List ℕ} {n : ℕ} → Decimal bs n → (ds : List ℕ) → bs ≡ 45 ∷ ds → ⊥
no_minus d ds e = let first : Digit 45 = (subst (AllByRecursion Digit) e d.digits).0 in omega arith

-- what stands behind a minus
pub minus-parts : (bs ds : List ℕ) (z : ℤ) → bs ≡ 45 ∷ ds → Signed bs z →
    (n : ℕ) × Decimal ds n × (n ≤ 2 ^ 31) × (z ≡ neg_ℤ (pos n))
minus-parts bs ds z e (plain d fits) = absurd (no_minus d ds e)
minus-parts _ ds _ e (minus {ds = es} {n} d fits) =
    let same : es ≡ ds = cc in
    (n, subst (λ l. Decimal l n) same d, fits, refl)

-- without a minus there are only digits
pub plain-parts : (bs : List ℕ) (z : ℤ) → ((ds : List ℕ) → bs ≡ 45 ∷ ds → ⊥) → Signed bs z →
    (n : ℕ) × Decimal bs n × (n < 2 ^ 31) × (z ≡ pos n)
plain-parts bs z no_minus (plain {ds} {n} d fits) = (n, d, fits, refl)
plain-parts _ _ no_minus (minus {ds} d fits) = absurd (no_minus ds refl)

-- what stands behind the first byte
pub first-is : (bs : List ℕ) (b : ℕ) → 0 < length bs → get_or bs 0 0 ≡ b → bs ≡ b ∷ take (length bs - 1) (drop 1 bs)
first-is bs b some e = drop_more bs 0 0 some ∙ λ i. e i ∷ sym (take_rest bs 1) i

module _ (bs ds : List ℕ) (e : bs ≡ 45 ∷ ds) where
  pub minus-reads : (n : ℕ) (r : Option ℤ) → Number ds n → SomeIff r (n ≤ 2 ^ 31) (neg_ℤ (pos n)) → Reads (Signed bs) r
  minus-reads n None is not = λ z h.
      let p = minus-parts bs ds z e h in
      not (omega (arith, p.2, same-value p.1 is.decimal))
  minus-reads n (Some z) is fits =
      rw (e, fits.1) (minus is.decimal fits.0)

module _ (bs : List ℕ) (no_minus : (ds : List ℕ) → bs ≡ 45 ∷ ds → ⊥) where
  pub plain-reads : (n : ℕ) (r : Option ℤ) → Number bs n → SomeIff r (n < 2 ^ 31) (pos n) → Reads (Signed bs) r
  plain-reads n None is not = λ z h.
      let p = plain-parts bs z no_minus h in
      not (omega (arith, p.2, same-value p.1 is.decimal))
  plain-reads n (Some z) is fits = rw fits.1 (plain is.decimal fits.0)
