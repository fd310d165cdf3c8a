-- From the numbers of a byte to all numbers.
use Rattle.std.proofs.Common.{◌≡◌, ℕ, ◌<◌, ◌≤◌, Bool, true, false, eqb, List, [], ◌∷◌, Decides, length, slice_index_or, subst, sym, refl, ◌∙◌, inl, inr, arith}
use Rattle.std.specs.Bool.{MatchBool}
use Rattle.std.specs.List.{AllWithin, HoldsAt, flat_map, range_with_len}
use Rattle.std.proofs.lemmas.List.FromFn.{get_or-range_with_len, length-range_with_len}
use Rattle.std.proofs.lemmas.Bool.{cases_lt, ne_eqb, true≢false}
use Rattle.runs.specs.Lists.{Each, keep}
use Rattle.runs.specs.Runs.{Journal}
use Rattle.journal.specs.Told.{Kind, told_of, Numbered}

-- nothing passes a test that fails of each
keep-nothing : {A : Type 0} (f : A → Bool) (xs : List A) → Each (λ (x : A). f x ≡ false) xs → keep f xs ≡ []
keep-nothing f [] h = refl
keep-nothing f (x ∷ xs) h = rw (h x (inl refl)) (keep-nothing f xs (λ y m. h y (inr m)))

module _ {A : Type 0} (f : A → ℕ) (b : ℕ) where
  -- with numbers below b nothing is kept from b on
  pub none-beyond : (xs : List A) → Each (λ (x : A). f x < b) xs → (n : ℕ) → b ≤ n → keep (λ x. eqb (f x) n) xs ≡ []
  none-beyond xs h n l =
      keep-nothing (λ x. eqb (f x) n) xs (λ x m. let w = h x m in ne_eqb (f x) n (λ e. omega arith))

  pub all-kept : (xs ys : List A) → Each (λ (x : A). f x < b) xs → Each (λ (x : A). f x < b) ys →
      ((n : ℕ) → n < b → keep (λ x. eqb (f x) n) xs ≡ keep (λ x. eqb (f x) n) ys) →
      (n : ℕ) → keep (λ x. eqb (f x) n) xs ≡ keep (λ x. eqb (f x) n) ys
  all-kept xs ys p q h n = elim (cases_lt n b) [
    | inl l ↦ h n l
    | inr l ↦ none-beyond xs p n l ∙ sym (none-beyond ys q n l)
  ]

-- of a kind whose numbers are bytes
pub decides-all : {A : Type 0} (k : Kind A) (r : Bool) (h j : Journal) → k.bound ≡ 256 →
    Decides r ((n : ℕ) → n < 256 → told_of k n h ≡ told_of k n j) → (r ≡ true → Numbered k h × Numbered k j) →
    Decides r ((n : ℕ) → told_of k n h ≡ told_of k n j)
decides-all {A} k r h j b d low = (
  λ e. all-kept k.number 256 (flat_map k.told h) (flat_map k.told j) (bytes h (low e).0) (bytes j (low e).1)
      (d.0 e),
  λ f. d.1 (λ n _. f n),
)
  where
    bytes : (h : Journal) → Numbered k h → Each (λ (e : A). k.number e < 256) (flat_map k.told h)
    bytes h l e m = let w = l e m in omega arith

-- what was found of the numbers below b, one after another
pub decides-range : (P : ℕ → Type 0) (b : ℕ) (r : Bool) →
    MatchBool r (AllWithin P (range_with_len 0 b) 0 (length (range_with_len 0 b)))
    ((k : ℕ) × (k < length (range_with_len 0 b)) × HoldsAt (λ n. P n → ⊥) (range_with_len 0 b) k) →
    Decides r ((n : ℕ) → n < b → P n)
decides-range P b true h = (
  λ _ n l.
      let item : slice_index_or (range_with_len 0 b) n 0 ≡ n = get_or-range_with_len 0 b n 0 l ∙ omega arith in
      subst P item (h n 0 (omega arith) (rw (length-range_with_len 0 b) l)),
  λ _. refl,
)
decides-range P b false (k, l, h) =
    let small : k < b = rw (sym (length-range_with_len 0 b)) l in
    let item : slice_index_or (range_with_len 0 b) k 0 ≡ k = get_or-range_with_len 0 b k 0 small ∙ omega arith in (
      λ e. absurd (true≢false (sym e)),
      λ f. absurd (h 0 (subst P (sym item) (f k small))),
    )
