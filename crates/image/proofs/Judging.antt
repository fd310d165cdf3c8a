-- What one check finds, told in other words.
use Rattle.std.proofs.Common.{◌≡◌, ℕ, ◌≤◌, ◌⊎◌, List, Ok, Err, Result, ◌∙◌, subst, inl, inr, ⊎_elim, arith}
use Rattle.image.specs.Reading.{Nowhere, Lowest, Judged}
use Rattle.image.specs.declared.row.FieldError.{FieldError}

-- of two sorts of places, the lowest is of the first sort, since none of the second is below it
pub low-left : (A B : ℕ → Type 0) (k : ℕ) → Lowest A k → ((j : ℕ) → B j → k ≤ j) → Lowest (λ j. A j ⊎ B j) k
low-left A B k low later = record {
  here = inl low.here;
  none_below = λ j l. ⊎_elim (low.none_below j l) (λ b. omega (arith, later j b));
}

-- or of the second, since there is none of the first
pub low-right : (A B : ℕ → Type 0) (k : ℕ) → Nowhere A → Lowest B k → Lowest (λ j. A j ⊎ B j) k
low-right A B k none low = record {
  here = inr low.here;
  none_below = λ j l. ⊎_elim (none j) (low.none_below j l);
}

-- P and Q hold of the same places
pub record Same (P Q : ℕ → Type 0) : Type 0 where
  pub to : (k : ℕ) → P k → Q k
  pub back : (k : ℕ) → Q k → P k

pub lowest-same : (P Q : ℕ → Type 0) (k : ℕ) → Same P Q → Lowest P k → Lowest Q k
lowest-same P Q k s low = record { here = s.to k low.here; none_below = λ j l q. low.none_below j l (s.back j q) }

pub judged-same : {X : Type 0} (f : X → List ℕ) (fine : X → Type 0) (P Q : ℕ → Type 0) (bs cs : List ℕ) (w : ℕ)
    (r : Result X FieldError)
    → Same P Q → bs ≡ cs → Judged f fine P bs w r → Judged f fine Q cs w r
judged-same f fine P Q bs cs w (Ok x) s e j =
    record { spells = j.spells ∙ e; in_range = j.in_range; clean = λ k q. j.clean k (s.back k q) }
judged-same f fine P Q bs cs w (Err x) s e j = (j.0, lowest-same P Q x.offset s j.1)

-- a fact about a place and a count, at other names of these
pub moved : (P : ℕ → ℕ → Type 0) {a b m n : ℕ} → a ≡ b → m ≡ n → P a m → P b n
moved P {a = a} {n = n} e d p = subst (λ (x : ℕ). P x n) e (subst (P a) d p)
