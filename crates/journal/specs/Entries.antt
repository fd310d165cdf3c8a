-- A record as it is read, one entry after another.
use Rattle.std.specs.Prelude.{◌≡◌, ℕ, List, [], ◌∷◌, Option, MatchOption}
use Rattle.std.specs.Slice.Iter.{iter_rest}
use Rattle.runs.specs.Runs.{Journal}
use Rattle.journal.specs.Told.{Kind, told_of, Numbered}
use Rattle.journal.specs.declared.record.Entries.{Entries}

-- the record of n, from the beginning of a journal
pub record Begins {A : Type 0} (n : ℕ) (h : Journal) (s : Entries A) : Type 0 where
  pub number : s.number ≡ n
  pub steps : iter_rest s.steps ≡ h

-- the entries that are still to be read
abbrev pub ahead : {A : Type 0} → Kind A → Entries A → List A
ahead k s = told_of k s.number (iter_rest s.steps)

-- all entries from here on have numbers below the bound
abbrev pub Low : {A : Type 0} → Kind A → Entries A → Type 0
Low k s = Numbered k (iter_rest s.steps)

-- a call gives the first entry that is ahead, if there is one, and passes only entries with numbers below the bound
abbrev pub Gives : {A : Type 0} → Kind A → Entries A → Option A → Entries A → Type 0
Gives k s r t = MatchOption r ((ahead k s ≡ []) × Low k s) (λ x. (ahead k s ≡ x ∷ ahead k t) × (Low k t → Low k s))
