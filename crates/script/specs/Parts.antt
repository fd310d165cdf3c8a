-- What the parts of reading a line answer.
use Rattle.std.specs.Prelude.{◌≡◌, ℕ, List, ◌∷◌, ◌++◌, Option, MatchOption, codes}
use Rattle.std.specs.List.{AllByRecursion}
use Rattle.runs.specs.declared.records.Call.{Call}
use Rattle.runs.specs.declared.records.Call.TheVariants.{Arrive, Advance, Pick, Start, Finish, Deliver, Report}
use Rattle.runs.specs.declared.records.Call.TheVariants.{Close}
use Rattle.script.specs.Decimals.{Number}
use Rattle.script.specs.Spelling.{Arrival}

-- a call that has arguments
abbrev pub HasArguments : Call → Type 0
HasArguments (Advance clock) = Unit {0}
HasArguments (Arrive sensor timestamp value) = Unit {0}
HasArguments Pick = ⊥
HasArguments (Start actor) = Unit {0}
HasArguments Finish = ⊥
HasArguments Deliver = ⊥
HasArguments Report = ⊥
HasArguments Close = ⊥

-- the call is one with arguments: w is its word, and they stand in bs
abbrev pub WithArguments : List ℕ → List ℕ → Call → Type 0
WithArguments w bs (Advance clock) = (w ≡ codes "advance") × Number bs clock
WithArguments w bs (Arrive sensor timestamp value) = (w ≡ codes "arrive") × Arrival bs sensor timestamp value
WithArguments w bs Pick = ⊥
WithArguments w bs (Start actor) = (w ≡ codes "start") × Number bs actor
WithArguments w bs Finish = ⊥
WithArguments w bs Deliver = ⊥
WithArguments w bs Report = ⊥
WithArguments w bs Close = ⊥

-- the answer is what the text writes, and there is none where it writes nothing
abbrev pub Reads : {X : Type 0} → (X → Type 0) → Option X → Type 0
Reads {X} Writes r = MatchOption r ((x : X) → Writes x → ⊥) Writes

-- any code but 32, that of a space
abbrev pub NoSpace : ℕ → Type 0
NoSpace c = c ≡ 32 → ⊥

-- what stands before and behind the first space
pub record Split (bs before behind : List ℕ) : Type 0 where
  pub whole : bs ≡ before ++ (32 ∷ behind)
  pub first : AllByRecursion NoSpace before
