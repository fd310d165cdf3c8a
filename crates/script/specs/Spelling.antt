-- How a line of a script spells a call: the word, and each argument behind one space.
use Rattle.std.specs.Prelude.{◌≡◌, ℕ, List, [], ◌∷◌, ◌++◌, ℤ, codes}
use Rattle.runs.specs.declared.records.Call.{Call}
use Rattle.runs.specs.declared.records.Call.TheVariants.{Arrive, Advance, Pick, Start, Finish, Deliver, Report}
use Rattle.runs.specs.declared.records.Call.TheVariants.{Close}
use Rattle.script.specs.Decimals.{Number, Signed}
use Rattle.script.specs.declared.Line.{Line}

-- the arguments of an arrival, one space (code 32) apart
pub record Arrival (bs : List ℕ) (sensor timestamp : ℕ) (value : ℤ) : Type 0 where
  pub s : List ℕ
  pub t : List ℕ
  pub v : List ℕ
  pub apart : bs ≡ s ++ (32 ∷ (t ++ (32 ∷ v)))
  pub first : Number s sensor
  pub second : Number t timestamp
  pub third : Signed v value

-- a line that spells a call
abbrev pub Spells : List ℕ → Call → Type 0
Spells bs (Advance clock) = (c : List ℕ) × (bs ≡ codes "advance " ++ c) × Number c clock
Spells bs (Arrive sensor timestamp value) = (a : List ℕ) × (bs ≡ codes "arrive " ++ a) × Arrival a sensor timestamp value
Spells bs Pick = bs ≡ codes "pick"
Spells bs (Start actor) = (a : List ℕ) × (bs ≡ codes "start " ++ a) × Number a actor
Spells bs Finish = bs ≡ codes "finish"
Spells bs Deliver = bs ≡ codes "deliver"
Spells bs Report = bs ≡ codes "report"
Spells bs Close = bs ≡ codes "close"

-- a line that is passed over: an empty one, or one that begins with #, code 35
abbrev pub PassedOver : List ℕ → Type 0
PassedOver [] = Unit {0}
PassedOver (b ∷ bs) = b ≡ 35

-- what a line is: passed over, or the call that it spells, or neither
abbrev pub Means : List ℕ → Line → Type 0
Means bs Line.Passed = PassedOver bs
Means bs (Line.Call c) = (PassedOver bs → ⊥) × Spells bs c
Means bs Line.NotACall = (PassedOver bs → ⊥) × ((c : Call) → Spells bs c → ⊥)

-- no text spells two calls
abbrev pub OneCall : Type 0
OneCall = (bs : List ℕ) (c d : Call) → Spells bs c → Spells bs d → c ≡ d

-- no line means two things
abbrev pub OneMeaning : Type 0
OneMeaning = (bs : List ℕ) (l m : Line) → Means bs l → Means bs m → l ≡ m
