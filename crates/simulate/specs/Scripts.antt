-- What stands on the lines of a script.
use Rattle.std.specs.Prelude.{◌≡◌, ℕ, ◌+◌, Bool, true, false, not, ◌&&◌, ◌||◌, List, [], ◌∷◌, Some, None, Option}
use Rattle.std.specs.List.{filter_map}
use Rattle.runs.specs.declared.records.Call.{Call}
use Rattle.script.specs.Spelling.{Spells, PassedOver}
use Rattle.simulation.specs.Calls.{for_open_only, is_close}
use Rattle.simulate.specs.declared.entries.Entry.{Entry}

-- the runtime has the call: a closed one has neither arrive nor close
abbrev pub has : Bool → Call → Bool
has closed c = not (closed && for_open_only c)

-- the call that a line spells, where the runtime has it
abbrev pub Says : Bool → List ℕ → Option Call → Type 0
Says closed l None = (c : Call) → has closed c ≡ true → Spells l c → ⊥
Says closed l (Some c) = (has closed c ≡ true) × Spells l c

abbrev pub closes : Option Call → Bool
closes None = false
closes (Some c) = is_close c

-- what stands on the line l of the number n
pub record Stands (n : ℕ) (l : List ℕ) (closed : Bool) (e : Entry) : Type 0 where
  pub number : e.number ≡ n
  pub text : e.text.now ≡ l
  pub not_passed : PassedOver l → ⊥
  pub call : Says closed l e.call

-- what stands on lines that are not passed over; the first line has the number n
pub data Entered : ℕ → Bool → List (List ℕ) → List Entry → Type 0 where
  end : {n : ℕ} {closed : Bool} → Entered n closed [] []
  passed : {n : ℕ} {closed : Bool} {l : List ℕ} {ls : List (List ℕ)} {es : List Entry} → PassedOver l →
      Entered (n + 1) closed ls es → Entered n closed (l ∷ ls) es
  entry : {n : ℕ} {closed : Bool} {l : List ℕ} {ls : List (List ℕ)} {e : Entry} {es : List Entry} → Stands n l closed e →
      Entered (n + 1) (closed || closes e.call) ls es → Entered n closed (l ∷ ls) (e ∷ es)

-- the calls among them
abbrev pub calls_of : List Entry → List Call
calls_of es = filter_map (λ e. e.call) es
