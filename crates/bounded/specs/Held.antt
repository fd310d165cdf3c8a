-- What a bounded list means, and what its calls answer.
use Rattle.std.specs.Prelude.{ℕ, ◌-◌, Bool, cond, not, List, length, take, Ok, Err, filter, Option, Result, nat_lt}
use Rattle.std.specs.List.{slice_get}
use Rattle.bounded.specs.declared.Bounded.{Bounded}
use Rattle.bounded.specs.declared.InsertError.{InsertError}
use Rattle.bounded.specs.declared.InsertError.TheVariants.{Full, PastEnd}

-- the records that a bounded list holds, first to last
abbrev pub held : {A : Type 0} {n : ℕ} → Bounded A n → List A
held b = take b.len b.items

-- the last record, if there is one
abbrev pub final : {A : Type 0} → List A → Option A
final xs = slice_get xs (length xs - 1)

-- all but the last record
abbrev pub front : {A : Type 0} → List A → List A
front xs = take (length xs - 1) xs

-- those that are not wanted, in their order
abbrev pub unwanted : {A : Type 0} → (A → Bool) → List A → List A
unwanted wanted xs = filter (λ x. not (wanted x)) xs

-- the answer to an insertion at i into `len` records, of `most` that have room:
-- refused where there is no room, then where i lies past the end
abbrev pub insertion : ℕ → ℕ → ℕ → Result (Unit {0}) InsertError
insertion len most i = cond (nat_lt len most) (cond (nat_lt len i) (Err PastEnd) (Ok tt)) (Err Full)
