-- Which calls of a list are performed.
use Rattle.std.specs.Prelude.{Bool, true, false, cond, not, List, [], ◌∷◌}
use Rattle.runs.specs.Lists.{keep}
use Rattle.runs.specs.declared.records.Call.{Call}
use Rattle.runs.specs.declared.records.Call.TheVariants.{Arrive, Advance, Pick, Start, Finish, Deliver, Report}
use Rattle.runs.specs.declared.records.Call.TheVariants.{Close}

-- arrive and close are calls of an open runtime only
abbrev pub for_open_only : Call → Bool
for_open_only (Arrive x t v) = true
for_open_only (Advance c) = false
for_open_only Pick = false
for_open_only (Start a) = false
for_open_only Finish = false
for_open_only Deliver = false
for_open_only Report = false
for_open_only Close = true

abbrev pub is_close : Call → Bool
is_close (Arrive x t v) = false
is_close (Advance c) = false
is_close Pick = false
is_close (Start a) = false
is_close Finish = false
is_close Deliver = false
is_close Report = false
is_close Close = true

-- the calls of a list without those that are lacking
abbrev pub without : (Call → Bool) → List Call → List Call
without lacking cs = keep (λ c. not (lacking c)) cs

-- those that an open runtime performs and stays open
abbrev pub when_open : List Call → List Call
when_open cs = without is_close cs

-- those that a closed runtime has
abbrev pub when_closed : List Call → List Call
when_closed cs = without for_open_only cs

-- of a list of calls those that exist: after a close neither arrive nor close
abbrev pub existing : List Call → List Call
existing [] = []
existing (c ∷ cs) = c ∷ cond (is_close c) (when_closed cs) (existing cs)
