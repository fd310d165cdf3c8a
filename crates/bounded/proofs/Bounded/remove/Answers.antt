use Rattle.std.proofs.Common.{rules}
use Rattle.bounded.proofs.Prefix.{read-within, remove-none}
use Rattle.bounded.proofs.Shifts.{closed}
use Rattle.bounded.proofs.Bounded.remove.Goals as goal

pub returns-in_err-gone-clause-after : goal.returns-in_err-gone-clause-after
returns-in_err-gone-clause-after g c = search (rules, remove-none)

pub overflow_add-i : goal.overflow_add-i
overflow_add-i g c = search (rules, read-within)

pub copy_within-requires-clause-start_le_end : goal.copy_within-requires-clause-start_le_end
copy_within-requires-clause-start_le_end g c = search (rules, read-within)

pub copy_within-requires-clause-dest_in_bounds : goal.copy_within-requires-clause-dest_in_bounds
copy_within-requires-clause-dest_in_bounds g c = search (rules, read-within)

pub returns-clause-after : goal.returns-clause-after
returns-clause-after g c = search (rules, closed)
