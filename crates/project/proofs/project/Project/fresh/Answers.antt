use Rattle.std.proofs.Common.{Ok, Err, Result, refl, sym, subst}
use Rattle.std.specs.Result.{IsOk, MatchResult}
use Rattle.fault.specs.declared.Fault.{Fault}
use Rattle.line.specs.Plan.{Plan}
use Rattle.line.specs.Rules.{Lawful}
use Rattle.project.specs.Flawed.{FirstFlaw}
use Rattle.project.specs.declared.project.Project.{Project}
use Rattle.project.proofs.Freshly.{fresh-lawful}
use Rattle.project.proofs.Reading.{no-flaw}
use Rattle.project.proofs.project.Project.fresh.Goals as goal

-- a lawful plan is not refused
taken : (p : Plan) → Lawful p → (r : Result Project Fault) (P : Project → Type 0) → MatchResult r P (FirstFlaw p) → IsOk r
taken p l (Ok x) P w = refl
taken p l (Err f) P w = absurd (no-flaw p l f w.holds)

pub unwrap-requires : goal.unwrap-requires
unwrap-requires c = taken _ (subst Lawful (sym c.fresh_draft.ensures) fresh-lawful) _ _ c.of.ensures
